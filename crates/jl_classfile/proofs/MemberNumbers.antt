-- The numbers that a member names: of its name, of its descriptor, of its attributes' names.
use Rattle.std.proofs.Common.{◌≡◌, ℕ, ◌<◌, List, [], ◌∷◌, length, get_or}
use Rattle.std.proofs.Common.{refl, ap, ◌∙◌, arith}
use Rattle.std.specs.Prelude.{map}
use Rattle.std.specs.List.{AllByRecursion, Contains}
use Rattle.std.proofs.Math.ListN.{get_or-map}
use Rattle.std.proofs.lemmas.List.{length-map}
use Rattle.std.proofs.lemmas.List.Elements.{Contains-append_right}
use Rattle.jl_classfile.specs.declared.body.Attribute.{Attribute}
use Rattle.jl_classfile.specs.declared.body.Member.{Member}
use Rattle.jl_pool.specs.Pools.{Pool}
use Rattle.jl_classfile.specs.Conditions.{IsTextNumber, member_numbers}
use Rattle.jl_classfile.specs.Conditions.{MemberLinks}

All-names : (P : ℕ → Type 0) (attributes : List Attribute) → AllByRecursion (λ a. P a.name) attributes → AllByRecursion P (map (λ a. a.name) attributes)
All-names P [] h = tt
All-names P (a ∷ more) h = (h.0, All-names P more h.1)

pub member_links : (pool : Pool) (m : Member) → IsTextNumber pool m.name → IsTextNumber pool m.descriptor
    → AllByRecursion (λ a. IsTextNumber pool a.name) m.attributes → MemberLinks pool m
member_links pool m name descriptor attributes = (name, (descriptor, All-names (IsTextNumber pool) m.attributes attributes))

Contains-here : {X : Type 0} (x : X) (xs : List X) → Contains (x ∷ xs) x
Contains-here x xs = (0, omega arith, refl)

get_or-names : (xs : List Attribute) (k : ℕ) (a : Attribute) → k < length xs → get_or (map (λ x. x.name) xs) k a.name ≡ (get_or xs k a).name
get_or-names xs k a h = get_or-map (λ (x : Attribute). x.name) xs k a

length-names : (xs : List Attribute) → length (map (λ x. x.name) xs) ≡ length xs
length-names xs = length-map xs (λ (x : Attribute). x.name)

pub contains_name : (xs : List Attribute) (a : Attribute) → Contains xs a → Contains (map (λ x. x.name) xs) a.name
contains_name xs a c = (c.0, omega (arith, c.1, length-names xs), get_or-names xs c.0 a c.1 ∙ ap (λ (x : Attribute). x.name) c.2)

pub at_attribute : (m : Member) (a : Attribute) → Contains m.attributes a → Contains (member_numbers m) a.name
at_attribute m a c = Contains-append_right (m.name ∷ m.descriptor ∷ []) (map (λ x. x.name) m.attributes) a.name (contains_name m.attributes a c)
