-- The nest attributes of a class file that is read from a sketch's bytes hold the sketch's host and members.
use Rattle.std.proofs.Common.{◌≡◌, ℕ, ◌<◌, ◌≤◌, ◌^◌, Bool, false, List, [], ◌∷◌, ◌++◌, length, map, Option, Some, None, refl, sym, ap}
use Rattle.std.proofs.Common.{◌∙◌, subst, if◌then◌else◌}
use Rattle.std.specs.Prelude.{codes, IfSome}
use Rattle.std.specs.Option.{option_and_then, unwrap_or}
use Rattle.std.specs.List.{AllByRecursion}
use Rattle.std.proofs.lemmas.List.{append-nil}
use Rattle.std.proofs.lemmas.List.Elements.{filter-append}
use Rattle.jl_pool.specs.declared.constant.Constant.{Constant}
use Rattle.jl_pool.specs.Numbers.{u2, counted}
use Rattle.jl_pool.specs.Pools.{Pool, places, class_at}
use Rattle.jl_pool.specs.ForProofs.Fields.{number_at}
use Rattle.jl_pool.proofs.Fields.{some_is, u2_again}
use Rattle.jl_pool.proofs.PoolLaws.{u2_one}
use Rattle.jl_classfile.specs.declared.body.Attribute.{Attribute}
use Rattle.jl_classfile.specs.Conditions.{is_text, attributes_of, IsClassNumber, HoldsHost, HoldsMembers}
use Rattle.jl_classfile.specs.Shown.{name_or_nothing}
use Rattle.jl_classfile.specs.ForProofs.Bodies.{counted_at}
use Rattle.jl_classfile.proofs.ListLaws.{counted-again}
use Rattle.jl_sketch.specs.Constants.{text_number, class_constant, class_number}
use Rattle.jl_sketch.specs.Layouts.{host_attributes, member_attributes}
use Rattle.jl_sketch.specs.Faults.{is_long}
use Rattle.jl_sketch.specs.Names.{NamesHost, NamesMembers}
use Rattle.jl_sketch.proofs.Sizes.{number_below}
use Rattle.jl_sketch.proofs.SketchLies.{few_numbers, classes_sized}
use Rattle.jl_sketch.proofs.SketchCodes.{named}
use Rattle.jl_sketch.proofs.SketchTexts.{class_is, names_are}

-- ---- the attributes of a name

host_alone : (cs : List Constant) (host : Option (List ℕ)) → IfSome host (NamesHost cs)
    → attributes_of (places cs) (codes "NestHost") (host_attributes cs host) ≡ host_attributes cs host
host_alone cs None h = refl
host_alone cs (Some host) h = ap (λ (b : Bool). if b then host_attributes cs (Some host) else [])
    (named (places cs) (text_number cs (codes "NestHost")) (codes "NestHost") (codes "NestHost") h.0)

no_members : (cs : List Constant) (members : List (List ℕ)) → NamesMembers cs members
    → attributes_of (places cs) (codes "NestHost") (member_attributes cs members) ≡ []
no_members cs [] h = refl
no_members cs (m ∷ ms) h =
    ap (λ (b : Bool). if b then member_attributes cs (m ∷ ms) else [])
    (named (places cs) (text_number cs (codes "NestMembers")) (codes "NestMembers") (codes "NestHost") h.0)

no_host : (cs : List Constant) (host : Option (List ℕ)) → IfSome host (NamesHost cs)
    → attributes_of (places cs) (codes "NestMembers") (host_attributes cs host) ≡ []
no_host cs None h = refl
no_host cs (Some host) h = ap (λ (b : Bool). if b then host_attributes cs (Some host) else [])
    (named (places cs) (text_number cs (codes "NestHost")) (codes "NestHost") (codes "NestMembers") h.0)

members_alone : (cs : List Constant) (members : List (List ℕ)) → NamesMembers cs members
    → attributes_of (places cs) (codes "NestMembers") (member_attributes cs members) ≡ member_attributes cs members
members_alone cs [] h = refl
members_alone cs (m ∷ ms) h =
    ap (λ (b : Bool). if b then member_attributes cs (m ∷ ms) else [])
    (named (places cs) (text_number cs (codes "NestMembers")) (codes "NestMembers") (codes "NestMembers") h.0)

of_both : (pool : Pool) (name : List ℕ) (xs ys front back : List Attribute) → attributes_of pool name xs ≡ front → attributes_of pool name ys ≡ back
    → attributes_of pool name (xs ++ ys) ≡ front ++ back
of_both pool name xs ys front back e k =
    filter-append (λ a. is_text pool a.name name) xs ys
    ∙ ap (λ (zs : List Attribute). zs ++ attributes_of pool name ys) e
    ∙ ap (λ (zs : List Attribute). front ++ zs) k

host_found : (cs : List Constant) (host : Option (List ℕ)) (members : List (List ℕ)) → IfSome host (NamesHost cs) → NamesMembers cs members
    → attributes_of (places cs) (codes "NestHost") (host_attributes cs host ++ member_attributes cs members) ≡ host_attributes cs host
host_found cs host members h k =
    of_both (places cs) (codes "NestHost") (host_attributes cs host) (member_attributes cs members) (host_attributes cs host) [] (host_alone cs host h)
    (no_members cs members k)
    ∙ append-nil (host_attributes cs host)

members_found : (cs : List Constant) (host : Option (List ℕ)) (members : List (List ℕ)) → IfSome host (NamesHost cs) → NamesMembers cs members
    → attributes_of (places cs) (codes "NestMembers") (host_attributes cs host ++ member_attributes cs members) ≡ member_attributes cs members
members_found cs host members h k =
    of_both (places cs) (codes "NestMembers") (host_attributes cs host) (member_attributes cs members) [] (member_attributes cs members) (no_host cs host h)
    (members_alone cs members k)

-- ---- the host

host_held : (cs : List Constant) (host : Option (List ℕ)) (o : Option ℕ) → length cs ≤ 65534 → IfSome host (NamesHost cs)
    → HoldsHost (places cs) (host_attributes cs host) o → option_and_then (class_at (places cs)) o ≡ host
host_held cs None None few h k = refl
host_held cs None (Some n) few h k = absurd k
host_held cs (Some host) None few h k = absurd k
host_held cs (Some host) (Some n) few h k =
    let ours : ℕ = class_number cs host in
    let same : ours ≡ n = (u2_one ours n [] [] (number_below cs (class_constant cs host) few) k.1 (ap (λ (t : List ℕ). t ++ []) k.0)).0 in
    ap (class_at (places cs)) (sym same) ∙ class_is (places cs) ours host h.1 (subst (λ (m : ℕ). IsClassNumber (places cs) m) (sym same) k.2)

pub host_is : (cs : List Constant) (host : Option (List ℕ)) (members : List (List ℕ)) (o : Option ℕ) → length cs ≤ 65534 → IfSome host (NamesHost cs)
    → NamesMembers cs members
    → HoldsHost (places cs) (attributes_of (places cs) (codes "NestHost") (host_attributes cs host ++ member_attributes cs members)) o
    → option_and_then (class_at (places cs)) o ≡ host
host_is cs host members o few h k holds = host_held cs host o few h (subst (λ (l : List Attribute). HoldsHost (places cs) l o)
    (host_found cs host members h k) holds)

-- ---- the members

numbers_one : (a b : List ℕ) → length a < 2 ^ 16 → AllByRecursion (λ n. n < 2 ^ 16) a → length b < 2 ^ 16 → AllByRecursion (λ n. n < 2 ^ 16) b
    → counted u2 a ≡ counted u2 b → a ≡ b
numbers_one a b few_a each_a few_b each_b e =
    let again_a = counted-again (number_at 2) u2 (λ n. n < 2 ^ 16) u2_again a [] (record { count = few_a; each = each_a }) in
    let again_b = counted-again (number_at 2) u2 (λ n. n < 2 ^ 16) u2_again b [] (record { count = few_b; each = each_b }) in
    let same : counted u2 a ++ [] ≡ counted u2 b ++ [] = ap (λ (t : List ℕ). t ++ []) e in
    ap (λ (p : List ℕ × List ℕ). p.0) (some_is (a, []) (b, []) (sym again_a ∙ ap (λ (t : List ℕ). counted_at (number_at 2) t) same ∙ again_b))

each_small : (pool : Pool) (ns : List ℕ) → AllByRecursion (λ n. (n < 2 ^ 16) × IsClassNumber pool n) ns → AllByRecursion (λ n. n < 2 ^ 16) ns
each_small pool [] h = tt
each_small pool (n ∷ ns) h = (h.0.0, each_small pool ns h.1)

each_class : (pool : Pool) (ns : List ℕ) → AllByRecursion (λ n. (n < 2 ^ 16) × IsClassNumber pool n) ns → AllByRecursion (IsClassNumber pool) ns
each_class pool [] h = tt
each_class pool (n ∷ ns) h = (h.0.1, each_class pool ns h.1)

members_held : (cs : List Constant) (members : List (List ℕ)) (o : Option (List ℕ)) → length cs ≤ 65534 → is_long members ≡ false → NamesMembers cs members
    → HoldsMembers (places cs) (member_attributes cs members) o
    → map (name_or_nothing (places cs)) (unwrap_or o []) ≡ members
members_held cs [] None few short h k = refl
members_held cs [] (Some ns) few short h k = absurd k
members_held cs (m ∷ ms) None few short h k = absurd k
members_held cs (m ∷ ms) (Some ns) few short h k =
    let ours : List ℕ = map (class_number cs) (m ∷ ms) in
    let same : ours ≡ ns = numbers_one ours ns (few_numbers cs (m ∷ ms) short) (classes_sized cs (m ∷ ms) few) k.1 (each_small (places cs) ns k.2) k.0 in
    ap (map (name_or_nothing (places cs))) (sym same)
    ∙ names_are (places cs) ours (m ∷ ms) h.1 (subst (λ (l : List ℕ). AllByRecursion (IsClassNumber (places cs)) l) (sym same) (each_class (places cs) ns k.2))

pub members_are : (cs : List Constant) (host : Option (List ℕ)) (members : List (List ℕ)) (o : Option (List ℕ)) → length cs ≤ 65534
    → is_long members ≡ false → IfSome host (NamesHost cs) → NamesMembers cs members
    → HoldsMembers (places cs) (attributes_of (places cs) (codes "NestMembers") (host_attributes cs host ++ member_attributes cs members)) o
    → map (name_or_nothing (places cs)) (unwrap_or o []) ≡ members
members_are cs host members o few short h k holds = members_held cs members o few short k
    (subst (λ (l : List Attribute). HoldsMembers (places cs) l o) (members_found cs host members h k) holds)
