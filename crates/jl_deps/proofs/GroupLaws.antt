-- The groups under a key, by what the sites rest on.
use Rattle.std.specs.Prelude.{◌≡◌, ℕ, ◌&&◌, ◌||◌, Bool, true, false, cond, nat_eq, List, [], ◌∷◌, Option, Some, None, IfSome}
use Rattle.std.specs.List.{AllByRecursion, IsDistinct, list_any}
use Rattle.std.specs.Option.{option_map_or}
use Rattle.std.specs.Map.{lookup, keys_of}
use Rattle.std.proofs.Common.{refl, ap, sym, ◌∙◌}
use Rattle.std.proofs.lemmas.Bool.{both_ways}
use Rattle.std.proofs.lemmas.Cmp.{nat_eq_equiv}
use Rattle.std.proofs.lemmas.Map.Keys.{IsDistinct-head, IsDistinct-tail}
use Rattle.indexmap.specs.IndexMap.{IndexMap, get, IsUnique}
use Rattle.jl_hierarchy.proofs.Rising.{has}
use Rattle.jl_types.specs.declared.key.Key.{Key}
use Rattle.jl_types.specs.Events.Footprints.{has_key}
use Rattle.jl_types.proofs.BySite.{Rises}
use Rattle.jl_deps.specs.declared.form.Form.{Form}
use Rattle.jl_deps.specs.declared.form.Form.TheVariants.{Other}
use Rattle.jl_deps.specs.declared.form.Rests.{Rests}
use Rattle.jl_deps.specs.Indexes.{rests_at, form_eq}
use Rattle.jl_deps.specs.ForProofs.Lists.{AreListed, key_eq, listed_in}
use Rattle.jl_deps.proofs.KeyLists.{form_is, form_same}
use Rattle.jl_deps.proofs.TouchLaws.{OfForms, picked, by_one}

pub or_none : (a b : Bool) → false ≡ b → a ≡ (a || b)
or_none true b e = refl
or_none false b e = e

never : (b : Bool) → false ≡ (b && false)
never true = refl
never false = refl

-- ---- one group

pub same_has : (s : ℕ) (ts : List ℕ) → has s ts ≡ list_any (nat_eq s) ts
same_has s [] = refl
same_has s (t ∷ ts) = λ i. nat_eq_equiv.symm t s i || same_has s ts i

other_form : (f g : Form) → form_eq f g ≡ false → form_eq g f ≡ false
other_form f g h = by_test (form_eq g f) refl
  where
    by_test : (b : Bool) → form_eq g f ≡ b → b ≡ false
    by_test true is = absurd (both_ways (form_eq f g) h (ap (form_eq f) (form_is g f is) ∙ form_same f))
    by_test false is = refl

-- the site is among the sites of the form
abbrev pub in_group : List (Form × List ℕ) → Form → ℕ → Bool
in_group entries g s = option_map_or (λ (sites : List ℕ). has s sites) (lookup (form_eq g) entries) false

no_group : (k : Form) (entries : List (Form × List ℕ)) → AllByRecursion (λ y. form_eq k y ≡ false) (keys_of entries)
    → lookup (form_eq k) entries ≡ None
no_group k [] h = refl
no_group k (e ∷ entries) h = ap (λ (b : Bool). cond b (Some e.1) (lookup (form_eq k) entries)) h.0 ∙ no_group k entries h.1

-- a site that stands in the group of its form alone stands in one that passes the test where its form does
one_group : (p : Form → Bool) (s : ℕ) (f : Form) (h : Bool) (entries : List (Form × List ℕ)) → IsDistinct form_eq (keys_of entries)
    → ((g : Form) → in_group entries g s ≡ (form_eq f g && h)) → list_any (λ e. p e.0 && has s e.1) entries ≡ (p f && h)
one_group p s f h [] unique at = never (p f) ∙ ap (λ (b : Bool). p f && b) (at f ∙ ap (λ (b : Bool). b && h) (form_same f))
one_group p s f h (e ∷ entries) unique at =
    by_form (form_eq f e.0) refl (λ h' others. one_group p s f h' entries (IsDistinct-tail form_eq e.0 (keys_of entries) unique) others)
  where
    found : Bool → Bool
    found b = option_map_or (λ (sites : List ℕ). has s sites) (cond b (Some e.1) (lookup (form_eq e.0) entries)) false

    here : has s e.1 ≡ (form_eq f e.0 && h)
    here = ap found (sym (form_same e.0)) ∙ at e.0

    -- in the groups after it
    later_group : (h' : Bool) → ((g : Form) → form_eq g e.0 ≡ true → false ≡ (form_eq f g && h'))
        → ((g : Form) → form_eq g e.0 ≡ false → (form_eq f g && h) ≡ (form_eq f g && h')) → (g : Form) → in_group entries g s ≡ (form_eq f g && h')
    later_group h' at_it beside g = by_test (form_eq g e.0) refl
      where
        in_these : Option (List ℕ) → Bool
        in_these o = option_map_or (λ (sites : List ℕ). has s sites) o false

        by_test : (b : Bool) → form_eq g e.0 ≡ b → in_group entries g s ≡ (form_eq f g && h')
        by_test true is =
            ap (λ (k : Form). in_these (lookup (form_eq k) entries)) (form_is g e.0 is)
            ∙ ap in_these (no_group e.0 entries (IsDistinct-head form_eq e.0 (keys_of entries) unique)) ∙ at_it g is
        by_test false is = ap (λ (b : Bool). in_these (cond b (Some e.1) (lookup (form_eq g) entries))) (sym is) ∙ at g ∙ beside g is

    by_form : (b : Bool) → form_eq f e.0 ≡ b
        → ((h' : Bool) → ((g : Form) → in_group entries g s ≡ (form_eq f g && h')) → list_any (λ d. p d.0 && has s d.1) entries ≡ (p f && h'))
        → ((p e.0 && has s e.1) || list_any (λ d. p d.0 && has s d.1) entries) ≡ (p f && h)
    by_form true is rest =
        (λ i. (p (sym (form_is f e.0 is) i) && (here ∙ ap (λ (b : Bool). b && h) is) i)
        || (rest false (later_group false (λ g same. never (form_eq f g)) (λ g other. not_it g other)) ∙ sym (never (p f))) i)
        ∙ alone (p f && h)
      where
        alone : (b : Bool) → (b || false) ≡ b
        alone true = refl
        alone false = refl

        not_it : (g : Form) → form_eq g e.0 ≡ false → (form_eq f g && h) ≡ (form_eq f g && false)
        not_it g other =
            ap (λ (b : Bool). b && h) (ap (λ (k : Form). form_eq k g) (form_is f e.0 is) ∙ other_form g e.0 other)
            ∙ sym (sym (never (form_eq f g)))
    by_form false is rest =
        ap (λ (b : Bool). (p e.0 && b) || list_any (λ d. p d.0 && has s d.1) entries) (here ∙ ap (λ (b : Bool). b && h) is)
        ∙ ap (λ (b : Bool). b || list_any (λ d. p d.0 && has s d.1) entries) (sym (never (p e.0)))
        ∙ rest h (later_group h (λ g same. sym (ap (λ (b : Bool). b && h) (ap (form_eq f) (form_is g e.0 same) ∙ is))) (λ g other. refl))

-- ---- the groups of a key

module _ {S T : Type 0} (p : Form → Bool) (sites : List (ℕ × Rests)) (rising : Rises sites)
    (lists : IndexMap Key (IndexMap Form (List ℕ) S) T) (are : AreListed sites lists) where
  in_one : (k : Key) (s : ℕ) (found : Option (IndexMap Form (List ℕ) S)) → get key_eq lists k ≡ found → IfSome found (IsUnique form_eq)
      → option_map_or (λ (groups : IndexMap Form (List ℕ) S). list_any (λ e. p e.0 && has s e.1) groups.entries) found false
      ≡ option_map_or (λ (r : Rests). p r.form && has_key r.footprint k) (rests_at sites s) false
  in_one k s found at unique = by_found found unique (rests_at sites s) (λ g. ap (in_these g) (sym at) ∙ are s k g)
    where
      in_these : Form → Option (IndexMap Form (List ℕ) S) → Bool
      in_these g o = option_map_or (λ (groups : IndexMap Form (List ℕ) S). listed_in groups g s) o false

      by_found : (found : Option (IndexMap Form (List ℕ) S)) → IfSome found (IsUnique form_eq) → (o : Option Rests)
          → ((g : Form) → in_these g found ≡ option_map_or (λ (r : Rests). form_eq r.form g && has_key r.footprint k) o false)
          → option_map_or (λ (groups : IndexMap Form (List ℕ) S). list_any (λ e. p e.0 && has s e.1) groups.entries) found false
          ≡ option_map_or (λ (r : Rests). p r.form && has_key r.footprint k) o false
      by_found None unique None h = refl
      by_found None unique (Some r) h =
          never (p r.form) ∙ ap (λ (b : Bool). p r.form && b) (h r.form ∙ ap (λ (b : Bool). b && has_key r.footprint k) (form_same r.form))
      by_found (Some groups) unique None h =
          one_group p s Other false groups.entries unique (λ g. h g ∙ never (form_eq Other g)) ∙ sym (never (p Other))
      by_found (Some groups) unique (Some r) h = one_group p s r.form (has_key r.footprint k) groups.entries unique h

  pub under_key : (test : List Key → Rests → Bool) (tests : OfForms p test) (k : Key) (s : ℕ) (found : Option (IndexMap Form (List ℕ) S))
      → get key_eq lists k ≡ found → IfSome found (IsUnique form_eq)
      → option_map_or (λ (groups : IndexMap Form (List ℕ) S). list_any (λ e. p e.0 && has s e.1) groups.entries) found false
      ≡ has s (picked p test tests sites rising (k ∷ []))
  under_key test tests k s found at unique =
      in_one k s found at unique ∙ sym (by_one p test tests sites rising k s)
