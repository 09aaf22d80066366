-- The requested sites at places that pass a test, place by place, and which of them have links.
use Rattle.std.specs.Prelude.{◌≡◌, ℕ, zero, suc, ◌+◌, ◌<◌, ◌≤◌, ◌==◌, ◌⊎◌, ◌&&◌, ◌||◌, nat_lt, Bool, true, false, cond}
use Rattle.std.specs.Prelude.{List, [], ◌∷◌, ◌++◌, take, get_or, slice_get, length}
use Rattle.std.specs.Prelude.{find, position, option_and_then, Option, Some, None, is_some, Ok, if◌then◌else◌}
use Rattle.std.specs.List.{list_any, IsDistinct}
use Rattle.std.specs.Option.{option_map_or}
use Rattle.std.proofs.Common.{refl, ap, sym, ◌∙◌, arith, inl, inr}
use Rattle.std.proofs.lemmas.Bool.{both_ways, cases_lt, ltb-true, lt-ltb}
use Rattle.std.proofs.lemmas.Bool.Decides.{Decides-eqb, nat_tests}
use Rattle.std.proofs.lemmas.List.{take_more, take_all}
use Rattle.std.proofs.lemmas.List.Folds.{list_any-append}
use Rattle.std.proofs.lemmas.List.Quantifiers.{position-Some}
use Rattle.std.proofs.lemmas.Map.Keys.{apart_from_distinct}
use Rattle.std.proofs.lemmas.Option.{slice_get-get_or, slice_get_within, get_or_from_slice_get}
use Rattle.jl_class.specs.Class.{Method}
use Rattle.jl_class.specs.Site.{Site}
use Rattle.jl_types.specs.declared.ids.Place.{Place}
use Rattle.jl_types.specs.declared.link.Link.{Link}
use Rattle.jl_types.specs.Values.World.{World, Classes, Class}
use Rattle.jl_types.specs.declared.answer.Unlinked.TheVariants.{Gone}
use Rattle.jl_types.specs.Values.Members.{is_present, methods_of, method_at}
use Rattle.jl_types.specs.Linkage.Stages.{Waits, invocation_at, stage_at, stage_of}
use Rattle.jl_types.specs.Linkage.Links.{scratch, link_of}
use Rattle.jl_types.specs.Events.Verdict.{same_place}
use Rattle.jl_types.specs.Events.Retirement.{is_of_any, retires_site}
use Rattle.jl_types.proofs.Bools.{first_test, second_test}
use Rattle.jl_types.proofs.Firsts.{first_here, first_later, no_later}
use Rattle.jl_types.proofs.Places.{same_so}
use Rattle.jl_hierarchy.proofs.Rising.{has}
use Rattle.jl_settle.specs.ForProofs.Requested.{is_invoked, is_among, is_in_method, requested_where}

-- ---- one place

-- a place that isn't requested has no site
pub none_requested : (test : Place → Bool) (places : List Place) → position test places ≡ None → (s : ℕ) → requested_where test places s ≡ false
none_requested test [] e s = refl
none_requested test (x ∷ xs) e s = by_test (test x) refl s (λ none. none_requested test xs none)
  where
    no_first : test x ≡ true → ⊥
    no_first is = let first = first_here test x xs is in cc (first, e)

    by_test : (b : Bool) → test x ≡ b → (s : ℕ) → (position test xs ≡ None → (s : ℕ) → requested_where test xs s ≡ false)
        → requested_where test (x ∷ xs) s ≡ false
    by_test true is s rest = absurd (no_first is)
    by_test false is zero rest = is
    by_test false is (suc s) rest = rest (no_later (position test xs) (sym (first_later test x xs is) ∙ e)) s

-- one that is has one
module _ (p : Place) (places : List Place) (apart : IsDistinct same_place places) (i : ℕ) (first : position (same_place p) places ≡ Some i) where
  found : (i < length places) × (same_place p (get_or places i p) ≡ true) × ((k : ℕ) → k < i → same_place p (get_or places k p) ≡ false)
  found = position-Some (same_place p) places i p first

  no_other : (s : ℕ) (q : Place) → (i == s) ≡ false → slice_get places s ≡ Some q → same_place p q ≡ false
  no_other s q other at = by_order (cases_lt i s) (cases_lt s i)
    where
      q_is : get_or places s p ≡ q
      q_is = get_or_from_slice_get places s q p at

      by_order : (i < s) ⊎ (s ≤ i) → (s < i) ⊎ (i ≤ s) → same_place p q ≡ false
      by_order (inl below) o =
          (λ j. same_place (same_so p (get_or places i p) found.1 j) (sym q_is j))
          ∙ apart_from_distinct same_place places i s p apart below (slice_get_within places s q at)
      by_order (inr le) (inl above) = ap (same_place p) (sym q_is) ∙ found.2 s above
      by_order (inr le) (inr ge) = absurd (both_ways (i == s) other ((Decides-eqb i s).1 (omega (arith, le, ge))))

  pub one_requested : (s : ℕ) → (i == s) ≡ requested_where (same_place p) places s
  one_requested s = by_test (i == s) refl (slice_get places s) refl
    where
      by_test : (b : Bool) → (i == s) ≡ b → (o : Option Place) → slice_get places s ≡ o → b ≡ option_map_or (same_place p) o false
      by_test true is o at =
          sym (ap (λ (x : Option Place). option_map_or (same_place p) x false)
          (sym at ∙ ap (slice_get places) (sym ((Decides-eqb i s).0 is)) ∙ slice_get-get_or places i p found.0) ∙ found.1)
      by_test false other None at = refl
      by_test false other (Some q) at = sym (no_other s q other at)

or_none : (b : Bool) → (b || false) ≡ b
or_none true = refl
or_none false = refl

-- and it is listed after those of before
pub site_listed : (sites new : List ℕ) (i : ℕ) (p : Place) (places : List Place) → IsDistinct same_place places → position (same_place p) places ≡ Some i
    → new ≡ sites ++ i ∷ [] → (s : ℕ) → has s new ≡ (has s sites || requested_where (same_place p) places s)
site_listed sites new i p places apart first more s =
    ap (has s) more
    ∙ list_any-append (λ t. t == s) sites (i ∷ [])
    ∙ ap (λ (b : Bool). has s sites || b) (or_none (i == s) ∙ one_requested p places apart i first s)

pub none_listed : (sites : List ℕ) (p : Place) (places : List Place) → position (same_place p) places ≡ None
    → (s : ℕ) → has s sites ≡ (has s sites || requested_where (same_place p) places s)
none_listed sites p places none s = sym (or_none (has s sites)) ∙ ap (λ (b : Bool). has s sites || b) (sym (none_requested (same_place p) places none s))

-- ---- one test more

-- what was listed, what passes one test, and what passes another
pub both_tests : (old : Bool) (one other both : Place → Bool) → ((place : Place) → (one place || other place) ≡ both place) → (places : List Place) (s : ℕ)
    → ((old || requested_where one places s) || requested_where other places s) ≡ (old || requested_where both places s)
both_tests old one other both same places s = by_place (slice_get places s)
  where
    or_assoc : (a b c : Bool) → ((a || b) || c) ≡ (a || (b || c))
    or_assoc true b c = refl
    or_assoc false b c = refl

    by_place : (o : Option Place) → ((old || option_map_or one o false) || option_map_or other o false) ≡ (old || option_map_or both o false)
    by_place None = or_assoc old false false
    by_place (Some place) = or_assoc old (one place) (other place) ∙ ap (λ (b : Bool). old || b) (same place)

-- one invocation more
pub one_invocation : (c m : ℕ) (front : List Site) (site : Site) (place : Place)
    → (is_in_method c m front place || same_place (record { class = c; method = m; pc = site.pc }) place) ≡ is_in_method c m (front ++ site ∷ []) place
one_invocation c m front site place =
    spread (c == place.class) (m == place.method) (list_any (λ i. i.pc == place.pc) front) (site.pc == place.pc)
    ∙ ap (λ (b : Bool). (c == place.class) && ((m == place.method) && b)) (sym (list_any-append (λ i. i.pc == place.pc) front (site ∷ [])))
  where
    spread : (a b f t : Bool) → ((a && (b && f)) || (a && (b && t))) ≡ (a && (b && (f || (t || false))))
    spread true true f t = ap (λ (b : Bool). f || b) (sym (or_none t))
    spread true false f t = refl
    spread false b f t = refl

-- before the first turn
nothing_listed : (old : Bool) (test : Place → Bool) → ((place : Place) → test place ≡ false) → (places : List Place) (s : ℕ)
    → old ≡ (old || requested_where test places s)
nothing_listed old test none places s = sym (or_none old) ∙ ap (λ (b : Bool). old || b) (sym (by_place (slice_get places s)))
  where
    by_place : (o : Option Place) → option_map_or test o false ≡ false
    by_place None = refl
    by_place (Some place) = none place

none_in : (a b : Bool) → (a && (b && false)) ≡ false
none_in true true = refl
none_in true false = refl
none_in false b = refl

pub no_invocation : (old : Bool) (c m : ℕ) (places : List Place) (s : ℕ) → old ≡ (old || requested_where (is_in_method c m []) places s)
no_invocation old c m = nothing_listed old (is_in_method c m []) (λ place. none_in (c == place.class) (m == place.method))

past : {A : Type 0} (xs : List A) (n : ℕ) → slice_get xs n ≡ None → length xs ≤ n
past [] n none = omega arith
past (x ∷ xs) zero none = cc
past (x ∷ xs) (suc n) none = let le = past xs n none in omega (arith, le)

-- once no invocation is left
pub all_invocations : (old now : Bool) (c m : ℕ) (sites : List Site) (n : ℕ) (places : List Place) (s : ℕ) → slice_get sites n ≡ None
    → now ≡ (old || requested_where (is_in_method c m (take n sites)) places s) → now ≡ (old || requested_where (is_in_method c m sites) places s)
all_invocations old now c m sites n places s none before =
    before ∙ ap (λ (xs : List Site). old || requested_where (is_in_method c m xs) places s) (take_all n sites (past sites n none))

next_taken : {A : Type 0} (xs : List A) (n : ℕ) (x : A) → slice_get xs n ≡ Some x → take n xs ++ x ∷ [] ≡ take (n + 1) xs
next_taken {A = A} xs n x at =
    sym (take_more xs n x (slice_get_within xs n x at) ∙ ap (λ (y : A). take n xs ++ y ∷ []) (get_or_from_slice_get xs n x x at))

-- a turn of the loop over a method's invocations
pub invocation_listed : (old now next : Bool) (c m : ℕ) (sites : List Site) (n : ℕ) (site : Site) (places : List Place) (s : ℕ) → slice_get sites n ≡ Some site
    → next ≡ (now || requested_where (same_place (record { class = c; method = m; pc = site.pc })) places s)
    → now ≡ (old || requested_where (is_in_method c m (take n sites)) places s)
    → next ≡ (old || requested_where (is_in_method c m (take (n + 1) sites)) places s)
invocation_listed old now next c m sites n site places s at added before =
    added
    ∙ ap (λ (b : Bool). b || requested_where (same_place (record { class = c; method = m; pc = site.pc })) places s) before
    ∙ both_tests old (is_in_method c m (take n sites)) (same_place (record { class = c; method = m; pc = site.pc }))
    (is_in_method c m (take n sites ++ site ∷ [])) (one_invocation c m (take n sites) site) places s
    ∙ ap (λ (xs : List Site). old || requested_where (is_in_method c m xs) places s) (next_taken sites n site at)

-- ---- one method more

any_found : (test : Site → Bool) (sites : List Site) → is_some (find test sites) ≡ list_any test sites
any_found test [] = refl
any_found test (site ∷ sites) = by_test (test site) (any_found test sites)
  where
    by_test : (b : Bool) → is_some (find test sites) ≡ list_any test sites → is_some (cond b (Some site) (find test sites)) ≡ (b || list_any test sites)
    by_test true rest = refl
    by_test false rest = rest

one_below : (inv : Bool) (n s : ℕ) → ((nat_lt s n && inv) || ((n == s) && inv)) ≡ (nat_lt s (n + 1) && inv)
one_below inv n s = by_tests (nat_lt s n) (n == s) refl refl
  where
    not_below : (b : Bool) → nat_lt s n ≡ false → (n == s) ≡ false → nat_lt s (n + 1) ≡ b → b ≡ false
    not_below true lt other h = absurd (grind (arith, nat_tests))
    not_below false lt other h = refl

    by_inv : (i b : Bool) → (i || (b && i)) ≡ i
    by_inv true b = refl
    by_inv false true = refl
    by_inv false false = refl

    by_tests : (a b : Bool) → nat_lt s n ≡ a → (n == s) ≡ b → ((a && inv) || (b && inv)) ≡ (nat_lt s (n + 1) && inv)
    by_tests true b lt same = by_inv inv b ∙ sym (ap (λ (b : Bool). b && inv) (lt-ltb s (n + 1) (let low = ltb-true s n lt in omega (arith, low))))
    by_tests false true lt same =
        let is = (Decides-eqb n s).0 same in
        sym (ap (λ (b : Bool). b && inv) (lt-ltb s (n + 1) (omega (arith, is))))
    by_tests false false lt same = sym (ap (λ (b : Bool). b && inv) (not_below (nat_lt s (n + 1)) lt same refl))

-- an invocation in one of the first methods of the class
abbrev pub is_before : Classes → ℕ → ℕ → Place → Bool
is_before cs c n place = (c == place.class) && (nat_lt place.method n && is_some (invocation_at cs place))

pub one_method : (cs : Classes) (c n : ℕ) (method : Method) → method_at cs (record { class = c; index = n }) ≡ Some method → (place : Place)
    → (is_before cs c n place || is_in_method c n method.sites place) ≡ is_before cs c (n + 1) place
one_method cs c n method at place = by_class (c == place.class) refl (n == place.method) refl
  where
    invoked : c ≡ place.class → n ≡ place.method → list_any (λ i. i.pc == place.pc) method.sites ≡ is_some (invocation_at cs place)
    invoked class number =
        sym (any_found (λ i. i.pc == place.pc) method.sites)
        ∙ ap (λ (o : Option Method). is_some (option_and_then (λ (m : Method). find (λ i. i.pc == place.pc) m.sites) o))
        (sym at ∙ (λ j. method_at cs (record { class = class j; index = number j })))

    by_class : (a : Bool) → (c == place.class) ≡ a → (b : Bool) → (n == place.method) ≡ b
        → ((a && (nat_lt place.method n && is_some (invocation_at cs place))) || (a && (b && list_any (λ i. i.pc == place.pc) method.sites)))
        ≡ (a && (nat_lt place.method (n + 1) && is_some (invocation_at cs place)))
    by_class true class true number =
        ap (λ (b : Bool). (nat_lt place.method n && is_some (invocation_at cs place)) || b)
        (invoked ((Decides-eqb c place.class).0 class) ((Decides-eqb n place.method).0 number)
        ∙ ap (λ (b : Bool). b && is_some (invocation_at cs place)) (sym number))
        ∙ one_below (is_some (invocation_at cs place)) n place.method
    by_class true class false number =
        ap (λ (b : Bool). (nat_lt place.method n && is_some (invocation_at cs place)) || (b && is_some (invocation_at cs place))) (sym number)
        ∙ one_below (is_some (invocation_at cs place)) n place.method
    by_class false class b number = refl

pub class_methods : (cs : Classes) (c : ℕ) (row : Class) → slice_get cs.rows c ≡ Some row → methods_of cs c ≡ row.file.methods
class_methods cs c row at = ap (λ (o : Option Class). option_map_or (λ r. r.file.methods) o []) at

-- a turn of the loop over a class's methods
pub method_listed : (old now next : Bool) (cs : Classes) (c n : ℕ) (method : Method) (places : List Place) (s : ℕ)
    → method_at cs (record { class = c; index = n }) ≡ Some method
    → next ≡ (now || requested_where (is_in_method c n method.sites) places s)
    → now ≡ (old || requested_where (is_before cs c n) places s)
    → next ≡ (old || requested_where (is_before cs c (n + 1)) places s)
method_listed old now next cs c n method places s at added before =
    added
    ∙ ap (λ (b : Bool). b || requested_where (is_in_method c n method.sites) places s) before
    ∙ both_tests old (is_before cs c n) (is_in_method c n method.sites) (is_before cs c (n + 1)) (one_method cs c n method at) places s

-- no invocation in the class is past its last method
module _ (cs : Classes) (c : ℕ) where
  within : (n : ℕ) (place : Place) → length (methods_of cs c) ≤ n → c ≡ place.class
      → (nat_lt place.method n && is_some (invocation_at cs place)) ≡ is_some (invocation_at cs place)
  within n place le class = by_method (method_at cs (record { class = place.class; index = place.method })) refl
    where
      dropped : (b : Bool) → (b && false) ≡ false
      dropped true = refl
      dropped false = refl

      by_method : (o : Option Method) → method_at cs (record { class = place.class; index = place.method }) ≡ o
          → (nat_lt place.method n && is_some (option_and_then (λ (m : Method). find (λ i. i.pc == place.pc) m.sites) o))
          ≡ is_some (option_and_then (λ (m : Method). find (λ i. i.pc == place.pc) m.sites) o)
      by_method None at = dropped (nat_lt place.method n)
      by_method (Some m) at =
          let lt = slice_get_within (methods_of cs place.class) place.method m at in
          let same = ap (λ (d : ℕ). length (methods_of cs d)) class in
          ap (λ (b : Bool). b && is_some (find (λ i. i.pc == place.pc) m.sites)) (lt-ltb place.method n (omega (arith, le, lt, same)))

  all_before : (n : ℕ) → length (methods_of cs c) ≤ n → (place : Place) → is_before cs c n place ≡ is_invoked cs c place
  all_before n le place = by_class (c == place.class) refl
    where
      by_class : (b : Bool) → (c == place.class) ≡ b
          → (b && (nat_lt place.method n && is_some (invocation_at cs place))) ≡ (b && is_some (invocation_at cs place))
      by_class true class = within n place le ((Decides-eqb c place.class).0 class)
      by_class false class = refl

  -- once no method is left
  pub all_methods : (old now : Bool) (n : ℕ) (places : List Place) (s : ℕ) → slice_get (methods_of cs c) n ≡ None
      → now ≡ (old || requested_where (is_before cs c n) places s) → now ≡ (old || requested_where (is_invoked cs c) places s)
  all_methods old now n places s none before = before ∙ ap (λ (b : Bool). old || b) (by_place (slice_get places s))
    where
      by_place : (o : Option Place) → option_map_or (is_before cs c n) o false ≡ option_map_or (is_invoked cs c) o false
      by_place None = refl
      by_place (Some place) = all_before n (past (methods_of cs c) n none) place

  pub no_method : (old : Bool) (places : List Place) (s : ℕ) → old ≡ (old || requested_where (is_before cs c 0) places s)
  no_method old =
      nothing_listed old (is_before cs c 0) (λ place.
      none_below (c == place.class) (nat_lt place.method 0) (is_some (invocation_at cs place)) (below_none (nat_lt place.method 0) place.method refl))
    where
      below_none : (b : Bool) (n : ℕ) → nat_lt n 0 ≡ b → b ≡ false
      below_none true n lt = absurd (let low = ltb-true n 0 lt in omega (arith, low))
      below_none false n lt = refl

      none_below : (a b inv : Bool) → b ≡ false → (a && (b && inv)) ≡ false
      none_below true b inv e = ap (λ (x : Bool). x && inv) e
      none_below false b inv e = refl

-- ---- one class more

pub one_class : (cs : Classes) (front : List ℕ) (c : ℕ) (place : Place)
    → (is_among cs front place || is_invoked cs c place) ≡ is_among cs (front ++ c ∷ []) place
one_class cs front c place =
    spread (has place.class front) (c == place.class) (is_some (invocation_at cs place))
    ∙ ap (λ (b : Bool). b && is_some (invocation_at cs place)) (sym (list_any-append (λ k. k == place.class) front (c ∷ [])))
  where
    spread : (f t i : Bool) → ((f && i) || (t && i)) ≡ ((f || (t || false)) && i)
    spread true true true = refl
    spread true true false = refl
    spread true false true = refl
    spread true false false = refl
    spread false true i = refl
    spread false false i = refl

pub no_class : (cs : Classes) (places : List Place) (s : ℕ) → false ≡ requested_where (is_among cs []) places s
no_class cs places s = nothing_listed false (is_among cs []) (λ place. refl) places s

-- a turn of the loop over classes
pub class_listed : (now next : Bool) (cs : Classes) (classes : List ℕ) (n c : ℕ) (places : List Place) (s : ℕ) → slice_get classes n ≡ Some c
    → next ≡ (now || requested_where (is_invoked cs c) places s)
    → now ≡ requested_where (is_among cs (take n classes)) places s
    → next ≡ requested_where (is_among cs (take (n + 1) classes)) places s
class_listed now next cs classes n c places s at added before =
    added
    ∙ ap (λ (b : Bool). b || requested_where (is_invoked cs c) places s) before
    ∙ both_tests false (is_among cs (take n classes)) (is_invoked cs c) (is_among cs (take n classes ++ c ∷ [])) (one_class cs (take n classes) c) places s
    ∙ ap (λ (xs : List ℕ). requested_where (is_among cs xs) places s) (next_taken classes n c at)

-- ---- those of a loader

module _ (w : World) (loaders : List ℕ) (own : List ℕ) (own_are : (c : ℕ) → has c own ≡ (is_present w.classes c && is_of_any w.classes loaders c)) (s : ℕ) where
  pub only_retired : requested_where (is_among w.classes own) w.places s ≡ true → retires_site w loaders s ≡ true
  only_retired = by_place (slice_get w.places s)
    where
      by_place : (o : Option Place) → option_map_or (is_among w.classes own) o false ≡ true
          → option_map_or (λ place. is_of_any w.classes loaders place.class) o false ≡ true
      by_place None e = cc
      by_place (Some place) e =
          second_test (is_present w.classes place.class) (is_of_any w.classes loaders place.class)
          (sym (own_are place.class) ∙ first_test (has place.class own) (is_some (invocation_at w.classes place)) e)

  pub linked_listed : (l : Link) → scratch w s ≡ Ok l → retires_site w loaders s ≡ true → requested_where (is_among w.classes own) w.places s ≡ true
  linked_listed l = by_place (slice_get w.places s)
    where
      by_invocation : (place : Place) (o : Option Site) → invocation_at w.classes place ≡ o → link_of w.classes (stage_of w s place.class o) ≡ Ok l
          → is_some (invocation_at w.classes place) ≡ true
      by_invocation place None at e = cc
      by_invocation place (Some site) at e = ap is_some at

      by_presence : (place : Place) (b : Bool) → is_present w.classes place.class ≡ b
          → link_of w.classes (if b then stage_of w s place.class (invocation_at w.classes place) else Waits Gone) ≡ Ok l
          → is_of_any w.classes loaders place.class ≡ true → is_among w.classes own place ≡ true
      by_presence place true present e is =
          (λ i. own_are place.class i && is_some (invocation_at w.classes place))
          ∙ (λ i. (present i && is i) && by_invocation place (invocation_at w.classes place) refl e i)
      by_presence place false present e is = cc

      by_place : (o : Option Place) → link_of w.classes (stage_at w s o) ≡ Ok l
          → option_map_or (λ place. is_of_any w.classes loaders place.class) o false ≡ true
          → option_map_or (is_among w.classes own) o false ≡ true
      by_place None e is = cc
      by_place (Some place) e is = by_presence place (is_present w.classes place.class) refl e is
