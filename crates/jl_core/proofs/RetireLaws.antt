-- Which sites an event retires, and what is left of the links and the index once these were dropped.
use Rattle.std.specs.Prelude.{◌≡◌, ℕ, ◌*◌, ◌≤◌, ◌<◌, ◌==◌, ◌&&◌, ◌||◌, not, Bool, true, false, cond, List, [], ◌∷◌, filter, sum_by, length}
use Rattle.std.specs.Prelude.{Option, Some, None, option_map, Result, Ok, Err, is_some, is_none, slice_get, if◌then◌else◌}
use Rattle.std.specs.Option.{option_map_or}
use Rattle.std.proofs.Common.{refl, ap, sym, ◌∙◌, arith}
use Rattle.std.proofs.lemmas.Bool.Decides.{Decides-eqb}
use Rattle.std.proofs.lemmas.List.Sums.{sum_by-cons}
use Rattle.std.proofs.lemmas.Option.{same_Some}
use Rattle.jl_types.specs.declared.answer.Unlinked.{Unlinked}
use Rattle.jl_types.specs.declared.answer.Unlinked.TheVariants.{Gone}
use Rattle.jl_types.specs.declared.link.Link.{Link}
use Rattle.jl_types.specs.Events.Event.{Event}
use Rattle.jl_types.specs.declared.event.EventOf.TheVariants as event
use Rattle.jl_types.specs.Values.World.{Class, World}
use Rattle.jl_types.specs.Linkage.Links.{scratch}
use Rattle.jl_types.specs.Events.Verdict.{step}
use Rattle.jl_types.specs.Events.History.{installs, kept}
use Rattle.jl_types.specs.declared.key.Key.{Key}
use Rattle.jl_types.specs.Events.Footprints.{meets, retires}
use Rattle.jl_types.proofs.BySite.{rises_of}
use Rattle.jl_types.proofs.Retiring.{gone_after}
use Rattle.jl_hierarchy.specs.ForProofs.Kept.{Rises}
use Rattle.jl_hierarchy.proofs.Rising.{has, one_rising}
use Rattle.jl_resolve.proofs.Unchanged.{all_filter}
use Rattle.jl_cache.specs.Links.{link_at}
use Rattle.jl_deps.specs.declared.form.Rests.{Rests}
use Rattle.jl_deps.specs.Forms.{rests}
use Rattle.jl_deps.specs.Indexes.{rests_at, touched_by, AreRising, IsIndex, rests_if}
use Rattle.jl_deps.proofs.TouchLaws.{passing, sites_rise}
use Rattle.jl_events.specs.Accepted.{Accepted, event_of}
use Rattle.jl_core.specs.ForProofs.Changes.{retires_at}

-- ---- what is retired

-- what an entry's event retires
module _ (w : World) (rows : List Class) (e : Event) (s : ℕ) where
  as_retired : (x : Event) (b : Bool) → Some x ≡ Some e → retires w x s ≡ b → retires w e s ≡ b
  as_retired x b is so = ap (λ (y : Event). retires w y s) (sym (same_Some x e is)) ∙ so

  row_retired : (loader : ℕ) (o : Option Class) → option_map (λ (row : Class). event.Define loader row.file) o ≡ Some e → retires w e s ≡ false
  row_retired loader None is = absurd (cc is)
  row_retired loader (Some row) is = as_retired (event.Define loader row.file) false is refl

  pub retires_so : (told : Accepted) → event_of rows told ≡ Some e → retires w e s ≡ retires_at w told s
  retires_so event.NewLoader is = as_retired event.NewLoader false is refl
  retires_so (event.Define loader c) is = row_retired loader (slice_get rows c) is
  retires_so (event.Delegate loader name to) is = as_retired (event.Delegate loader name to) false is refl
  retires_so (event.Request place) is = as_retired (event.Request place) false is refl
  retires_so (event.NewCallSite kind ty target) is = as_retired (event.NewCallSite kind ty target) false is refl
  retires_so (event.SetTarget c target) is = as_retired (event.SetTarget c target) false is refl
  retires_so event.NewSwitch is = as_retired event.NewSwitch false is refl
  retires_so (event.Invalidate points) is = as_retired (event.Invalidate points) false is refl
  retires_so (event.Bind site c) is = as_retired (event.Bind site c) false is refl
  retires_so (event.Install links) is = as_retired (event.Install links) false is refl
  retires_so (event.Retire loader) is = as_retired (event.Retire loader) (retires_at w (event.Retire loader) s) is refl
  retires_so (event.RetireAll loaders) is = as_retired (event.RetireAll loaders) (retires_at w (event.RetireAll loaders) s) is refl
  retires_so (event.Release call_sites points) is = as_retired (event.Release call_sites points) false is refl

  -- the same in the world afterwards
  pub retired_then : (told : Accepted) → event_of rows told ≡ Some e → retires_at (step w e) told s ≡ retires w e s
  retired_then (event.Retire loader) is =
      ap (λ (x : Event). retires_at (step w x) (event.Retire loader) s) (sym (same_Some (event.Retire loader) e is))
      ∙ sym (retires_so (event.Retire loader) is)
  retired_then (event.RetireAll loaders) is =
      ap (λ (x : Event). retires_at (step w x) (event.RetireAll loaders) s) (sym (same_Some (event.RetireAll loaders) e is))
      ∙ sym (retires_so (event.RetireAll loaders) is)
  retired_then (event.Release call_sites points) is = sym (retires_so (event.Release call_sites points) is)
  retired_then event.NewLoader is = sym (retires_so event.NewLoader is)
  retired_then (event.Define loader c) is = sym (retires_so (event.Define loader c) is)
  retired_then (event.Delegate loader name to) is = sym (retires_so (event.Delegate loader name to) is)
  retired_then (event.Request place) is = sym (retires_so (event.Request place) is)
  retired_then (event.NewCallSite kind ty target) is = sym (retires_so (event.NewCallSite kind ty target) is)
  retired_then (event.SetTarget c target) is = sym (retires_so (event.SetTarget c target) is)
  retired_then event.NewSwitch is = sym (retires_so event.NewSwitch is)
  retired_then (event.Invalidate points) is = sym (retires_so (event.Invalidate points) is)
  retired_then (event.Bind site c) is = sym (retires_so (event.Bind site c) is)
  retired_then (event.Install links) is = sym (retires_so (event.Install links) is)

-- a retired site is gone, and isn't installed
module _ (w : World) (s : ℕ) where
  pub gone_so : (e : Event) → retires w e s ≡ true → (scratch (step w e) s ≡ Err Gone) × (installs s e ≡ false)
  gone_so event.NewLoader is = cc
  gone_so (event.Define loader file) is = cc
  gone_so (event.Delegate loader name to) is = cc
  gone_so (event.Request place) is = cc
  gone_so (event.NewCallSite kind ty target) is = cc
  gone_so (event.SetTarget c target) is = cc
  gone_so event.NewSwitch is = cc
  gone_so (event.Invalidate points) is = cc
  gone_so (event.Bind site c) is = cc
  gone_so (event.Install links) is = cc
  gone_so (event.Retire loader) is = (gone_after w (loader ∷ []) s is, refl)
  gone_so (event.RetireAll loaders) is = (gone_after w loaders s is, refl)
  gone_so (event.Release call_sites points) is = cc

-- where each of these sites passes, and each that passes and has a link is among them, it is as good to drop all that pass
module _ (links : List (ℕ × Link)) (test : ℕ → Bool) (sites : List ℕ) (only : (s : ℕ) → has s sites ≡ true → test s ≡ true)
    (linked : (s : ℕ) (l : Link) → link_at links s ≡ Some l → test s ≡ true → has s sites ≡ true) (s : ℕ) where
  not_listed : {A : Type 0} (value : Link → A) (b : Bool) → has s sites ≡ b → (t : Bool) → test s ≡ t → (o : Option Link) → link_at links s ≡ o
      → (if b then None else option_map value o) ≡ (if t then None else option_map value o)
  not_listed value true listed true passes o at = refl
  not_listed value true listed false passes o at = cc (only s listed, passes)
  not_listed value false listed true passes None at = refl
  not_listed value false listed true passes (Some l) at = cc (linked s l at passes, listed)
  not_listed value false listed false passes o at = refl

  pub dropped_all : (if has s sites then None else link_at links s) ≡ (if test s then None else link_at links s)
  dropped_all =
      ap (λ (o : Option Link). if has s sites then None else o) (itself (link_at links s))
      ∙ not_listed (λ l. l) (has s sites) refl (test s) refl (link_at links s) refl
      ∙ ap (λ (o : Option Link). if test s then None else o) (sym (itself (link_at links s)))
    where
      itself : (o : Option Link) → o ≡ option_map (λ l. l) o
      itself None = refl
      itself (Some l) = refl

  pub taken_all : (w : World) (index : List (ℕ × Rests)) → IsIndex w (link_at links) index
      → (if has s sites then None else rests_at index s) ≡ (if test s then None else rests_at index s)
  taken_all w index indexed =
      ap (λ (o : Option Rests). if has s sites then None else o) (indexed s)
      ∙ not_listed (λ l. rests w s) (has s sites) refl (test s) refl (link_at links s) refl
      ∙ ap (λ (o : Option Rests). if test s then None else o) (sym (indexed s))

  pub lost_all : (has s sites && is_some (link_at links s)) ≡ (test s && is_some (link_at links s))
  lost_all = by_tests (has s sites) refl (test s) refl (link_at links s) refl
    where
      by_tests : (b : Bool) → has s sites ≡ b → (t : Bool) → test s ≡ t → (o : Option Link) → link_at links s ≡ o → (b && is_some o) ≡ (t && is_some o)
      by_tests true listed true passes o at = refl
      by_tests true listed false passes o at = cc (only s listed, passes)
      by_tests false listed true passes None at = refl
      by_tests false listed true passes (Some l) at = cc (linked s l at passes, listed)
      by_tests false listed false passes o at = refl

-- where the links of retired sites were dropped, those that are left aren't retired
pub left_alone : (b : Bool) (o : Option Link) (l : Link) → (if b then None else o) ≡ Some l → (b ≡ false) × (o ≡ Some l)
left_alone true o l is = cc
left_alone false o l is = (refl, is)

-- the links of retired sites were dropped, and those sites taken out of the index
module _ (w : World) (told : Accepted) (links left : List (ℕ × Link)) (index near : List (ℕ × Rests))
    (dropped : (s : ℕ) → link_at left s ≡ (if retires_at w told s then None else link_at links s))
    (taken : (s : ℕ) → rests_at near s ≡ (if retires_at w told s then None else rests_at index s)) where
  pub links_left : (s : ℕ) (l : Link) → link_at left s ≡ Some l → (retires_at w told s ≡ false) × (link_at links s ≡ Some l)
  links_left s l is = left_alone (retires_at w told s) (link_at links s) l (sym (dropped s) ∙ is)

  pub index_left : IsIndex w (link_at links) index → IsIndex w (link_at left) near
  index_left indexed s = taken s ∙ by_test (retires_at w told s) ∙ ap (rests_if w s) (sym (dropped s))
    where
      by_test : (b : Bool) → (if b then None else rests_at index s) ≡ rests_if w s (if b then None else link_at links s)
      by_test true = refl
      by_test false = indexed s

  -- what the event keeps of them is what it keeps of all
  pub kept_left : (e : Event) → ((s : ℕ) → retires w e s ≡ retires_at w told s) → (s : ℕ)
      → kept (installs s e) (link_at links s) (scratch (step w e) s) ≡ kept (installs s e) (link_at left s) (scratch (step w e) s)
  kept_left e same s = by_test (retires_at w told s) refl
    where
      by_test : (b : Bool) → retires_at w told s ≡ b
          → kept (installs s e) (link_at links s) (scratch (step w e) s) ≡ kept (installs s e) (link_at left s) (scratch (step w e) s)
      by_test true is =
          let gone = gone_so w s e (same s ∙ is) in
          (λ i. kept (installs s e) (link_at links s) (gone.0 i)) ∙ sym (λ i. kept (installs s e) (link_at left s) (gone.0 i))
      by_test false is =
          ap (λ (o : Option Link). kept (installs s e) o (scratch (step w e) s))
          (sym (dropped s ∙ ap (λ (b : Bool). if b then None else link_at links s) is))

-- ---- rising lists

rises_filter : (q : ℕ → Bool) (xs : List ℕ) → Rises xs → Rises (filter q xs)
rises_filter q [] h = tt
rises_filter q (x ∷ xs) h = by_test (q x) (rises_filter q xs h.1)
  where
    by_test : (b : Bool) → Rises (filter q xs) → Rises (cond b (x ∷ filter q xs) (filter q xs))
    by_test true rest = (all_filter (λ y. x < y) q xs h.0, rest)
    by_test false rest = rest

has_filter : (q : ℕ → Bool) (xs : List ℕ) (s : ℕ) → has s (filter q xs) ≡ (q s && has s xs)
has_filter q [] s = dropped (q s)
  where
    dropped : (b : Bool) → false ≡ (b && false)
    dropped true = refl
    dropped false = refl
has_filter q (x ∷ xs) s = by_tests (q x) (x == s) refl refl (has_filter q xs s)
  where
    always : (b : Bool) → b ≡ true → (b && true) ≡ true
    always true is = refl
    always false is = is

    never : (b : Bool) (d : Bool) → b ≡ false → (b && d) ≡ false
    never true d is = cc
    never false d is = refl

    by_tests : (a b : Bool) → q x ≡ a → (x == s) ≡ b → has s (filter q xs) ≡ (q s && has s xs)
        → has s (cond a (x ∷ filter q xs) (filter q xs)) ≡ (q s && (b || has s xs))
    by_tests true true passes is rest =
        ap (λ (b : Bool). b || has s (filter q xs)) is ∙ sym (always (q s) (ap q (sym ((Decides-eqb x s).0 is)) ∙ passes))
    by_tests true false passes is rest = ap (λ (b : Bool). b || has s (filter q xs)) is ∙ rest
    by_tests false true passes is rest =
        let fails = ap q (sym ((Decides-eqb x s).0 is)) ∙ passes in
        rest ∙ never (q s) (has s xs) fails ∙ sym (never (q s) true fails)
    by_tests false false passes is rest = rest

-- the touched sites that aren't retired are those that the index is left with
pub touched_left : (retired : ℕ → Bool) (index near : List (ℕ × Rests)) (keys : List Key) → AreRising index → AreRising near
    → ((s : ℕ) → rests_at near s ≡ (if retired s then None else rests_at index s))
    → touched_by near keys ≡ filter (λ s. not (retired s)) (touched_by index keys)
touched_left retired index near keys rising rising_near taken =
    one_rising (touched_by near keys) (filter (λ s. not (retired s)) (touched_by index keys))
    (sites_rise (λ (r : Rests). meets r.footprint keys) near (rises_of near rising_near))
    (rises_filter (λ s. not (retired s)) (touched_by index keys) (sites_rise (λ (r : Rests). meets r.footprint keys) index (rises_of index rising)))
    (λ s.
    passing (λ (r : Rests). meets r.footprint keys) s near (rises_of near rising_near)
    ∙ ap (λ (o : Option Rests). option_map_or (λ (r : Rests). meets r.footprint keys) o false) (taken s)
    ∙ by_test (retired s) (rests_at index s)
    ∙ ap (λ (b : Bool). not (retired s) && b) (sym (passing (λ (r : Rests). meets r.footprint keys) s index (rises_of index rising)))
    ∙ sym (has_filter (λ t. not (retired t)) (touched_by index keys) s))
  where
    by_test : (b : Bool) (o : Option Rests) → option_map_or (λ (r : Rests). meets r.footprint keys) (if b then None else o) false
        ≡ (not b && option_map_or (λ (r : Rests). meets r.footprint keys) o false)
    by_test true o = refl
    by_test false o = refl

-- ---- sums

pub few_in_sum : (f : ℕ → ℕ) → ((s : ℕ) → f s ≤ 1048576) → (xs : List ℕ) → sum_by f xs ≤ length xs * 1048576
few_in_sum f few [] = omega arith
few_in_sum f few (x ∷ xs) =
    let split = sum_by-cons f x xs in
    let one = few x in
    let rest = few_in_sum f few xs in
    omega (arith, split, one, rest)

-- ---- what is lost

pub lost_or_gone : (b : Bool) (first left now : Option Link) (r : Result Link Unlinked) → left ≡ (if b then None else first) → now ≡ kept false left r
    → ((b && is_some first) || (is_some left && is_none now)) ≡ (is_some first && is_none now)
lost_or_gone true first left now r e f =
    (λ i. is_some first || (is_some (e i) && is_none now))
    ∙ by_first (is_some first)
    ∙ ap (λ (o : Option Link). is_some first && is_none o) (sym (f ∙ ap (λ (o : Option Link). kept false o r) e ∙ none_kept r))
  where
    by_first : (b : Bool) → (b || false) ≡ (b && true)
    by_first true = refl
    by_first false = refl

    none_kept : (r : Result Link Unlinked) → kept false None r ≡ None
    none_kept (Ok l) = refl
    none_kept (Err reason) = refl
lost_or_gone false first left now r e f = λ i. is_some (e i) && is_none now
