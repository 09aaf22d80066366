-- Every guard of a call site's target has a switch point that was made and every invoker an earlier call site, whatever changes, and which
-- changes leave what runs as it was.
use Rattle.std.specs.Prelude.{◌≡◌, ◌≢◌, ℕ, zero, suc, ◌<◌, ◌+◌, Bool, true, false, ◌&&◌, nat_lt, List, [], ◌∷◌, ◌++◌, length, slice_get}
use Rattle.std.specs.Prelude.{slice_set, Option, Some, None, is_none, option_and_then}
use Rattle.std.specs.Option.{option_map_or}
use Rattle.std.proofs.Common.{refl, ap, sym, subst, ◌∙◌, arith, length-append}
use Rattle.std.proofs.lemmas.Option.{same_Some, slice_get_within}
use Rattle.std.proofs.lemmas.List.{length-set}
use Rattle.std.proofs.lemmas.Bool.{and_from, ltb-true, lt-ltb, both_ways}
use Rattle.jl_types.specs.declared.target.CallSiteKind.{CallSiteKind}
use Rattle.jl_types.specs.declared.key.Key.TheVariants as key
use Rattle.jl_types.specs.Values.Target.{Target, Method, Guard, Invoker}
use Rattle.jl_types.specs.Values.World.{Sites, CallSite, unreleased, is_missing}
use Rattle.jl_types.specs.Linkage.Targets.{is_valid, evaluated, method_of}
use Rattle.jl_types.specs.Events.Footprints.{has_key, way_by, way_below, path}
use Rattle.jl_types.specs.Events.Release.{without}
use Rattle.jl_types.specs.Events.Verdict.{retargeted}
use Rattle.jl_types.proofs.Bools.{first_test, second_test}
use Rattle.jl_types.proofs.Lists.{before_end}
use Rattle.jl_callsites.specs.Faults.{with_site, with_target, with_switch}
use Rattle.jl_callsites.specs.Known.{is_known, all_known, are_known, RunAsBefore, OthersRunAsBefore}
use Rattle.jl_callsites.proofs.Rows.{set_other}
use Rattle.jl_callsites.proofs.Walks.{on_path, on_target_way, all_invalid, known_invalid, target_walks, site_walks, kept_on}

-- ---- all of them

at_number : (points : ℕ) (t : Target) (a b : ℕ) → a ≡ b → is_known points a t ≡ true → is_known points b t ≡ true
at_number points t a b same h = ap (λ n. is_known points n t) (sym same) ∙ h

more_known : (points n : ℕ) (rows : List (Option CallSite)) (site : CallSite) → all_known points n rows ≡ true
    → is_known points (n + length rows) site.target ≡ true
    → all_known points n (rows ++ Some site ∷ []) ≡ true
more_known points n [] site h k = and_from (is_known points n site.target) true (at_number points site.target (n + 0) n (omega arith) k) refl
more_known points n (None ∷ rows) site h k =
    more_known points (n + 1) rows site h (at_number points site.target (n + suc (length rows)) ((n + 1) + length rows) (omega arith) k)
more_known points n (Some s ∷ rows) site h k =
    and_from (is_known points n s.target) (all_known points (n + 1) (rows ++ Some site ∷ []))
    (first_test (is_known points n s.target) (all_known points (n + 1) rows) h)
    (more_known points (n + 1) rows site (second_test (is_known points n s.target) (all_known points (n + 1) rows) h)
    (at_number points site.target (n + suc (length rows)) ((n + 1) + length rows) (omega arith) k))

pub one_more_known : (points : ℕ) (rows : List (Option CallSite)) (site : CallSite) → all_known points 0 rows ≡ true
    → is_known points (length rows) site.target ≡ true
    → all_known points 0 (rows ++ Some site ∷ []) ≡ true
one_more_known points rows site h k = more_known points 0 rows site h (at_number points site.target (length rows) (0 + length rows) (omega arith) k)

set_known : (points n : ℕ) (rows : List (Option CallSite)) (c : ℕ) (site : CallSite) → all_known points n rows ≡ true
    → is_known points (n + c) site.target ≡ true
    → all_known points n (slice_set rows c (Some site)) ≡ true
set_known points n [] c site h k = h
set_known points n (None ∷ rows) zero site h k =
    and_from (is_known points n site.target) (all_known points (n + 1) rows) (at_number points site.target (n + 0) n (omega arith) k) h
set_known points n (Some s ∷ rows) zero site h k =
    and_from (is_known points n site.target) (all_known points (n + 1) rows) (at_number points site.target (n + 0) n (omega arith) k)
    (second_test (is_known points n s.target) (all_known points (n + 1) rows) h)
set_known points n (None ∷ rows) (suc c) site h k =
    set_known points (n + 1) rows c site h (at_number points site.target (n + suc c) ((n + 1) + c) (omega arith) k)
set_known points n (Some s ∷ rows) (suc c) site h k =
    and_from (is_known points n s.target) (all_known points (n + 1) (slice_set rows c (Some site)))
    (first_test (is_known points n s.target) (all_known points (n + 1) rows) h)
    (set_known points (n + 1) rows c site (second_test (is_known points n s.target) (all_known points (n + 1) rows) h)
    (at_number points site.target (n + suc c) ((n + 1) + c) (omega arith) k))

pub retargeted_known : (points : ℕ) (rows : List (Option CallSite)) (c : ℕ) (t : Target) → all_known points 0 rows ≡ true → is_known points c t ≡ true
    → all_known points 0 (retargeted rows c t) ≡ true
retargeted_known points rows c t h k = by_site (unreleased rows c)
  where
    by_site : (o : Option CallSite) → all_known points 0 (option_map_or (λ site. slice_set rows c (Some (record site { target = t }))) o rows) ≡ true
    by_site None = h
    by_site (Some site) = set_known points 0 rows c (record site { target = t }) h (at_number points t c (0 + c) (omega arith) k)

pub as_many_retargeted : (rows : List (Option CallSite)) (c : ℕ) (t : Target) → length (retargeted rows c t) ≡ length rows
as_many_retargeted rows c t = by_site (unreleased rows c)
  where
    by_site : (o : Option CallSite) → length (option_map_or (λ site. slice_set rows c (Some (record site { target = t }))) o rows) ≡ length rows
    by_site None = refl
    by_site (Some site) = length-set rows c (Some (record site { target = t }))

-- one that is released is passed over
one_known : (points n : ℕ) (rows : List (Option CallSite)) (c : ℕ) → all_known points n rows ≡ true → all_known points n (slice_set rows c None) ≡ true
one_known points n [] c h = h
one_known points n (None ∷ rows) zero h = h
one_known points n (Some s ∷ rows) zero h = second_test (is_known points n s.target) (all_known points (n + 1) rows) h
one_known points n (None ∷ rows) (suc c) h = one_known points (n + 1) rows c h
one_known points n (Some s ∷ rows) (suc c) h =
    and_from (is_known points n s.target) (all_known points (n + 1) (slice_set rows c None))
    (first_test (is_known points n s.target) (all_known points (n + 1) rows) h)
    (one_known points (n + 1) rows c (second_test (is_known points n s.target) (all_known points (n + 1) rows) h))

pub released_known : (points : ℕ) (rows : List (Option CallSite)) (going : List ℕ) → all_known points 0 rows ≡ true
    → all_known points 0 (without rows going) ≡ true
released_known points rows [] h = h
released_known points rows (k ∷ going) h = released_known points (slice_set rows k None) going (one_known points 0 rows k h)

more_points : (points c : ℕ) (t : Target) → is_known points c t ≡ true → is_known (points + 1) c t ≡ true
more_points points c (Method m) h = refl
more_points points c (Guard p first fallback) h =
    let rest = second_test (nat_lt p points) (is_known points c first && is_known points c fallback) h in
    let lt = ltb-true p points (first_test (nat_lt p points) (is_known points c first && is_known points c fallback) h) in
    and_from (nat_lt p (points + 1)) (is_known (points + 1) c first && is_known (points + 1) c fallback) (lt-ltb p (points + 1) (omega arith))
    (and_from (is_known (points + 1) c first) (is_known (points + 1) c fallback)
    (more_points points c first (first_test (is_known points c first) (is_known points c fallback) rest))
    (more_points points c fallback (second_test (is_known points c first) (is_known points c fallback) rest)))
more_points points c (Invoker d) h = h

all_more_points : (points n : ℕ) (rows : List (Option CallSite)) → all_known points n rows ≡ true → all_known (points + 1) n rows ≡ true
all_more_points points n [] h = refl
all_more_points points n (None ∷ rows) h = all_more_points points (n + 1) rows h
all_more_points points n (Some s ∷ rows) h =
    and_from (is_known (points + 1) n s.target) (all_known (points + 1) (n + 1) rows)
    (more_points points n s.target (first_test (is_known points n s.target) (all_known points (n + 1) rows) h))
    (all_more_points points (n + 1) rows (second_test (is_known points n s.target) (all_known points (n + 1) rows) h))

pub one_switch_more : (sites : Sites) → are_known sites ≡ true → are_known (with_switch sites) ≡ true
one_switch_more sites h =
    subst (λ n. all_known n 0 sites.call_sites ≡ true) (sym (length-append sites.switches (Some true ∷ [])))
    (all_more_points (length sites.switches) 0 sites.call_sites h)

known_from : (points n : ℕ) (rows : List (Option CallSite)) (c : ℕ) (site : CallSite) → unreleased rows c ≡ Some site → all_known points n rows ≡ true
    → is_known points (n + c) site.target ≡ true
known_from points n [] c site e h = cc
known_from points n (None ∷ rows) zero site e h = cc
known_from points n (Some s ∷ rows) zero site e h =
    at_number points site.target n (n + 0) (omega arith)
    (ap (λ (t : CallSite). is_known points n t.target) (sym (same_Some s site e)) ∙ first_test (is_known points n s.target) (all_known points (n + 1) rows) h)
known_from points n (None ∷ rows) (suc c) site e h =
    at_number points site.target ((n + 1) + c) (n + suc c) (omega arith) (known_from points (n + 1) rows c site e h)
known_from points n (Some s ∷ rows) (suc c) site e h =
    at_number points site.target ((n + 1) + c) (n + suc c) (omega arith)
    (known_from points (n + 1) rows c site e (second_test (is_known points n s.target) (all_known points (n + 1) rows) h))

pub known_at : (points : ℕ) (rows : List (Option CallSite)) (c : ℕ) (site : CallSite) → unreleased rows c ≡ Some site → all_known points 0 rows ≡ true
    → is_known points c site.target ≡ true
known_at points rows c site e h = at_number points site.target (0 + c) c (omega arith) (known_from points 0 rows c site e h)

-- ---- what runs

within : (sites : Sites) (p : ℕ) → is_valid sites p ≡ true → p < length sites.switches
within sites p = by_switch (slice_get sites.switches p) refl
  where
    by_switch : (o : Option (Option Bool)) → slice_get sites.switches p ≡ o
        → option_map_or (λ valid. valid) (option_and_then (λ row. row) o) false ≡ true
        → p < length sites.switches
    by_switch None is h = cc
    by_switch (Some b) is h = slice_get_within sites.switches p b is

still_valid : (sites : Sites) (p : ℕ) → p < length sites.switches → is_valid (with_switch sites) p ≡ is_valid sites p
still_valid sites p lt =
    ap (λ (o : Option (Option Bool)). option_map_or (λ valid. valid) (option_and_then (λ row. row) o) false)
    (before_end sites.switches (Some true) p lt)

-- one switch point more
pub switch_walks : (sites : Sites) → are_known sites ≡ true → (c : ℕ)
    → (method_of (with_switch sites) c ≡ method_of sites c) × (path (with_switch sites) c ≡ path sites c)
switch_walks sites known c =
    site_walks sites (with_switch sites)
    (λ d site at. known_invalid sites (with_switch sites) (λ p lt e. still_valid sites p lt ∙ e) d site.target
    (known_at (length sites.switches) sites.call_sites d site at known))
    c
    (kept_on sites (with_switch sites) (c + 1) (path sites c) (on_path sites c) (λ d lt h. refl) (λ p valid h. still_valid sites p (within sites p valid)
    ∙ valid))

pub switch_runs : (sites : Sites) → are_known sites ≡ true → RunAsBefore sites (with_switch sites)
switch_runs sites known = record { same = λ c lt. (switch_walks sites known c).0 }

-- one call site more
pub site_more_walks : (sites : Sites) (kind : CallSiteKind) (ty : List ℕ) (t : Target) (c : ℕ) → c < length sites.call_sites
    → (method_of (with_site sites kind ty t) c ≡ method_of sites c) × (path (with_site sites kind ty t) c ≡ path sites c)
site_more_walks sites kind ty t c lt =
    site_walks sites (with_site sites kind ty t)
    (λ d site at. all_invalid sites (with_site sites kind ty t) (λ p e. e) site.target)
    c
    (kept_on sites (with_site sites kind ty t) (c + 1) (path sites c) (on_path sites c)
    (λ d less h. ap (option_and_then (λ (row : Option CallSite). row))
    (before_end sites.call_sites (Some (record { kind = kind; ty = ty; target = t })) d (omega arith)))
    (λ p valid h. valid))

pub site_runs : (sites : Sites) (kind : CallSiteKind) (ty : List ℕ) (t : Target) → RunAsBefore sites (with_site sites kind ty t)
site_runs sites kind ty t = record { same = λ c lt. (site_more_walks sites kind ty t c lt).0 }

-- another target
same_set : (rows : List (Option CallSite)) (c : ℕ) (site old : CallSite) → unreleased rows c ≡ Some old
    → unreleased (slice_set rows c (Some site)) c ≡ Some site
same_set [] c site old e = cc
same_set (row ∷ rows) zero site old e = refl
same_set (row ∷ rows) (suc c) site old e = same_set rows c site old e

other_row : (sites : Sites) (c : ℕ) (t : Target) (d : ℕ) → d ≢ c → unreleased (retargeted sites.call_sites c t) d ≡ unreleased sites.call_sites d
other_row sites c t d ne = by_site (unreleased sites.call_sites c)
  where
    by_site : (o : Option CallSite)
        → unreleased (option_map_or (λ site. slice_set sites.call_sites c (Some (record site { target = t }))) o sites.call_sites) d
        ≡ unreleased sites.call_sites d
    by_site None = refl
    by_site (Some site) = ap (option_and_then (λ (row : Option CallSite). row)) (set_other sites.call_sites c (Some (record site { target = t })) d ne)

-- of a call site that isn't on the way
pub other_walks : (sites : Sites) (c : ℕ) (t : Target) (d : ℕ) → has_key (path sites d) (key.Target c) ≡ false
    → (method_of (with_target sites c t) d ≡ method_of sites d) × (path (with_target sites c t) d ≡ path sites d)
other_walks sites c t d none =
    site_walks sites (with_target sites c t)
    (λ e site at. all_invalid sites (with_target sites c t) (λ p off. off) site.target)
    d
    (kept_on sites (with_target sites c t) (d + 1) (path sites d) (on_path sites d)
    (λ e less h. other_row sites c t e (λ is. both_ways (has_key (path sites d) (key.Target c)) none (ap (λ n. has_key (path sites d) (key.Target n)) (sym is)
    ∙ h)))
    (λ p valid h. valid))

pub others_run : (sites : Sites) (c : ℕ) (t : Target) → OthersRunAsBefore sites (with_target sites c t) c
others_run sites c t = record { same = λ d none. (other_walks sites c t d none).0 }

pub target_runs : (sites : Sites) (c : ℕ) (t : Target) → is_missing sites.call_sites c ≡ false
    → method_of (with_target sites c t) c ≡ evaluated sites c t
target_runs sites c t there = by_site (unreleased sites.call_sites c) refl
  where
    new : Sites
    new = with_target sites c t

    same : evaluated new c t ≡ evaluated sites c t
    same =
        (target_walks sites new (λ d site at. all_invalid sites new (λ p off. off) site.target) c t (all_invalid sites new (λ p off. off) t)
        (kept_on sites new c (way_by sites (way_below sites c) t) (on_target_way sites c t)
        (λ d less h. other_row sites c t d (λ is. absurd (omega arith))) (λ p valid h. valid))).runs

    by_site : (o : Option CallSite) → unreleased sites.call_sites c ≡ o
        → option_and_then (λ s. evaluated new c s.target)
        (unreleased (option_map_or (λ site. slice_set sites.call_sites c (Some (record site { target = t }))) o sites.call_sites) c) ≡ evaluated sites c t
    by_site None e = absurd (both_ways (is_missing sites.call_sites c) there (ap is_none e))
    by_site (Some site) e =
        ap (option_and_then (λ s. evaluated new c s.target)) (same_set sites.call_sites c (record site { target = t }) site e) ∙ same
