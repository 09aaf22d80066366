-- What a release takes, what it leaves, and what speaks against none.
use Rattle.std.specs.Prelude.{◌≡◌, ℕ, zero, suc, ◌<◌, ◌==◌, Bool, true, false, not, ◌&&◌, ◌||◌, List, [], ◌∷◌, find, get_or, length, slice_get, slice_set}
use Rattle.std.specs.Prelude.{Option, Some, None, option_map, option_and_then, Err, if◌then◌else◌}
use Rattle.std.specs.List.{list_any, range_with_len}
use Rattle.std.proofs.Common.{refl, ap, sym, subst, ◌∙◌}
use Rattle.std.proofs.lemmas.Bool.{both_ways}
use Rattle.std.proofs.lemmas.Bool.Decides.{Decides-eqb}
use Rattle.std.proofs.lemmas.List.{length-set}
use Rattle.std.proofs.lemmas.List.Quantifiers.{position-Some}
use Rattle.std.proofs.lemmas.Option.{slice_get_within}
use Rattle.jl_class.specs.Site.{Site}
use Rattle.jl_pool.specs.declared.reference.CallSiteSpecifier.{CallSiteSpecifier}
use Rattle.jl_class.specs.declared.site.Operand.TheVariants as operand
use Rattle.jl_types.specs.declared.answer.Unlinked.TheVariants.{Gone}
use Rattle.jl_types.specs.declared.event.EventOf.TheVariants as event
use Rattle.jl_types.specs.declared.ids.Place.{Place}
use Rattle.jl_types.specs.declared.refusal.ReleaseFault.TheVariants as fault
use Rattle.jl_types.specs.Values.Target.{Target}
use Rattle.jl_types.specs.Values.World.{CallSite, Sites, World, unreleased, is_missing}
use Rattle.jl_types.specs.Values.Members.{is_present}
use Rattle.jl_types.specs.Linkage.Targets.{evaluated, method_of}
use Rattle.jl_types.specs.Linkage.Stages.{Waits, by_method, by_binding, bound_to, by_operand, invocation_at, stage_of, stage_at}
use Rattle.jl_types.specs.Linkage.Links.{link_of, scratch}
use Rattle.jl_types.specs.Events.Retirement.{is_listed, has_target, names_from, targeted}
use Rattle.jl_types.specs.Events.Release.{invokes_one, guards_by_one, stays_with, first_with, release_fault, without, released_from}
use Rattle.jl_types.specs.Events.Verdict.{step}
use Rattle.jl_types.proofs.Firsts.{first_none}
use Rattle.jl_types.proofs.Retiring.{none_found, no_fault, at_none}

-- ---- numbers

pub length_without : {A : Type 0} (going : List ℕ) (rows : List (Option A)) → length (without rows going) ≡ length rows
length_without [] rows = refl
length_without (k ∷ going) rows = length_without going (slice_set rows k None) ∙ length-set rows k None

-- ---- rows

emptied_there : {A : Type 0} (rows : List (Option A)) (k : ℕ) → unreleased (slice_set rows k None) k ≡ None
emptied_there [] k = refl
emptied_there (row ∷ rows) zero = refl
emptied_there (row ∷ rows) (suc k) = emptied_there rows k

kept_elsewhere : {A : Type 0} (rows : List (Option A)) (j k : ℕ) → (j ≡ k → ⊥) → unreleased (slice_set rows j None) k ≡ unreleased rows k
kept_elsewhere [] j k apart = refl
kept_elsewhere (row ∷ rows) zero zero apart = absurd (apart refl)
kept_elsewhere (row ∷ rows) zero (suc k) apart = refl
kept_elsewhere (row ∷ rows) (suc j) zero apart = refl
kept_elsewhere (row ∷ rows) (suc j) (suc k) apart = kept_elsewhere rows j k (λ same. apart (ap suc same))

-- what is listed has nothing any more, and all else has what it had
pub unreleased_without : {A : Type 0} (going : List ℕ) (rows : List (Option A)) (k : ℕ)
    → unreleased (without rows going) k ≡ (if is_listed going k then None else unreleased rows k)
unreleased_without [] rows k = refl
unreleased_without {A} (j ∷ going) rows k =
    unreleased_without going (slice_set rows j None) k ∙ by_tests (j == k) (is_listed going k) refl
  where
    by_tests : (a b : Bool) → (j == k) ≡ a
        → ◌≡◌ {A = Option A} (if b then None else unreleased (slice_set rows j None) k) (if a || b then None else unreleased rows k)
    by_tests true true is = refl
    by_tests true false is =
        subst (λ (n : ℕ). unreleased (slice_set rows j None) n ≡ None) ((Decides-eqb j k).0 is) (emptied_there rows j)
    by_tests false true is = refl
    by_tests false false is = kept_elsewhere rows j k (λ same. both_ways (j == k) is ((Decides-eqb j k).1 same))

-- ---- what isn't refused

-- nothing speaks against the release
pub record MayRelease (sites : Sites) (going points : List ℕ) : Type 0 where
  pub call_sites : list_any (is_missing sites.call_sites) going ≡ false
  pub switches : list_any (is_missing sites.switches) points ≡ false
  -- no call site that stays invokes one that goes, or guards by a switch point that goes
  pub uninvoked : (c : ℕ) (site : CallSite) → unreleased sites.call_sites c ≡ Some site → is_listed going c ≡ false
      → invokes_one going site.target ≡ false
  pub unguarded : (c : ℕ) (site : CallSite) → unreleased sites.call_sites c ≡ Some site → is_listed going c ≡ false
      → guards_by_one points site.target ≡ false

-- a call site that there is has a number below the number of all
pub unreleased_within : {A : Type 0} (rows : List (Option A)) (k : ℕ) (row : A) → unreleased rows k ≡ Some row → k < length rows
unreleased_within {A} rows k row at = by_row (slice_get rows k) refl at
  where
    by_row : (o : Option (Option A)) → slice_get rows k ≡ o → option_and_then (λ r. r) o ≡ Some row → k < length rows
    by_row None is e = cc
    by_row (Some r) is e = slice_get_within rows k r is

-- none stays with such a target
none_with : (sites : Sites) (going : List ℕ) (test : Target → Bool) → first_with sites going test ≡ None
    → (c : ℕ) (site : CallSite) → unreleased sites.call_sites c ≡ Some site → is_listed going c ≡ false → test site.target ≡ false
none_with sites going test none c site at stays =
    sym (ap (λ (b : Bool). not b && has_target test (unreleased sites.call_sites c)) stays ∙ ap (has_target test) at)
    ∙ at_none (stays_with sites going test) (length sites.call_sites)
    (none_found (stays_with sites going test) (range_with_len 0 (length sites.call_sites)) none) c (unreleased_within sites.call_sites c site at)

pub may_release : (sites : Sites) (call_sites points : List ℕ) → release_fault sites call_sites points ≡ None
    → MayRelease sites call_sites points
may_release sites call_sites points none =
    let a = first_none (option_map fault.UnknownCallSite (find (is_missing sites.call_sites) call_sites)) _ none in
    let b = first_none (option_map fault.UnknownSwitch (find (is_missing sites.switches) points)) _ a.1 in
    let c = first_none (option_map fault.Invoked (first_with sites call_sites (invokes_one call_sites))) _ b.1 in
    let d = first_none (option_map fault.Guarded (first_with sites call_sites (guards_by_one points))) [] c.1 in
    record {
      call_sites = none_found (is_missing sites.call_sites) call_sites (no_fault fault.UnknownCallSite _ a.0);
      switches = none_found (is_missing sites.switches) points (no_fault fault.UnknownSwitch _ b.0);
      uninvoked = none_with sites call_sites (invokes_one call_sites) (no_fault fault.Invoked _ c.0);
      unguarded = none_with sites call_sites (guards_by_one points) (no_fault fault.Guarded _ d.0);
    }

-- ---- sites

-- a call site that is released runs nothing
pub runs_nothing : (sites : Sites) (call_sites points : List ℕ) (c : ℕ) → is_listed call_sites c ≡ true
    → method_of (released_from sites call_sites points) c ≡ None
runs_nothing sites call_sites points c goes =
    ap (option_and_then (λ site. evaluated (released_from sites call_sites points) c site.target))
    (unreleased_without call_sites sites.call_sites c ∙ ap (λ (b : Bool). if b then None else unreleased sites.call_sites c) goes)

-- an invokedynamic that is bound to one is gone
pub gone_after_release : (w : World) (call_sites points : List ℕ) (s c : ℕ) (place : Place) (site : Site) (specifier : CallSiteSpecifier (List ℕ))
    → slice_get w.places s ≡ Some place → invocation_at w.classes place ≡ Some site → site.operand ≡ operand.CallSite specifier
    → bound_to w s ≡ Some c → is_listed call_sites c ≡ true → scratch (step w (event.Release call_sites points)) s ≡ Err Gone
gone_after_release w call_sites points s c place site specifier at invokes dynamic bound goes =
    ap (λ (o : Option Place). link_of w.classes (stage_at after s o)) at ∙ by_presence (is_present w.classes place.class)
  where
    after : World
    after = step w (event.Release call_sites points)

    stage_there : stage_of after s place.class (invocation_at w.classes place) ≡ Waits Gone
    stage_there =
        ap (stage_of after s place.class) invokes
        ∙ ap (by_operand after s place.class site.kind) dynamic
        ∙ ap (by_binding after.sites) bound
        ∙ ap by_method (runs_nothing w.sites call_sites points c goes)

    by_presence : (b : Bool) → link_of w.classes (if b then stage_of after s place.class (invocation_at w.classes place) else Waits Gone) ≡ Err Gone
    by_presence true = ap (link_of w.classes) stage_there
    by_presence false = refl

-- ---- loaders

row_there : {A : Type 0} (rows : List (Option A)) (k : ℕ) → get_or rows k None ≡ unreleased rows k
row_there [] k = refl
row_there (row ∷ rows) zero = refl
row_there (row ∷ rows) (suc k) = row_there rows k

-- a call site that is released has no target, so it holds no loader
pub none_targeted : (w : World) (call_sites points : List ℕ) (loader c : ℕ)
    → targeted w.classes (without w.sites.call_sites call_sites) loader ≡ Some c → is_listed call_sites c ≡ false
none_targeted w call_sites points loader c at = by_list (is_listed call_sites c) refl
  where
    rows : List (Option CallSite)
    rows = without w.sites.call_sites call_sites

    test : Option CallSite → Bool
    test = has_target (names_from w.classes loader)

    there : test (unreleased rows c) ≡ true
    there = sym (ap test (row_there rows c)) ∙ (position-Some test rows c None at).1

    by_list : (b : Bool) → is_listed call_sites c ≡ b → b ≡ false
    by_list false is = refl
    by_list true is =
        sym there
        ∙ ap test (unreleased_without call_sites w.sites.call_sites c ∙ ap (λ (b : Bool). if b then None else unreleased w.sites.call_sites c) is)
