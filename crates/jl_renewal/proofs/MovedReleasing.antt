-- A release is accepted in the fresh core without those that are gone, and leads there to what it has led to in the old one.
use Rattle.std.specs.Prelude.{◌≡◌, ℕ, ◌||◌, Bool, true, false, List, filter_map, map, Some, option_map, is_some, IsOk}
use Rattle.std.specs.List.{list_any}
use Rattle.std.proofs.Common.{refl, sym, ap, ◌∙◌}
use Rattle.jl_types.specs.declared.limits.Limits.{Limits}
use Rattle.jl_types.specs.declared.event.EventOf.TheVariants as event
use Rattle.jl_types.specs.declared.refusal.Refusal.TheVariants as refusal
use Rattle.jl_types.specs.Values.Target.{Target, Method, Guard, Invoker}
use Rattle.jl_types.specs.Values.World.{World, CallSite, unreleased}
use Rattle.jl_types.specs.Events.Retirement.{is_listed}
use Rattle.jl_types.specs.Events.Release.{invokes_one, guards_by_one, release_fault, without}
use Rattle.jl_types.specs.Events.Verdict.{verdict}
use Rattle.jl_types.proofs.Releasing.{MayRelease, may_release}
use Rattle.jl_relink.proofs.Closing.{no_fault}
use Rattle.jl_renewal.specs.Moved.{Flags, Rests, Names, moved, kept, moved_target, moved_call_site, moved_world, target_there}
use Rattle.jl_renewal.proofs.MovedFollows.{Follows}
use Rattle.jl_renewal.proofs.MovedLists.{shifted_is, moved_onto, among_moved, there_is}
use Rattle.jl_renewal.proofs.MovedNames.{guarded_some, mapped_some}
use Rattle.jl_renewal.proofs.MovedSites.{allowed, all_there}
use Rattle.jl_renewal.proofs.MovedTargets.{inv_map, call_site_at}
use Rattle.jl_renewal.proofs.ReleasedRows.{missing_map, kept_without, map_without}
use Rattle.jl_renewal.proofs.Releasing.{no_release_fault}

module _ (k : Flags) (w : World) (rests : Rests k w) (names : Names k w) (call_sites points : List ℕ) where
  abbrev v : World
  v = moved_world k w

  -- those that aren't gone
  abbrev going : List ℕ
  going = filter_map (moved k.call_sites) call_sites

  abbrev switches : List ℕ
  switches = filter_map (moved k.switches) points

  -- ---- a target whose parts are all there names one of them where it did

  invokes_there : (t : Target) → is_some (target_there k t) ≡ true → invokes_one going (moved_target k t) ≡ invokes_one call_sites t
  invokes_there (Method m) e = refl
  invokes_there (Guard p first fallback) e =
      let parts = guarded_some (moved k.switches p) (target_there k first) (target_there k fallback) e in
      let x = invokes_there first parts.1 in
      let y = invokes_there fallback parts.2 in
      λ i. x i || y i
  invokes_there (Invoker c) e =
      let d = there_is (moved k.call_sites c) (mapped_some Invoker (moved k.call_sites c) e) in
      ap (is_listed going) (shifted_is k.call_sites c d.0 d.1) ∙ among_moved k.call_sites call_sites c d.0 d.1

  guards_there : (t : Target) → is_some (target_there k t) ≡ true → guards_by_one switches (moved_target k t) ≡ guards_by_one points t
  guards_there (Method m) e = refl
  guards_there (Guard p first fallback) e =
      let parts = guarded_some (moved k.switches p) (target_there k first) (target_there k fallback) e in
      let q = there_is (moved k.switches p) parts.0 in
      let here = ap (is_listed switches) (shifted_is k.switches p q.0 q.1) ∙ among_moved k.switches points p q.0 q.1 in
      let x = guards_there first parts.1 in
      let y = guards_there fallback parts.2 in
      λ i. here i || (x i || y i)
  guards_there (Invoker c) e = refl

  -- ---- nothing speaks against it there

  -- a call site of the fresh core, as that of the old one
  record WasThere (d : ℕ) (site : CallSite) : Type 0 where
    number : ℕ
    old : CallSite
    at : unreleased w.sites.call_sites number ≡ Some old
    same : moved_call_site k old ≡ site
    stays : is_listed call_sites number ≡ false
    whole : is_some (target_there k old.target) ≡ true

  was_there : (d : ℕ) (site : CallSite) → unreleased v.sites.call_sites d ≡ Some site → is_listed going d ≡ false → WasThere d site
  was_there d site at other =
      let c = moved_onto k.call_sites d in
      let row = inv_map (moved_call_site k) (unreleased w.sites.call_sites c.0) site (sym (call_site_at k w rests c.0 d c.1) ∙ at) in
      record {
        number = c.0;
        old = row.0;
        at = row.1;
        same = row.2;
        stays = sym (among_moved k.call_sites call_sites c.0 d c.1) ∙ other;
        whole = names.targets c.0 row.0 row.1 (ap is_some c.1);
      }

  may_there : MayRelease w.sites call_sites points → MayRelease v.sites going switches
  may_there may = record {
    call_sites =
        ap (λ (p : ℕ → Bool). list_any p going) (λ i d. missing_map (moved_call_site k) (kept k.call_sites w.sites.call_sites) d i)
        ∙ all_there k.call_sites w.sites.call_sites call_sites may.call_sites;
    switches = all_there k.switches w.sites.switches points may.switches;
    uninvoked = λ d site at other.
        let was = was_there d site at other in
        ap (λ (s : CallSite). invokes_one going s.target) (sym was.same)
        ∙ (invokes_there was.old.target was.whole ∙ may.uninvoked was.number was.old was.at was.stays);
    unguarded = λ d site at other.
        let was = was_there d site at other in
        ap (λ (s : CallSite). guards_by_one switches s.target) (sym was.same)
        ∙ (guards_there was.old.target was.whole ∙ may.unguarded was.number was.old was.at was.stays);
  }

  pub release_follows : (limits more : Limits) → IsOk (verdict limits w (event.Release call_sites points))
      → Follows more k w (event.Release call_sites points) (event.Release going switches)
  release_follows limits more accepted =
      let may = may_release w.sites call_sites points (no_fault refusal.Release (release_fault w.sites call_sites points) _ accepted) in
      let rows : without v.sites.call_sites going ≡ map (option_map (moved_call_site k)) (kept k.call_sites (without w.sites.call_sites call_sites)) =
      sym (ap (map (option_map (moved_call_site k))) (kept_without k.call_sites w.sites.call_sites call_sites)
      ∙ map_without (moved_call_site k) (kept k.call_sites w.sites.call_sites) going) in
      let valid = sym (kept_without k.switches w.sites.switches points) in
      record {
        accepted = allowed refusal.Release (release_fault v.sites going switches) _ (no_release_fault v.sites going switches (may_there may));
        after = λ i. record v { sites = record { call_sites = rows i; switches = valid i } };
      }
