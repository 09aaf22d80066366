use Rattle.std.specs.Prelude.{◌≡◌, ◌+◌, ◌-◌, ◌<◌, false, length, get_or, slice_set, if◌then◌else◌, Some, None}
use Rattle.std.proofs.Common.{rules, sym, subst, arith}
use Rattle.jl_types.specs.Values.World.{is_missing}
use Rattle.jl_renewal.specs.Staying.{invokes}
use Rattle.jl_renewal.specs.Marks.{marked, flagged_target}
use Rattle.jl_renewal.proofs.HeldLaws.{stays_after, turn_stays, turn_goes, flags_at_first}
use Rattle.jl_renewal.proofs.stays.keep_invoked.Goals as goal

pub loop-number-init : goal.loop-number-init
loop-number-init c =
    let sites = c.args.sites.now.call_sites in
    subst (λ n. c.args.stays.now ≡ stays_after (λ k. get_or c.args.stays.now k false) sites n) (sym c.few_call_sites-number.ensures.count)
    (flags_at_first c.args.stays.now sites c.requires)

pub loop-number-preserved-in-Some : goal.loop-number-preserved-in-Some
loop-number-preserved-in-Some c =
    let sites = c.args.sites.now.call_sites in
    let n = c.loop-number.number in
    let down : n ≡ n - 1 + 1 = omega (arith, c.loop-number-test.true) in
    let between = c.clear_if_released.new.stays in
    let takes : between ≡ (if is_missing sites (n - 1) then slice_set c.loop-number.stays (n - 1) false else c.loop-number.stays) = search rules in
    let is : flagged_target between sites (n - 1) ≡ Some c.in-Some.target.now = search rules in
    let marks : c.mark_invoked.new.flags ≡ marked (λ k. invokes k c.in-Some.target.now) between = search rules in
    turn_stays (λ k. get_or c.args.stays.now k false) sites (length c.args.sites.now.switches) (n - 1) c.in-Some.target.now c.loop-number.stays
    between c.mark_invoked.new.flags c.known_switches-points.ensures.known
    (subst (λ k. c.loop-number.stays ≡ stays_after (λ j. get_or c.args.stays.now j false) sites k) down c.loop-number.invariant) takes is marks

pub loop-number-preserved : goal.loop-number-preserved
loop-number-preserved c =
    let sites = c.args.sites.now.call_sites in
    let n = c.loop-number.number in
    let down : n ≡ n - 1 + 1 = omega (arith, c.loop-number-test.true) in
    let lt : n - 1 < length sites = omega (arith, c.loop-number-test.true, c.loop-number.auto.number, c.few_call_sites-number.ensures.count) in
    let between = c.clear_if_released.new.stays in
    let takes : between ≡ (if is_missing sites (n - 1) then slice_set c.loop-number.stays (n - 1) false else c.loop-number.stays) = search rules in
    let is : flagged_target between sites (n - 1) ≡ None = search rules in
    turn_goes (λ k. get_or c.args.stays.now k false) sites (n - 1) c.loop-number.stays between lt
    (subst (λ k. c.loop-number.stays ≡ stays_after (λ j. get_or c.args.stays.now j false) sites k) down c.loop-number.invariant) takes is
