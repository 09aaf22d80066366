use Rattle.std.specs.Prelude.{◌≡◌, ◌+◌, ◌≤◌, length, Some, None}
use Rattle.std.proofs.Common.{rules, sym, ap, ◌∙◌, arith}
use Rattle.jl_renewal.specs.Staying.{guards_by}
use Rattle.jl_renewal.specs.Marks.{marked, flagged_target}
use Rattle.jl_renewal.proofs.HeldLaws.{guarded_from, guards_next, guards_skip, guards_end, guards_of_all}
use Rattle.jl_renewal.proofs.stays.keep_guards.Goals as goal
use Rattle.jl_renewal.proofs.stays.keep_guards.Goals.{in-Some, in_default}

pub loop-number-preserved : goal.loop-number-preserved
loop-number-preserved c =
    let sites = c.args.sites.now.call_sites in
    let stays = c.args.stays.now in
    let n = c.loop-number.number in
    (elim c.match-staying_target.branch [
      | in-Some w ↦
          let is : flagged_target stays sites n ≡ Some w.in-Some.target.now = search rules in
          let marks : c.match-staying_target.kept ≡ marked (λ p. guards_by p w.in-Some.target.now) c.loop-number.kept = search rules in
          guards_next stays sites n c.loop-number.kept w.in-Some.target.now c.match-staying_target.kept is marks
      | in_default w ↦
          let is : flagged_target stays sites n ≡ None = search rules in
          ap (guarded_from stays sites (n + 1)) w.kept-is ∙ guards_skip stays sites n c.loop-number.kept is
    ])
    ∙ c.loop-number.invariant

pub returns : goal.returns
returns c =
    let past : length c.args.sites.now.call_sites ≤ c.loop-number.number = omega (arith, c.loop-number-test.false, c.few_call_sites-number-end.ensures.count) in
    sym (guards_end c.args.stays.now c.args.sites.now.call_sites c.loop-number.number c.loop-number.kept past)
    ∙ (c.loop-number.invariant ∙ guards_of_all c.args.stays.now c.args.sites.now.call_sites c.args.kept.now)
