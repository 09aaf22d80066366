use Rattle.std.specs.Prelude.{◌≡◌, false, slice_set}
use Rattle.std.proofs.Common.{rules, sym, ◌∙◌}
use Rattle.jl_renewal.proofs.MarkLaws.{clear_next, clear_end}
use Rattle.jl_renewal.proofs.marks.clear_switches.Goals as goal

pub loop-point-preserved : goal.loop-point-preserved
loop-point-preserved c =
    let one : c.set_flag.new.flags ≡ slice_set c.loop-point.flags c.point-item.result false = search rules in
    clear_next c.args.switches.now c.loop-point.point-index c.point-item.result c.loop-point.flags
    c.set_flag.new.flags c.loop-point-test.true c.point-item.is one
    ∙ c.loop-point.invariant

pub returns : goal.returns
returns c = sym (clear_end c.args.switches.now c.loop-point.point-index c.loop-point.flags c.loop-point-test.false) ∙ c.loop-point.invariant
