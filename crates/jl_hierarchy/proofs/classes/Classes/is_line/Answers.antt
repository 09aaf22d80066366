use Rattle.std.proofs.Common.{sym}
use Rattle.jl_hierarchy.proofs.Lines.{above_more}
use Rattle.jl_hierarchy.proofs.classes.Classes.is_line.Goals as goal

pub loop-interface-preserved : goal.loop-interface-preserved
loop-interface-preserved c a h plain =
    above_more c.args.self.now c.args.row.now c.interfaces-interface-items.result.now c.loop-interface.interface-index c.interface-item.result a
    c.loop-interface-test.true (sym c.interface-item.is) (λ earlier. c.loop-interface.invariant a earlier plain)
    (λ up. c.is_on_line.ensures c.if-not-is_on_line.false (c.are_superclass_chains.ensures c.if-not-are_superclass_chains.false) a up plain) h
