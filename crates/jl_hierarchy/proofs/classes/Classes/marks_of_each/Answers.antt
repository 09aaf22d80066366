use Rattle.std.proofs.Common.{sym}
use Rattle.jl_hierarchy.proofs.Lines.{told_more, told_all}
use Rattle.jl_hierarchy.proofs.classes.Classes.marks_of_each.Goals as goal

pub loop-method-preserved : goal.loop-method-preserved
loop-method-preserved c =
    told_more c.args.self.now c.args.superclass c.args.methods.now c.loop-method.marks.items c.mark_upward.new.marks.items c.loop-method.place c.in-Some.method
    c.print_of_method-print.result (sym c.in-Some.ensures) c.print_of_method-print.ensures c.in_ok-left.ensures.kept
    c.in_ok-left.field-0 c.in-Some-2.left c.in-Some-2.is c.in_ok-left.ensures.told c.loop-method.invariant

pub returns : goal.returns
returns c =
    told_all c.args.self.now c.args.superclass c.args.methods.now c.loop-method.marks.items c.loop-method.place
    (sym c.in_default.ensures) c.loop-method.invariant
