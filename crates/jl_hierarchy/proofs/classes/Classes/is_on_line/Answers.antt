use Rattle.std.proofs.Common.{sym, ◌∙◌}
use Rattle.jl_hierarchy.proofs.Lines.{above_by_interface}
use Rattle.jl_hierarchy.proofs.classes.Classes.is_on_line.Goals as goal

pub returns : goal.returns
returns c known lines a up plain =
    above_by_interface c.args.self.now c.superclass.ensures.ordered c.args.row.now lines c.args.interface
    (sym c.is_interface.ensures ∙ c.if-not-is_interface.false)
    (λ s e. c.has_above.ensures known s (c.superclass.ensures.same ∙ e)) a up plain
