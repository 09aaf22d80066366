use Rattle.std.proofs.Common.{ap, sym, subst, ◌∙◌}
use Rattle.jl_types.specs.Values.World.{Classes}
use Rattle.jl_hierarchy.specs.Prints.{print_of}
use Rattle.jl_hierarchy.specs.Redeclared.{Marked, is_marked, AreMarked}
use Rattle.jl_hierarchy.proofs.Redeclaring.{not_redeclared}
use Rattle.jl_hierarchy.proofs.classes.Classes.is_redeclared_below.Goals as goal

pub returns : goal.returns
returns c unmarked seen =
    not_redeclared c.args.self.now c.args.sought.now.name c.args.sought.now.ty c.self.inside.marks.value
    (subst (λ (k : Classes). AreMarked k.rows c.self.inside.marks.value) c.self.view_is c.self.invariant.1.marked) c.args.class seen
    (ap (λ (ms : Marked). is_marked ms c.args.class (print_of c.args.sought.now.name c.args.sought.now.ty)) (sym c.deref.ensures)
    ∙ ap (is_marked c.deref.result.now c.args.class) (sym c.print.ensures) ∙ sym c.has.ensures ∙ unmarked)
