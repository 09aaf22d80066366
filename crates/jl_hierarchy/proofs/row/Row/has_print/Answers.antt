use Rattle.std.proofs.Common.{ap, ◌∙◌, List}
use Rattle.std.specs.List.{list_any}
use Rattle.jl_types.specs.Values.World.{Class}
use Rattle.jl_hierarchy.specs.declared.row.Printed.{Printed}
use Rattle.jl_hierarchy.specs.Prints.{has_print}
use Rattle.jl_hierarchy.specs.Redeclared.{has_method}
use Rattle.jl_hierarchy.proofs.PrintLaws.{any_sorted}
use Rattle.jl_hierarchy.proofs.row.Row.has_print.Goals as goal

pub returns : goal.returns
returns c =
    let inside = c.behind-self.inside in
    c.is_among.ensures ∙ ap (λ (es : List Printed). list_any (has_print c.args.print) es) c.as_slice.ensures.value
    ∙ any_sorted c.args.print inside.prints.items inside.class.file.methods c.behind-self.invariant
    ∙ ap (λ (k : Class). has_method c.args.print k.file.methods) (c.behind-self.view_is ∙ c.deref.ensures ∙ c.self.view_is)
