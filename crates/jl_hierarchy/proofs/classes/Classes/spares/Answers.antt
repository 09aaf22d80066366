use Rattle.std.specs.Prelude.{◌||◌, ◌==◌, not}
use Rattle.std.specs.List.{list_any}
use Rattle.std.proofs.Common.{ap, sym, ◌∙◌}
use Rattle.jl_types.specs.Events.Definitions.{is_unknown}
use Rattle.jl_hierarchy.proofs.GoneLaws.{may_go, none_some}
use Rattle.jl_hierarchy.proofs.classes.Classes.spares.Goals as goal

pub returns : goal.returns
returns c = λ yes.
    may_go c.args.self.now c.args.leaving.now
    (sym (c.may_not_go.ensures
    ∙ ap (list_any (λ l. is_unknown c.args.self.now l || (l == 0))) (c.as_slice.ensures.value ∙ c.leaving.view_is)) ∙ c.if-may_not_go.false)
    (sym c.first_heir_of_any.ensures ∙ none_some c.first_heir_of_any.result (sym c.is_some.ensures ∙ c.if-is_some.false))
    (sym c.first_recorder_of_any.ensures ∙ none_some c.first_recorder_of_any.result (c.is_none.ensures ∙ ap not yes))
