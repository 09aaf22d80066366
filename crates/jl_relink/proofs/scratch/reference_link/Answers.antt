use Rattle.std.specs.Prelude.{Ok}
use Rattle.std.proofs.Common.{sym, ap, ◌∙◌}
use Rattle.jl_types.specs.Linkage.Resolution.{resolved}
use Rattle.jl_types.specs.Linkage.Stages.{by_resolution}
use Rattle.jl_relink.proofs.StageLaws.{selects_link}
use Rattle.jl_relink.proofs.scratch.reference_link.Goals as goal

pub returns-in-Selects-clause-link : goal.returns-in-Selects-clause-link
returns-in-Selects-clause-link c =
    let cs = c.args.classes.now in
    let stage = by_resolution cs c.args.kind c.args.caller c.args.reference.now (resolved cs c.args.caller c.args.reference.now) in
    ap Ok c.selected_link.ensures.link ∙ sym (selects_link cs stage c.in-Selects.selection c.in-Selects.ensures)
