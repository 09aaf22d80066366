use Rattle.std.proofs.Common.{◌∙◌}
use Rattle.jl_types.specs.Linkage.Resolution.{resolved}
use Rattle.jl_types.specs.Linkage.Stages.{by_resolution}
use Rattle.jl_relink.proofs.StageLaws.{search_answer}
use Rattle.jl_relink.proofs.answer.reference_answer.Goals as goal

pub returns-in-Some : goal.returns-in-Some
returns-in-Some c =
    let cs = c.args.classes.now in
    let stage = by_resolution cs c.args.kind c.args.caller c.args.reference.now (resolved cs c.args.caller c.args.reference.now) in
    c.special_answer.ensures
    ∙ search_answer cs c.args.caller c.args.reference.now stage c.in-Some.outcome c.args.recv c.in-Searches.ensures c.in-Some.ensures
