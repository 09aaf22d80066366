use Rattle.std.specs.Prelude.{[]}
use Rattle.std.proofs.Common.{ap, ◌∙◌}
use Rattle.jl_types.specs.Events.Retirement.{gone_with}
use Rattle.jl_hierarchy.proofs.GoneLaws.{inserted_all, gone_once}
use Rattle.jl_hierarchy.proofs.retire.add_all.Goals as goal

pub returns-clause-ok : goal.returns-clause-ok
returns-clause-ok c =
    c.in_ok-append.ensures.keys
    ∙ inserted_all c.args.retired.now.keys c.in_ok-leaving.leaving.keys
    ∙ ap (gone_with c.args.retired.now.keys) c.in_ok-leaving.ensures
    ∙ gone_once c.args.retired.now.keys [] c.args.loaders.now
