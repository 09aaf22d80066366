use Rattle.std.proofs.Common.{◌≡◌, subst}
use Rattle.std.specs.Prelude.{is_none}
use Rattle.jl_types.specs.Events.Definitions.{define_fault}
use Rattle.jl_report.specs.Gathering.{most_classes}
use Rattle.jl_report.proofs.GatherLaws.{is_refused}
use Rattle.jl_report.proofs.defining.is_barred.Goals as goal

pub returns : goal.returns
returns c =
    let cs = c.args.classes.now in
    let file = c.args.file.now in
    is_refused c.admits.result (define_fault most_classes cs 0 file)
    (subst (λ loader. c.admits.result ≡ is_none (define_fault most_classes cs loader file)) c.first_loader.ensures c.admits.ensures)
