use Rattle.std.specs.Prelude.{List, IfErr, OnOk}
use Rattle.std.proofs.Common.{subst}
use Rattle.jl_types.specs.Events.Event.{Event}
use Rattle.jl_renewal.specs.Adds.{Adds, IsStoppedAt}
use Rattle.jl_renewal.proofs.KeptLaws.{told_by_kept}
use Rattle.jl_renewal.proofs.classes.add_classes.Goals as goal

pub returns-clause-adds : goal.returns-clause-adds
returns-clause-adds g c =
    subst
    (λ (es : List Event). OnOk c.add_told.result (Adds es (g.M.EventMachine.state c.args.fresh.now) (g.M.EventMachine.state c.add_told.new.fresh)))
    (told_by_kept c.args.old.now c.args.numbers.now c.args.log.now c.kept.result.now c.kept.ensures.kept)
    c.add_told.ensures.adds

pub returns-clause-stops : goal.returns-clause-stops
returns-clause-stops g c =
    subst
    (λ (es : List Event). IfErr c.add_told.result (IsStoppedAt es (g.M.EventMachine.state c.args.fresh.now) (g.M.EventMachine.state c.add_told.new.fresh)))
    (told_by_kept c.args.old.now c.args.numbers.now c.args.log.now c.kept.result.now c.kept.ensures.kept)
    c.add_told.ensures.stops
