use Rattle.std.proofs.Common.{sym, ap, ◌∙◌}
use Rattle.jl_server.specs.History.{is_install}
use Rattle.jl_server.proofs.Logs.{event_planned, refused_step}
use Rattle.jl_server.proofs.book.next_step.Goals as goal

pub returns-in-Some-clause-installs : goal.returns-in-Some-clause-installs
returns-in-Some-clause-installs g c =
    c.in-Some.ensures.installs ∙ c.installs-installs.ensures
    ∙ ap is_install (sym (event_planned g.K.Name.limits c.args.list.now c.args.event c.in-Ok.planned c.in-Ok.ensures.planned))

pub returns-in-None-clause-refused : goal.returns-in-None-clause-refused
returns-in-None-clause-refused g c =
    refused_step g.K.Name.limits c.args.list.now c.args.event c.in-Ok.planned c.in-Ok.ensures.planned c.unmade.result c.unmade.ensures
