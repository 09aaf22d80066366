use Rattle.jl_server.proofs.Steps.{is_accepted, is_grown, is_refused}
use Rattle.jl_server.proofs.book.step_on.Goals as goal

pub returns-in-Ok-clause-accepted : goal.returns-in-Ok-clause-accepted
returns-in-Ok-clause-accepted g c =
    is_accepted g.K.Name.limits c.args.list.now c.publish_next.new.list c.args.event c.in-Ok.planned c.in-Ok.ensures.planned
    c.publish_next.result c.publish_next.ensures.list

pub returns-in-Ok-clause-entry : goal.returns-in-Ok-clause-entry
returns-in-Ok-clause-entry g c =
    is_grown g.K.Name.limits c.args.list.now c.publish_next.new.list c.args.event c.in-Ok.planned c.in-Ok.ensures.planned
    c.publish_next.result c.publish_next.ensures.list

pub returns-in-Ok-clause-refused : goal.returns-in-Ok-clause-refused
returns-in-Ok-clause-refused g c =
    is_refused g.K.Name.limits c.args.list.now c.publish_next.new.list c.args.event c.in-Ok.planned c.in-Ok.ensures.planned
    c.publish_next.result c.publish_next.ensures.refused
