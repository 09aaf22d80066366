use Rattle.jl_server.proofs.Steps.{receipt_after, ends_after, longer_after, denied_seen, refused_seen}
use Rattle.jl_server.proofs.server.step_after.Goals as goal

pub returns-clause-receipt : goal.returns-clause-receipt
returns-clause-receipt g c =
    receipt_after g.K.Name.limits c.args.seen.now c.args.book.now c.step_judged.new.self c.args.event c.requires.begun c.step_judged.result
    c.step_judged.ensures.entry c.step_judged.ensures.receipt c.step_judged.ensures.legal

pub returns-clause-entry : goal.returns-clause-entry
returns-clause-entry g c =
    ends_after g.K.Name.limits c.args.seen.now c.args.book.now c.step_judged.new.self c.args.event c.requires.begun c.step_judged.result
    c.step_judged.ensures.entry c.step_judged.ensures.receipt

pub returns-clause-longer : goal.returns-clause-longer
returns-clause-longer g c =
    longer_after g.K.Name.limits c.args.seen.now c.args.book.now c.step_judged.new.self c.args.event c.requires.begun c.step_judged.result
    c.step_judged.ensures.entry c.step_judged.ensures.receipt

pub returns-clause-denied : goal.returns-clause-denied
returns-clause-denied g c =
    denied_seen g.K.Name.limits c.args.seen.now c.args.book.now c.step_judged.new.self c.args.event c.requires.begun c.step_judged.result
    c.step_judged.ensures.denied c.step_judged.ensures.legal

pub returns-clause-refused : goal.returns-clause-refused
returns-clause-refused g c =
    refused_seen g.K.Name.limits c.args.seen.now c.args.book.now c.step_judged.new.self c.args.event c.requires.begun c.step_judged.result
    c.step_judged.ensures.denied c.step_judged.ensures.refused
