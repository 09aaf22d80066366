use Rattle.std.specs.Prelude.{get_or, None}
use Rattle.std.proofs.Common.{ap, ◌∙◌, inl}
use Rattle.jl_types.specs.Events.Fast.{fast_answer}
use Rattle.jl_server.specs.declared.table.Table.{Table}
use Rattle.jl_server.proofs.Next.{answer_shown}
use Rattle.jl_server.proofs.caller.look.Goals as goal

pub returns-in-Ok-clause-answer : goal.returns-in-Ok-clause-answer
returns-in-Ok-clause-answer g c =
    let entered = c.in-Ok.ensures in
    inl (answer_shown c.in-Ok.reading.part.value c.args.site c.args.recv c.in-Ok.list c.answer-answer.result entered.shown entered.list
    (c.answer-answer.ensures ∙ ap (λ (y : Table). fast_answer (get_or y.links c.args.site None) y.classes c.args.recv) c.get.ensures))
