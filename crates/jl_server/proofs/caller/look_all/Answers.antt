use Rattle.std.specs.Prelude.{map, get_or, None}
use Rattle.std.proofs.Common.{ap, ◌∙◌, inl}
use Rattle.jl_types.specs.Events.Fast.{fast_answer}
use Rattle.jl_server.specs.declared.table.Table.{Table}
use Rattle.jl_server.proofs.Next.{answers_shown}
use Rattle.jl_server.proofs.caller.look_all.Goals as goal

pub returns-in-Ok-clause-answers : goal.returns-in-Ok-clause-answers
returns-in-Ok-clause-answers g c =
    let entered = c.in-Ok.ensures in
    let calls = c.args.calls.now in
    inl (answers_shown c.in-Ok.reading.part.value calls c.in-Ok.list c.answer_all.new.answers entered.shown entered.list
    (c.answer_all.ensures ∙ ap (λ (y : Table). map (λ call. fast_answer (get_or y.links call.0 None) y.classes call.1) calls) c.get.ensures))
