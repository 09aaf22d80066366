use Rattle.std.specs.Prelude.{get_or, None}
use Rattle.std.proofs.Common.{◌∙◌, inl}
use Rattle.jl_memo.specs.Answers.{answer_with}
use Rattle.jl_server.proofs.MemoLaws.{with_shown}
use Rattle.jl_server.proofs.caller.look_with.Goals as goal

pub returns-in-Ok-clause-answer : goal.returns-in-Ok-clause-answer
returns-in-Ok-clause-answer g c =
    let entered = c.in-Ok.ensures in
    inl (with_shown c.in-Ok.reading.part.value c.args.memo.now.sets c.args.site c.args.recv c.in-Ok.list c.answer_with-answer.result entered.shown entered.list
    (c.answer_with-answer.ensures
    ∙ (λ i. answer_with (c.rows.ensures.rows i) (get_or (c.get.ensures i).links c.args.site None) (c.get.ensures i).classes c.args.site c.args.recv)))
