use Rattle.jl_memo.proofs.Right.{row_answers, row_later}
use Rattle.jl_memo.proofs.laws.what_is_remembered_stays.Goals as goal

pub returns-clause-answer : goal.returns-clause-answer
returns-clause-answer c = row_answers

pub returns-clause-right : goal.returns-clause-right
returns-clause-right c = λ h more s x o right order. row_later h more s x o right order
