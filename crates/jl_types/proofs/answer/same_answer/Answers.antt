use Rattle.jl_types.specs.contracts.answer.AnswerPartialEq.TheImpl as same
use Rattle.jl_types.proofs.SameAnswer.{answer_decides, by_decision}
use Rattle.jl_types.proofs.answer.same_answer.Goals as goal

pub returns : goal.returns
returns c = by_decision c.eq.result ((same.ghosts).eq c.args.a c.args.b) c.eq.ensures (answer_decides c.args.a c.args.b)
