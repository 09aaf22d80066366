use Rattle.jl_server.proofs.FastLaws.{installed_is_dispatch}
use Rattle.jl_server.proofs.laws.fast_answers_are_the_calls.Goals as goal

pub returns : goal.returns
returns c = installed_is_dispatch
