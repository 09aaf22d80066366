use Rattle.jl_types.specs.Linkage.Stages.{stage}
use Rattle.jl_types.proofs.Agreement.{unlinked_call, call_unlinked}
use Rattle.jl_types.proofs.laws.unlinked_calls.Goals as goal

pub returns : goal.returns
returns c = λ w s reason recv. (unlinked_call w.classes (stage w s) reason recv, call_unlinked w.classes (stage w s) reason recv)
