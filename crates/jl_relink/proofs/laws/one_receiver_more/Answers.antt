use Rattle.jl_relink.proofs.OneReceiver.{one_more}
use Rattle.jl_relink.proofs.laws.one_receiver_more.Goals as goal

pub returns : goal.returns
returns c = λ w loader file s l order touched e. one_more w order loader file s l touched e
