use Rattle.std.specs.Prelude.{is_some}
use Rattle.jl_core.specs.State.{world_of}
use Rattle.jl_renewal.specs.Moved.{moved}
use Rattle.jl_renewal.proofs.MovedBeside.{beside_alike}
use Rattle.jl_renewal.proofs.ScratchLaws.{scratch_same, dispatch_same}
use Rattle.jl_renewal.proofs.laws.linking_commutes_beside.Goals as goal

pub returns-clause-links : goal.returns-clause-links
returns-clause-links c k old fresh n beside s alive =
    scratch_same n (world_of old) (world_of fresh) (λ c. is_some (moved k.call_sites c)) (beside_alike k old fresh n beside) s alive

pub returns-clause-calls : goal.returns-clause-calls
returns-clause-calls c k old fresh n beside s recv alive at =
    dispatch_same n (world_of old) (world_of fresh) (λ c. is_some (moved k.call_sites c)) (beside_alike k old fresh n beside) s alive recv at
