use Rattle.jl_core.specs.State.{world_of}
use Rattle.jl_renewal.specs.Staying.{numbers_of, staying_call_sites}
use Rattle.jl_renewal.specs.Renewed.{renewed}
use Rattle.jl_renewal.proofs.ComeOver.{fit, alike}
use Rattle.jl_renewal.proofs.RenewedSites.{is_set, sites_alike}
use Rattle.jl_renewal.proofs.ScratchLaws.{scratch_same, dispatch_same}
use Rattle.jl_renewal.proofs.laws.linking_commutes.Goals as goal

pub returns-clause-links : goal.returns-clause-links
returns-clause-links c old released accepted s alive =
    scratch_same (numbers_of (world_of old) released) (world_of old) (renewed (world_of old) released) (is_set (staying_call_sites (world_of old) released))
    (sites_alike (world_of old) released (fit old released accepted) (alike old released accepted)) s alive

pub returns-clause-calls : goal.returns-clause-calls
returns-clause-calls c old released accepted s recv alive at =
    dispatch_same (numbers_of (world_of old) released) (world_of old) (renewed (world_of old) released) (is_set (staying_call_sites (world_of old) released))
    (sites_alike (world_of old) released (fit old released accepted) (alike old released accepted)) s alive recv at
