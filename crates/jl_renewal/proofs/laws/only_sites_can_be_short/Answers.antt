use Rattle.jl_core.specs.State.{events, world_of}
use Rattle.jl_renewal.proofs.RoomLaws.{accepted_within, only_sites}
use Rattle.jl_renewal.proofs.laws.only_sites_can_be_short.Goals as goal

pub returns : goal.returns
returns c old released max_sites allowed accepted =
    only_sites old.limits max_sites (world_of old) released (accepted_within old.limits allowed.some_loaders (events old) accepted.each)
