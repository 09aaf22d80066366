-- A world, a snapshot and what was prepared in one may cross threads.
use denote.Param.Send.{IsSend, IsSync, sendable}
use Rattle.std.proofs.Crossing.{crosses as of_std}
use Rattle.jl_hierarchy.proofs.classes.Classes.TheSendSync as of_classes
use Rattle.jl_places.proofs.places.Places.TheSendSync as of_places
use Rattle.jl_callsites.proofs.Crossing.{sites_send, sites_sync}
use Rattle.jl_relink.specs.contracts.world.World as World
use Rattle.jl_relink.specs.contracts.snapshot.Snapshot as Snapshot
use Rattle.jl_relink.proofs.preparation.Prepared.TheSendSync as of_prepared

pub world_send : IsSend World.the_row
world_send = search (of_classes.the_send, of_places.the_send, sites_send, sendable, of_std) depth 60 fits 100000

pub world_sync : IsSync World.the_row
world_sync = search (of_classes.the_sync, of_places.the_sync, sites_sync, sendable, of_std) depth 60 fits 100000

pub snapshot_send : IsSend Snapshot.the_row
snapshot_send = search (world_send, world_sync, sendable, of_std) depth 60 fits 100000

pub snapshot_sync : IsSync Snapshot.the_row
snapshot_sync = search (world_send, world_sync, sendable, of_std) depth 60 fits 100000

pub ruleset crosses = (world_send, world_sync, snapshot_send, snapshot_sync, of_prepared.the_send, of_prepared.the_sync)
