-- A core and what it plans may cross threads.
use denote.Param.Send.{IsSend, IsSync, sendable}
use Rattle.std.proofs.Crossing.{crosses as of_std}
use Rattle.jl_names.proofs.name.Name.TheSendSync as of_names
use Rattle.jl_types.proofs.link.Link.TheSendSync as of_links
use Rattle.jl_types.proofs.Crossing.{target_send, target_sync}
use Rattle.jl_relink.proofs.Crossing.{world_send, world_sync}
use Rattle.jl_cache.proofs.cache.Cache.TheSendSync as of_caches
use Rattle.jl_cache.proofs.kept.KeptLink.TheSendSync as of_kept
use Rattle.jl_deps.proofs.index.Index.TheSendSync as of_indexes
use Rattle.jl_journal.proofs.Crossing.{crosses as of_journals}
use Rattle.jl_core.specs.contracts.log.Logged as Logged
use Rattle.jl_core.specs.contracts.log.Entry as Entry
use Rattle.jl_core.specs.contracts.instance.Instance as Instance
use Rattle.jl_core.specs.contracts.machine.Core as Core
use Rattle.jl_core.specs.contracts.plan.Planned as Planned

logged_send : IsSend Logged.the_row
logged_send = search (target_send, of_names.the_send, of_kept.the_send, sendable, of_std) depth 60 fits 100000

logged_sync : IsSync Logged.the_row
logged_sync = search (target_sync, of_names.the_sync, of_kept.the_sync, sendable, of_std) depth 60 fits 100000

pub entry_send : IsSend Entry.the_row
entry_send = search (logged_send, logged_sync, sendable, of_std) depth 20

pub entry_sync : IsSync Entry.the_row
entry_sync = search (logged_send, logged_sync, sendable, of_std) depth 20

instance_send : IsSend Instance.the_row
instance_send = search (world_send, world_sync, of_caches.the_send, of_indexes.the_send, of_journals, entry_send, sendable, of_std) depth 20

instance_sync : IsSync Instance.the_row
instance_sync = search (world_send, world_sync, of_caches.the_sync, of_indexes.the_sync, of_journals, entry_send, entry_sync, sendable, of_std) depth 20

pub core_send : IsSend Core.the_row
core_send = search (instance_send, sendable) depth 12

pub core_sync : IsSync Core.the_row
core_sync = search (instance_sync, sendable) depth 12

pub planned_send : IsSend Planned.the_row
planned_send = search (instance_send, of_links.the_send, sendable, of_std) depth 40

pub planned_sync : IsSync Planned.the_row
planned_sync = search (instance_sync, of_links.the_sync, sendable, of_std) depth 40

pub ruleset crosses = (entry_send, entry_sync, core_send, core_sync, planned_send, planned_sync)
