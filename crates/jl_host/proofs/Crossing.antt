-- A linker, a seat, a view and a renewal may go to another thread.
use denote.Param.Send.{IsSend, IsSync, sendable}
use Rattle.std.proofs.Crossing.{crosses as of_std}
use Rattle.jl_types.proofs.link.Link.TheSendSync as of_links
use Rattle.jl_cache.proofs.kept.KeptSlot.TheSendSync as of_slots
use Rattle.jl_relink.proofs.Crossing.{snapshot_send, world_send}
use Rattle.jl_core.proofs.Crossing.{core_send, entry_send}
use Rattle.jl_journal.proofs.Crossing.{crosses as of_journals}
use Rattle.jl_renewal.specs.contracts.numbers.Renumbering as Renumbering
use Rattle.jl_session.specs.contracts.session.Session as Session
use Rattle.jl_host.specs.contracts.opened.Opened as Opened
use Rattle.jl_host.specs.contracts.linker.Linker as Linker
use Rattle.jl_host.specs.contracts.view.View as View
use Rattle.jl_host.specs.contracts.fresh.Start as Start
use Rattle.jl_host.specs.contracts.fresh.Fresh as Fresh
use Rattle.jl_host.specs.contracts.begun.Claim as Claim
use Rattle.jl_host.specs.contracts.begun.Begun as Begun
use Rattle.jl_host.specs.contracts.renewal.Renewal as Renewal

session_send : IsSend Session.the_row
session_send = search (core_send, of_links.the_send, sendable, of_std) depth 40

claim_send : IsSend Claim.the_row
claim_send = search (sendable, of_std) depth 20

claim_sync : IsSync Claim.the_row
claim_sync = search (sendable, of_std) depth 20

opened_send : IsSend Opened.the_row
opened_send = search (session_send, claim_send, claim_sync, of_slots.the_send, of_slots.the_sync, sendable, of_std) depth 40

pub linker_send : IsSend Linker.the_row
linker_send = search (opened_send, sendable) depth 12

pub view_send : IsSend View.the_row
view_send = search (snapshot_send, sendable) depth 12

start_send : IsSend Start.the_row
start_send = search (snapshot_send, of_journals, entry_send, of_slots.the_send, of_slots.the_sync, sendable, of_std) depth 40

numbers_send : IsSend Renumbering.the_row
numbers_send = search (sendable, of_std) depth 60 fits 100000

fresh_send : IsSend Fresh.the_row
fresh_send = search (core_send, numbers_send, of_slots.the_send, of_slots.the_sync, sendable, of_std) depth 60 fits 100000

begun_send : IsSend Begun.the_row
begun_send = search (start_send, fresh_send, claim_send, claim_sync, entry_send, world_send, sendable, of_std) depth 40

pub renewal_send : IsSend Renewal.the_row
renewal_send = search (begun_send, sendable) depth 12
