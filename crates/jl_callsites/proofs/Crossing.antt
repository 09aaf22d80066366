-- Call sites and switch points may cross threads.
use denote.Param.Send.{IsSend, IsSync, sendable}
use Rattle.std.proofs.Crossing.{crosses as of_std}
use Rattle.jl_names.proofs.name.Name.TheSendSync as of_names
use Rattle.jl_types.proofs.target.CallSiteKind.TheSendSync as of_kinds
use Rattle.jl_types.proofs.Crossing.{target_send, target_sync}
use Rattle.jl_callsites.specs.contracts.call_site.CallSite as CallSite
use Rattle.jl_callsites.specs.contracts.sites.Sites as Sites

site_send : IsSend CallSite.the_row
site_send = search (target_send, of_names.the_send, of_kinds.the_send, sendable) depth 20

site_sync : IsSync CallSite.the_row
site_sync = search (target_sync, of_names.the_sync, of_kinds.the_sync, sendable) depth 20

pub sites_send : IsSend Sites.the_row
sites_send = search (site_send, sendable, of_std) depth 20

pub sites_sync : IsSync Sites.the_row
sites_sync = search (site_sync, sendable, of_std) depth 20
