use denote.Param.Send.{sendable}
use Rattle.jl_host.proofs.Crossing.{linker_send, view_send, renewal_send}
use Rattle.linkd_c.proofs.handles.all_cross.Goals as goal

pub crosses-requires-send-T : goal.crosses-requires-send-T
crosses-requires-send-T c = λ κs. search (linker_send, sendable) depth 12

pub crosses-requires-4-send-T : goal.crosses-requires-4-send-T
crosses-requires-4-send-T c = λ κs. search (view_send, sendable) depth 12

pub crosses-requires-5-send-T : goal.crosses-requires-5-send-T
crosses-requires-5-send-T c = λ κs. search (renewal_send, sendable) depth 12
