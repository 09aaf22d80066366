-- A target may cross threads. Inside another type it stands as its field's row.
use denote.Param.Send.{IsSend, IsSync, sendable}
use Rattle.std.proofs.Crossing.{crosses as of_std}
use Rattle.jl_types.proofs.target.Target.TheLaws.TheKnot.{crosses as of_targets}
use Rattle.jl_types.specs.contracts.target.Target as Target

pub target_send : IsSend Target.the_field.row
target_send = search (of_targets, sendable, of_std) depth 60 fits 100000

pub target_sync : IsSync Target.the_field.row
target_sync = search (of_targets, sendable, of_std) depth 60 fits 100000
