use Rattle.std.proofs.Common.{sym, ap, ◌∙◌}
use Rattle.std.specs.Prelude.{length}
use Rattle.jl_core.specs.State.{world_of}
use Rattle.jl_core.proofs.LogLaws.{length_told}
use Rattle.jl_core.proofs.machine.Core.serial.Goals as goal

pub returns : goal.returns
returns c =
    c.len.ensures ∙ sym (length_told (world_of c.args.self.now).classes.rows c.log.result.now c.log.ensures.told) ∙ ap length c.log.ensures.events
