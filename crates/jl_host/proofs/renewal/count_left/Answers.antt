use Rattle.std.proofs.Common.{◌∙◌, ◌-◌, ap}
use Rattle.jl_core.specs.State.{world_of}
use Rattle.jl_host.proofs.CaughtUp.{same_length}
use Rattle.jl_host.proofs.renewal.count_left.Goals as goal

pub returns : goal.returns
returns c =
    c.saturating_sub.ensures
    ∙ ap (λ n. n - c.args.taken)
    (c.len.ensures
    ∙ same_length c.args.core.now (world_of c.args.core.now).classes.rows c.log.result.now c.log.ensures.told c.log.ensures.events)
