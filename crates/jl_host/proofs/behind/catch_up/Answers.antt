use Rattle.std.proofs.Common.{◌∙◌, ap}
use Rattle.std.specs.List.{list_any}
use Rattle.jl_core.specs.State.{world_of}
use Rattle.jl_host.specs.ForProofs.Behind.{touched_by}
use Rattle.jl_host.proofs.CaughtUp.{caught_up, same_length}
use Rattle.jl_host.proofs.behind.catch_up.Goals as goal

pub returns-in_default-clause-done : goal.returns-in_default-clause-done
returns-in_default-clause-done c =
    c.len-count.ensures
    ∙ same_length c.args.core.now (world_of c.args.core.now).classes.rows c.log-log.result.now c.log-log.ensures.told c.log-log.ensures.events

pub returns-clause-done : goal.returns-clause-done
returns-clause-done c =
    c.len-count.ensures
    ∙ same_length c.args.core.now (world_of c.args.core.now).classes.rows c.log-log.result.now c.log-log.ensures.told c.log-log.ensures.events

pub returns-clause-now : goal.returns-clause-now
returns-clause-now c =
    let new = c.in_ok-write_entries.ensures in
    caught_up c.args.core.now c.args.links.now.value c.write_entries.new.links.value c.args.reached (world_of c.args.core.now).classes.rows
    c.log-log.result.now c.requires c.log-log.ensures.told c.log-log.ensures.events new.all new.kept
    (λ s low e. new.written s low (ap (list_any (touched_by s)) c.in-Some.ensures.rest ∙ e))
