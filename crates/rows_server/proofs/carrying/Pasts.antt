-- What stands in a server is what its entries lead to.
use Rattle.std.specs.Prelude.{◌≡◌, List}
use Rattle.std.proofs.Common.{ap, sym, ◌∙◌, subst}
use Rattle.jl_types.specs.declared.limits.Limits.{Limits}
use Rattle.jl_types.specs.Events.Event.{Event}
use Rattle.jl_types.specs.declared.event.Reply.{Reply}
use Rattle.jl_types.specs.Events.Entries.{Entry, events_of}
use Rattle.jl_types.specs.Events.History.{world_after}
use Rattle.jl_types.specs.Values.World.{World}
use Rattle.jl_core.specs.Logs as core
use Rattle.jl_core.specs.State.{State, AreAnswered}
use Rattle.jl_server.specs.History.{core_of, logged_of}
use Rattle.jl_server.proofs.Logs.{world_logged}
use Rattle.jl_renewal.specs.Renewal.{IsPast, logged}

-- a world and a log, as they come to be after a list, are a past
pub is_past : (n : Limits) (w : World) (log : List core.Entry) (seen : List Entry) → w ≡ world_after (events_of seen)
    → core.shown w.classes.rows log ≡ logged_of seen → AreAnswered (core_of n seen) → IsPast w log
is_past n w log seen is told answered =
    let same : logged n w log ≡ core_of n seen = ap (λ (events : List (Event × Reply)). record { limits = n; log = events }) told in
    record {
      limits = n;
      world = is ∙ sym (world_logged n seen (logged n w log) same);
      answered = subst (λ (s : State). AreAnswered s) (sym same) answered;
    }
