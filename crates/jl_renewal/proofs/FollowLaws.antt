-- What is accepted next, where all of some events are accepted one after another.
use Rattle.std.specs.Prelude.{◌≡◌, List, [], ◌∷◌, ◌++◌, fold}
use Rattle.std.proofs.Common.{sym, ap, subst, ◌∙◌}
use Rattle.std.proofs.lemmas.List.Sums.{fold-append}
use Rattle.jl_types.specs.declared.limits.Limits.{Limits}
use Rattle.jl_types.specs.Values.World.{World, nothing_yet}
use Rattle.jl_types.specs.Events.Event.{Event}
use Rattle.jl_types.specs.Events.Verdict.{step}
use Rattle.jl_types.specs.Events.History.{world_after}
use Rattle.jl_core.specs.State.{State, events, world_of}
use Rattle.jl_renewal.specs.Adds.{Follow, MayAdd, Adds}

follow_rest : (limits : Limits) (w : World) (es fs : List Event) → Follow limits w (es ++ fs) → Follow limits (fold step w es) fs
follow_rest limits w [] fs all = all
follow_rest limits w (e ∷ es) fs all = follow_rest limits (step w e) es fs all.1

-- the world after what was added
pub world_added : (es : List Event) (a b : State) → Adds es a b → world_of b ≡ fold step (world_of a) es
world_added es a b adds = ap world_after adds.events ∙ fold-append step nothing_yet (events a) es

-- the second of two lists may be added after the first
pub may_then : (es fs : List Event) (a b : State) → MayAdd (es ++ fs) a → Adds es a b → MayAdd fs b
may_then es fs a b may adds =
    subst (λ (limits : Limits). Follow limits (world_of b) fs) (sym adds.limit)
    (subst (λ (w : World). Follow a.limits w fs) (sym (world_added es a b adds)) (follow_rest a.limits (world_of a) es fs may))
