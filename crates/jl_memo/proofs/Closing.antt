-- What is present rests on what is present after accepted events.
use Rattle.std.specs.Prelude.{ℕ, List, [], ◌∷◌, ◌++◌, Result, IsOk}
use Rattle.std.proofs.Common.{refl, ap, sym, subst, ◌∙◌}
use Rattle.jl_types.specs.declared.limits.Limits.{Limits}
use Rattle.jl_types.specs.declared.event.Made.{Made}
use Rattle.jl_types.specs.declared.refusal.Refusal.{Refusal}
use Rattle.jl_types.specs.Values.World.{World}
use Rattle.jl_types.specs.Events.Verdict.{verdict}
use Rattle.jl_types.specs.Events.History.{world_after, dropped}
use Rattle.jl_types.specs.Events.Entries.{Entry, IsEntry, IsLegal, events_of}
use Rattle.jl_types.proofs.Legal.{events_more, by_entries}
use Rattle.jl_types.proofs.Orders.{world_good}
use Rattle.jl_types.proofs.Places.{accepted_of, world_more}
use Rattle.jl_hierarchy.specs.Constancy.{IsClosed}
use Rattle.jl_relink.proofs.Closing.{closed_once}
use Rattle.jl_relink.proofs.InOrder.{at_first}

pub legal_closed : (limits : Limits) (entries : List Entry) → IsLegal limits entries → IsClosed (world_after (events_of entries)).classes
legal_closed limits = by_entries limits (λ entries. IsClosed (world_after (events_of entries)).classes) next at_first.classes.closed
  where
    next : (done : List Entry) (entry : Entry) → IsEntry limits (events_of done) entry → IsClosed (world_after (events_of done)).classes
        → IsClosed (world_after (events_of (done ++ entry ∷ []))).classes
    next done entry is closed =
        let h = events_of done in
        let accepted = (accepted_of (dropped h entry.event) (verdict limits (world_after h) entry.event) entry.reply is.answered).0 in
        subst (λ (w : World). IsClosed w.classes) (sym (ap world_after (events_more done entry) ∙ world_more h entry.event))
        (closed_once limits (world_after h) (world_good h) closed entry.event (subst (λ (r : Result Made Refusal). IsOk r) (sym accepted) refl))
