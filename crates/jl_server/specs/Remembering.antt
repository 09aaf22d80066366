-- What a thread remembers of calls at megamorphic links.
use Rattle.std.specs.Prelude.{◌≡◌, ℕ, true, List}
use mathlib.Core.List.{IsPrefix}
use Rattle.jl_types.specs.declared.limits.Limits.{Limits}
use Rattle.jl_types.specs.declared.answer.Outcome.{Outcome}
use Rattle.jl_types.specs.declared.answer.Recv.TheVariants.{Of}
use Rattle.jl_types.specs.Values.Members.{is_concrete}
use Rattle.jl_types.specs.Linkage.Calls.{answered, dispatch}
use Rattle.jl_types.specs.Events.History.{world_after}
use Rattle.jl_types.specs.Events.Entries.{Entry, IsLegal, events_of}
use Rattle.jl_memo.specs.declared.set.Set.{Set}
use Rattle.jl_memo.specs.Answers.{is_site_present}

-- a list that was seen, and what is remembered of calls after it
pub record Remembering : Type 0 where
  pub seen : List Entry
  pub sets : List Set

-- After each legal list that begins with this one, calls of site s on objects of class x have this outcome, while the site is present and
-- objects may be of that class.
abbrev pub HoldsFrom : Limits → List Entry → ℕ → ℕ → Outcome → Type 0
HoldsFrom limits seen s x outcome = (later : List Entry) → IsPrefix seen later → IsLegal limits later
    → is_site_present (world_after (events_of later)) s ≡ true → is_concrete (world_after (events_of later)).classes x ≡ true
    → dispatch (world_after (events_of later)) s (Of x) ≡ answered outcome
