-- What an install of links does that are looked up at once.
use Rattle.std.specs.Prelude.{◌≡◌, ℕ, List, None}
use Rattle.jl_types.specs.declared.link.Link.{Link}
use Rattle.jl_types.specs.declared.event.EventOf.TheVariants as event
use Rattle.jl_types.specs.declared.event.Reply.{Reply}
use Rattle.jl_types.specs.Events.Preparation.{prepare_fault, ArePrepared}
use Rattle.jl_core.specs.State.{State, world_of, IsAccepted}

-- The sites with their links from scratch were installed, and nothing was at fault with the sites.
pub record HasInstalled (core : State) (sites : List ℕ) (after : State) (reply : Reply) : Type 0 where
  pub rows : List (ℕ × Link)
  pub fine : prepare_fault (world_of core) sites ≡ None
  pub prepared : ArePrepared (world_of core) sites rows
  pub accepted : IsAccepted core after (event.Install rows) reply
