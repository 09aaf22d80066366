-- What lists of events add to a core, and what a refusal of one of them leaves.
use Rattle.std.specs.Prelude.{◌≡◌, ◌<◌, ◌≤◌, Some, Contains, ℕ, List, [], ◌∷◌, ◌++◌, map, take, length, Ok, IsOk, All, AllPairs, ⊤}
use Rattle.jl_types.specs.declared.limits.Limits.{Limits}
use Rattle.jl_types.specs.declared.link.Link.{Link}
use Rattle.jl_types.specs.declared.event.EventOf.TheVariants as event
use Rattle.jl_types.specs.declared.refusal.Refusal.{Refusal}
use Rattle.jl_types.specs.declared.refusal.Refusal.TheVariants.{Memory}
use Rattle.jl_types.specs.Events.Event.{Event}
use Rattle.jl_types.specs.Events.Verdict.{verdict, step}
use Rattle.jl_types.specs.Values.World.{World}
use Rattle.jl_types.specs.Linkage.Links.{scratch}
use Rattle.jl_core.specs.State.{State, events, world_of, links_of}
use Rattle.jl_renewal.specs.Numbers.{Numbers, new_number}
use Rattle.jl_renewal.specs.Renewal.{renewal_by, fresh_rows, AreBatches}
use Rattle.jl_renewal.specs.Carries.{IsRefusedIn}

-- each of the events is accepted, one after another, from this world on
abbrev pub Follow : Limits → World → List Event → Type 0
Follow limits w [] = ⊤
Follow limits w (e ∷ es) = IsOk (verdict limits w e) × Follow limits (step w e) es

-- the core accepts them, one after another
abbrev pub MayAdd : List Event → State → Type 0
MayAdd es core = Follow core.limits (world_of core) es

-- each row is the link that its site has from scratch, and their sites rise
pub record AreFresh (w : World) (rows : List (ℕ × Link)) : Type 0 where
  pub rises : AllPairs (λ a b. a.0 < b.0) rows
  pub present : All (λ row. scratch w row.0 ≡ Ok row.1) rows

-- a site that had one of these links has this number now
pub record HasCome (linked : List (ℕ × Link)) (n : Numbers) (k : ℕ) : Type 0 where
  pub site : ℕ
  pub link : Link
  pub had : Contains linked (site, link)
  pub has : new_number n.sites site ≡ Some k

-- the core has accepted these events, and no others
pub record Adds (es : List Event) (old new : State) : Type 0 where
  pub events : events new ≡ events old ++ es
  pub limit : new.limits ≡ old.limits

-- the first of these events is refused for this, or for want of memory
abbrev pub IsRefusedNext : List Event → State → Refusal → Type 0
IsRefusedNext [] core r = r ≡ Memory
IsRefusedNext (e ∷ es) core r = IsRefusedIn core e r

-- it has accepted some first of these events and no others, and refuses the next of them for this, or for want of memory
pub record IsStoppedAt (es : List Event) (old new : State) (r : Refusal) : Type 0 where
  pub done : List Event
  pub left : List Event
  pub are : es ≡ done ++ left
  pub adds : Adds done old new
  pub refused : IsRefusedNext left new r

-- it has installed these links, and nothing else
pub record Installs (rows : List (ℕ × Link)) (old new : State) : Type 0 where
  pub batches : List (List (ℕ × Link))
  pub are_batches : AreBatches batches rows
  pub adds : Adds (map event.Install batches) old new

-- it has installed these links but for those that are left, and nothing else
pub record InstallsFront (rows left : List (ℕ × Link)) (old new : State) : Type 0 where
  pub batches : List (List (ℕ × Link))
  pub are_batches : (others : List (List (ℕ × Link))) → AreBatches others left → AreBatches (batches ++ others) rows
  pub adds : Adds (map event.Install batches) old new

-- it has installed the links before some that are left, and refuses the next of them for this, or for want of memory
pub record StopsAt (rows : List (ℕ × Link)) (old new : State) (r : Refusal) : Type 0 where
  pub left : List (ℕ × Link)
  pub some : 1 ≤ length left
  pub front : InstallsFront rows left old new
  pub refused : IsRefusedIn new (event.Install (take 256 left)) r

-- the events by which the old core is renewed
abbrev pub renewal_with : State → Numbers → List Event
renewal_with old n = renewal_by (world_of old) n (events old)

-- it has accepted the events by which the old core is renewed, and then those of its links
pub record IsFilled (old : State) (n : Numbers) (before after : State) : Type 0 where
  pub between : State
  pub renewed : Adds (renewal_with old n) before between
  pub linked : Installs (fresh_rows (world_of between) n (links_of old)) between after
