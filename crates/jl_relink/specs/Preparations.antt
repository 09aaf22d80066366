-- What a preparation is answered.
use Rattle.std.specs.Prelude.{◌≡◌, ◌⊎◌, ℕ, List, Some, None, Result, Ok, Err}
use Rattle.jl_types.specs.declared.refusal.PrepareFault.{PrepareFault}
use Rattle.jl_types.specs.declared.refusal.PrepareFault.TheVariants.{Memory}
use Rattle.jl_types.specs.Events.Preparation.{prepare_fault, ArePrepared}
use Rattle.jl_types.specs.Values.World.{World}
use Rattle.jl_relink.specs.declared.preparation.Prepared.{Prepared}

-- a world as it was after so many accepted events
pub record Snapshot : Type 0 where
  pub world : World
  pub serial : ℕ

-- the sites in order, each with its link from scratch in the snapshot's world, and the snapshot's serial
pub record IsPrepared (snapshot : Snapshot) (sites : List ℕ) (prepared : Prepared) : Type 0 where
  pub accepted : prepare_fault snapshot.world sites ≡ None
  pub rows : ArePrepared snapshot.world sites prepared.rows
  pub serial : prepared.serial ≡ snapshot.serial

-- the first fault of the batch, or, if there is none, want of memory
abbrev pub IsFault : World → List ℕ → PrepareFault → Type 0
IsFault w sites f = (prepare_fault w sites ≡ Some f) ⊎ ((f ≡ Memory) × (prepare_fault w sites ≡ None))

-- the answer is a preparation, or a fault
abbrev pub IsPreparation : Snapshot → List ℕ → Result Prepared PrepareFault → Type 0
IsPreparation snapshot sites (Ok prepared) = IsPrepared snapshot sites prepared
IsPreparation snapshot sites (Err f) = IsFault snapshot.world sites f
