-- How many of each kind a linker ever gives numbers to. What is retired counts, since numbers are never given again.
use Rattle.std.specs.Prelude.{ℕ, ◌≤◌, ◌^◌, length}
use Rattle.jl_types.specs.declared.limits.Limits.{Limits}
use Rattle.jl_types.specs.Values.World.{World}

-- those of the programs: 1,024 loaders, and 65,536 classes, call sites and switch points
abbrev pub fixed : ℕ → Limits
fixed sites = record { sites = sites; loaders = 1024; classes = 65536; call_sites = 65536; switches = 65536 }

-- Those that a linker may have: at least one site, and at least one loader, since loader 0 is there from the beginning.
pub record AreAllowed (limits : Limits) : Type 0 where
  pub some_sites : 1 ≤ limits.sites
  pub some_loaders : 1 ≤ limits.loaders
  pub few_loaders : limits.loaders ≤ 2 ^ 20
  pub few_classes : limits.classes ≤ 2 ^ 20
  pub few_call_sites : limits.call_sites ≤ 2 ^ 20
  pub few_switches : limits.switches ≤ 2 ^ 20

-- the world has no more of a kind than the limits allow
pub record IsWithin (limits : Limits) (w : World) : Type 0 where
  pub sites : length w.places ≤ limits.sites
  pub loaders : length w.classes.loaders ≤ limits.loaders
  pub classes : length w.classes.rows ≤ limits.classes
  pub call_sites : length w.sites.call_sites ≤ limits.call_sites
  pub switches : length w.sites.switches ≤ limits.switches

-- none of the new limits is less than the old one of its kind
pub record AreNoFewer (old new : Limits) : Type 0 where
  pub sites : old.sites ≤ new.sites
  pub loaders : old.loaders ≤ new.loaders
  pub classes : old.classes ≤ new.classes
  pub call_sites : old.call_sites ≤ new.call_sites
  pub switches : old.switches ≤ new.switches
