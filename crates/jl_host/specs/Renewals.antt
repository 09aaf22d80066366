-- How many there are of each, and what a renewal leaves.
use Rattle.std.specs.Prelude.{◌≡◌, ◌⊎◌, ◌<◌, ℕ, Bool, nat_le, ◌&&◌, List, ◌++◌, map, drop, length, Option, Some, None, MatchBool}
use Rattle.jl_types.specs.declared.limits.Limits.{Limits}
use Rattle.jl_types.specs.declared.refusal.Refusal.{Refusal}
use Rattle.jl_types.specs.declared.refusal.Refusal.TheVariants.{Memory, SitesFull}
use Rattle.jl_types.specs.Values.World.{World}
use Rattle.jl_core.specs.State.{State, world_of}
use Rattle.jl_renewal.specs.declared.released.Released.{Released}
use Rattle.jl_renewal.specs.Numbers.{Numbers, how_many}
use Rattle.jl_renewal.specs.Staying.{staying_sites}
use Rattle.jl_renewal.specs.Present.{counts_present}
use Rattle.jl_renewal.specs.Renewal.{IsRenewal}
use Rattle.jl_host.specs.declared.renew.Counts.{Counts}
use Rattle.jl_host.specs.Numbers.{done, sites_full, memory, malformed, closed, open_already, too_short, gone}
use Rattle.jl_host.specs.Linkers.{Opened, opened_over, most_sites}

-- ---- how many there are

-- how many of each there ever were, retired ones among them
abbrev pub counts_of : World → Counts
counts_of w = record {
  loaders = length w.classes.loaders;
  classes = length w.classes.rows;
  sites = length w.places;
  call_sites = length w.sites.call_sites;
  switches = length w.sites.switches;
}

-- how many numbers there are of each
abbrev pub counts_in : Numbers → Counts
counts_in n = record {
  loaders = length n.loaders;
  classes = length n.classes;
  sites = length n.sites;
  call_sites = length n.call_sites;
  switches = length n.switches;
}

abbrev pub no_counts : Counts
no_counts = record { loaders = 0; classes = 0; sites = 0; call_sites = 0; switches = 0 }

-- the linker isn't open, and all counts are 0; or these are its counts
abbrev pub IsCounts : Option Opened → ℕ → Counts → Option Opened → Type 0
IsCounts None status counts new = (status ≡ closed) × (counts ≡ no_counts) × (new ≡ None)
IsCounts (Some old) status counts new = (status ≡ done) × (counts ≡ counts_of (world_of old.session.core)) × (new ≡ Some old)

-- how many of each are present: those that a renewal takes over if the host lets none go
abbrev pub present_of : World → Counts
present_of w = record {
  loaders = (counts_present w).loaders;
  classes = (counts_present w).classes;
  sites = (counts_present w).sites;
  call_sites = (counts_present w).call_sites;
  switches = (counts_present w).switches;
}

-- the linker isn't open, or there was no memory, and all counts are 0; or these are its present ones
abbrev pub IsCountsPresent : Option Opened → ℕ → Counts → Option Opened → Type 0
IsCountsPresent None status counts new = (status ≡ closed) × (counts ≡ no_counts) × (new ≡ None)
IsCountsPresent (Some old) status counts new =
    (((status ≡ done) × (counts ≡ present_of (world_of old.session.core))) ⊎ ((status ≡ memory) × (counts ≡ no_counts))) × (new ≡ Some old)

-- ---- the arrays of a renewal

pub record Arrays : Type 0 where
  pub loaders : List ℕ
  pub classes : List ℕ
  pub sites : List ℕ
  pub call_sites : List ℕ
  pub switches : List ℕ

abbrev pub arrays_of : List ℕ → List ℕ → List ℕ → List ℕ → List ℕ → Arrays
arrays_of loaders classes sites call_sites switches =
    record { loaders = loaders; classes = classes; sites = sites; call_sites = call_sites; switches = switches }

-- a place for each
abbrev pub have_room : Counts → Arrays → Bool
have_room counts arrays =
    nat_le counts.loaders (length arrays.loaders)
    && (nat_le counts.classes (length arrays.classes)
    && (nat_le counts.sites (length arrays.sites)
    && (nat_le counts.call_sites (length arrays.call_sites)
    && nat_le counts.switches (length arrays.switches))))

-- the new number, or that there is none
abbrev pub number_shown : Option ℕ → ℕ
number_shown None = gone
number_shown (Some k) = k

-- the new number of each old one, at the front of the array
abbrev pub at_front : List (Option ℕ) → List ℕ → List ℕ
at_front numbers before = map number_shown numbers ++ drop (length numbers) before

abbrev pub with_numbers : Numbers → Arrays → Arrays
with_numbers n before =
    arrays_of (at_front n.loaders before.loaders) (at_front n.classes before.classes) (at_front n.sites before.sites)
    (at_front n.call_sites before.call_sites) (at_front n.switches before.switches)

-- ---- a renewal

-- so many places may be requested
abbrev pub may_be : ℕ → Bool
may_be max_sites = nat_le 1 max_sites && nat_le max_sites most_sites

-- those of the core, but for so many sites: a fresh linker has them
abbrev pub limits_for : State → ℕ → Limits
limits_for core max_sites = record core.limits { sites = max_sites }

-- why a core is not renewed with its limits but for so many sites: more sites stay, or there was no memory
abbrev pub IsShort : ℕ → State → Refusal → Type 0
IsShort max_sites core r =
    ((r ≡ SitesFull) × (max_sites < how_many (staying_sites (world_of core).classes (world_of core).places))) ⊎ (r ≡ Memory)

-- what the host has let go
abbrev pub released_of : List ℕ → List ℕ → Released
released_of call_sites switches = record { call_sites = call_sites; switches = switches }

-- none was made, for this reason, and nothing was written
abbrev pub IsUnrenewed : ℕ → Option Opened → Arrays → ℕ → Option Opened → Arrays → Type 0
IsUnrenewed reason fresh before status new after = (status ≡ reason) × (new ≡ fresh) × (after ≡ before)

-- the other linker is open over the renewed core, and its numbers were written
abbrev pub IsRenewed : Released → ℕ → State → Arrays → ℕ → Option Opened → Arrays → Type 0
IsRenewed released max_sites old before status new after =
    (made : State × Numbers) × IsRenewal old released (limits_for old max_sites) made × (status ≡ done) × (new ≡ Some (opened_over made.0))
    × (after ≡ with_numbers made.1 before)

-- it is open over the renewed core; or more sites stay than may be requested; or there was no memory
abbrev pub IsTried : Released → ℕ → State → Arrays → ℕ → Option Opened → Arrays → Type 0
IsTried released max_sites old before status new after =
    IsRenewed released max_sites old before status new after
    ⊎ ((max_sites < how_many (staying_sites (world_of old).classes (world_of old).places)) × IsUnrenewed sites_full None before status new after)
    ⊎ IsUnrenewed memory None before status new after

-- The linker isn't open; or the other one is; or no such number may be; or an array is too short; or it is tried. The linker stays.
abbrev pub IsRenew : Released → ℕ → Option Opened → Option Opened → Arrays → ℕ → Option Opened → Option Opened → Arrays → Type 0
IsRenew released max_sites None fresh before status new new_fresh after = IsUnrenewed closed fresh before status new_fresh after × (new ≡ None)
IsRenew released max_sites (Some old) (Some taken) before status new new_fresh after =
    IsUnrenewed open_already (Some taken) before status new_fresh after × (new ≡ Some old)
IsRenew released max_sites (Some old) None before status new new_fresh after =
    MatchBool (may_be max_sites)
    (MatchBool (have_room (counts_of (world_of old.session.core)) before) (IsTried released max_sites old.session.core before status new_fresh after)
    (IsUnrenewed too_short None before status new_fresh after))
    (IsUnrenewed malformed None before status new_fresh after)
    × (new ≡ Some old)
