-- A core may be renewed but for want of sites: of what it has no other kind can be too many.
use Rattle.std.specs.Prelude.{◌≡◌, ◌<◌, ◌⊎◌, ℕ, nat_lt, Bool, true, false, Some}
use Rattle.std.specs.Bool.{then_some}
use Rattle.std.specs.List.{list_all}
use Rattle.std.proofs.Common.{refl, sym, ◌∙◌, inl, inr}
use Rattle.std.proofs.lemmas.Bool.{ltb-true}
use Rattle.jl_types.specs.declared.refusal.Refusal.{Refusal}
use Rattle.jl_types.specs.declared.refusal.Refusal.TheVariants.{Memory, SitesFull}
use Rattle.jl_relink.specs.Laws.{AreAccepted, has_read_file}
use Rattle.jl_core.specs.State.{State, events, world_of, AreAnswered}
use Rattle.jl_renewal.specs.declared.released.Released.{Released}
use Rattle.jl_renewal.specs.Numbers.{how_many}
use Rattle.jl_renewal.specs.Staying.{staying_sites}
use Rattle.jl_renewal.specs.Renewal.{renewal_fault, IsRefusedRenewal}
use Rattle.jl_renewal.proofs.RenewalPhases.{all_accepted}
use Rattle.jl_host.specs.Renewals.{limits_for}

pub accepted_of_core : (core : State) → AreAnswered core → list_all has_read_file (events core) ≡ true → AreAccepted core.limits (events core)
accepted_of_core core answered files = record { each = all_accepted core answered; files = files }

-- how many sites stay
abbrev pub stay : State → ℕ
stay old = how_many (staying_sites (world_of old).classes (world_of old).places)

pub short_of_sites : (old : State) (released : Released) (max_sites : ℕ)
    → renewal_fault (limits_for old max_sites) (world_of old) released ≡ then_some (nat_lt max_sites (stay old)) SitesFull
    → (r : Refusal) → IsRefusedRenewal (limits_for old max_sites) (world_of old) released r
    → ((r ≡ SitesFull) × (max_sites < stay old)) ⊎ (r ≡ Memory)
short_of_sites old released max_sites only r (inr lacks) = inr lacks
short_of_sites old released max_sites only r (inl fault) = inl (by_test (nat_lt max_sites (stay old)) refl (sym only ∙ fault))
  where
    by_test : (b : Bool) → nat_lt max_sites (stay old) ≡ b → then_some b SitesFull ≡ Some r → (r ≡ SitesFull) × (max_sites < stay old)
    by_test true over is = (cc is, ltb-true max_sites (stay old) over)
    by_test false over is = cc
