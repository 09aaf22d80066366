-- The sites of a batch, whose links are to be prepared or installed.
use Rattle.std.specs.Prelude.{ℕ, ◌||◌, ◌==◌, Bool, nat_lt, nat_le, List, [], ◌∷◌, length, Option, None}
use Rattle.std.specs.List.{list_any}
use Rattle.std.specs.Bool.{then_some}
use Rattle.jl_types.specs.declared.refusal.SitesFault.{SitesFault}
use Rattle.jl_types.specs.declared.refusal.SitesFault.TheVariants.{Unknown, Repeated}
use Rattle.jl_types.specs.Values.World.{World}
use Rattle.jl_types.specs.Linkage.Resolution.{first_of}

-- none, or over 256
abbrev pub is_bad_size : ℕ → Bool
is_bad_size n = (n == 0) || nat_lt 256 n

-- the first site that isn't requested, or that comes earlier in the list too
abbrev pub sites_fault : World → List ℕ → List ℕ → Option SitesFault
sites_fault w earlier [] = None
sites_fault w earlier (s ∷ sites) = first_of (
    then_some (nat_le (length w.places) s) (Unknown s)
    ∷ then_some (list_any (λ t. t == s) earlier) (Repeated s)
    ∷ sites_fault w (s ∷ earlier) sites
    ∷ [])
