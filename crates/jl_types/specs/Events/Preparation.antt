-- The answer to a preparation: links for some sites, which are looked up apart from the events and installed later.
use Rattle.std.specs.Prelude.{◌≡◌, ℕ, List, [], ◌∷◌, map, length, Option, Some, None, option_map, Result, Ok, Err}
use Rattle.std.specs.List.{AllZip}
use Rattle.std.specs.Bool.{then_some}
use Rattle.jl_types.specs.declared.link.Link.{Link}
use Rattle.jl_types.specs.declared.answer.Unlinked.{Unlinked}
use Rattle.jl_types.specs.declared.refusal.SitesFault.{SitesFault}
use Rattle.jl_types.specs.declared.refusal.SitesFault.TheVariants as sites
use Rattle.jl_types.specs.declared.refusal.PrepareFault.{PrepareFault}
use Rattle.jl_types.specs.declared.refusal.PrepareFault.TheVariants.{UnknownSite, NotReady, Repeated, BatchSize}
use Rattle.jl_types.specs.Values.World.{World}
use Rattle.jl_types.specs.Linkage.Resolution.{first_of}
use Rattle.jl_types.specs.Events.Batches.{is_bad_size, sites_fault}
use Rattle.jl_types.specs.Linkage.Links.{scratch}

abbrev pub of_sites : SitesFault → PrepareFault
of_sites (sites.Unknown s) = UnknownSite s
of_sites (sites.Repeated s) = Repeated s

abbrev pub link_fault : ℕ → Result Link Unlinked → Option PrepareFault
link_fault s (Ok link) = None
link_fault s (Err reason) = Some (NotReady s)

-- the first site that has no link from scratch
abbrev pub ready_fault : World → List ℕ → Option PrepareFault
ready_fault w sites = first_of (map (λ s. link_fault s (scratch w s)) sites)

-- the rows are the sites in order, each with its link from scratch
abbrev pub ArePrepared : World → List ℕ → List (ℕ × Link) → Type 0
ArePrepared w sites rows = AllZip (λ s row. (row.0 ≡ s) × (scratch w s ≡ Ok row.1)) sites rows

abbrev pub prepare_fault : World → List ℕ → Option PrepareFault
prepare_fault w sites = first_of (
    then_some (is_bad_size (length sites)) BatchSize
    ∷ option_map of_sites (sites_fault w [] sites)
    ∷ ready_fault w sites
    ∷ [])
