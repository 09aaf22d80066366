-- Which numbers have links. A means of proof.
use Rattle.std.specs.Prelude.{◌≡◌, ◌≤◌, ◌^◌, ℕ, List, None}
use Rattle.jl_types.specs.declared.link.Link.{Link}
use Rattle.jl_cache.specs.Links.{link_at}

-- no number past those of sites has a link
abbrev pub HaveSites : List (ℕ × Link) → Type 0
HaveSites links = (s : ℕ) → 2 ^ 32 ≤ s → link_at links s ≡ None
