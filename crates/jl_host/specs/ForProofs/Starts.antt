-- What there was at the begin of a renewal comes over by its numbers. A means of proof.
use Rattle.std.specs.Prelude.{◌≡◌, ℕ, true, List}
use Rattle.std.specs.List.{list_all}
use Rattle.jl_types.specs.declared.link.Link.{Link}
use Rattle.jl_types.specs.Values.World.{World}
use Rattle.jl_types.specs.Events.History.{world_after}
use Rattle.jl_core.specs.Logs.{Entry}
use Rattle.jl_renewal.specs.declared.released.Released.{Released}
use Rattle.jl_renewal.specs.Staying.{numbers_of}
use Rattle.jl_renewal.specs.Renewal.{fresh_rows}
use Rattle.jl_renewal.specs.Renewed.{renewed, renumbered_links, has_few_rows}
use Rattle.jl_renewal.specs.Told.{told_renewal}

-- The events that tell it lead to what stays of it. The links of these sites are there, under new numbers, the ones from scratch, each of few rows.
abbrev pub ComesOver : World → List Entry → Released → List (ℕ × Link) → Type 0
ComesOver w past released linked =
    (world_after (told_renewal w (numbers_of w released) past) ≡ renewed w released)
    × (fresh_rows (renewed w released) (numbers_of w released) linked ≡ renumbered_links (numbers_of w released) linked)
    × (list_all (λ row. has_few_rows row.1) linked ≡ true)
