-- The installed links as a list of sites and their links.
use Rattle.std.specs.Prelude.{ℕ, ◌<◌, ◌==◌, Bool, true, false, List, find, fold, Option, Some, None, option_map, if◌then◌else◌, AllPairs}
use Rattle.jl_types.specs.declared.link.Link.{Link}
use Rattle.jl_types.specs.declared.link.Link.TheVariants.{Fault, Plain, Direct, Table, Mega}
use Rattle.jl_types.specs.declared.answer.Recv.{Recv}
use Rattle.jl_types.specs.declared.answer.Fast.{Fast}
use Rattle.jl_types.specs.declared.answer.Fast.TheVariants.{Miss}
use Rattle.jl_types.specs.Events.Fast.{link_answer}

-- the site's installed link
abbrev pub link_at : List (ℕ × Link) → ℕ → Option Link
link_at links s = option_map (λ row. row.1) (find (λ row. row.0 == s) links)

-- each site stands once, by rising number
abbrev pub AreRising : List (ℕ × Link) → Type 0
AreRising links = AllPairs (λ a b. a.0 < b.0) links

-- the link of site s once the rows are installed, one after another
abbrev pub link_with : List (ℕ × Link) → Option Link → ℕ → Option Link
link_with rows before s = fold (λ link row. if row.0 == s then Some row.1 else link) before rows

-- the answer to a call by the site's installed link alone, without a count of classes
abbrev pub fast_link : Option Link → Recv → Fast
fast_link None recv = Miss
fast_link (Some link) recv = link_answer link recv

-- there is a link, and a megamorphic one
abbrev pub is_mega : Option Link → Bool
is_mega None = false
is_mega (Some (Fault throwable)) = false
is_mega (Some (Plain m)) = false
is_mega (Some (Direct outcome)) = false
is_mega (Some (Table kind rows)) = false
is_mega (Some Mega) = true
