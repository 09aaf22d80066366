-- The slots of published links, and the rows that stand apart from them.
use Rattle.std.specs.Prelude.{◌≡◌, ◌≢◌, ℕ, zero, suc, ◌<◌, ◌≤◌, ◌^◌, Bool, true, false, List, length, filter, get_or, slice_get, slice_set}
use Rattle.std.specs.Prelude.{Option, Some, None, option_map}
use Rattle.jl_types.specs.declared.answer.Outcome.{Outcome}
use Rattle.jl_types.specs.declared.link.Link.{Link}
use Rattle.jl_types.specs.declared.link.Link.TheVariants as link
use Rattle.jl_types.specs.declared.link.TableKind.{TableKind}
use Rattle.jl_server.specs.declared.links.Slot.{Slot}
use Rattle.jl_server.specs.declared.links.Slot.TheVariants.{Empty, Fault, Plain, Direct, Table, Mega}

-- the rows of a table
abbrev pub Rows : Type 0
Rows = List (ℕ × Outcome)

-- the link of a slot, or none
abbrev pub link_of : List Rows → Slot → Option Link
link_of tables Empty = None
link_of tables (Fault throwable) = Some (link.Fault throwable)
link_of tables (Plain method) = Some (link.Plain method)
link_of tables (Direct outcome) = Some (link.Direct outcome)
link_of tables (Table kind place) = option_map (λ rows. link.Table kind rows) (slice_get tables place)
link_of tables Mega = Some link.Mega

-- what a number says of a site: nothing, or the place of its rows among the tables
abbrev pub place_of : ℕ → Option ℕ
place_of zero = None
place_of (suc place) = Some place

abbrev pub has_place : ℕ → Bool
has_place zero = false
has_place (suc place) = true

-- by site, its number
pub record ArePlaces (places : List ℕ) (tables : List Rows) : Type 0 where
  pub few : length places < 2 ^ 32
  pub count : length tables ≡ length (filter has_place places)
  pub within : (s n : ℕ) → get_or places s 0 ≡ suc n → n < length tables
  pub apart : (s t n : ℕ) → get_or places s 0 ≡ suc n → get_or places t 0 ≡ suc n → s ≡ t

-- a slot that names a place has it, and there is room for the rows of each site
pub record AreSlots (slots : List Slot) (places : List ℕ) (tables : List Rows) (most : ℕ) : Type 0 where
  pub each : length places ≡ length slots
  pub room : length slots ≤ most
  pub placed : ArePlaces places tables
  pub named : (s n : ℕ) (kind : TableKind) → get_or slots s Empty ≡ Table kind n → get_or places s 0 ≡ suc n

-- the rows of site s stand at place n
pub record IsPut (before : List ℕ) (old : List Rows) (s : ℕ) (row : Rows) (n : ℕ) (after : List ℕ) (new : List Rows) : Type 0 where
  pub places : after ≡ slice_set before s (suc n)
  pub rows : slice_get new n ≡ Some row
  pub own : (t : ℕ) → get_or before t 0 ≡ suc n → t ≡ s
  pub others : (m : ℕ) → m ≢ n → m < length old → slice_get new m ≡ slice_get old m

-- its rows stand among the tables
abbrev pub has_table : Slot → Bool
has_table Empty = false
has_table (Fault throwable) = false
has_table (Plain method) = false
has_table (Direct outcome) = false
has_table (Table kind place) = true
has_table Mega = false
