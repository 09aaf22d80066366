-- The sites that are listed under each key. A means of proof.
use Rattle.std.specs.Prelude.{◌≡◌, ◌==◌, ◌&&◌, ◌||◌, ◌^◌, ℕ, Bool, false, nat_lt, List, [], Option, Some, None}
use Rattle.std.specs.List.{list_any}
use Rattle.std.specs.Option.{option_map_or}
use Rattle.indexmap.specs.IndexMap.{IndexMap, get}
use Rattle.jl_types.specs.declared.key.Key.{Key}
use Rattle.jl_types.specs.contracts.key.KeyPartialEq.TheImpl as impl
use Rattle.jl_types.specs.Events.Footprints.{has_key, meets}
use Rattle.jl_deps.specs.declared.form.Form.{Form}
use Rattle.jl_deps.specs.declared.form.Form.TheVariants.{Other}
use Rattle.jl_deps.specs.declared.form.Rests.{Rests}
use Rattle.jl_deps.specs.Forms.{selects}
use Rattle.jl_deps.specs.Indexes.{rests_at, form_eq}
use Rattle.jl_deps.specs.Ways.{has}

-- the derived `==` of keys
abbrev pub key_eq : Key → Key → Bool
key_eq = (impl.ghosts).eq

-- the site is listed by the form
abbrev pub listed_in : {S : Type 0} → IndexMap Form (List ℕ) S → Form → ℕ → Bool
listed_in groups f s = option_map_or (λ sites. has s sites) (get form_eq groups f) false

-- the site is listed under the key, by the form
abbrev pub listed : {S T : Type 0} → IndexMap Key (IndexMap Form (List ℕ) S) T → Key → Form → ℕ → Bool
listed lists k f s = option_map_or (λ groups. listed_in groups f s) (get key_eq lists k) false

-- the site has the form, and the key in its footprint
abbrev pub rests : List (ℕ × Rests) → ℕ → Key → Form → Bool
rests sites s k f = option_map_or (λ r. form_eq r.form f && has_key r.footprint k) (rests_at sites s) false

-- each site is listed under the keys of its footprint and by its form, and by no others
abbrev pub AreListed : {S T : Type 0} → List (ℕ × Rests) → IndexMap Key (IndexMap Form (List ℕ) S) T → Type 0
AreListed sites lists = (s : ℕ) (k : Key) (f : Form) → listed lists k f s ≡ rests sites s k f

-- no site has a number of 2^32 or more
abbrev pub AreBelow : List (ℕ × Rests) → Type 0
AreBelow sites = (s : ℕ) → nat_lt s (2 ^ 32) ≡ false → rests_at sites s ≡ None

-- what is kept of an index
pub record AreKept {S T : Type 0} (sites : List (ℕ × Rests)) (lists : IndexMap Key (IndexMap Form (List ℕ) S) T) : Type 0 where
  pub listed : AreListed sites lists
  pub below : AreBelow sites

-- the keys of what a site rests on, and its form, if it may rest on nothing
abbrev pub keys_in : Option Rests → List Key
keys_in None = []
keys_in (Some r) = r.footprint

abbrev pub form_in : Option Rests → Form
form_in None = Other
form_in (Some r) = r.form

-- ---- by any form

-- the site stands in one of the groups
abbrev pub any_listed : List (Form × List ℕ) → ℕ → Bool
any_listed groups s = list_any (λ group. has s group.1) groups

-- ---- by one form

-- the site has the form, and one of the keys in its footprint
abbrev pub is_of_form : List (ℕ × Rests) → List Key → Form → ℕ → Bool
is_of_form sites keys f s = option_map_or (λ q. form_eq q.form f && meets keys q.footprint) (rests_at sites s) false

-- one of these is s, or selects by the form f and is listed by it
abbrev pub stands_for : {S : Type 0} → IndexMap Form (List ℕ) S → List ℕ → Form → ℕ → Bool
stands_for groups asked f s = list_any (λ t. (t == s) || (selects f && listed_in groups f t)) asked
