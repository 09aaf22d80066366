-- What stands under the keys of a JSON object, and which keys it has.
use Rattle.std.specs.Prelude.{◌≡◌, ℕ, suc, nat_lt, if◌then◌else◌, List, [], ◌∷◌, true, Bool}
use Rattle.std.specs.Prelude.{Option, Some, None, option_map, option_and_then}
use Rattle.std.specs.List.{AllByRecursion, list_all, list_any}
use Rattle.std.specs.Option.{option_map_or}
use Rattle.std.specs.Str.{bytes_eq}
use Rattle.serde_json.specs.Data.{Data, Items, no_items, item, Members, no_members, member}
use Rattle.serde_json.specs.Find.{get, as_number, as_str, as_array, as_object, as_u64}

-- what comes next, if there is a value
infixl 10 ◌>>=◌
abbrev pub ◌>>=◌ : {A B : Type 0} → Option A → (A → Option B) → Option B
o >>= f = option_and_then f o

-- ---- values

abbrev pub below : ℕ → ℕ → Option ℕ
below bound n = if nat_lt n bound then Some n else None

-- a whole number below the bound
abbrev pub number_in : ℕ → Data → Option ℕ
number_in bound d = do
  n ← as_number d
  whole ← as_u64 n
  below bound whole

-- each of the items
abbrev pub each_in : {A : Type 0} → (Data → Option A) → Items → Option (List A)
each_in read no_items = Some []
each_in read (item d ds) = do
  a ← read d
  option_map (λ rest. a ∷ rest) (each_in read ds)

-- an array of such
abbrev pub list_in : {A : Type 0} → (Data → Option A) → Data → Option (List A)
list_in read d = as_array d >>= each_in read

-- ---- values under a key

abbrev pub number_at : ℕ → List ℕ → Data → Option ℕ
number_at bound key d = get key d >>= number_in bound

abbrev pub text_at : List ℕ → Data → Option (List ℕ)
text_at key d = get key d >>= as_str

-- an array under a key
abbrev pub list_at : {A : Type 0} → (Data → Option A) → List ℕ → Data → Option (List A)
list_at read key d = get key d >>= list_in read

-- what the value under the key is read as; if the key is absent, what is meant then
abbrev pub or_absent : {A : Type 0} → A → (Data → Option A) → List ℕ → Data → Option A
or_absent absent read key d = option_map_or read (get key d) (Some absent)

-- ---- keys

abbrev pub member_count : Members → ℕ
member_count no_members = 0
member_count (member key d members) = suc (member_count members)

abbrev pub member_keys : Members → List (List ℕ)
member_keys no_members = []
member_keys (member key d members) = key ∷ member_keys members

-- those of an object
abbrev pub keys_of : Data → List (List ℕ)
keys_of d = option_map_or member_keys (as_object d) []

abbrev pub has_key : List (List ℕ) → List ℕ → Bool
has_key keys key = list_any (bytes_eq key) keys

-- whether it has no keys but those named
abbrev pub has_only : List (List ℕ) → Data → Bool
has_only named d = list_all (has_key named) (keys_of d)

-- what is read, if there are no keys but those named
abbrev pub with_only : {A : Type 0} → List (List ℕ) → Data → Option A → Option A
with_only named d read = if has_only named d then read else None

-- each of the keys is one of those named
abbrev pub AreAmong : List (List ℕ) → List (List ℕ) → Type 0
AreAmong keys named = AllByRecursion (λ key. has_key named key ≡ true) keys
