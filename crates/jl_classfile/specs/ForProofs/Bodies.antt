-- What follows the pool, read from the front: the value and what is left, or none if the bytes end before.
-- No public clause cites this.
use Rattle.std.specs.Prelude.{◌≡◌, ℕ, zero, suc, ◌*◌, ◌==◌, nat_lt, ◌||◌, if◌then◌else◌, Bool, List, [], ◌∷◌, ◌++◌, length, Option, Some, None}
use Rattle.std.specs.Prelude.{option_map, Result, Ok, Err, ⊤}
use Rattle.std.specs.Option.{is_some, option_map_or}
use Rattle.jl_classfile.specs.declared.body.Attribute.{Attribute}
use Rattle.jl_classfile.specs.declared.body.Member.{Member}
use Rattle.jl_classfile.specs.declared.body.Body.{Body}
use Rattle.jl_classfile.specs.declared.body.Broken.{Broken}
use Rattle.jl_classfile.specs.declared.body.Broken.TheVariants.{Cut, Memory}
use Rattle.jl_pool.specs.ForProofs.Fields.{◌>>=◌, number_at, bytes_at}

-- what a function returned, seen by view, is what reading gives, unless memory ran out
abbrev pub Stops : {Y : Type 0} → Broken → Option Y → Type 0
Stops Cut read = read ≡ None
Stops Memory read = ⊤

abbrev pub Reads : {X Y : Type 0} → (X → Y) → Result X Broken → Option Y → Type 0
Reads view (Ok x) read = read ≡ Some (view x)
Reads view (Err e) read = Stops e read

-- ---- lists after their count

abbrev pub Reader : Type 0 → Type 0
Reader X = List ℕ → Option (X × List ℕ)

abbrev pub with_front : {X : Type 0} → List X → Option (List X × List ℕ) → Option (List X × List ℕ)
with_front front read = option_map (λ x. (front ++ x.0, x.1)) read

-- so many items, one after another
unfoldable pub items_at : {X : Type 0} → Reader X → ℕ → List ℕ → Option (List X × List ℕ)
items_at item zero bytes = Some ([], bytes)
items_at item (suc n) bytes = item bytes >>= λ x. with_front (x.0 ∷ []) (items_at item n x.1)

abbrev pub counted_at : {X : Type 0} → Reader X → List ℕ → Option (List X × List ℕ)
counted_at item bytes = number_at 2 bytes >>= λ n. items_at item n.0 n.1

-- ---- the parts

unfoldable pub attribute_at : List ℕ → Option (Attribute × List ℕ)
attribute_at bytes = do
  name ← number_at 2 bytes
  len ← number_at 4 name.1
  info ← bytes_at len.0 len.1
  Some (record { name = name.0; info = info.0 }, info.1)

-- the attributes that stand there, so many
abbrev pub attributes_in : ℕ → List ℕ → List Attribute
attributes_in count bytes = option_map_or (λ x. x.0) (items_at attribute_at count bytes) []

-- so many stand there
abbrev pub are_attributes : ℕ → List ℕ → Bool
are_attributes count bytes = is_some (items_at attribute_at count bytes)

unfoldable pub member_at : List ℕ → Option (Member × List ℕ)
member_at bytes = do
  flags ← number_at 2 bytes
  name ← number_at 2 flags.1
  descriptor ← number_at 2 name.1
  attributes ← counted_at attribute_at descriptor.1
  Some (record { flags = flags.0; name = name.0; descriptor = descriptor.0; attributes = attributes.0 }, attributes.1)

-- one part, and another after it
abbrev pub pair_of : {X Y : Type 0} → Reader X → Reader Y → Reader (X × Y)
pair_of first second bytes = first bytes >>= λ x. second x.1 >>= λ y. Some ((x.0, y.0), y.1)

abbrev pub numbers_at : Reader (ℕ × (ℕ × ℕ))
numbers_at = pair_of (number_at 2) (pair_of (number_at 2) (number_at 2))

abbrev pub lists_at : Reader (List ℕ × (List Member × (List Member × List Attribute)))
lists_at = pair_of (counted_at (number_at 2)) (pair_of (counted_at member_at) (pair_of (counted_at member_at) (counted_at attribute_at)))

abbrev pub body_of : (ℕ × (ℕ × ℕ)) × (List ℕ × (List Member × (List Member × List Attribute))) → Body
body_of x = record {
  flags = x.0.0;
  this_class = x.0.1.0;
  super_class = x.0.1.1;
  interfaces = x.1.0;
  fields = x.1.1.0;
  methods = x.1.1.1.0;
  attributes = x.1.1.1.1;
}

unfoldable pub body_at : List ℕ → Option (Body × List ℕ)
body_at bytes = option_map (λ x. (body_of x.0, x.1)) (pair_of numbers_at lists_at bytes)

-- ---- a Code attribute

-- the code, if nothing is left
abbrev pub if_filled : List ℕ → List ℕ → Option (List ℕ)
if_filled code left = if length left == 0 then Some code else None

abbrev pub after_code : List ℕ × List ℕ → Option (List ℕ)
after_code code = do
  count ← number_at 2 code.1
  table ← bytes_at (8 * count.0) count.1
  attributes ← counted_at attribute_at table.1
  if_filled code.0 attributes.1

unfoldable pub code_in : List ℕ → Option (List ℕ)
code_in info = do
  max_stack ← number_at 2 info
  max_locals ← number_at 2 max_stack.1
  len ← number_at 4 max_locals.1
  if (len.0 == 0) || nat_lt 65535 len.0 then None else (bytes_at len.0 len.1 >>= after_code)
