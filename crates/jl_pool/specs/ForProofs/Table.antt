-- What a pool keeps of its constants, over a block of their bytes.
use Rattle.std.specs.Prelude.{◌≡◌, ℕ, ◌+◌, ◌<◌, ◌^◌, ◌==◌, nat_le, Bool, true, false, if◌then◌else◌, List, [], ◌∷◌, length, map, take, drop}
use Rattle.std.specs.Prelude.{slice_get, Option, Some, None, Result, Ok, Err}
use Rattle.std.specs.Option.{unwrap_or}
use Rattle.std.specs.List.{list_all, list_any}
use Rattle.byteorder.specs.Endian.{big_number}
use Rattle.jl_pool.specs.declared.constant.Constant.{Constant}
use Rattle.jl_pool.specs.declared.constant.Constant.TheVariants.{Utf8, Integer, Float, Long, Double, Class, String, Fieldref, Methodref}
use Rattle.jl_pool.specs.declared.constant.Constant.TheVariants.{InterfaceMethodref, NameAndType, MethodHandle, MethodType, Dynamic, InvokeDynamic}
use Rattle.jl_pool.specs.declared.constant.Constant.TheVariants.{Module, Package}
use Rattle.jl_pool.specs.declared.kept_constant.KeptConstant.{KeptConstant}
use Rattle.jl_pool.specs.declared.kept_constant.KeptConstant.TheVariants as kept
use Rattle.jl_pool.specs.declared.kept_constant.Kept.{Kept}
use Rattle.jl_pool.specs.declared.form.Form.{Form}
use Rattle.jl_pool.specs.declared.pool.Stop.{Stop}
use Rattle.jl_pool.specs.Pools.{Pool, places}
use Rattle.jl_pool.specs.Constants.{is_double}
use Rattle.jl_pool.specs.ForProofs.Forms.{form_of, forms_of}
use Rattle.jl_pool.specs.ForProofs.Marks.{is_odd}

-- the constant of an entry
abbrev pub shown : List ℕ → KeptConstant → Option Constant
shown block kept.Nothing = None
shown block (kept.Utf8 at len form) = Some (Utf8 (take len (drop at block)))
shown block (kept.Integer bits) = Some (Integer bits)
shown block (kept.Float bits) = Some (Float bits)
shown block (kept.Long at) = Some (Long (big_number 8 (drop at block)))
shown block (kept.Double at) = Some (Double (big_number 8 (drop at block)))
shown block (kept.Class name) = Some (Class name)
shown block (kept.String text) = Some (String text)
shown block (kept.Fieldref owner signed) = Some (Fieldref owner signed)
shown block (kept.Methodref owner signed) = Some (Methodref owner signed)
shown block (kept.InterfaceMethodref owner signed) = Some (InterfaceMethodref owner signed)
shown block (kept.NameAndType name ty) = Some (NameAndType name ty)
shown block (kept.MethodHandle kind reference) = Some (MethodHandle kind reference)
shown block (kept.MethodType ty) = Some (MethodType ty)
shown block (kept.Dynamic bootstrap signed) = Some (Dynamic bootstrap signed)
shown block (kept.InvokeDynamic bootstrap signed) = Some (InvokeDynamic bootstrap signed)
shown block (kept.Module name) = Some (Module name)
shown block (kept.Package name) = Some (Package name)

abbrev pub pool_of : List ℕ → List KeptConstant → Pool
pool_of block entries = map (shown block) entries

-- what it names stands within so many bytes
abbrev pub is_within : ℕ → KeptConstant → Bool
is_within size (kept.Utf8 at len form) = nat_le (at + len) size
is_within size (kept.Long at) = nat_le (at + 8) size
is_within size (kept.Double at) = nat_le (at + 8) size
is_within size _ = true

-- what its text may stand for
abbrev pub form_in : KeptConstant → Option Form
form_in (kept.Utf8 at len form) = Some form
form_in _ = None

-- what a pool keeps is right
abbrev pub IsKept : List ℕ → List KeptConstant → Type 0
IsKept block entries = (length entries < 2 ^ 16) × (list_all (is_within (length block)) entries ≡ true)
    × (map form_in entries ≡ forms_of (pool_of block entries))

-- these are the entries of the constants
pub record IsTable (block : List ℕ) (entries : List KeptConstant) (cs : List Constant) : Type 0 where
  pub by_number : pool_of block entries ≡ places cs
  pub within : list_all (is_within (length block)) entries ≡ true
  pub formed : map form_in entries ≡ forms_of (places cs)

-- what stands at a number
abbrev pub entry_at : List KeptConstant → ℕ → KeptConstant
entry_at entries n = unwrap_or (slice_get entries n) kept.Nothing

-- what an entry tells of what stands at its number, without the block
abbrev pub Shows : KeptConstant → Option Constant → Type 0
Shows kept.Nothing there = there ≡ None
Shows (kept.Utf8 at len form) there = (text : List ℕ) × (there ≡ Some (Utf8 text)) × (form ≡ form_of text)
Shows (kept.Long at) there = (bits : ℕ) × (there ≡ Some (Long bits))
Shows (kept.Double at) there = (bits : ℕ) × (there ≡ Some (Double bits))
Shows (kept.Integer bits) there = there ≡ Some (Integer bits)
Shows (kept.Float bits) there = there ≡ Some (Float bits)
Shows (kept.Class name) there = there ≡ Some (Class name)
Shows (kept.String text) there = there ≡ Some (String text)
Shows (kept.Fieldref owner signed) there = there ≡ Some (Fieldref owner signed)
Shows (kept.Methodref owner signed) there = there ≡ Some (Methodref owner signed)
Shows (kept.InterfaceMethodref owner signed) there = there ≡ Some (InterfaceMethodref owner signed)
Shows (kept.NameAndType name ty) there = there ≡ Some (NameAndType name ty)
Shows (kept.MethodHandle kind reference) there = there ≡ Some (MethodHandle kind reference)
Shows (kept.MethodType ty) there = there ≡ Some (MethodType ty)
Shows (kept.Dynamic bootstrap signed) there = there ≡ Some (Dynamic bootstrap signed)
Shows (kept.InvokeDynamic bootstrap signed) there = there ≡ Some (InvokeDynamic bootstrap signed)
Shows (kept.Module name) there = there ≡ Some (Module name)
Shows (kept.Package name) there = there ≡ Some (Package name)

-- ---- the entry of a constant that begins at a place

-- a text's bytes begin after its tag and its count
abbrev pub text_entry : List ℕ → ℕ → KeptConstant
text_entry text at = kept.Utf8 at (length text) (form_of text)

abbrev pub entry_of : Constant → ℕ → KeptConstant
entry_of (Utf8 text) start = text_entry text (start + 3)
entry_of (Integer bits) start = kept.Integer bits
entry_of (Float bits) start = kept.Float bits
entry_of (Long bits) start = kept.Long (start + 1)
entry_of (Double bits) start = kept.Double (start + 1)
entry_of (Class name) start = kept.Class name
entry_of (String text) start = kept.String text
entry_of (Fieldref owner signed) start = kept.Fieldref owner signed
entry_of (Methodref owner signed) start = kept.Methodref owner signed
entry_of (InterfaceMethodref owner signed) start = kept.InterfaceMethodref owner signed
entry_of (NameAndType name ty) start = kept.NameAndType name ty
entry_of (MethodHandle kind reference) start = kept.MethodHandle kind reference
entry_of (MethodType ty) start = kept.MethodType ty
entry_of (Dynamic bootstrap signed) start = kept.Dynamic bootstrap signed
entry_of (InvokeDynamic bootstrap signed) start = kept.InvokeDynamic bootstrap signed
entry_of (Module name) start = kept.Module name
entry_of (Package name) start = kept.Package name

-- a long and a double take two numbers
abbrev pub takes_two : KeptConstant → Bool
takes_two (kept.Long at) = true
takes_two (kept.Double at) = true
takes_two _ = false

-- an entry, and nothing at its second number
abbrev pub with_second : KeptConstant → List KeptConstant
with_second entry = entry ∷ (if takes_two entry then kept.Nothing ∷ [] else [])

-- a byte of its text is no unit by itself
abbrev pub has_odd : Constant → Bool
has_odd (Utf8 text) = list_any is_odd text
has_odd _ = false

abbrev pub kept_text : List ℕ → ℕ → Kept
kept_text text at = record { entry = text_entry text at; odd = list_any is_odd text }

abbrev pub kept_of : Constant → ℕ → Kept
kept_of c start = record { entry = entry_of c start; odd = has_odd c }

-- at the numbers that a constant takes
abbrev pub entries_of : Constant → ℕ → List KeptConstant
entries_of c start = entry_of c start ∷ (if is_double c then kept.Nothing ∷ [] else [])

-- the entry of a long or a double whose value begins at a place, by its tag
abbrev pub wide_entry : ℕ → ℕ → KeptConstant
wide_entry t at = if t == 5 then kept.Long at else kept.Double at

-- ---- what is kept of the constant at the front, which begins at a place, and what is left

abbrev pub keep : ℕ → Constant × List ℕ → Kept × List ℕ
keep start x = (kept_of x.0 start, x.1)

abbrev pub keep_read : ℕ → Result (Constant × List ℕ) Stop → Result (Kept × List ℕ) Stop
keep_read start (Ok x) = Ok (keep start x)
keep_read start (Err stop) = Err stop
