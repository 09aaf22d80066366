-- A constant at the front of bytes, and what is left.
use Rattle.std.specs.Prelude.{◌≡◌, ℕ, Bool, ◌==◌, not, ◌&&◌, ◌||◌, if◌then◌else◌, List, [], ◌∷◌, Option, Some, None, Result, Ok, Err}
use Rattle.std.specs.List.{list_any}
use Rattle.jl_pool.specs.declared.constant.Constant.{Constant}
use Rattle.jl_pool.specs.declared.constant.Constant.TheVariants.{Utf8, Integer, Float, Long, Double, Class, String, Fieldref, Methodref}
use Rattle.jl_pool.specs.declared.constant.Constant.TheVariants.{InterfaceMethodref, NameAndType, MethodHandle, MethodType, Dynamic, InvokeDynamic}
use Rattle.jl_pool.specs.declared.constant.Constant.TheVariants.{Module, Package}
use Rattle.jl_pool.specs.declared.pool.Stop.{Stop}
use Rattle.jl_pool.specs.declared.pool.Stop.TheVariants.{Cut, Tag}
use Rattle.jl_pool.specs.Known.{known_tags}
use Rattle.jl_pool.specs.ForProofs.Fields.{◌>>=◌, number_at, pair_at, handle_at, text_at}

abbrev pub Gives : {X Y : Type 0} → (X → Y) → Result X Stop → Result Y Stop → Type 0
Gives view (Ok x) read = read ≡ Ok (view x)
Gives view (Err e) read = read ≡ Err e

abbrev pub is_known : ℕ → Bool
is_known t = list_any (λ k. k == t) known_tags

-- the tag of a long or a double
abbrev pub is_wide : ℕ → Bool
is_wide t = (t == 5) || (t == 6)

-- no constant of this tag may stand there; the last number has room for no second one
abbrev pub is_bad_tag : Bool → ℕ → Bool
is_bad_tag last t = not (is_known t) || (last && is_wide t)

-- the value that was read, in a constant
abbrev pub within : {X : Type 0} → (X → Constant) → Option (X × List ℕ) → Option (Constant × List ℕ)
within make read = read >>= λ x. Some (make x.0, x.1)

-- ---- the constant of a tag, by the shape of what follows it

-- four bytes
abbrev pub of_bits : ℕ → ℕ → Constant
of_bits t bits = if t == 3 then Integer bits else Float bits

-- eight bytes
abbrev pub of_wide_bits : ℕ → ℕ → Constant
of_wide_bits t bits = if t == 5 then Long bits else Double bits

-- one number
abbrev pub of_number : ℕ → ℕ → Constant
of_number t n =
    if t == 7 then Class n
    else (if t == 8 then String n
    else (if t == 16 then MethodType n
    else (if t == 19 then Module n else Package n)))

-- two numbers
abbrev pub of_pair : ℕ → ℕ × ℕ → Constant
of_pair t x =
    if t == 9 then Fieldref x.0 x.1
    else (if t == 10 then Methodref x.0 x.1
    else (if t == 11 then InterfaceMethodref x.0 x.1
    else (if t == 12 then NameAndType x.0 x.1
    else (if t == 17 then Dynamic x.0 x.1 else InvokeDynamic x.0 x.1))))

unfoldable pub payload_at : ℕ → List ℕ → Option (Constant × List ℕ)
payload_at t bytes =
    if t == 1 then within Utf8 (text_at bytes)
    else (if (t == 3) || (t == 4) then within (of_bits t) (number_at 4 bytes)
    else (if (t == 5) || (t == 6) then within (of_wide_bits t) (number_at 8 bytes)
    else (if (t == 7) || (t == 8) || (t == 16) || (t == 19) || (t == 20) then within (of_number t) (number_at 2 bytes)
    else (if (t == 9) || (t == 10) || (t == 11) || (t == 12) || (t == 17) || (t == 18) then within (of_pair t) (pair_at bytes)
    else (if t == 15 then within (λ x. MethodHandle x.0 x.1) (handle_at bytes)
    else None)))))

abbrev pub or_cut : Option (Constant × List ℕ) → Result (Constant × List ℕ) Stop
or_cut (Some x) = Ok x
or_cut None = Err Cut

-- the tag is looked at before the bytes after it
unfoldable pub constant_at : Bool → List ℕ → Result (Constant × List ℕ) Stop
constant_at last [] = Err Cut
constant_at last (t ∷ bytes) = if is_bad_tag last t then Err Tag else or_cut (payload_at t bytes)
