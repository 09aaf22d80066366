-- What is kept of a constant tells its numbers, its form, and whether its text may be bad.
use Rattle.std.proofs.Common.{◌≡◌, ◌∙◌, refl, ap, subst, ◌++◌, arith, ℕ, ◌^◌, ◌<◌, Bool, true, false, cond, List, [], ◌∷◌, length, Option, None}
use Rattle.std.specs.Prelude.{option_map}
use Rattle.std.specs.List.{list_any}
use Rattle.std.proofs.lemmas.Bool.Decides.{nat_tests}
use Rattle.jl_names.specs.Mutf8.{unit_bytes, AreUnits, mutf8}
use Rattle.jl_pool.specs.declared.constant.Constant.{Constant}
use Rattle.jl_pool.specs.declared.constant.Constant.TheVariants.{Utf8, Integer, Float, Long, Double, Class, String, Fieldref, Methodref}
use Rattle.jl_pool.specs.declared.constant.Constant.TheVariants.{InterfaceMethodref, NameAndType}
use Rattle.jl_pool.specs.declared.constant.Constant.TheVariants.{MethodHandle, MethodType, Dynamic, InvokeDynamic, Module, Package}
use Rattle.jl_pool.specs.declared.kept_constant.KeptConstant.TheVariants as kept
use Rattle.jl_pool.specs.Constants.{is_double, constant_text, IsSized}
use Rattle.jl_pool.specs.Pools.{HasText, places_of, text_of}
use Rattle.jl_pool.specs.ForProofs.Forms.{form_of}
use Rattle.jl_pool.specs.ForProofs.Marks.{is_odd}
use Rattle.jl_pool.specs.ForProofs.Table.{form_in, entry_of, entries_of, takes_two, with_second, has_odd}
use Rattle.jl_pool.specs.ForProofs.Entries.{BeginsText}
use Rattle.jl_names.proofs.Tests.{by_test}
use Rattle.jl_pool.proofs.Fields.{text_again}
use Rattle.jl_pool.proofs.MarkLaws.{neither}

one_unit : (b : ℕ) → is_odd b ≡ false → (unit_bytes b ≡ b ∷ []) × (b < 2 ^ 16)
one_unit b even = (grind (arith, nat_tests), grind (arith, nat_tests))

even_units : (text : List ℕ) → list_any is_odd text ≡ false → AreUnits text × (text ≡ mutf8 text)
even_units [] even = (tt, refl)
even_units (b ∷ text) even =
    let both = neither (is_odd b) (list_any is_odd text) even in
    let first = one_unit b both.0 in
    let rest = even_units text both.1 in
    ((first.1, rest.0), ap (λ (t : List ℕ). b ∷ t) rest.1 ∙ rw first.0 refl)

record Tells (c : Constant) (start : ℕ) : Type 0 where
  two : takes_two (entry_of c start) ≡ is_double c
  even : has_odd c ≡ false → HasText c
  form : form_in (entry_of c start) ≡ option_map form_of (text_of c)

tells : (c : Constant) (start : ℕ) → Tells c start
tells (Utf8 text) start = record {
  two = refl;
  even = λ e. let units = even_units text e in (text, record { in_range = units.0; bytes = units.1 });
  form = refl;
}
tells (Integer bits) start = record { two = refl; even = λ e. tt; form = refl }
tells (Float bits) start = record { two = refl; even = λ e. tt; form = refl }
tells (Long bits) start = record { two = refl; even = λ e. tt; form = refl }
tells (Double bits) start = record { two = refl; even = λ e. tt; form = refl }
tells (Class name) start = record { two = refl; even = λ e. tt; form = refl }
tells (String text) start = record { two = refl; even = λ e. tt; form = refl }
tells (Fieldref owner nt) start = record { two = refl; even = λ e. tt; form = refl }
tells (Methodref owner nt) start = record { two = refl; even = λ e. tt; form = refl }
tells (InterfaceMethodref owner nt) start = record { two = refl; even = λ e. tt; form = refl }
tells (NameAndType name ty) start = record { two = refl; even = λ e. tt; form = refl }
tells (MethodHandle kind reference) start = record { two = refl; even = λ e. tt; form = refl }
tells (MethodType ty) start = record { two = refl; even = λ e. tt; form = refl }
tells (Dynamic bootstrap nt) start = record { two = refl; even = λ e. tt; form = refl }
tells (InvokeDynamic bootstrap nt) start = record { two = refl; even = λ e. tt; form = refl }
tells (Module name) start = record { two = refl; even = λ e. tt; form = refl }
tells (Package name) start = record { two = refl; even = λ e. tt; form = refl }

even_text : (c : Constant) → has_odd c ≡ false → HasText c
even_text c = (tells c 0).even

-- a text that has an odd byte is good if the bytes begin with one that is
good_text : (c : Constant) (after : List ℕ) → IsSized c → has_odd c ≡ true → BeginsText (constant_text c ++ after) → HasText c
good_text (Utf8 text) after sized e good = rw (text_again text after sized) at good
good_text _ after sized e good = absurd cc

pub text_kept : (c : Constant) (rest after : List ℕ) → IsSized c → rest ≡ constant_text c ++ after → (has_odd c ≡ true → BeginsText rest) → HasText c
text_kept c rest after sized e good =
    by_test (has_odd c) (λ odd. good_text c after sized odd (subst BeginsText e (good odd))) (even_text c)

pub form_kept : (c : Constant) (start : ℕ) → form_in (entry_of c start) ≡ option_map form_of (text_of c)
form_kept c start = (tells c start).form

pub entries_kept : (c : Constant) (start : ℕ) → with_second (entry_of c start) ≡ entries_of c start
entries_kept c start = ap (λ (double : Bool). entry_of c start ∷ cond double (kept.Nothing ∷ []) []) (tells c start).two

second_number : (double : Bool) → length (cond double (kept.Nothing ∷ []) []) ≡ length {A = Option Constant} (cond double (None ∷ []) [])
second_number true = refl
second_number false = refl

pub numbers_kept : (c : Constant) (start : ℕ) → length (with_second (entry_of c start)) ≡ length (places_of c)
numbers_kept c start = ap length (entries_kept c start) ∙ omega (arith, second_number (is_double c))
