-- One constant after another.
use Rattle.std.proofs.Common.{◌≡◌, ℕ, ◌+◌, ◌-◌, ◌^◌, ◌<◌, ◌≤◌, Bool, true, false, cond, eqb, not, ◌&&◌, ◌||◌, List, [], ◌∷◌, ◌++◌}
use Rattle.std.proofs.Common.{length, take, Option, Some, Result, Ok, Err, refl, sym, ap, subst, ◌∙◌, append_assoc, length-append, get_or, arith, inl, inr}
use Rattle.std.specs.Prelude.{◌⊎◌, IsTrue}
use Rattle.std.specs.List.{flat_map, AllByRecursion}
use Rattle.std.proofs.lemmas.Bool.Decides.{nat_tests}
use Rattle.std.proofs.lemmas.Grind.{flat_map-append}
use Rattle.std.proofs.lemmas.List.{append-nil, take_at}
use Rattle.jl_names.proofs.Tests.{All-push, texts-push}
use Rattle.jl_pool.specs.declared.constant.Constant.{Constant}
use Rattle.jl_pool.specs.declared.constant.Constant.TheVariants.{Utf8, Integer, Float, Long, Double, Class, String, Fieldref, Methodref}
use Rattle.jl_pool.specs.declared.constant.Constant.TheVariants.{InterfaceMethodref, NameAndType}
use Rattle.jl_pool.specs.declared.constant.Constant.TheVariants.{MethodHandle, MethodType, Dynamic, InvokeDynamic, Module, Package}
use Rattle.jl_pool.specs.declared.pool.Stop.{Stop}
use Rattle.jl_pool.specs.declared.pool.Stop.TheVariants.{Cut, Tag}
use Rattle.jl_pool.specs.declared.pool_fault.PoolFault.{PoolFault}
use Rattle.jl_pool.specs.declared.pool_fault.PoolFault.TheVariants.{Truncated, BadTag}
use Rattle.jl_pool.specs.Numbers.{u2, u4}
use Rattle.jl_pool.specs.Constants.{tag, constant_text, IsSized}
use Rattle.jl_pool.specs.Pools.{places, places_of, HasText, HaveTexts, is_linked, IsTyped, IsSoundPool}
use Rattle.jl_pool.specs.Faults.{Opens, IsBadTag, TagFault, PoolStands, IsPoolFault, AllAt}
use Rattle.jl_pool.specs.ForProofs.Entries.{IsCheckFault, BeginsText}
use Rattle.jl_pool.specs.ForProofs.Table.{IsTable, entries_of, has_odd, with_second, kept_of, keep_read}
use Rattle.jl_pool.specs.declared.kept_constant.KeptConstant.{KeptConstant}
use Rattle.jl_pool.specs.declared.kept_constant.KeptConstant.TheVariants as kept
use Rattle.jl_pool.specs.declared.kept_constant.Kept.{Kept}
use Rattle.jl_pool.specs.ForProofs.Fields.{number_at}
use Rattle.jl_pool.specs.ForProofs.Constants.{is_known, is_wide, is_bad_tag, constant_at}
use Rattle.jl_pool.proofs.Fields.{IsBytes, u2_again, u2_takes, u4_again, some_is}
use Rattle.jl_pool.proofs.EntryLaws.{text_kept, entries_kept, numbers_kept}
use Rattle.jl_pool.proofs.MarkLaws.{neither}
use Rattle.jl_pool.proofs.PlaceLaws.{All-places}
use Rattle.jl_pool.proofs.TableLaws.{places-push, table_none, table_more, texts_short}
use Rattle.jl_pool.proofs.ConstantLaws.{tag_known, constant_again, constant_takes, constant_tag, constant_bad, constant_one}

-- ---- how many numbers a constant takes

pub places_by_tag : (c : Constant) → length (places_of c) ≡ cond (is_wide (tag c)) 2 1
places_by_tag (Utf8 bytes) = refl
places_by_tag (Integer bits) = refl
places_by_tag (Float bits) = refl
places_by_tag (Long bits) = refl
places_by_tag (Double bits) = refl
places_by_tag (Class name) = refl
places_by_tag (String text) = refl
places_by_tag (Fieldref owner nt) = refl
places_by_tag (Methodref owner nt) = refl
places_by_tag (InterfaceMethodref owner nt) = refl
places_by_tag (NameAndType name ty) = refl
places_by_tag (MethodHandle kind reference) = refl
places_by_tag (MethodType ty) = refl
places_by_tag (Dynamic bootstrap nt) = refl
places_by_tag (InvokeDynamic bootstrap nt) = refl
places_by_tag (Module name) = refl
places_by_tag (Package name) = refl

wide_fits : (count place : ℕ) (wide : Bool) → place < count → eqb (place + 1) count && wide ≡ false → place + cond wide 2 1 ≤ count
wide_fits count place false lt e = omega arith
wide_fits count place true lt e = grind (arith, nat_tests)

fits_wide : (count place : ℕ) (wide : Bool) → place + cond wide 2 1 ≤ count → eqb (place + 1) count && wide ≡ false
fits_wide count place false le = grind (arith, nat_tests)
fits_wide count place true le = grind (arith, nat_tests)

-- if a constant ends below the count, there is room for it
room_for : (count place : ℕ) (c : Constant) → place + length (places_of c) ≤ count → eqb (place + 1) count && is_wide (tag c) ≡ false
room_for count place c le = fits_wide count place (is_wide (tag c)) (omega (arith, places_by_tag c))

-- ---- bad tags

bad_is : (count place : ℕ) (t : ℕ) (known wide : Bool) → is_known t ≡ known → is_wide t ≡ wide → not known || (eqb (place + 1) count && wide) ≡ true
    → IsBadTag count place t
bad_is count place t false wide h k e = inl h
bad_is count place t true false h k e = absurd (grind (arith, nat_tests))
bad_is count place t true true h k e = inr (k, grind (arith, nat_tests))

is_bad : (count place t : ℕ) → IsTrue (is_bad_tag (eqb (place + 1) count) t) → IsBadTag count place t
is_bad count place t e = bad_is count place t (is_known t) (is_wide t) refl refl e

bad_at : (known last wide : Bool) → (known ≡ false) ⊎ ((wide ≡ true) × (last ≡ true)) → not known || (last && wide) ≡ true
bad_at known last wide (inl e) = rw e refl
bad_at true last wide (inr e) = rw (e.1, e.0) refl
bad_at false last wide (inr e) = refl

pub bad_tag : (count i t : ℕ) (left : List ℕ) → i < count → IsBadTag count i t → constant_at (eqb (i + 1) count) (t ∷ left) ≡ Err Tag
bad_tag count i t left lt (inl unknown) = constant_bad (eqb (i + 1) count) t left (bad_at (is_known t) (eqb (i + 1) count) (is_wide t) (inl unknown))
bad_tag count i t left lt (inr two) =
    let last : eqb (i + 1) count ≡ true = grind (arith, nat_tests) in
    constant_bad (eqb (i + 1) count) t left (bad_at (is_known t) (eqb (i + 1) count) (is_wide t) (inr (two.0, last)))

-- a bad tag isn't that of a constant that ends below the count
pub met : (count i t : ℕ) (c : Constant) → t ≡ tag c → i + length (places_of c) ≤ count → IsBadTag count i t → ⊥
met count i t c same fits (inl unknown) = let known : is_known (tag c) ≡ true = tag_known c in absurd cc
met count i t c same fits (inr two) =
    let wide : is_wide (tag c) ≡ true = ap is_wide (sym same) ∙ two.0 in
    let places : length (places_of c) ≡ 2 = rw wide at (places_by_tag c) in
    absurd (omega (arith, two.1))

-- ---- constants that were read, by number, and what is left

pub record SoFar (bytes : List ℕ) (entries : List KeptConstant) (bad : Bool) (rest : List ℕ) (count place : ℕ) : Type 0 where
  pub cs : List Constant
  -- whatever comes after them
  pub table : (more : List ℕ) → IsTable (flat_map constant_text cs ++ more) entries cs
  pub spelled : bytes ≡ flat_map constant_text cs ++ rest
  pub sized : AllByRecursion IsSized cs
  pub bytes_left : IsBytes rest
  pub next : place ≡ length (places cs)
  pub within : place ≤ count
  pub texts : bad ≡ false → HaveTexts cs

pub SoFar-none : (bytes : List ℕ) (count : ℕ) → IsBytes bytes → 1 ≤ count → SoFar bytes (kept.Nothing ∷ []) false bytes count 1
SoFar-none bytes count fits le = record {
  cs = [];
  table = table_none;
  spelled = refl;
  sized = tt;
  bytes_left = fits;
  next = refl;
  within = le;
  texts = λ e. tt;
}

-- a constant that was read ends below the count
pub ends_below : (count place : ℕ) (rest : List ℕ) (c : Constant) (after : List ℕ) → IsBytes rest → place < count
    → constant_at (eqb (place + 1) count) rest ≡ Ok (c, after) → place + length (places_of c) ≤ count
ends_below count place rest c after fits lt e =
    let r = constant_takes (eqb (place + 1) count) rest (c, after) fits e in
    let le = wide_fits count place (is_wide (tag c)) lt r.room in
    omega (arith, places_by_tag c, le)

start_is : (bytes : List ℕ) (cs : List Constant) (rest : List ℕ) → bytes ≡ flat_map constant_text cs ++ rest
    → length bytes - length rest ≡ length (flat_map constant_text cs)
start_is bytes cs rest e = omega (arith, ap length e, length-append (flat_map constant_text cs) rest)

-- where the next constant begins
pub starts : (bytes : List ℕ) (entries : List KeptConstant) (bad : Bool) (rest : List ℕ) (count place : ℕ) → SoFar bytes entries bad rest count place
    → count < 2 ^ 16 → place < count
    → (length rest ≤ length bytes) × (length bytes - length rest + 3 < 2 ^ 32)
starts bytes entries bad rest count place s size lt =
    let front = texts_short s.cs s.sized in
    let start = start_is bytes s.cs rest s.spelled in
    (omega (arith, ap length s.spelled, length-append (flat_map constant_text s.cs) rest), omega (arith, start, front, s.next, size, lt))

SoFar-more : (bytes : List ℕ) (entries : List KeptConstant) (bad : Bool) (rest : List ℕ) (count place : ℕ) (c : Constant) (after : List ℕ)
    → SoFar bytes entries bad rest count place → place < count → constant_at (eqb (place + 1) count) rest ≡ Ok (c, after)
    → (worse : Bool) → (worse ≡ false → has_odd c ≡ true → BeginsText rest)
    → SoFar bytes (entries ++ entries_of c (length bytes - length rest)) (bad || worse) after count (place + length (places_of c))
SoFar-more bytes entries bad rest count place c after s lt e worse tells =
    let r = constant_takes (eqb (place + 1) count) rest (c, after) s.bytes_left e in
    record {
      cs = s.cs ++ c ∷ [];
      table = λ more. table_more s.cs c entries more (length bytes - length rest) r.sized (start_is bytes s.cs rest s.spelled)
          (s.table (constant_text c ++ more));
      spelled = s.spelled ∙ ap (λ (x : List ℕ). flat_map constant_text s.cs ++ x) r.taken.parts ∙ sym (texts-push constant_text s.cs c after);
      sized = All-push IsSized s.cs c s.sized r.sized;
      bytes_left = r.taken.bytes_left;
      next = omega (arith, s.next, ap length (places-push s.cs c), length-append (places s.cs) (places_of c));
      within = ends_below count place rest c after s.bytes_left lt e;
      texts = λ good. let both = neither bad worse good in All-push HasText s.cs c (s.texts both.0)
          (text_kept c rest after r.sized r.taken.parts (tells both.1));
    }

-- ---- a reading of constants, by what is kept of them

kept_ok : (start : ℕ) (read : Result (Constant × List ℕ) Stop) (k : Kept) (after : List ℕ) → keep_read start read ≡ Ok (k, after) → (c : Constant)
    × (read ≡ Ok (c, after)) × (kept_of c start ≡ k)
kept_ok start (Err stop) k after e = absurd cc
kept_ok start (Ok (c, left)) k after e =
    let both : (kept_of c start, left) ≡ (k, after) = cc in
    (c, ap (λ (x : Kept × List ℕ). Ok (c, x.1)) both, ap (λ (x : Kept × List ℕ). x.0) both)

pub kept_err : (start : ℕ) (read : Result (Constant × List ℕ) Stop) (stop : Stop) → keep_read start read ≡ Err stop → read ≡ Err stop
kept_err start (Err found) stop e = cc
kept_err start (Ok x) stop e = absurd cc

module _ (bytes : List ℕ) (entries : List KeptConstant) (bad : Bool) (rest : List ℕ) (count place : ℕ) (s : SoFar bytes entries bad rest count place)
    (lt : place < count)
    (k : Kept) (after : List ℕ) (e : keep_read (length bytes - length rest) (constant_at (eqb (place + 1) count) rest) ≡ Ok (k, after)) where
  pub kept_below : place + length (with_second k.entry) ≤ count
  kept_below =
      let x = kept_ok (length bytes - length rest) (constant_at (eqb (place + 1) count) rest) k after e in
      let below = ends_below count place rest x.0 after s.bytes_left lt x.1 in
      omega (arith, below, numbers_kept x.0 (length bytes - length rest), ap (λ (k : Kept). length (with_second k.entry)) x.2)

  pub SoFar-kept : (worse : Bool) → (worse ≡ false → k.odd ≡ true → BeginsText rest)
      → SoFar bytes (entries ++ with_second k.entry) (bad || worse) after count (place + length (with_second k.entry))
  SoFar-kept worse tells =
      let x = kept_ok (length bytes - length rest) (constant_at (eqb (place + 1) count) rest) k after e in
      subst (λ (k : Kept). SoFar bytes (entries ++ with_second k.entry) (bad || worse) after count (place + length (with_second k.entry))) x.2
      (rw (numbers_kept x.0 (length bytes - length rest), entries_kept x.0 (length bytes - length rest))
      (SoFar-more bytes entries bad rest count place x.0 after s lt x.1 worse (λ good odd. tells good (ap (λ (k : Kept). k.odd) (sym x.2) ∙ odd))))

pub SoFar-done : (bytes : List ℕ) (entries : List KeptConstant) (bad : Bool) (rest : List ℕ) (count place : ℕ) → count < 2 ^ 16 → count ≤ place
    → SoFar bytes entries bad rest count place → (cs : List Constant) × PoolStands (u2 count ++ bytes) cs rest × (bytes ≡ flat_map constant_text cs ++ rest)
    × IsTable (flat_map constant_text cs) entries cs × (bad ≡ false → HaveTexts cs)
SoFar-done bytes entries bad rest count place size le s =
    let is : count ≡ place = omega (arith, s.within) in (
      s.cs,
      record {
        bytes = ap (λ (x : List ℕ). u2 count ++ x) s.spelled ∙ ap (λ (n : ℕ). u2 n ++ (flat_map constant_text s.cs ++ rest)) (is ∙ s.next);
        written = record { each = s.sized; count = omega (arith, s.next) };
      },
      s.spelled,
      subst (λ (b : List ℕ). IsTable b entries s.cs) (append-nil (flat_map constant_text s.cs)) (s.table []),
      s.texts,
    )

opens : (bytes : List ℕ) (entries : List KeptConstant) (bad : Bool) (rest : List ℕ) (count place : ℕ) (s : SoFar bytes entries bad rest count place)
    → count < 2 ^ 16
    → place < count → Opens (u2 count ++ bytes) count s.cs rest
opens bytes entries bad rest count place s size lt = record {
  count_size = size;
  bytes = ap (λ (x : List ℕ). u2 count ++ x) s.spelled;
  each = s.sized;
  more = omega (arith, s.next);
}

pub SoFar-tag : (bytes : List ℕ) (entries : List KeptConstant) (bad : Bool) (rest : List ℕ) (count place : ℕ) → SoFar bytes entries bad rest count place
    → count < 2 ^ 16 → place < count
    → constant_at (eqb (place + 1) count) rest ≡ Err Tag → IsPoolFault (u2 count ++ bytes) (BadTag place)
SoFar-tag bytes entries bad rest count place s size lt e =
    let t = constant_tag (eqb (place + 1) count) rest e in
    inl (record {
      count = count;
      before = s.cs;
      tag = t.0;
      left = t.1;
      begins = subst (λ (x : List ℕ). Opens (u2 count ++ bytes) count s.cs x) t.2 (opens bytes entries bad rest count place s size lt);
      place = s.next;
      bad = is_bad count place t.0 t.3;
    })

-- ---- of two readings one goes on where the other ends

pub u2_one : (m n : ℕ) (x y : List ℕ) → m < 2 ^ 16 → n < 2 ^ 16 → u2 m ++ x ≡ u2 n ++ y → (m ≡ n) × (x ≡ y)
u2_one m n x y hm hn e =
    let pairs : (m, x) ≡ (n, y) = some_is (m, x) (n, y) (sym (u2_again m x hm) ∙ ap (number_at 2) e ∙ u2_again n y hn) in
    (ap (λ (p : ℕ × List ℕ). p.0) pairs, ap (λ (p : ℕ × List ℕ). p.1) pairs)

pub u4_one : (m n : ℕ) (x y : List ℕ) → m < 2 ^ 32 → n < 2 ^ 32 → u4 m ++ x ≡ u4 n ++ y → (m ≡ n) × (x ≡ y)
u4_one m n x y hm hn e =
    let pairs : (m, x) ≡ (n, y) = some_is (m, x) (n, y) (sym (u4_again m x hm) ∙ ap (number_at 4) e ∙ u4_again n y hn) in
    (ap (λ (p : ℕ × List ℕ). p.0) pairs, ap (λ (p : ℕ × List ℕ). p.1) pairs)

pub record GoesOn (cs ds : List Constant) (x y : List ℕ) : Type 0 where
  pub more : List Constant
  pub sized : AllByRecursion IsSized more
  pub all : ds ≡ cs ++ more
  pub text : x ≡ flat_map constant_text more ++ y

pub either : (cs ds : List Constant) (x y : List ℕ) → AllByRecursion IsSized cs → AllByRecursion IsSized ds
    → flat_map constant_text cs ++ x ≡ flat_map constant_text ds ++ y → GoesOn cs ds x y ⊎ GoesOn ds cs y x
either [] ds x y hc hd e = inl (record { more = ds; sized = hd; all = refl; text = e })
either (c ∷ cs) [] x y hc hd e = inr (record { more = c ∷ cs; sized = hc; all = refl; text = sym e })
either (c ∷ cs) (d ∷ ds) x y hc hd e =
    let one = constant_one c d (flat_map constant_text cs ++ x) (flat_map constant_text ds ++ y) hc.0 hd.0
    (sym (append_assoc (constant_text c) (flat_map constant_text cs) x) ∙ e ∙ append_assoc (constant_text d) (flat_map constant_text ds) y) in
    elim (either cs ds x y hc.1 hd.1 one.1) [
      | inl g ↦ inl (record { more = g.more; sized = g.sized; all = cc (one.0, g.all); text = g.text })
      | inr g ↦ inr (record { more = g.more; sized = g.sized; all = cc (one.0, g.all); text = g.text })
    ]

pub places-append : (cs more : List Constant) → length (places (cs ++ more)) ≡ length (places cs) + length (flat_map places_of more)
places-append cs more = omega (arith, ap length (flat_map-append places_of cs more), length-append (flat_map places_of cs) (flat_map places_of more))

-- if bytes end before a constant does, none stands
cut_none : (count place : ℕ) (left : List ℕ) (more : List Constant) (y : List ℕ) → constant_at (eqb (place + 1) count) left ≡ Err Cut
    → place + length (flat_map places_of more) ≤ count
    → AllByRecursion IsSized more → left ≡ flat_map constant_text more ++ y → more ≡ []
cut_none count place left [] y e le h text = refl
cut_none count place left (c ∷ more) y e le h text =
    let regrouped = text ∙ append_assoc (constant_text c) (flat_map constant_text more) y in
    let fits = room_for count place c (omega (arith, length-append (places_of c) (flat_map places_of more))) in
    absurd (let read = ap (constant_at (eqb (place + 1) count)) regrouped
    ∙ constant_again (eqb (place + 1) count) c (flat_map constant_text more ++ y) h.0 fits in cc)

-- nor is its tag bad
tag_none : (count place i t : ℕ) (left rest : List ℕ) (more : List Constant) → constant_at (eqb (place + 1) count) rest ≡ Err Cut → place < count
    → place ≡ i + length (flat_map places_of more)
    → t ∷ left ≡ flat_map constant_text more ++ rest → ¬ IsBadTag count i t
tag_none count place i t left rest [] e lt is text = λ bad.
    let here : place ≡ i = omega arith in
    let tagged : constant_at (eqb (place + 1) count) (t ∷ left) ≡ Err Tag = rw here (bad_tag count i t left (omega arith) bad) in
    let cut : constant_at (eqb (place + 1) count) (t ∷ left) ≡ Err Cut = ap (constant_at (eqb (place + 1) count)) text ∙ e in
    absurd cc
tag_none count place i t left rest (c ∷ more) e lt is text = λ bad.
    met count i t c (cc) (omega (arith, length-append (places_of c) (flat_map places_of more))) bad

module _ (bytes : List ℕ) (entries : List KeptConstant) (bad : Bool) (rest : List ℕ) (count place : ℕ) (s : SoFar bytes entries bad rest count place)
    (size : count < 2 ^ 16)
    (lt : place < count) (e : constant_at (eqb (place + 1) count) rest ≡ Err Cut) where
  no_pool : (cs : List Constant) (left : List ℕ) → ¬ PoolStands (u2 count ++ bytes) cs left
  no_pool cs left = λ h.
      let one =
      u2_one count (length (places cs)) bytes (flat_map constant_text cs ++ left) size h.written.count
      (h.bytes ∙ append_assoc (u2 (length (places cs))) (flat_map constant_text cs) left)
      in
      elim (either s.cs cs rest left s.sized h.written.each (sym s.spelled ∙ one.1)) [
        | inl g ↦
            let all : count ≡ place + length (flat_map places_of g.more) =
            omega (arith, one.0, s.next, ap (λ (m : List Constant). length (places m)) g.all, places-append s.cs g.more) in
            let none : length (flat_map places_of g.more) ≡ 0 = ap (λ (m : List Constant). length (flat_map places_of m))
            (cut_none count place rest g.more left e (omega arith) g.sized g.text) in
            absurd (omega arith)
        | inr g ↦ absurd (omega (arith, one.0, s.next, ap (λ (m : List Constant). length (places m)) g.all, places-append cs g.more))
      ]

  no_bad_tag : (i : ℕ) → ¬ TagFault (u2 count ++ bytes) i
  no_bad_tag i = λ h.
      elim h [
        | inr z ↦ let one = u2_one count 0 bytes z.1.0 size (omega arith) z.1.1 in absurd (omega (arith, one.0))
        | inl b ↦
            let one = u2_one count b.count bytes (flat_map constant_text b.before ++ b.tag ∷ b.left) size b.begins.count_size b.begins.bytes in
            let bad : IsBadTag count i b.tag = subst (λ (n : ℕ). IsBadTag n i b.tag) (sym one.0) b.bad in
            elim (either s.cs b.before rest (b.tag ∷ b.left) s.sized b.begins.each (sym s.spelled ∙ one.1)) [
              | inl g ↦
                  let all : i ≡ place + length (flat_map places_of g.more) =
                  omega (arith, b.place, s.next, ap (λ (m : List Constant). length (places m)) g.all, places-append s.cs g.more) in
                  let none = cut_none count place rest g.more (b.tag ∷ b.left) e (omega (arith, b.place, b.begins.more, one.0)) g.sized g.text in
                  let text : b.tag ∷ b.left ≡ rest = sym (g.text ∙ ap (λ (m : List Constant). flat_map constant_text m ++ (b.tag ∷ b.left)) none) in
                  let last : length (flat_map places_of g.more) ≡ 0 = ap (λ (m : List Constant). length (flat_map places_of m)) none in
                  tag_none count place i b.tag b.left rest [] e lt (omega arith) text bad
              | inr g ↦
                  let all : place ≡ i + length (flat_map places_of g.more) =
                  omega (arith, b.place, s.next, ap (λ (m : List Constant). length (places m)) g.all, places-append b.before g.more) in
                  tag_none count place i b.tag b.left rest g.more e lt all g.text bad
            ]
      ]

  pub SoFar-cut : IsPoolFault (u2 count ++ bytes) Truncated
  SoFar-cut = (no_pool, no_bad_tag)

-- ---- what a whole pool has to meet

-- why the constants that stand there are refused is a fault of the pool
pub check_fault : (bytes : List ℕ) (cs : List Constant) (left : List ℕ) (p : List (Option Constant)) (f : PoolFault) → PoolStands bytes cs left → p ≡ places cs
    → IsCheckFault p f → IsPoolFault bytes f
check_fault bytes cs left p f stands by_number h = by_places f (subst (λ (q : List (Option Constant)). IsCheckFault q f) by_number h) where
  by_places : (f : PoolFault) → IsCheckFault (places cs) f → IsPoolFault bytes f
  by_places f (inl text) = subst (λ (g : PoolFault). IsPoolFault bytes g) (sym text.1) (cs, left, stands, tt, text.2)
  by_places f (inr (texts, inl link)) = subst (λ (g : PoolFault). IsPoolFault bytes g) (sym link.1) (cs, left, stands, All-places HasText cs texts, link.2)
  by_places f (inr (texts, inr (links, ty))) =
      subst (λ (g : PoolFault). IsPoolFault bytes g) (sym ty.1)
      (cs, left, stands, (All-places HasText cs texts, All-places (λ c. IsTrue (is_linked (places cs) c)) cs links), ty.2)

pub sound : (cs : List Constant) (p : List (Option Constant)) → p ≡ places cs → AllAt HasText p → AllAt (λ c. IsTrue (is_linked p c)) p → AllAt (IsTyped p) p
    → IsSoundPool cs
sound cs p by_number texts links types = record {
  texts = All-places HasText cs (subst (λ (q : List (Option Constant)). AllAt HasText q) by_number texts);
  links = All-places (λ c. IsTrue (is_linked (places cs) c)) cs (subst (λ (q : List (Option Constant)). AllAt (λ c. IsTrue (is_linked q c)) q) by_number links);
  types = All-places (IsTyped (places cs)) cs (subst (λ (q : List (Option Constant)). AllAt (IsTyped q) q) by_number types);
}

-- what stands before the rest, by the lengths alone
pub cut_block : (bytes front after : List ℕ) → bytes ≡ front ++ after → take (length bytes - length after) bytes ≡ front
cut_block bytes front after e = subst (λ (t : List ℕ). take (length t - length after) t ≡ front) (sym e)
    (take_at front after (length (front ++ after) - length after) (omega (arith, length-append front after)))

pub counted_front : (bytes : List ℕ) (count : ℕ) (rest : List ℕ) → ((i : ℕ) → get_or bytes i 0 < 256) → number_at 2 bytes ≡ Some (count, rest)
    → bytes ≡ u2 count ++ rest
counted_front bytes count rest fits e = (u2_takes bytes (count, rest) fits e).0.parts

pub stands_at : (bytes text : List ℕ) (cs : List Constant) (left : List ℕ) → bytes ≡ text → PoolStands text cs left → PoolStands bytes cs left
stands_at bytes text cs left e h = subst (λ (t : List ℕ). PoolStands t cs left) (sym e) h

-- ---- one reading

no_places : (more : List Constant) → length (flat_map places_of more) ≡ 0 → more ≡ []
no_places [] e = refl
no_places (c ∷ more) e = absurd (omega (arith, e, length-append (places_of c) (flat_map places_of more)))

-- a text begins with one pool at most
pub one_pool : (text : List ℕ) (cs ds : List Constant) (x y : List ℕ) → PoolStands text cs x → PoolStands text ds y → (cs ≡ ds) × (x ≡ y)
one_pool text cs ds x y h k =
    let one = u2_one (length (places cs)) (length (places ds)) (flat_map constant_text cs ++ x) (flat_map constant_text ds ++ y) h.written.count k.written.count
    (sym (append_assoc (u2 (length (places cs))) (flat_map constant_text cs) x) ∙ sym h.bytes ∙ k.bytes
    ∙ append_assoc (u2 (length (places ds))) (flat_map constant_text ds) y) in
    elim (either cs ds x y h.written.each k.written.each one.1) [
      | inl g ↦
          let none = no_places g.more (omega (arith, one.0, ap (λ (m : List Constant). length (places m)) g.all, places-append cs g.more)) in
          (sym (g.all ∙ ap (λ (m : List Constant). cs ++ m) none ∙ append-nil cs), g.text ∙ ap (λ (m : List Constant). flat_map constant_text m ++ y) none)
      | inr g ↦
          let none = no_places g.more (omega (arith, one.0, ap (λ (m : List Constant). length (places m)) g.all, places-append ds g.more)) in
          (g.all ∙ ap (λ (m : List Constant). ds ++ m) none ∙ append-nil ds, sym (g.text ∙ ap (λ (m : List Constant). flat_map constant_text m ++ x) none))
    ]
