-- A constant is read where its text stands, and only there.
use Rattle.std.proofs.Common.{◌≡◌, ◌≢◌, ℕ, ◌^◌, ◌<◌, Bool, true, false, eqb, not, ◌&&◌, ◌||◌, List, [], ◌∷◌, ◌++◌, length, Option}
use Rattle.std.proofs.Common.{Some, None, Result, Ok, Err, refl, sym, ap, subst, ◌∙◌, inl, inr}
use Rattle.std.specs.Prelude.{IsTrue}
use Rattle.std.specs.List.{list_any, AllByRecursion}
use Rattle.std.proofs.lemmas.Bool.{eqb-true}
use Rattle.jl_names.proofs.Bytes.{chosen}
use Rattle.jl_pool.specs.declared.constant.Constant.{Constant}
use Rattle.jl_pool.specs.declared.constant.Constant.TheVariants.{Utf8, Integer, Float, Long, Double, Class, String, Fieldref, Methodref}
use Rattle.jl_pool.specs.declared.constant.Constant.TheVariants.{InterfaceMethodref, NameAndType}
use Rattle.jl_pool.specs.declared.constant.Constant.TheVariants.{MethodHandle, MethodType, Dynamic, InvokeDynamic, Module, Package}
use Rattle.jl_pool.specs.declared.pool.Stop.{Stop}
use Rattle.jl_pool.specs.declared.pool.Stop.TheVariants.{Tag}
use Rattle.jl_pool.specs.Numbers.{u1, u2, u4, u8}
use Rattle.jl_pool.specs.Constants.{tag, payload, constant_text, IsSized}
use Rattle.jl_pool.specs.Known.{known_tags}
use Rattle.jl_pool.specs.ForProofs.Fields.{number_at, pair_at, handle_at, text_at}
use Rattle.jl_pool.specs.ForProofs.Constants.{is_known, is_wide, is_bad_tag, within, of_bits, of_wide_bits, of_number, of_pair, payload_at, or_cut, constant_at}
use Rattle.jl_pool.proofs.Fields.{IsBytes, IsBytes-rest, Takes, bind_some, some_is, u2_takes, u2_again, u4_takes, u4_again, u8_takes, u8_again}
use Rattle.jl_pool.proofs.Fields.{pair_takes, pair_again}
use Rattle.jl_pool.proofs.Fields.{handle_takes, handle_again, text_takes, text_again}

payload_again : (c : Constant) (rest : List ℕ) → IsSized c → payload_at (tag c) (payload c ++ rest) ≡ Some (c, rest)
unfolding payload_at
payload_again (Utf8 bytes) rest w = ap (within Utf8) (text_again bytes rest w)
payload_again (Integer bits) rest w = ap (within (of_bits 3)) (u4_again bits rest w)
payload_again (Float bits) rest w = ap (within (of_bits 4)) (u4_again bits rest w)
payload_again (Long bits) rest w = ap (within (of_wide_bits 5)) (u8_again bits rest w)
payload_again (Double bits) rest w = ap (within (of_wide_bits 6)) (u8_again bits rest w)
payload_again (Class name) rest w = ap (within (of_number 7)) (u2_again name rest w)
payload_again (String text) rest w = ap (within (of_number 8)) (u2_again text rest w)
payload_again (Fieldref owner nt) rest w = ap (within (of_pair 9)) (pair_again owner nt rest w.0 w.1)
payload_again (Methodref owner nt) rest w = ap (within (of_pair 10)) (pair_again owner nt rest w.0 w.1)
payload_again (InterfaceMethodref owner nt) rest w = ap (within (of_pair 11)) (pair_again owner nt rest w.0 w.1)
payload_again (NameAndType name ty) rest w = ap (within (of_pair 12)) (pair_again name ty rest w.0 w.1)
payload_again (MethodHandle kind reference) rest w = ap (within (λ x. MethodHandle x.0 x.1)) (handle_again kind reference rest w.1)
payload_again (MethodType ty) rest w = ap (within (of_number 16)) (u2_again ty rest w)
payload_again (Dynamic bootstrap nt) rest w = ap (within (of_pair 17)) (pair_again bootstrap nt rest w.0 w.1)
payload_again (InvokeDynamic bootstrap nt) rest w = ap (within (of_pair 18)) (pair_again bootstrap nt rest w.0 w.1)
payload_again (Module name) rest w = ap (within (of_number 19)) (u2_again name rest w)
payload_again (Package name) rest w = ap (within (of_number 20)) (u2_again name rest w)

-- each constant has a known tag
pub tag_known : (c : Constant) → is_known (tag c) ≡ true
tag_known (Utf8 bytes) = refl
tag_known (Integer bits) = refl
tag_known (Float bits) = refl
tag_known (Long bits) = refl
tag_known (Double bits) = refl
tag_known (Class name) = refl
tag_known (String text) = refl
tag_known (Fieldref owner nt) = refl
tag_known (Methodref owner nt) = refl
tag_known (InterfaceMethodref owner nt) = refl
tag_known (NameAndType name ty) = refl
tag_known (MethodHandle kind reference) = refl
tag_known (MethodType ty) = refl
tag_known (Dynamic bootstrap nt) = refl
tag_known (InvokeDynamic bootstrap nt) = refl
tag_known (Module name) = refl
tag_known (Package name) = refl

good_tag : (known more : Bool) → known ≡ true → more ≡ false → not known || more ≡ false
good_tag known more h k = rw (h, k) refl

pub constant_again : (last : Bool) (c : Constant) (rest : List ℕ) → IsSized c → last && is_wide (tag c) ≡ false
    → constant_at last (constant_text c ++ rest) ≡ Ok (c, rest)
unfolding constant_at
constant_again last c rest w room =
    let good : is_bad_tag last (tag c) ≡ false = good_tag (is_known (tag c)) (last && is_wide (tag c)) (tag_known c) room in
    rw (good, payload_again c rest w) refl

-- what a payload that is read tells
pub record Payload (t : ℕ) (bytes : List ℕ) (x : Constant × List ℕ) : Type 0 where
  pub taken : Takes bytes (payload x.0) x.1
  pub tagged : tag x.0 ≡ t
  pub sized : IsSized x.0

-- it stands so in a constant of the tag
abbrev Makes : {X : Type 0} → (X → List ℕ) → (X → Type 0) → (X → Constant) → ℕ → Type 0
Makes {X = X} text Fits make t = (y : X) → Fits y → (text y ≡ payload (make y)) × (tag (make y) ≡ t) × IsSized (make y)

of_part : {X : Type 0} (read : Option (X × List ℕ)) (text : X → List ℕ) (Fits : X → Type 0) (make : X → Constant) (t : ℕ) (bytes : List ℕ) (x : Constant
    × List ℕ)
    → ((y : X × List ℕ) → read ≡ Some y → Takes bytes (text y.0) y.1 × Fits y.0) → Makes text Fits make t → within make read ≡ Some x → Payload t bytes x
of_part read text Fits make t bytes x takes is e =
    let r = bind_some read (λ y. Some (make y.0, y.1)) x e in
    let s = takes r.0 r.1 in
    let c = is r.0.0 s.1 in
    subst (λ (y : Constant × List ℕ). Payload t bytes y) (some_is (make r.0.0, r.0.1) x r.2)
    (record { taken = subst (λ (text : List ℕ). Takes bytes text r.0.1) c.0 s.0; tagged = c.1; sized = c.2 })

infixr 5 ◌&◌
abbrev ◌&◌ : {A B : Type 0} → A → B → A × B
a & b = (a, b)

-- what holds of each of some tags holds of one of them
each_tag : (P : ℕ → Type 0) (ts : List ℕ) → AllByRecursion P ts → (t : ℕ) → IsTrue (list_any (λ k. eqb k t) ts) → P t
each_tag P [] h t e = absurd cc
each_tag P (k ∷ ts) h t e = by_test (eqb k t) refl e (each_tag P ts h.1 t) where
  by_test : (b : Bool) → eqb k t ≡ b → IsTrue (b || list_any (λ k. eqb k t) ts) → (IsTrue (list_any (λ k. eqb k t) ts) → P t) → P t
  by_test true same e more = subst P (eqb-true k t same) h.0
  by_test false other e more = more e

module _ (bytes : List ℕ) (x : Constant × List ℕ) (fits : IsBytes bytes) where
  of_u2 : (t : ℕ) → Makes u2 (λ n. n < 2 ^ 16) (of_number t) t → within (of_number t) (number_at 2 bytes) ≡ Some x → Payload t bytes x
  of_u2 t is e = of_part (number_at 2 bytes) u2 (λ n. n < 2 ^ 16) (of_number t) t bytes x (λ y. u2_takes bytes y fits) is e

  of_u4 : (t : ℕ) → Makes u4 (λ n. n < 2 ^ 32) (of_bits t) t → within (of_bits t) (number_at 4 bytes) ≡ Some x → Payload t bytes x
  of_u4 t is e = of_part (number_at 4 bytes) u4 (λ n. n < 2 ^ 32) (of_bits t) t bytes x (λ y. u4_takes bytes y fits) is e

  of_u8 : (t : ℕ) → Makes u8 (λ n. n < 2 ^ 64) (of_wide_bits t) t → within (of_wide_bits t) (number_at 8 bytes) ≡ Some x → Payload t bytes x
  of_u8 t is e = of_part (number_at 8 bytes) u8 (λ n. n < 2 ^ 64) (of_wide_bits t) t bytes x (λ y. u8_takes bytes y fits) is e

  of_two : (t : ℕ) → Makes (λ y. u2 y.0 ++ u2 y.1) (λ y. (y.0 < 2 ^ 16) × (y.1 < 2 ^ 16)) (of_pair t) t → within (of_pair t) (pair_at bytes) ≡ Some x
      → Payload t bytes x
  of_two t is e = of_part (pair_at bytes) (λ y. u2 y.0 ++ u2 y.1) (λ y. (y.0 < 2 ^ 16) × (y.1 < 2 ^ 16)) (of_pair t) t bytes x
      (λ y e. let s = pair_takes bytes y fits e in (s.0, (s.1, s.2))) is e

  of_handle : within (λ y. MethodHandle y.0 y.1) (handle_at bytes) ≡ Some x → Payload 15 bytes x
  of_handle e =
      of_part (handle_at bytes) (λ y. u1 y.0 ++ u2 y.1) (λ y. (y.0 < 2 ^ 8) × (y.1 < 2 ^ 16)) (λ y. MethodHandle y.0 y.1) 15 bytes x
      (λ y e. let s = handle_takes bytes y fits e in (s.0, (s.1, s.2))) (λ y lt. (refl, refl, lt)) e

  of_text : within Utf8 (text_at bytes) ≡ Some x → Payload 1 bytes x
  of_text e = of_part (text_at bytes) (λ y. u2 (length y) ++ y) (λ y. length y < 2 ^ 16) Utf8 1 bytes x (λ y. text_takes bytes y fits)
      (λ y lt. (refl, refl, lt)) e

  payload_takes : (t : ℕ) → IsTrue (is_known t) → payload_at t bytes ≡ Some x → Payload t bytes x
  unfolding payload_at
  payload_takes t known = each_tag (λ k. payload_at k bytes ≡ Some x → Payload k bytes x) known_tags
      (of_text
      & of_u4 3 (λ n lt. (refl, refl, lt))
      & of_u4 4 (λ n lt. (refl, refl, lt))
      & of_u8 5 (λ n lt. (refl, refl, lt))
      & of_u8 6 (λ n lt. (refl, refl, lt))
      & of_u2 7 (λ n lt. (refl, refl, lt))
      & of_u2 8 (λ n lt. (refl, refl, lt))
      & of_two 9 (λ y lt. (refl, refl, lt))
      & of_two 10 (λ y lt. (refl, refl, lt))
      & of_two 11 (λ y lt. (refl, refl, lt))
      & of_two 12 (λ y lt. (refl, refl, lt))
      & of_handle
      & of_u2 16 (λ n lt. (refl, refl, lt))
      & of_two 17 (λ y lt. (refl, refl, lt))
      & of_two 18 (λ y lt. (refl, refl, lt))
      & of_u2 19 (λ n lt. (refl, refl, lt))
      & of_u2 20 (λ n lt. (refl, refl, lt))
      & tt) t known

-- a tag that is not bad
known_tag : (known more : Bool) → not known || more ≡ false → (known ≡ true) × (more ≡ false)
known_tag true more e = (refl, e)
known_tag false more e = absurd cc

no_tag : (o : Option (Constant × List ℕ)) → or_cut o ≢ Err Tag
no_tag None = λ e. absurd cc
no_tag (Some x) = λ e. absurd cc

-- what a constant that is read tells
pub record Read (last : Bool) (bytes : List ℕ) (x : Constant × List ℕ) : Type 0 where
  pub taken : Takes bytes (constant_text x.0) x.1
  pub sized : IsSized x.0
  pub room : last && is_wide (tag x.0) ≡ false

ok_some : (o : Option (Constant × List ℕ)) (x : Constant × List ℕ) → or_cut o ≡ Ok x → o ≡ Some x
ok_some None x e = absurd cc
ok_some (Some y) x e = cc

pub constant_takes : (last : Bool) (bytes : List ℕ) (x : Constant × List ℕ) → IsBytes bytes → constant_at last bytes ≡ Ok x → Read last bytes x
unfolding constant_at
constant_takes last [] x fits e = absurd cc
constant_takes last (t ∷ bytes) x fits e =
    elim (chosen (is_bad_tag last t) (Err Tag) (or_cut (payload_at t bytes)) (Ok x) e) [
      | inl p ↦ absurd cc
      | inr p ↦
          let good = known_tag (is_known t) (last && is_wide t) p.0 in
          let r = payload_takes bytes x (IsBytes-rest t bytes fits) t good.0 (ok_some (payload_at t bytes) x p.1) in
          record {
            taken = record { parts = cc (r.tagged, r.taken.parts); bytes_left = r.taken.bytes_left };
            sized = r.sized;
            room = rw r.tagged good.1;
          }
    ]

-- if the tag is bad
pub constant_tag : (last : Bool) (bytes : List ℕ) → constant_at last bytes ≡ Err Tag → (t : ℕ) × (rest : List ℕ) × (bytes ≡ t ∷ rest)
    × IsTrue (is_bad_tag last t)
unfolding constant_at
constant_tag last [] e = absurd cc
constant_tag last (t ∷ bytes) e = (
  t,
  bytes,
  refl,
  elim (chosen (is_bad_tag last t) (Err Tag) (or_cut (payload_at t bytes)) (Err Tag) e) [ inl p ↦ p.0 | inr p ↦ absurd (no_tag (payload_at t bytes) p.1) ],
)

pub constant_bad : (last : Bool) (t : ℕ) (rest : List ℕ) → IsTrue (is_bad_tag last t) → constant_at last (t ∷ rest) ≡ Err Tag
unfolding constant_at
constant_bad last t rest e = rw e refl

abbrev reading : Constant × List ℕ → Result (Constant × List ℕ) Stop
reading x = Ok x

pub constant_one : (c d : Constant) (x y : List ℕ) → IsSized c → IsSized d → constant_text c ++ x ≡ constant_text d ++ y → (c ≡ d) × (x ≡ y)
constant_one c d x y hc hd e =
    let both : reading (c, x) ≡ reading (d, y) = sym (constant_again false c x hc refl) ∙ ap (constant_at false) e ∙ constant_again false d y hd refl in
    let pairs : (c, x) ≡ (d, y) = cc in
    (ap (λ (p : Constant × List ℕ). p.0) pairs, ap (λ (p : Constant × List ℕ). p.1) pairs)
