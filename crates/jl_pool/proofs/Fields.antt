-- What is read is spelled so, and what is spelled so is read.
use Rattle.std.proofs.Common.{◌≡◌, ℕ, suc, ◌^◌, ◌<◌, Bool, true, false, cond, ltb, List, [], ◌∷◌, ◌++◌, length, get_or, take, drop, Option}
use Rattle.std.proofs.Common.{Some, None, refl, sym, ap, subst, ◌∙◌, length-append, arith}
use Rattle.std.proofs.lemmas.Bool.{ltb-false, le-ltb}
use Rattle.std.proofs.lemmas.List.{take_at, drop_at, take-append-drop, length-take}
use Rattle.byteorder.specs.Endian.{big_number}
use Rattle.byteorder.specs.Numbers.{big_number-reads_back, big_from-lt}
use Rattle.jl_pool.specs.Numbers.{u1, u2, u4, u8}
use Rattle.jl_pool.specs.ForProofs.Fields.{◌>>=◌, number_at, bytes_at, pair_at, handle_at, text_at}

abbrev pub IsBytes : List ℕ → Type 0
IsBytes bytes = (i : ℕ) → get_or bytes i 0 < 256

pub IsBytes-rest : (b : ℕ) (bytes : List ℕ) → IsBytes (b ∷ bytes) → IsBytes bytes
IsBytes-rest b bytes h i = h (suc i)

-- what was read from the front
pub record Takes (bytes text rest : List ℕ) : Type 0 where
  pub parts : bytes ≡ text ++ rest
  pub bytes_left : IsBytes rest

IsBytes-after : (front rest : List ℕ) → IsBytes (front ++ rest) → IsBytes rest
IsBytes-after [] rest h = h
IsBytes-after (b ∷ front) rest h = IsBytes-after front rest (IsBytes-rest b (front ++ rest) h)

pub takes : (bytes text rest : List ℕ) → IsBytes bytes → bytes ≡ text ++ rest → Takes bytes text rest
takes bytes text rest fits e = record { parts = e; bytes_left = IsBytes-after text rest (subst IsBytes e fits) }

pub bind_some : {A B : Type 0} (o : Option A) (f : A → Option B) (y : B) → (o >>= f) ≡ Some y → (x : A) × (o ≡ Some x) × (f x ≡ Some y)
bind_some None f y e = absurd cc
bind_some (Some x) f y e = (x, refl, e)

pub some_is : {A : Type 0} (x y : A) → Some x ≡ Some y → x ≡ y
some_is x y e = cc

-- a test that did not fail
pub guard_some : {A : Type 0} (b : Bool) (x y : A) → cond b None (Some x) ≡ Some y → (b ≡ false) × (x ≡ y)
guard_some true x y e = absurd cc
guard_some false x y e = (refl, cc)

-- ---- one byte

u1_takes : (bytes : List ℕ) (x : ℕ × List ℕ) → IsBytes bytes → number_at 1 bytes ≡ Some x → Takes bytes (u1 x.0) x.1 × (x.0 < 2 ^ 8)
u1_takes [] x fits e = absurd cc
u1_takes (a ∷ rest) x fits e =
    let g = guard_some (ltb (length (a ∷ rest)) 1) (big_number 1 (a ∷ rest), rest) x e in
    let same : big_number 1 (a ∷ rest) ≡ a = omega arith in
    subst (λ (y : ℕ × List ℕ). Takes (a ∷ rest) (u1 y.0) y.1 × (y.0 < 2 ^ 8)) g.1
    (takes (a ∷ rest) (u1 (big_number 1 (a ∷ rest))) rest fits (ap (λ (n : ℕ). n ∷ rest) (sym same)), omega (arith, same, fits 0))

u1_again : (n : ℕ) (rest : List ℕ) → number_at 1 (u1 n ++ rest) ≡ Some (n, rest)
u1_again n rest = grind arith

-- ---- two bytes

u2_back : (a b : ℕ) → a < 256 → b < 256 → u2 (big_number 2 (a ∷ b ∷ [])) ≡ a ∷ b ∷ []
u2_back a b ha hb = grind arith

pub u2_takes : (bytes : List ℕ) (x : ℕ × List ℕ) → IsBytes bytes → number_at 2 bytes ≡ Some x → Takes bytes (u2 x.0) x.1 × (x.0 < 2 ^ 16)
u2_takes [] x fits e = absurd cc
u2_takes (a ∷ []) x fits e = absurd cc
u2_takes (a ∷ b ∷ rest) x fits e =
    let g = guard_some (ltb (length (a ∷ b ∷ rest)) 2) (big_number 2 (a ∷ b ∷ rest), rest) x e in
    subst (λ (y : ℕ × List ℕ). Takes (a ∷ b ∷ rest) (u2 y.0) y.1 × (y.0 < 2 ^ 16)) g.1 (
      takes (a ∷ b ∷ rest) (u2 (big_number 2 (a ∷ b ∷ []))) rest fits (ap (λ (t : List ℕ). t ++ rest) (sym (u2_back a b (fits 0) (fits 1)))),
      omega (arith, fits 0, fits 1),
    )

pub u2_again : (n : ℕ) (rest : List ℕ) → n < 2 ^ 16 → number_at 2 (u2 n ++ rest) ≡ Some (n, rest)
u2_again n rest lt = grind arith

-- ---- four bytes

u4_back : (a b c d : ℕ) → a < 256 → b < 256 → c < 256 → d < 256 → u4 (big_number 4 (a ∷ b ∷ c ∷ d ∷ [])) ≡ a ∷ b ∷ c ∷ d ∷ []
u4_back a b c d ha hb hc hd = grind arith

pub u4_again : (n : ℕ) (rest : List ℕ) → n < 2 ^ 32 → number_at 4 (u4 n ++ rest) ≡ Some (n, rest)
u4_again n rest lt = grind arith

-- ---- eight bytes

u8_back : (a b c d e f g h : ℕ) → a < 256 → b < 256 → c < 256 → d < 256 → e < 256 → f < 256 → g < 256 → h < 256
    → u8 (big_number 8 (a ∷ b ∷ c ∷ d ∷ e ∷ f ∷ g ∷ h ∷ [])) ≡ a ∷ b ∷ c ∷ d ∷ e ∷ f ∷ g ∷ h ∷ []
u8_back a b c d e f g h ha hb hc hd he hf hg hh = grind arith

pub u8_takes : (bytes : List ℕ) (x : ℕ × List ℕ) → IsBytes bytes → number_at 8 bytes ≡ Some x → Takes bytes (u8 x.0) x.1 × (x.0 < 2 ^ 64)
u8_takes [] x fits e = absurd cc
u8_takes (a ∷ []) x fits e = absurd cc
u8_takes (a ∷ b ∷ []) x fits e = absurd cc
u8_takes (a ∷ b ∷ c ∷ []) x fits e = absurd cc
u8_takes (a ∷ b ∷ c ∷ d ∷ []) x fits e = absurd cc
u8_takes (a ∷ b ∷ c ∷ d ∷ i ∷ []) x fits e = absurd cc
u8_takes (a ∷ b ∷ c ∷ d ∷ i ∷ j ∷ []) x fits e = absurd cc
u8_takes (a ∷ b ∷ c ∷ d ∷ i ∷ j ∷ k ∷ []) x fits e = absurd cc
u8_takes (a ∷ b ∷ c ∷ d ∷ i ∷ j ∷ k ∷ l ∷ rest) x fits e =
    let bytes = a ∷ b ∷ c ∷ d ∷ i ∷ j ∷ k ∷ l ∷ rest in
    let n = big_number 8 (a ∷ b ∷ c ∷ d ∷ i ∷ j ∷ k ∷ l ∷ []) in
    let g = guard_some (ltb (length bytes) 8) (n, rest) x e in
    subst (λ (y : ℕ × List ℕ). Takes bytes (u8 y.0) y.1 × (y.0 < 2 ^ 64)) g.1 (
      takes bytes (u8 n) rest fits
          (ap (λ (t : List ℕ). t ++ rest) (sym (u8_back a b c d i j k l (fits 0) (fits 1) (fits 2) (fits 3) (fits 4) (fits 5) (fits 6) (fits 7)))),
      big_from-lt 0 8 bytes fits,
    )

pub u8_again : (n : ℕ) (rest : List ℕ) → n < 2 ^ 64 → number_at 8 (u8 n ++ rest) ≡ Some (n, rest)
u8_again n rest lt = grind (arith, big_number-reads_back 8 n rest lt)

-- ---- two numbers

pub pair_takes : (bytes : List ℕ) (x : (ℕ × ℕ) × List ℕ) → IsBytes bytes → pair_at bytes ≡ Some x → Takes bytes (u2 x.0.0 ++ u2 x.0.1) x.1 × (x.0.0 < 2 ^ 16)
    × (x.0.1 < 2 ^ 16)
unfolding pair_at
pair_takes bytes x fits e =
    let a = bind_some (number_at 2 bytes) (λ first. number_at 2 first.1 >>= λ second. Some ((first.0, second.0), second.1)) x e in
    let b = bind_some (number_at 2 a.0.1) (λ second. Some ((a.0.0, second.0), second.1)) x a.2 in
    let s = u2_takes bytes a.0 fits a.1 in
    let t = u2_takes a.0.1 b.0 s.0.bytes_left b.1 in
    subst (λ (y : (ℕ × ℕ) × List ℕ). Takes bytes (u2 y.0.0 ++ u2 y.0.1) y.1 × (y.0.0 < 2 ^ 16) × (y.0.1 < 2 ^ 16)) (some_is ((a.0.0, b.0.0), b.0.1) x b.2)
    (takes bytes (u2 a.0.0 ++ u2 b.0.0) b.0.1 fits (s.0.parts ∙ ap (λ (t : List ℕ). u2 a.0.0 ++ t) t.0.parts), s.1, t.1)

pub pair_again : (m n : ℕ) (rest : List ℕ) → m < 2 ^ 16 → n < 2 ^ 16 → pair_at ((u2 m ++ u2 n) ++ rest) ≡ Some ((m, n), rest)
unfolding pair_at
pair_again m n rest hm hn = rw (u2_again m (u2 n ++ rest) hm, u2_again n rest hn) refl

-- ---- a kind and a number

pub handle_takes : (bytes : List ℕ) (x : (ℕ × ℕ) × List ℕ) → IsBytes bytes → handle_at bytes ≡ Some x → Takes bytes (u1 x.0.0 ++ u2 x.0.1) x.1 × (x.0.0 < 2 ^ 8)
    × (x.0.1 < 2 ^ 16)
unfolding handle_at
handle_takes bytes x fits e =
    let a = bind_some (number_at 1 bytes) (λ kind. number_at 2 kind.1 >>= λ reference. Some ((kind.0, reference.0), reference.1)) x e in
    let b = bind_some (number_at 2 a.0.1) (λ reference. Some ((a.0.0, reference.0), reference.1)) x a.2 in
    let s = u1_takes bytes a.0 fits a.1 in
    let t = u2_takes a.0.1 b.0 s.0.bytes_left b.1 in
    subst (λ (y : (ℕ × ℕ) × List ℕ). Takes bytes (u1 y.0.0 ++ u2 y.0.1) y.1 × (y.0.0 < 2 ^ 8) × (y.0.1 < 2 ^ 16)) (some_is ((a.0.0, b.0.0), b.0.1) x b.2)
    (takes bytes (u1 a.0.0 ++ u2 b.0.0) b.0.1 fits (s.0.parts ∙ ap (λ (t : List ℕ). u1 a.0.0 ++ t) t.0.parts), s.1, t.1)

pub handle_again : (m n : ℕ) (rest : List ℕ) → n < 2 ^ 16 → handle_at ((u1 m ++ u2 n) ++ rest) ≡ Some ((m, n), rest)
unfolding handle_at
handle_again m n rest hn = rw (u1_again m (u2 n ++ rest), u2_again n rest hn) refl

-- ---- bytes after their count

pub text_takes : (bytes : List ℕ) (x : List ℕ × List ℕ) → IsBytes bytes → text_at bytes ≡ Some x → Takes bytes (u2 (length x.0) ++ x.0) x.1
    × (length x.0 < 2 ^ 16)
unfolding text_at
text_takes bytes x fits e =
    let a = bind_some (number_at 2 bytes) (λ n. cond (ltb (length n.1) n.0) None (Some (take n.0 n.1, drop n.0 n.1))) x e in
    let n = a.0.0 in
    let left = a.0.1 in
    let s = u2_takes bytes a.0 fits a.1 in
    let g = guard_some (ltb (length left) n) (take n left, drop n left) x a.2 in
    let len : length (take n left) ≡ n = omega (arith, length-take n left, ltb-false _ _ g.0) in
    subst (λ (y : List ℕ × List ℕ). Takes bytes (u2 (length y.0) ++ y.0) y.1 × (length y.0 < 2 ^ 16)) g.1 (
      takes bytes (u2 (length (take n left)) ++ take n left) (drop n left) fits
          (s.0.parts ∙ ap (λ (t : List ℕ). u2 n ++ t) (sym (take-append-drop n left)) ∙ ap (λ (k : ℕ). u2 k ++ (take n left ++ drop n left)) (sym len)),
      omega (arith, len, s.1),
    )

pub text_again : (text rest : List ℕ) → length text < 2 ^ 16 → text_at ((u2 (length text) ++ text) ++ rest) ≡ Some (text, rest)
unfolding text_at
text_again text rest lt =
    let long : ltb (length (text ++ rest)) (length text) ≡ false = le-ltb _ _ (omega (arith, length-append text rest)) in
    rw (u2_again (length text) (text ++ rest) lt, long, take_at text rest (length text) refl, drop_at text rest (length text) refl) refl

-- ---- so many bytes

pub bytes_takes : (n : ℕ) (bytes : List ℕ) (x : List ℕ × List ℕ) → IsBytes bytes → bytes_at n bytes ≡ Some x → Takes bytes x.0 x.1 × (length x.0 ≡ n)
bytes_takes n bytes x fits e =
    let g = guard_some (ltb (length bytes) n) (take n bytes, drop n bytes) x e in
    subst (λ (y : List ℕ × List ℕ). Takes bytes y.0 y.1 × (length y.0 ≡ n)) g.1
    (takes bytes (take n bytes) (drop n bytes) fits (sym (take-append-drop n bytes)), omega (arith, length-take n bytes, ltb-false _ _ g.0))

pub bytes_again : (n : ℕ) (text rest : List ℕ) → length text ≡ n → bytes_at n (text ++ rest) ≡ Some (text, rest)
bytes_again n text rest len =
    let long : ltb (length (text ++ rest)) n ≡ false = le-ltb _ _ (omega (arith, length-append text rest, len)) in
    rw (long, take_at text rest n len, drop_at text rest n len) refl

pub u4_takes : (bytes : List ℕ) (x : ℕ × List ℕ) → IsBytes bytes → number_at 4 bytes ≡ Some x → Takes bytes (u4 x.0) x.1 × (x.0 < 2 ^ 32)
u4_takes [] x fits e = absurd cc
u4_takes (a ∷ []) x fits e = absurd cc
u4_takes (a ∷ b ∷ []) x fits e = absurd cc
u4_takes (a ∷ b ∷ c ∷ []) x fits e = absurd cc
u4_takes (a ∷ b ∷ c ∷ d ∷ rest) x fits e =
    let g = guard_some (ltb (length (a ∷ b ∷ c ∷ d ∷ rest)) 4) (big_number 4 (a ∷ b ∷ c ∷ d ∷ rest), rest) x e in
    subst (λ (y : ℕ × List ℕ). Takes (a ∷ b ∷ c ∷ d ∷ rest) (u4 y.0) y.1 × (y.0 < 2 ^ 32)) g.1 (
      takes (a ∷ b ∷ c ∷ d ∷ rest) (u4 (big_number 4 (a ∷ b ∷ c ∷ d ∷ []))) rest fits
          (ap (λ (t : List ℕ). t ++ rest) (sym (u4_back a b c d (fits 0) (fits 1) (fits 2) (fits 3)))),
      omega (arith, fits 0, fits 1, fits 2, fits 3),
    )
