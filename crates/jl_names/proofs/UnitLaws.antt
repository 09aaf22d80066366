-- What is read is a unit's bytes, and a unit's bytes are read.
use Rattle.std.proofs.Common.{◌≡◌, ◌≢◌, ℕ, ◌-◌, ◌^◌, ◌<◌, false, eqb, List, [], ◌∷◌, ◌++◌, length, Result, Ok, Err, refl, sym, ap}
use Rattle.std.proofs.Common.{◌∙◌, append_assoc, length-append, arith}
use Rattle.std.proofs.lemmas.Grind.{flat_map-append}
use Rattle.std.proofs.lemmas.List.{append-nil}
use Rattle.std.proofs.lemmas.Bool.Decides.{nat_tests}
use Rattle.jl_names.specs.declared.mutf8.Broken.{Broken}
use Rattle.jl_names.specs.declared.mutf8.Broken.TheVariants.{Cut, Bad}
use Rattle.jl_names.specs.Mutf8.{unit_bytes, AreUnits, mutf8, IsMutf8, IsText, Begins, IsCutUnit, IsBadUnit, IsMutf8Fault}
use Rattle.jl_names.specs.declared.fault.NameFault.{NameFault}
use Rattle.jl_names.specs.declared.fault.NameFault.TheVariants.{BadByte, Truncated, BadDescriptor, TooManySlots, Memory}
use Rattle.jl_names.specs.ForProofs.Units.{unit_at, two_at, three_at}

pub unit_again : (u : ℕ) (rest : List ℕ) → u < 2 ^ 16 → unit_at (unit_bytes u ++ rest) ≡ Ok (u, rest)
unfolding unit_at two_at three_at
unit_again u rest lt = grind (arith, nat_tests)

pub unit_takes : (text : List ℕ) (u : ℕ) (after : List ℕ) → unit_at text ≡ Ok (u, after)
    → (text ≡ unit_bytes u ++ after) × (u < 2 ^ 16)
unfolding unit_at two_at three_at
unit_takes [] u after e = absurd cc
unit_takes (a ∷ []) u after e = grind (arith, nat_tests)
unit_takes (a ∷ b ∷ []) u after e = grind (arith, nat_tests)
unit_takes (a ∷ b ∷ c ∷ rest) u after e = grind (arith, nat_tests)

pub unit_cut : (a : ℕ) (rest : List ℕ) → unit_at (a ∷ rest) ≡ Err Cut → IsCutUnit (a ∷ rest)
unfolding unit_at two_at three_at
unit_cut a [] e = grind (arith, nat_tests)
unit_cut a (b ∷ []) e = grind (arith, nat_tests)
unit_cut a (b ∷ c ∷ rest) e = grind (arith, nat_tests)

-- bytes that a first one asks for are there
unit_enough : (a : ℕ) (rest : List ℕ) → unit_at (a ∷ rest) ≡ Err Bad → ¬ IsCutUnit (a ∷ rest)
unfolding unit_at two_at three_at
unit_enough a [] e = λ h. grind (arith, nat_tests)
unit_enough a (b ∷ []) e = λ h. grind (arith, nat_tests)
unit_enough a (b ∷ c ∷ rest) e = λ h. grind (arith, nat_tests)

pub unit_bad : (a : ℕ) (rest : List ℕ) → unit_at (a ∷ rest) ≡ Err Bad → IsBadUnit (a ∷ rest)
unit_bad a rest e = record {
  some = λ h. absurd cc;
  enough = unit_enough a rest e;
  none = λ u after lt h. let read : unit_at (a ∷ rest) ≡ Ok (u, after) = ap unit_at h ∙ unit_again u after lt in
      absurd cc;
}

-- no fault is met where a unit stands
unit_sound : (u : ℕ) (rest : List ℕ) → u < 2 ^ 16 → ¬ IsCutUnit (unit_bytes u ++ rest)
unit_sound u rest lt = λ h. grind (arith, nat_tests)

abbrev read : ℕ × List ℕ → Result (ℕ × List ℕ) Broken
read x = Ok x

-- if one text has two units at the front, they are one
pub unit_one : (u v : ℕ) (x y : List ℕ) → u < 2 ^ 16 → v < 2 ^ 16 → unit_bytes u ++ x ≡ unit_bytes v ++ y
    → (u ≡ v) × (x ≡ y)
unit_one u v x y hu hv e =
    let both : read (u, x) ≡ read (v, y) = sym (unit_again u x hu) ∙ ap unit_at e ∙ unit_again v y hv in
    let pairs : (u, x) ≡ (v, y) = cc in
    (ap (λ (p : ℕ × List ℕ). p.0) pairs, ap (λ (p : ℕ × List ℕ). p.1) pairs)

pub unit_shorter : (text : List ℕ) (u : ℕ) (after : List ℕ) → unit_at text ≡ Ok (u, after) → length after < length text
unfolding unit_at two_at three_at
unit_shorter [] u after e = absurd cc
unit_shorter (a ∷ []) u after e = grind (arith, nat_tests)
unit_shorter (a ∷ b ∷ []) u after e = grind (arith, nat_tests)
unit_shorter (a ∷ b ∷ c ∷ rest) u after e = grind (arith, nat_tests)

-- ---- a loop over units

mutf8-push : (us : List ℕ) (u : ℕ) → mutf8 (us ++ u ∷ []) ≡ mutf8 us ++ unit_bytes u
mutf8-push us u = flat_map-append unit_bytes us (u ∷ [])
    ∙ ap (λ (x : List ℕ). mutf8 us ++ x) (append-nil (unit_bytes u))

AreUnits-push : (us : List ℕ) (u : ℕ) → AreUnits us → u < 2 ^ 16 → AreUnits (us ++ u ∷ [])
AreUnits-push [] u h lt = (lt, tt)
AreUnits-push (v ∷ us) u h lt = (h.0, AreUnits-push us u h.1 lt)

pub Begins-more : (text us rest : List ℕ) (u : ℕ) (after : List ℕ) → Begins text us rest
    → unit_at rest ≡ Ok (u, after) → Begins text (us ++ u ∷ []) after
Begins-more text us rest u after h e =
    let t = unit_takes rest u after e in
    record {
      in_range = AreUnits-push us u h.in_range t.1;
      bytes = h.bytes ∙ ap (λ (x : List ℕ). mutf8 us ++ x) t.0
          ∙ rw (mutf8-push us u) (sym (append_assoc (mutf8 us) (unit_bytes u) after));
    }

pub Begins-cut : (text us rest : List ℕ) → Begins text us rest → eqb (length rest) 0 ≡ false
    → unit_at rest ≡ Err Cut → IsMutf8Fault text Truncated
Begins-cut text us [] h some e = absurd cc
Begins-cut text us (a ∷ rest) h some e = (us, a ∷ rest, h, unit_cut a rest e)

pub Begins-bad : (text us rest : List ℕ) → Begins text us rest → eqb (length rest) 0 ≡ false
    → unit_at rest ≡ Err Bad → IsMutf8Fault text (BadByte (length text - length rest))
Begins-bad text us [] h some e = absurd cc
Begins-bad text us (a ∷ rest) h some e =
    (us, a ∷ rest, h, omega (arith, ap length h.bytes, length-append (mutf8 us) (a ∷ rest)), unit_bad a rest e)

-- ---- one reading

unit_some : (u : ℕ) (rest : List ℕ) → unit_bytes u ++ rest ≢ []
unit_some u rest = λ e. let short : length (unit_bytes u ++ rest) ≡ 0 = ap length e in grind (arith, nat_tests)

-- what is left after the first units of a text of units is a text of units
units_left : (us vs left : List ℕ) → AreUnits us → AreUnits vs → mutf8 us ++ left ≡ mutf8 vs
    → (ws : List ℕ) × AreUnits ws × (left ≡ mutf8 ws) × (vs ≡ us ++ ws)
units_left [] vs left hu hv e = (vs, hv, e, refl)
units_left (u ∷ us) [] left hu hv e =
    absurd (unit_some u (mutf8 us ++ left) (sym (append_assoc (unit_bytes u) (mutf8 us) left) ∙ e))
units_left (u ∷ us) (v ∷ vs) left hu hv e =
    let one = unit_one u v (mutf8 us ++ left) (mutf8 vs) hu.0 hv.0
    (sym (append_assoc (unit_bytes u) (mutf8 us) left) ∙ e) in
    let more = units_left us vs left hu.1 hv.1 one.1 in
    (more.0, more.1, more.2, cc (one.0, more.3))

nothing : (us vs ws : List ℕ) → [] ≡ mutf8 ws → vs ≡ us ++ ws → us ≡ vs
nothing us vs [] e h = sym (append-nil us) ∙ sym h
nothing us vs (w ∷ ws) e h = absurd (unit_some w (mutf8 ws) (sym e))

whole_bad : (left ws : List ℕ) → AreUnits ws → left ≡ mutf8 ws → ¬ IsBadUnit left
whole_bad left [] h e = λ bad. bad.some e
whole_bad left (w ∷ ws) h e = λ bad. bad.none w (mutf8 ws) h.0 e

whole_cut : (left ws : List ℕ) → AreUnits ws → left ≡ mutf8 ws → ¬ IsCutUnit left
whole_cut left [] h e = λ cut. rw e at cut
whole_cut left (w ∷ ws) h e = λ cut. unit_sound w (mutf8 ws) h.0 (rw e at cut)

pub IsMutf8-one : (text us vs : List ℕ) → IsMutf8 text us → IsMutf8 text vs → us ≡ vs
IsMutf8-one text us vs h k =
    let more = units_left us vs [] h.in_range k.in_range (append-nil (mutf8 us) ∙ sym h.bytes ∙ k.bytes) in
    nothing us vs more.0 more.2 more.3

pub IsMutf8-no_fault : (text us : List ℕ) (f : NameFault) → IsMutf8 text us → f ≢ Memory → ¬ IsMutf8Fault text f
IsMutf8-no_fault text vs (BadByte at) h m = λ p.
    let more = units_left p.0 vs p.1 p.2.in_range h.in_range (sym p.2.bytes ∙ h.bytes) in
    whole_bad p.1 more.0 more.1 more.2 p.4
IsMutf8-no_fault text vs Truncated h m = λ p.
    let more = units_left p.0 vs p.1 p.2.in_range h.in_range (sym p.2.bytes ∙ h.bytes) in
    whole_cut p.1 more.0 more.1 more.2 p.3
IsMutf8-no_fault text vs (BadDescriptor at) h m = λ p. p
IsMutf8-no_fault text vs TooManySlots h m = λ p. p
IsMutf8-no_fault text vs Memory h m = λ p. m refl

pub Begins-no_text : (text us rest : List ℕ) (e : Broken) → Begins text us rest → eqb (length rest) 0 ≡ false
    → unit_at rest ≡ Err e → ¬ IsText text
Begins-no_text text us rest Cut h some e =
    λ is. IsMutf8-no_fault text is.0 Truncated is.1 (λ m. absurd cc) (Begins-cut text us rest h some e)
Begins-no_text text us rest Bad h some e =
    λ is. IsMutf8-no_fault text is.0 (BadByte (length text - length rest)) is.1 (λ m. absurd cc)
    (Begins-bad text us rest h some e)
