-- A constant that is there, at its number, and stays there when more are entered.
use Rattle.std.proofs.Common.{◌≡◌, ℕ, ◌+◌, ◌<◌, ◌||◌, Bool, true, false, cond, not, nat_lt, List, [], ◌∷◌, ◌++◌, length, Some, None, refl}
use Rattle.std.proofs.Common.{sym, ap, ◌∙◌, suc, arith, append_assoc, if◌then◌else◌}
use Rattle.std.specs.List.{list_any, flat_map, prefix_len, position, AllByRecursion}
use Rattle.std.specs.Option.{option_map_or}
use Rattle.std.proofs.lemmas.Bool.{false≢true, or_parts, lt-ltb}
use Rattle.std.proofs.lemmas.List.{append-nil, length-append}
use Rattle.std.proofs.lemmas.List.Concat.{flat_map-append}
use Rattle.jl_pool.specs.declared.constant.Constant.{Constant}
use Rattle.jl_pool.specs.Constants.{is_double}
use Rattle.jl_pool.specs.Pools.{Pool, places, places_of, constant_at}
use Rattle.jl_pool.proofs.PlaceLaws.{at_place}
use Rattle.jl_sketch.specs.Constants.{same_constant, enter, number}
use Rattle.jl_sketch.proofs.SameConstants.{one_constant}

-- each takes one number
abbrev pub ArePlain : List Constant → Type 0
ArePlain cs = AllByRecursion (λ c. is_double c ≡ false) cs

plain_push : (cs : List Constant) (c : Constant) → ArePlain cs → is_double c ≡ false → ArePlain (cs ++ c ∷ [])
plain_push [] c h d = (d, tt)
plain_push (x ∷ xs) c h d = (h.0, plain_push xs c h.1 d)

-- ---- more constants

pub record Grows (cs ds : List Constant) : Type 0 where
  pub more : List Constant
  pub is : ds ≡ cs ++ more
  pub plain : ArePlain cs → ArePlain ds

pub grows_self : (cs : List Constant) → Grows cs cs
grows_self cs = record { more = []; is = sym (append-nil cs); plain = λ h. h }

pub grows_on : (a b c : List Constant) → Grows a b → Grows b c → Grows a c
grows_on a b c g h = record {
  more = g.more ++ h.more;
  is = h.is ∙ ap (λ (xs : List Constant). xs ++ h.more) g.is ∙ append_assoc a g.more h.more;
  plain = λ p. h.plain (g.plain p);
}

pub grows_enter : (cs : List Constant) (c : Constant) → is_double c ≡ false → Grows cs (enter cs c)
unfolding enter
grows_enter cs c d = by_test (list_any (same_constant c) cs)
  where
    by_test : (b : Bool) → Grows cs (if b then cs else cs ++ c ∷ [])
    by_test true = grows_self cs
    by_test false = record { more = c ∷ []; is = refl; plain = λ h. plain_push cs c h d }

-- ---- a constant that is there

pub record Holds (cs : List Constant) (c : Constant) : Type 0 where
  pub before : List Constant
  pub after : List Constant
  pub split : cs ≡ before ++ c ∷ after
  pub first : list_any (same_constant c) before ≡ false
  pub plain : ArePlain before
  pub itself : same_constant c c ≡ true

pub holds_on : (cs ds : List Constant) (c : Constant) → Grows cs ds → Holds cs c → Holds ds c
holds_on cs ds c g h = record {
  before = h.before;
  after = h.after ++ g.more;
  split = g.is ∙ ap (λ (xs : List Constant). xs ++ g.more) h.split ∙ append_assoc h.before (c ∷ h.after) g.more;
  first = h.first;
  plain = h.plain;
  itself = h.itself;
}

found : (cs : List Constant) (c : Constant) → same_constant c c ≡ true → list_any (same_constant c) cs ≡ true → ArePlain cs → Holds cs c
found [] c s e h = absurd (false≢true e)
found (d ∷ ds) c s e h = by_test (same_constant c d) refl (λ k. found ds c s k h.1)
  where
    by_test : (b : Bool) → same_constant c d ≡ b → (list_any (same_constant c) ds ≡ true → Holds ds c) → Holds (d ∷ ds) c
    by_test true k rest = record {
      before = [];
      after = ds;
      split = ap (λ (x : Constant). x ∷ ds) (sym (one_constant c d k));
      first = refl;
      plain = tt;
      itself = s;
    }
    by_test false k rest =
        let r = rest (sym (ap (λ (b : Bool). b || list_any (same_constant c) ds) k) ∙ e) in
        record {
          before = d ∷ r.before;
          after = r.after;
          split = ap (λ (xs : List Constant). d ∷ xs) r.split;
          first = ap (λ (b : Bool). b || list_any (same_constant c) r.before) k ∙ r.first;
          plain = (h.0, r.plain);
          itself = s;
        }

pub holds_entered : (cs : List Constant) (c : Constant) → same_constant c c ≡ true → ArePlain cs → Holds (enter cs c) c
unfolding enter
holds_entered cs c s h = by_test (list_any (same_constant c) cs) refl
  where
    by_test : (b : Bool) → list_any (same_constant c) cs ≡ b → Holds (if b then cs else cs ++ c ∷ []) c
    by_test true e = found cs c s e h
    by_test false e = record { before = cs; after = []; split = refl; first = e; plain = h; itself = s }

-- ---- its number

first_at : (p : Constant → Bool) (before after : List Constant) (c : Constant) → list_any p before ≡ false → p c ≡ true
    → prefix_len (λ x. not (p x)) (before ++ c ∷ after) ≡ length before
first_at p [] after c f e = ap (λ (b : Bool). cond (not b) (1 + prefix_len (λ x. not (p x)) after) 0) e
first_at p (d ∷ ds) after c f e =
    let s = or_parts (p d) (list_any p ds) f in
    let rest = first_at p ds after c s.1 e in
    ap (λ (b : Bool). cond (not b) (1 + prefix_len (λ x. not (p x)) (ds ++ c ∷ after)) 0) s.0 ∙ ap (λ (n : ℕ). 1 + n) rest ∙ one_and (length ds)
  where
    one_and : (n : ℕ) → 1 + n ≡ suc n
    one_and n = omega arith

shorter : (before after : List Constant) (c : Constant) → length before < length (before ++ c ∷ after)
shorter before after c = rw (length-append before (c ∷ after)) (omega arith)

pub number_is : (cs : List Constant) (c : Constant) (h : Holds cs c) → number cs c ≡ length h.before + 1
unfolding number
number_is cs c h =
    let p : Constant → Bool = same_constant c in
    let whole : List Constant = h.before ++ c ∷ h.after in
    let at : prefix_len (λ x. not (p x)) whole ≡ length h.before = first_at p h.before h.after c h.first h.itself in
    let less : nat_lt (length h.before) (length whole) ≡ true = lt-ltb (length h.before) (length whole) (shorter h.before h.after c) in
    ap (λ (xs : List Constant). option_map_or (λ i. i + 1) (position p xs) 0) h.split
    ∙ ap (λ (n : ℕ). option_map_or (λ i. i + 1) (cond (nat_lt n (length whole)) (Some n) None) 0) at
    ∙ ap (λ (b : Bool). option_map_or (λ i. i + 1) (cond b (Some (length h.before)) None) 0) less

pub number_stays : (cs ds : List Constant) (c : Constant) → Grows cs ds → Holds cs c → number ds c ≡ number cs c
unfolding holds_on number
number_stays cs ds c g h = number_is ds c (holds_on cs ds c g h) ∙ sym (number_is cs c h)

pub one_place : (cs : List Constant) → ArePlain cs → length (flat_map places_of cs) ≡ length cs
one_place [] h = refl
one_place (c ∷ cs) h =
    ap (λ (b : Bool). length ((Some c ∷ (if b then None ∷ [] else [])) ++ flat_map places_of cs)) h.0 ∙ ap suc (one_place cs h.1)

pub stands : (cs : List Constant) (c : Constant) → Holds cs c → constant_at (places cs) (number cs c) ≡ Some c
stands cs c h =
    let front : Pool = None ∷ flat_map places_of h.before in
    let rest : Pool = (if is_double c then None ∷ [] else []) ++ flat_map places_of h.after in
    let lies : places cs ≡ front ++ Some c ∷ rest = ap places h.split ∙ ap (λ (xs : Pool). None ∷ xs) (flat_map-append places_of h.before (c ∷ h.after)) in
    let at : number cs c ≡ length front = number_is cs c h ∙ one_more (length h.before) ∙ ap suc (sym (one_place h.before h.plain)) in
    ap (λ (xs : Pool). constant_at xs (number cs c)) lies ∙ ap (λ (n : ℕ). constant_at (front ++ Some c ∷ rest) n) at ∙ at_place front rest c
  where
    one_more : (n : ℕ) → n + 1 ≡ suc n
    one_more n = omega arith
