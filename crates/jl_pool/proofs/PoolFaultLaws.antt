-- No sound pool has a fault.
use Rattle.std.proofs.Common.{◌≡◌, ◌≢◌, ℕ, zero, suc, ◌+◌, ◌-◌, ◌<◌, Bool, true, false, List, [], ◌∷◌, ◌++◌, length, Some, None, refl}
use Rattle.std.proofs.Common.{sym, ap, subst, ◌∙◌, append_assoc, length-append, arith, inl, inr}
use Rattle.std.specs.Prelude.{◌⊎◌, IsTrue, if◌then◌else◌}
use Rattle.std.specs.List.{AllByRecursion, flat_map}
use Rattle.jl_pool.specs.declared.constant.Constant.{Constant}
use Rattle.jl_pool.specs.declared.pool_fault.PoolFault.{PoolFault}
use Rattle.jl_pool.specs.declared.pool_fault.PoolFault.TheVariants as pool
use Rattle.jl_pool.specs.Numbers.{u2}
use Rattle.jl_pool.specs.Constants.{constant_text, is_double}
use Rattle.jl_pool.specs.Pools.{Pool, places, places_of, constant_at, HasText, is_linked, IsTyped, IsSoundPool}
use Rattle.jl_pool.specs.Faults.{TagFault, PoolStands, IsFirstNot, IsPoolFault, IsBadTag}
use Rattle.jl_pool.proofs.PoolLaws.{u2_one, either, places-append, met, one_pool}

at-front : (front back : Pool) (n : ℕ) (c : Constant) → constant_at (front ++ back) n ≡ Some c → (constant_at front n ≡ Some c)
    ⊎ (constant_at back (n - length front) ≡ Some c)
at-front [] back n c e = inr (subst (λ (k : ℕ). constant_at back k ≡ Some c) (let same : n ≡ n - 0 = omega arith in same) e)
at-front (p ∷ front) back zero c e = inl e
at-front (p ∷ front) back (suc n) c e = elim (at-front front back n c e) [
  | inl h ↦ inl h
  | inr h ↦ inr (subst (λ (k : ℕ). constant_at back k ≡ Some c) (let same : n - length front ≡ suc n - suc (length front) = omega arith in same) h)
]

at-own : (b : Bool) (c d : Constant) (n : ℕ) → constant_at (Some c ∷ (if b then None ∷ [] else [])) n ≡ Some d → c ≡ d
at-own b c d zero e = cc
at-own true c d (suc zero) e = absurd cc
at-own true c d (suc (suc n)) e = absurd cc
at-own false c d (suc n) e = absurd cc

All-flat : (P : Constant → Type 0) (cs : List Constant) (n : ℕ) (d : Constant) → AllByRecursion P cs → constant_at (flat_map places_of cs) n ≡ Some d → P d
All-flat P [] n d h e = absurd cc
All-flat P (c ∷ cs) n d h e = elim (at-front (places_of c) (flat_map places_of cs) n d e) [
  | inl own ↦ subst P (at-own (is_double c) c d n own) h.0
  | inr more ↦ All-flat P cs (n - length (places_of c)) d h.1 more
]

pub All-numbers : (P : Constant → Type 0) (cs : List Constant) (n : ℕ) (d : Constant) → AllByRecursion P cs → constant_at (places cs) n ≡ Some d → P d
All-numbers P cs zero d h e = absurd cc
All-numbers P cs (suc n) d h e = All-flat P cs n d h e

no_first : (P : Constant → Type 0) (cs : List Constant) (n : ℕ) → AllByRecursion P cs → ¬ IsFirstNot P (places cs) n
no_first P cs n h = λ f. f.isn't (All-numbers P cs n f.constant h f.there)

-- a bad tag isn't that of a constant that stands there
none_met : (count i t : ℕ) (after : List ℕ) (more : List Constant) (left : List ℕ) → IsBadTag count i t → t ∷ after ≡ flat_map constant_text more ++ left
    → i < count → count ≡ i + length (flat_map places_of more) → ⊥
none_met count i t after [] left bad text less all = absurd (omega (arith, less, all))
none_met count i t after (c ∷ more) left bad text less all =
    met count i t c (cc) (omega (arith, all, length-append (places_of c) (flat_map places_of more))) bad

-- a whole pool begins with no bad tag
no_bad_tag : (text : List ℕ) (cs : List Constant) (left : List ℕ) (i : ℕ) → PoolStands text cs left → ¬ TagFault text i
no_bad_tag text cs left i h = λ fault.
    let whole : text ≡ u2 (length (places cs)) ++ (flat_map constant_text cs ++ left) = h.bytes
    ∙ append_assoc (u2 (length (places cs))) (flat_map constant_text cs) left in
    elim fault [
      | inr none ↦
          let counts = u2_one (length (places cs)) 0 (flat_map constant_text cs ++ left) none.1.0 h.written.count (omega arith) (sym whole ∙ none.1.1) in
          absurd (omega (arith, counts.0))
      | inl b ↦
          let counts =
          u2_one (length (places cs)) b.count (flat_map constant_text cs ++ left) (flat_map constant_text b.before ++ b.tag ∷ b.left) h.written.count
          b.begins.count_size (sym whole ∙ b.begins.bytes)
          in
          elim (either cs b.before left (b.tag ∷ b.left) h.written.each b.begins.each counts.1) [
            | inl g ↦ absurd (omega (arith, counts.0, b.begins.more, ap (λ (m : List Constant). length (places m)) g.all, places-append cs g.more))
            | inr g ↦
                let all = ap (λ (m : List Constant). length (places m)) g.all ∙ places-append b.before g.more in
                none_met b.count i b.tag b.left g.more left b.bad g.text (omega (arith, b.place, b.begins.more)) (omega (arith, b.place, counts.0, all))
          ]
    ]

pub no_pool_fault : (text : List ℕ) (cs : List Constant) (left : List ℕ) (f : PoolFault) → PoolStands text cs left → IsSoundPool cs → f ≢ pool.Memory
    → ¬ IsPoolFault text f
no_pool_fault text cs left pool.Truncated h sound m = λ p. p.0 cs left h
no_pool_fault text cs left (pool.BadTag i) h sound m = λ p. no_bad_tag text cs left i h p
no_pool_fault text cs left (pool.BadUtf8 i) h sound m =
    λ p. let same = one_pool text p.0 cs p.1 left p.2 h in no_first _ p.0 i (subst (λ (c : List Constant). AllByRecursion HasText c) (sym same.0) sound.texts)
    p.4
no_pool_fault text cs left (pool.BadIndex i) h sound m = λ p.
    let same = one_pool text p.0 cs p.1 left p.2 h in no_first _ p.0 i
    (subst (λ (c : List Constant). AllByRecursion (λ d. IsTrue (is_linked (places c) d)) c) (sym same.0) sound.links) p.4
no_pool_fault text cs left (pool.BadDescriptor i) h sound m =
    λ p.
    let same = one_pool text p.0 cs p.1 left p.2 h in
    no_first _ p.0 i (subst (λ (c : List Constant). AllByRecursion (IsTyped (places c)) c) (sym same.0) sound.types) p.4
no_pool_fault text cs left pool.Memory h sound m = λ p. m refl
