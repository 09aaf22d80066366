-- Each step at the queue keeps its rule.
use Rattle.std.proofs.Common.{◌≡◌, ◌≢◌, ℕ, zero, suc, ◌+◌, ◌-◌, ◌<◌, ◌≤◌, List, [], ◌∷◌, ◌++◌, length, set, refl, ap, sym, ◌∙◌, ⊎_elim, arith}
use Rattle.std.specs.List.{sum_by}
use Rattle.std.proofs.lemmas.List.Sums.{sum_by-cons, sum_by-append}
use mathlib.Core.Option.{some, some-injective, some-ne-none}
use lib.ListN.{get_elem?}
use Rattle.crossbeam_queue.specs.Fifo.{Pushes, Pops, Forks, Merges, Learns}
use Rattle.crossbeam_queue.proofs.Lists.{at_set, at_snoc}
use Rattle.jl_farm.specs.declared.job_queue.PassView.{PassView}
use Rattle.jl_farm.specs.ForProofs.Queued.{pass_view, IdleIsEmpty, AreQueued, KnowsAll}

-- ---- totals

-- the total after a change of one view
total_set : (f : PassView → ℕ) (views : List PassView) (pass : ℕ) (v w : PassView) → get_elem? views pass ≡ some v
    → sum_by f (set views pass w) + f v ≡ sum_by f views + f w
total_set f [] pass v w at = absurd (some-ne-none v (sym at))
total_set f (x ∷ xs) zero v w at =
    let same : f x ≡ f v = ap f (some-injective x v at) in omega (arith, sum_by-cons f w xs, sum_by-cons f x xs)
total_set f (x ∷ xs) (suc pass) v w at =
    omega (arith, total_set f xs pass v w at, sum_by-cons f x xs, sum_by-cons f x (set xs pass w))

-- what one view weighs, all weigh at least
total_most : (f : PassView → ℕ) (views : List PassView) (pass : ℕ) (v : PassView) → get_elem? views pass ≡ some v → f v ≤ sum_by f views
total_most f [] pass v at = absurd (some-ne-none v (sym at))
total_most f (x ∷ xs) zero v at = let same : f x ≡ f v = ap f (some-injective x v at) in omega (arith, sum_by-cons f x xs)
total_most f (x ∷ xs) (suc pass) v at = omega (arith, total_most f xs pass v at, sum_by-cons f x xs)

-- what weighs nothing without a part
abbrev Idle : (PassView → ℕ) → List PassView → Type 0
Idle f views = (pass : ℕ) (u : PassView) → get_elem? views pass ≡ some u → u.parts ≡ 0 → f u ≡ 0

all_idle : (f : PassView → ℕ) (views : List PassView) → Idle f views → sum_by (λ v. v.parts) views ≡ 0 → sum_by f views ≡ 0
all_idle f [] idle none = refl
all_idle f (x ∷ xs) idle none =
    let parts = sum_by-cons (λ (v : PassView). v.parts) x xs in
    let first : f x ≡ 0 = idle zero x refl (omega arith) in
    let rest : sum_by f xs ≡ 0 = all_idle f xs (λ pass u at. idle (suc pass) u at) (omega arith) in
    omega (arith, sum_by-cons f x xs)

-- where one view has all parts, all weigh what it weighs
others_idle : (f : PassView → ℕ) (views : List PassView) (pass : ℕ) (v : PassView) → get_elem? views pass ≡ some v → Idle f views
    → sum_by (λ u. u.parts) views ≡ v.parts → sum_by f views ≡ f v
others_idle f [] pass v at idle all = absurd (some-ne-none v (sym at))
others_idle f (x ∷ xs) zero v at idle all =
    let parts = sum_by-cons (λ (u : PassView). u.parts) x xs in
    let same : f x ≡ f v = ap f (some-injective x v at) in
    let same_parts : x.parts ≡ v.parts = ap (λ (u : PassView). u.parts) (some-injective x v at) in
    let rest : sum_by f xs ≡ 0 = all_idle f xs (λ pass u at. idle (suc pass) u at) (omega arith) in
    omega (arith, sum_by-cons f x xs)
others_idle f (x ∷ xs) (suc pass) v at idle all =
    let parts = sum_by-cons (λ (u : PassView). u.parts) x xs in
    let most = total_most (λ (u : PassView). u.parts) xs pass v at in
    let first : f x ≡ 0 = idle zero x refl (omega arith) in
    let rest : sum_by f xs ≡ f v = others_idle f xs pass v at (λ pass u at. idle (suc pass) u at) (omega arith) in
    omega (arith, sum_by-cons f x xs)

-- ---- passes without a part

idle_set : (views : List PassView) (pass : ℕ) (w : PassView) → (w.parts ≡ 0 → (w.put ≡ []) × (w.taken ≡ [])) → IdleIsEmpty views
    → IdleIsEmpty (set views pass w)
idle_set views pass w mine others j u at none = ⊎_elim
    (λ (t : (j ≡ pass) × (w ≡ u)).
    let m = mine (ap (λ (y : PassView). y.parts) t.1 ∙ none) in
    (sym (ap (λ (y : PassView). y.put) t.1) ∙ m.0, sym (ap (λ (y : PassView). y.taken) t.1) ∙ m.1))
    (λ (t : (j ≢ pass) × (get_elem? views j ≡ some u)). others j u t.1 none)
    (at_set views pass j w u at)

idle_snoc : (views : List PassView) (w : PassView) → (w.parts ≡ 0 → (w.put ≡ []) × (w.taken ≡ [])) → IdleIsEmpty views → IdleIsEmpty (views ++ w ∷ [])
idle_snoc views w mine others j u at none = ⊎_elim
    (λ (there : get_elem? views j ≡ some u). others j u there none)
    (λ (same : w ≡ u).
    let m = mine (ap (λ (y : PassView). y.parts) same ∙ none) in
    (sym (ap (λ (y : PassView). y.put) same) ∙ m.0, sym (ap (λ (y : PassView). y.taken) same) ∙ m.1))
    (at_snoc views w u j at)

-- ---- the steps

pub begins : AreQueued [] (pass_view 1024 [] [] ∷ [])
begins = (refl, (λ weight. refl), only)
  where
    only : IdleIsEmpty (pass_view 1024 [] [] ∷ [])
    only zero u at none = absurd (omega (arith, ap (λ (y : PassView). y.parts) (some-injective (pass_view 1024 [] []) u at)))
    only (suc j) u at none = absurd (some-ne-none u (sym at))

pub puts : (n pass : ℕ) (v : PassView) (x : ℕ) → 0 < v.parts → Pushes AreQueued n pass v x (λ w. w ≡ pass_view v.parts (v.put ++ x ∷ []) v.taken)
puts n pass v x part items views room b at =
    let w : PassView = pass_view v.parts (v.put ++ x ∷ []) v.taken in (
      w,
      (
        (let s = total_set (λ (u : PassView). u.parts) views pass v w at in let p = b.0 in omega arith),
        (λ weight.
            let s = total_set (λ (u : PassView). sum_by weight u.put) views pass v w at in
            let t = total_set (λ (u : PassView). sum_by weight u.taken) views pass v w at in
            let p = b.1 weight in
            omega (arith, sum_by-append weight v.put (x ∷ []), sum_by-append weight items (x ∷ []))),
        idle_set views pass w (λ none. absurd (omega arith)) b.2,
      ),
      refl,
    )

pub takes : (pass : ℕ) (v : PassView) → 0 < v.parts → Pops AreQueued pass v (λ x w. w ≡ pass_view v.parts v.put (v.taken ++ x ∷ []))
takes pass v part x items views b at =
    let w : PassView = pass_view v.parts v.put (v.taken ++ x ∷ []) in (
      w,
      (
        (let s = total_set (λ (u : PassView). u.parts) views pass v w at in let p = b.0 in omega arith),
        (λ weight.
            let s = total_set (λ (u : PassView). sum_by weight u.put) views pass v w at in
            let t = total_set (λ (u : PassView). sum_by weight u.taken) views pass v w at in
            let p = b.1 weight in
            omega (arith, sum_by-append weight v.taken (x ∷ []), sum_by-cons weight x items, sum_by-cons weight x [])),
        idle_set views pass w (λ none. absurd (omega arith)) b.2,
      ),
      refl,
    )

pub forks : (pass : ℕ) (v : PassView) → 1 < v.parts → Forks AreQueued pass v (pass_view (v.parts - 1) v.put v.taken) (pass_view 1 [] [])
forks pass v parts items views b at =
    let left : PassView = pass_view (v.parts - 1) v.put v.taken in
    let right : PassView = pass_view 1 [] [] in
    let vs : List PassView = set views pass left in
    let all = λ (f : PassView → ℕ). sum_by-append f vs (right ∷ []) in (
      (let s = total_set (λ (u : PassView). u.parts) views pass v left at in let p = b.0 in omega (arith, all (λ u. u.parts))),
      (λ weight.
          let s = total_set (λ (u : PassView). sum_by weight u.put) views pass v left at in
          let t = total_set (λ (u : PassView). sum_by weight u.taken) views pass v left at in
          let p = b.1 weight in
          omega (arith, all (λ u. sum_by weight u.put), all (λ u. sum_by weight u.taken))),
      idle_snoc vs right (λ none. absurd (omega arith)) (idle_set views pass left (λ none. absurd (omega arith)) b.2),
    )

abbrev pub joined : PassView → PassView → PassView
joined v w = pass_view (v.parts + w.parts) (v.put ++ w.put) (v.taken ++ w.taken)

pub merges : (pass : ℕ) (v : PassView) (other : ℕ) (w : PassView) → Merges AreQueued pass v other w (joined v w) (pass_view 0 [] [])
merges pass v other w items views b at apart there =
    let both : PassView = joined v w in
    let spent : PassView = pass_view 0 [] [] in
    let vs : List PassView = set views pass both in
    let was : get_elem? views other ≡ some w = ⊎_elim (λ (t : (other ≡ pass) × (both ≡ w)). absurd (apart t.0))
    (λ (t : (other ≢ pass) × (get_elem? views other ≡ some w)). t.1) (at_set views pass other both w there) in
    let idle : both.parts ≡ 0 → (both.put ≡ []) × (both.taken ≡ []) = λ none.
    let mine = b.2 pass v at (omega arith) in
    let theirs = b.2 other w was (omega arith) in
    ((λ i. mine.0 i ++ theirs.0 i), (λ i. mine.1 i ++ theirs.1 i)) in (
      (let s = total_set (λ (u : PassView). u.parts) views pass v both at in let t = total_set (λ (u : PassView). u.parts) vs other w spent there in
          let p = b.0 in omega arith),
      (λ weight.
          let s = total_set (λ (u : PassView). sum_by weight u.put) views pass v both at in
          let s' = total_set (λ (u : PassView). sum_by weight u.put) vs other w spent there in
          let t = total_set (λ (u : PassView). sum_by weight u.taken) views pass v both at in
          let t' = total_set (λ (u : PassView). sum_by weight u.taken) vs other w spent there in
          let p = b.1 weight in
          omega (arith, sum_by-append weight v.put w.put, sum_by-append weight v.taken w.taken)),
      idle_set vs other spent (λ none. (refl, refl)) (idle_set views pass both idle b.2),
    )

pub learns : (pass : ℕ) (v : PassView) → Learns AreQueued pass v (KnowsAll v)
learns pass v items views b at whole weight =
    let all : sum_by (λ (u : PassView). u.parts) views ≡ v.parts = b.0 ∙ sym whole in
    let put = others_idle (λ (u : PassView). sum_by weight u.put) views pass v at (λ j u there none. ap (sum_by weight) (b.2 j u there none).0) all in
    let taken = others_idle (λ (u : PassView). sum_by weight u.taken) views pass v at (λ j u there none. ap (sum_by weight) (b.2 j u there none).1) all in
    let p = b.1 weight in
    omega arith

-- ---- room

-- as many as there are weigh as much, each at one
length_weighs : (xs : List ℕ) → sum_by (λ _. 1) xs ≡ length xs
length_weighs [] = refl
length_weighs (x ∷ xs) = omega (arith, sum_by-cons (λ (_ : ℕ). 1) x xs, length_weighs xs)

-- where n jobs were put and none was taken, n wait
pub waiting : (v : PassView) (put items : List ℕ) → v ≡ pass_view 1024 put [] → KnowsAll v items → length items ≡ length put
waiting v put items is knows =
    let all = knows (ap (λ (y : PassView). y.parts) is) (λ _. 1) in
    let put' : sum_by (λ _. 1) v.put ≡ sum_by (λ _. 1) put = ap (λ (y : PassView). sum_by (λ _. 1) y.put) is in
    let taken' : sum_by (λ _. 1) v.taken ≡ 0 = ap (λ (y : PassView). sum_by (λ _. 1) y.taken) is in
    omega (arith, length_weighs put, length_weighs items)
