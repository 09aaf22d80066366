use Rattle.std.specs.Prelude.{◌≡◌, ℕ, ◌+◌, ◌<◌, ◌≤◌, ◌==◌, ◌++◌, ◌∷◌, [], true, length, get_or, slice_set, take}
use Rattle.std.proofs.Common.{ap, sym, subst, ◌∙◌, arith}
use Rattle.std.proofs.lemmas.Bool.Decides.{Decides-eqb}
use Rattle.jl_hierarchy.specs.ForProofs.Kept.{HasRoomForOne, IsAppended, lists}
use Rattle.jl_hierarchy.proofs.Appending.{changed_more, room_set, rises_at}
use Rattle.jl_hierarchy.proofs.receiving.append_to_each.Goals as goal

pub push_reserved-requires : goal.push_reserved-requires
push_reserved-requires c =
    let list = c.index-below-number.result in
    subst (λ n. HasRoomForOne (get_or c.loop-to.below n list)) (sym (c.number.ensures ∙ c.to-item.is))
    (c.loop-to.invariant.1 c.loop-to.to-index c.to-item.result (omega arith) c.loop-to-test.true list)

apart : (c : goal.After-push_reserved) (k d : ℕ) → c.loop-to.to-index + 1 ≤ k → k < length c.args.classes.now
    → (c.number.result == get_or c.args.classes.now k d) ≡ true → ⊥
apart c k d le lt e =
    let less = rises_at c.args.classes.now c.loop-to.to-index k c.to-item.result d c.requires.rising (omega arith) lt in
    let same = (Decides-eqb c.number.result (get_or c.args.classes.now k d)).0 e in
    let is = c.number.ensures ∙ c.to-item.is in
    omega arith

inside : (c : goal.After-push_reserved) → get_or c.args.classes.now c.loop-to.to-index c.to-item.result < length c.loop-to.below
inside c = let low = c.requires.there c.loop-to.to-index c.to-item.result c.loop-to-test.true in let many = c.loop-to.auto.below in omega arith

pub loop-to-preserved : goal.loop-to-preserved
loop-to-preserved c =
    let list = c.index-below-number.result in
    let new = c.push_reserved.new.self in
    let is = c.number.ensures ∙ c.to-item.is in (
      subst (λ m. IsAppended (take (c.loop-to.to-index + 1) c.args.classes.now) c.args.class (lists c.args.below.now) (lists (slice_set c.loop-to.below m new)))
          (sym is)
          (changed_more c.args.classes.now (λ xs. xs ++ c.args.class ∷ []) (lists c.args.below.now) c.loop-to.below c.loop-to.to-index c.to-item.result
          c.requires.rising
          c.loop-to-test.true c.loop-to.invariant.0 new list (inside c)
          (c.push_reserved.ensures.items ∙ ap (λ m. (get_or c.loop-to.below m list).items ++ c.args.class ∷ []) is)),
      λ k d le lt. room_set c.loop-to.below c.number.result (get_or c.args.classes.now k d) new (let low = inside c in omega arith)
          (λ e. absurd (apart c k d le lt e)) (λ e. c.loop-to.invariant.1 k d (omega arith) lt),
    )
