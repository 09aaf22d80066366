use Rattle.std.specs.Prelude.{◌≡◌, ℕ, ◌+◌, ◌<◌, ◌==◌, false, length, get_or}
use Rattle.std.proofs.Common.{ap, sym, ◌∙◌, arith}
use Rattle.std.proofs.Math.Arith.{lt_of_le-ne}
use Rattle.std.proofs.lemmas.Bool.Decides.{Decides-eqb}
use Rattle.std.proofs.lemmas.Bool.{both_ways}
use Rattle.jl_hierarchy.proofs.Appending.{same_lists, room_set, as_many_lists, same_default}
use Rattle.jl_hierarchy.proofs.receiving.reserve_each.Goals as goal

pub returns-in_err-reserve-clause-lists : goal.returns-in_err-reserve-clause-lists
returns-in_err-reserve-clause-lists c =
    same_lists c.loop-class.below c.number.result c.index-below-number.result c.reserve.new.self c.reserve.ensures.items
    ∙ c.loop-class.invariant.0

inside : (c : goal.In_ok-reserve) → c.number.result < length c.loop-class.below
inside c =
    let same = as_many_lists c.loop-class.below c.args.below.now c.loop-class.invariant.0 in
    let number = c.number.ensures ∙ c.class-item.is in
    let low = c.requires c.loop-class.class-index c.class-item.result c.loop-class-test.true in
    omega arith

before : (c : goal.In_ok-reserve) (k d : ℕ) → k < c.loop-class.class-index + 1 → (c.number.result == get_or c.args.classes.now k d) ≡ false
    → k < c.loop-class.class-index
before c k d lt e =
    lt_of_le-ne (omega arith) (λ same. both_ways (c.number.result == get_or c.args.classes.now k d) e
    ((Decides-eqb c.number.result (get_or c.args.classes.now k d)).1
    (c.number.ensures ∙ c.class-item.is ∙ ap (λ i. get_or c.args.classes.now i c.class-item.result) (sym same)
    ∙ same_default c.args.classes.now k c.class-item.result d (let t = c.loop-class-test.true in omega arith))))

pub loop-class-preserved : goal.loop-class-preserved
loop-class-preserved c = (
  same_lists c.loop-class.below c.number.result c.index-below-number.result c.reserve.new.self c.reserve.ensures.items
      ∙ c.loop-class.invariant.0,
  λ k d lt. room_set c.loop-class.below c.number.result (get_or c.args.classes.now k d) c.reserve.new.self (inside c)
      (λ e. let ok = c.in_ok-reserve.ensures.ok in omega arith)
      (λ e. c.loop-class.invariant.1 k d (before c k d lt e)),
)

pub returns-clause-room : goal.returns-clause-room
returns-clause-room c k d lt = c.loop-class.invariant.1 k d (let t = c.loop-class-test.false in omega arith)
