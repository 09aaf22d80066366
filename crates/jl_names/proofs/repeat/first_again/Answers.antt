use Rattle.std.proofs.Common.{◌∙◌, sym, Some, None, arith}
use Rattle.jl_names.proofs.RepeatLaws.{Met-more, Met-skip, Met-found, Met-all, numbers_here, known, fresh}
use Rattle.jl_names.proofs.repeat.first_again.Goals as goal
use Rattle.jl_names.proofs.repeat.first_again.Goals.{in-Some+in_ok-insert+else-not-branch, in_default}

pub returns-then-not-branch : goal.returns-then-not-branch
returns-then-not-branch c =
    Met-found c.args.numbers.now c.args.pairs.now c.loop-i.i c.in-Some.both _ c.loop-i.invariant
    (numbers_here c.args.numbers.now c.args.pairs.now c.loop-i.i (Some c.in-Some.both) c.loop-i-test.true c.in-Some.ensures)
    (known c.in_ok-insert.field-0 _ c.in_ok-insert.ensures.added c.if-not-branch.true)

pub loop-i-preserved : goal.loop-i-preserved
loop-i-preserved c =
    elim c.match-numbers_of.branch [
      | in-Some+in_ok-insert+else-not-branch w ↦ rw w.met-is
          (Met-more c.args.numbers.now c.args.pairs.now c.loop-i.i w.in-Some.both _ _ c.loop-i.invariant
          (numbers_here c.args.numbers.now c.args.pairs.now c.loop-i.i (Some w.in-Some.both) c.loop-i-test.true w.in-Some.ensures)
          (fresh w.in_ok-insert.field-0 _ w.in_ok-insert.ensures.added w.if-not-branch.false)
          w.in_ok-insert.ensures.updates.0)
      | in_default w ↦ rw w.met-is
          (Met-skip c.args.numbers.now c.args.pairs.now c.loop-i.i _ c.loop-i.invariant
          (numbers_here c.args.numbers.now c.args.pairs.now c.loop-i.i None c.loop-i-test.true
          (sym w.in_default.is ∙ c.numbers_of.ensures)))
    ]

pub returns : goal.returns
returns c =
    Met-all c.args.numbers.now c.args.pairs.now c.loop-i.i _ c.loop-i.invariant (omega arith)
