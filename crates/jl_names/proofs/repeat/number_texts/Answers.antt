use Rattle.std.proofs.Common.{Some, None, arith}
use Rattle.jl_names.proofs.RepeatLaws.{Numbered-more, Numbered-skip, Numbered-all, text_here}
use Rattle.jl_names.proofs.repeat.number_texts.Goals as goal
use Rattle.jl_names.proofs.repeat.number_texts.Goals.{in-Some+in_ok-number_of-in-Some, in-None}

pub loop-i-preserved : goal.loop-i-preserved
loop-i-preserved c =
    elim c.match-text.branch [
      | in-Some+in_ok-number_of-in-Some w ↦ rw (w.first-is, c.in_ok-push.ensures.items, w.number-is)
          (Numbered-more c.args.texts.now c.loop-i.i w.in_ok-number_of-in-Some.field-0 c.loop-i.numbers.items _ _ w.in-Some.text.now
          c.loop-i.invariant (text_here c.args.texts.now c.loop-i.i (Some w.in-Some.text) c.loop-i-test.true w.in-Some.is)
          w.in_ok-number_of-in-Some.ensures.number
          w.in_ok-number_of-in-Some.ensures.updates)
      | in-None w ↦ rw (w.first-is, c.in_ok-push.ensures.items, w.number-is)
          (Numbered-skip c.args.texts.now c.loop-i.i c.loop-i.numbers.items _ c.loop-i.invariant
          (text_here c.args.texts.now c.loop-i.i None c.loop-i-test.true w.in-None.is))
    ]

pub returns : goal.returns
returns c = Numbered-all c.args.texts.now c.loop-i.i c.loop-i.numbers.items _ c.loop-i.invariant (omega arith)
