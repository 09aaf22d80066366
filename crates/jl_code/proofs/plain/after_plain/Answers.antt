use Rattle.jl_code.proofs.PlainLaws.{more_skipped}
use Rattle.jl_code.proofs.plain.after_plain.Goals as goal

pub loop-later-preserved : goal.loop-later-preserved
loop-later-preserved c = more_skipped c.args.bytes.now c.loop-later.rest.now c.in-Some.later.now c.loop-later.invariant c.in-Some.ensures.stands
