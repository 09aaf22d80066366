use Rattle.jl_sketch.proofs.EntryLaws.{entered}
use Rattle.jl_sketch.proofs.constants.Constants.enter.Goals as goal

pub returns : goal.returns
returns c = entered c.self.inside.entries.keys c.insert.new.self.keys c.args.self.now c.args.entry c.in_ok-insert.ensures.keys c.self.view_is
