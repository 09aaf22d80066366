use Rattle.std.proofs.Common.{sym, subst, OnErr}
use Rattle.jl_json.specs.declared.command.ClassSource.{ClassSource}
use Rattle.jl_session.specs.Obeying.{LacksAnswer, IsDefined}
use Rattle.jl_session.proofs.obeying.define.Goals as goal

pub returns-in-Sketch-clause-lacks : goal.returns-in-Sketch-clause-lacks
returns-in-Sketch-clause-lacks g c =
    subst (λ (source : ClassSource). OnErr c.define_sketch.result (LacksAnswer c.args.on.now
    (λ answer. IsDefined g.O.Obey.applies c.args.on.now c.args.loader source answer c.define_sketch.new.on)
    c.define_sketch.new.on)) (sym c.in-Sketch.is) c.define_sketch.ensures.lacks
