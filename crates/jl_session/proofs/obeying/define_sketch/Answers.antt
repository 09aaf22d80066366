use Rattle.std.proofs.Common.{sym, subst, inl}
use Rattle.jl_sketch.specs.Faults.{IsWritten}
use Rattle.jl_session.proofs.LackLaws.{on_err, sketch_lacks}
use Rattle.jl_session.proofs.ScanLaws.{for_ok}
use Rattle.jl_session.proofs.obeying.define_sketch.Goals as goal

pub returns-in-Ok-clause-ok : goal.returns-in-Ok-clause-ok
returns-in-Ok-clause-ok g c =
    for_ok (λ v said. inl (c.deref.result.now, subst (IsWritten c.args.sketch.now) (sym c.deref.ensures.value) c.in-Ok.ensures.ok, said))
    c.define_file.result c.define_file.ensures.ok

pub returns-in-Ok-clause-lacks : goal.returns-in-Ok-clause-lacks
returns-in-Ok-clause-lacks g c =
    on_err (sketch_lacks g.O.Obey.applies _ _ _ c.args.sketch.now c.deref.result.now
    (subst (IsWritten c.args.sketch.now) (sym c.deref.ensures.value) c.in-Ok.ensures.ok))
    c.define_file.result c.define_file.ensures.lacks
