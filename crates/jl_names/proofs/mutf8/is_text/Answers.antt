use Rattle.std.proofs.Common.{sym, ◌∙◌, ◌∷◌, [], ◌++◌}
use Rattle.jl_names.proofs.UnitLaws.{unit_shorter, Begins-more, Begins-no_text}
use Rattle.jl_names.proofs.mutf8.is_text.Goals as goal

pub loop-rest-smaller : goal.loop-rest-smaller
loop-rest-smaller c = unit_shorter c.loop-rest.rest.now c.in-Ok.field-0-0 c.in-Ok.after.now c.in-Ok.ensures

pub loop-rest-preserved : goal.loop-rest-preserved
loop-rest-preserved c =
    let i = c.loop-rest.invariant in (
      i.0 ++ c.in-Ok.field-0-0 ∷ [],
      Begins-more c.args.text.now i.0 c.loop-rest.rest.now c.in-Ok.field-0-0 c.in-Ok.after.now i.1 c.in-Ok.ensures,
    )

pub returns-in-Err : goal.returns-in-Err
returns-in-Err c =
    let i = c.loop-rest.invariant in
    Begins-no_text c.args.text.now i.0 c.loop-rest.rest.now c.in-Err.field-0 i.1
    (sym c.is_empty.ensures ∙ c.loop-rest-test.true) c.in-Err.ensures
