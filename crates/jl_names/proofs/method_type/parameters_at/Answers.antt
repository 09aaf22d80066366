use Rattle.std.proofs.Common.{sym}
use Rattle.jl_names.proofs.DescriptorLaws.{field_less}
use Rattle.jl_names.proofs.MethodLaws.{Stand-more, Stand-closed}
use Rattle.jl_names.proofs.method_type.parameters_at.Goals as goal

pub loop-after-smaller : goal.loop-after-smaller
loop-after-smaller c = field_less c.loop-after.rest.now c.in-Ok.after.now c.in-Ok.ty c.in-Ok.ensures

pub loop-after-preserved : goal.loop-after-preserved
loop-after-preserved c = rw c.in_ok-push-in-Ok.ensures.items
    (Stand-more c.args.text.now c.loop-after.parameters.items c.loop-after.rest.now c.in-Ok.ty c.in-Ok.after.now
    c.loop-after.invariant c.in-Ok.ensures)

pub returns-in-Some-clause-ok : goal.returns-in-Some-clause-ok
returns-in-Some-clause-ok c = Stand-closed c.args.text.now c.loop-after.parameters.items c.loop-after.rest.now
    c.in-Some.after.now c.loop-after.invariant (sym c.in-Some.ensures)
