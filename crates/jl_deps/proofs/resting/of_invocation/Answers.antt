use Rattle.std.specs.Prelude.{◌≡◌, Some}
use Rattle.std.proofs.Common.{rules}
use Rattle.jl_class.specs.declared.site.Operand.TheVariants as operand
use Rattle.jl_types.specs.Linkage.Stages.{bound_to}
use Rattle.jl_types.specs.Events.Footprints.{of_call_site}
use Rattle.jl_deps.proofs.StageLaws.{of_bound}
use Rattle.jl_deps.proofs.resting.of_invocation.Goals as goal

pub returns-in_ok-of_call_site-in-Some : goal.returns-in_ok-of_call_site-in-Some
returns-in_ok-of_call_site-in-Some c =
    let w = c.args.world.now in
    let invocation = c.args.invocation.now in
    let is : invocation.operand ≡ operand.CallSite c.in-CallSite.field-0 = search rules in
    let bound : bound_to w c.args.site ≡ Some c.in-Some.call_site = search rules in
    let keys : c.in_ok-of_call_site-in-Some.field-0 ≡ of_call_site w.sites c.in-Some.call_site = search rules in
    of_bound w c.args.site c.args.caller invocation.kind invocation.operand c.in-CallSite.field-0 is c.in-Some.call_site bound
    c.in_ok-of_call_site-in-Some.field-0 keys
