use Rattle.std.proofs.Common.{rules, arith, ◌≡◌}
use Rattle.jl_class.specs.declared.site.Operand.TheVariants as operand
use Rattle.jl_relink.proofs.WayKeys.{call_site_takes_one}
use Rattle.jl_relink.proofs.scratch.invocation_link.Goals as goal

pub binding_link-requires : goal.binding_link-requires
binding_link-requires c =
    let found = c.args.found.now in
    let is : found.invocation.operand ≡ operand.CallSite c.in-CallSite.field-0 = search rules in
    let one = call_site_takes_one c.args.world.now c.args.site found.caller found.invocation.kind found.invocation.operand c.in-CallSite.field-0 is in
    let fits = c.requires.fits in
    record { fits = omega arith }

pub returns-in-CallSite-clause-ticks : goal.returns-in-CallSite-clause-ticks
returns-in-CallSite-clause-ticks c =
    let found = c.args.found.now in
    let is : found.invocation.operand ≡ operand.CallSite c.in-CallSite.field-0 = search rules in
    let one = call_site_takes_one c.args.world.now c.args.site found.caller found.invocation.kind found.invocation.operand c.in-CallSite.field-0 is in
    let ticks = c.binding_link.ensures.ticks in
    omega arith
