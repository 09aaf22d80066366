use Rattle.std.proofs.Common.{◌∙◌, sym, ap, List, ◌++◌, ◌+◌, map, drop}
use Rattle.jl_class.specs.Site.{Site}
use Rattle.jl_report.specs.declared.invocation.Invocation.{Invocation}
use Rattle.jl_report.specs.Reports.{invocation_of, invocations_from}
use Rattle.jl_report.proofs.InvocationLaws.{method_added, all_methods}
use Rattle.jl_report.proofs.invocation.invocations_of.Goals as goal

pub loop-method-preserved : goal.loop-method-preserved
loop-method-preserved c =
    let i = c.loop-method.index in
    let rest = invocations_from c.args.class (i + 1) (drop (i + 1) c.args.methods.now) in
    let with_sites : List Site → List Invocation = λ sites. c.loop-method.all.items ++ map (invocation_of c.args.class i) sites in
    ap (λ (xs : List Invocation). xs ++ rest) (◌∙◌ {A = List Invocation} c.in_ok-push_invocations.ensures (ap with_sites c.sites.ensures))
    ∙ method_added c.loop-method.all.items c.args.class c.args.methods.now i c.in-Some.method (sym c.in-Some.ensures)
    ∙ c.loop-method.invariant

pub returns : goal.returns
returns c =
    sym (all_methods c.loop-method.all.items c.args.class c.args.methods.now c.loop-method.index (sym c.in_default.ensures)) ∙ c.loop-method.invariant
