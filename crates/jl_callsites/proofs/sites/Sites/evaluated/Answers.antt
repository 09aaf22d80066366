use Rattle.std.proofs.Common.{rules, ◌≡◌, ◌∙◌, ap, sym, Some, None}
use Rattle.jl_types.specs.Values.Target.{Invoker}
use Rattle.jl_types.specs.Linkage.Targets.{evaluated}
use Rattle.jl_types.specs.ForProofs.Whole.{whole}
use Rattle.jl_callsites.specs.Earlier.{earlier_target}
use Rattle.jl_callsites.proofs.Invoked.{earlier_runs, earlier_turns, none_earlier}
use Rattle.jl_callsites.proofs.sites.Sites.evaluated.Goals as goal

pub returns-in_err-target-in-Invoker : goal.returns-in_err-target-in-Invoker
returns-in_err-target-in-Invoker c =
    let sites = c.args.self.now in
    let none : earlier_target sites c.in-Invoker.invoked c.loop-target.site ≡ None = search rules in
    let is : Invoker c.in-Invoker.invoked ≡ c.loop-target.target.now = sym (ap whole c.in-Invoker.is) ∙ c.target.view_is in
    let said : c.from_residual.result ≡ None = search rules in
    said ∙ sym (none_earlier sites c.in-Invoker.invoked c.loop-target.site none) ∙ ap (evaluated sites c.loop-target.site) is ∙ c.loop-target.invariant

pub loop-target-smaller : goal.loop-target-smaller
loop-target-smaller c =
    let sites = c.args.self.now in
    let some : earlier_target sites c.in-Invoker.invoked c.loop-target.site ≡ Some c.in_ok-target-in-Invoker.target.now = search rules in
    earlier_turns sites c.in-Invoker.invoked c.loop-target.site c.loop-target.target.now c.in_ok-target-in-Invoker.target.now some

pub loop-target-preserved : goal.loop-target-preserved
loop-target-preserved c =
    let sites = c.args.self.now in
    let some : earlier_target sites c.in-Invoker.invoked c.loop-target.site ≡ Some c.in_ok-target-in-Invoker.target.now = search rules in
    let is : Invoker c.in-Invoker.invoked ≡ c.loop-target.target.now = sym (ap whole c.in-Invoker.is) ∙ c.target.view_is in
    earlier_runs sites c.in-Invoker.invoked c.loop-target.site c.in_ok-target-in-Invoker.target.now some
    ∙ ap (evaluated sites c.loop-target.site) is ∙ c.loop-target.invariant
