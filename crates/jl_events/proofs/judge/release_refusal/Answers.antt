use Rattle.std.specs.Prelude.{◌≡◌, Some, option_map}
use Rattle.std.proofs.Common.{ap, sym, ◌∙◌, rules}
use Rattle.jl_types.specs.declared.refusal.Refusal.TheVariants as refusal
use Rattle.jl_types.specs.Values.World.{World}
use Rattle.jl_types.specs.Events.Release.{release_fault}
use Rattle.jl_events.proofs.judge.release_refusal.Goals as goal

pub returns : goal.returns
returns c =
    let found : c.release_fault.result ≡ Some c.in_ok-fault.fault = search rules in
    ap (option_map refusal.Release)
    (sym found ∙ c.release_fault.ensures ∙ ap (λ (w : World). release_fault w.sites c.args.call_sites.now c.args.points.now) c.world.view_is)
