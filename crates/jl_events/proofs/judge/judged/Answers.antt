use Rattle.std.specs.Prelude.{length, option_map}
use Rattle.std.proofs.Common.{rules, refl, ◌∙◌}
use Rattle.jl_types.specs.declared.event.Made.TheVariants as made
use Rattle.jl_types.specs.declared.event.EventOf.TheVariants as event
use Rattle.jl_types.specs.declared.refusal.Refusal.TheVariants as refusal
use Rattle.jl_types.specs.Events.Release.{release_fault}
use Rattle.jl_callsites.proofs.Worlds.{new_switch_comes_to, invalidate_comes_to}
use Rattle.jl_events.proofs.CallSiteLaws.{as_judged, new_site_verdict, set_target_verdict}
use Rattle.jl_events.proofs.judge.judged.Goals as goal

pub returns-in-NewLoader-clause-judged : goal.returns-in-NewLoader-clause-judged
returns-in-NewLoader-clause-judged c =
    as_judged c.args.limits c.args.world.now c.args.event event.NewLoader c.loader_refusal.result _ (made.Loader (length c.args.world.now.classes.loaders))
    c.unless.result c.in-NewLoader.is refl (search rules) (c.unless.ensures (made.Loader (length c.args.world.now.classes.loaders)))

pub returns-in-Delegate-clause-judged : goal.returns-in-Delegate-clause-judged
returns-in-Delegate-clause-judged c =
    as_judged c.args.limits c.args.world.now c.args.event (event.Delegate c.in-Delegate.loader c.in-Delegate.name c.in-Delegate.to)
    c.delegation_refusal-refusal.result _ made.Nothing c.unless-in-Delegate.result c.in-Delegate.is refl (search rules) (c.unless-in-Delegate.ensures _)

pub returns-in-NewCallSite-clause-judged : goal.returns-in-NewCallSite-clause-judged
returns-in-NewCallSite-clause-judged c =
    let w = c.args.world.now in
    as_judged c.args.limits c.args.world.now c.args.event (event.NewCallSite c.in-NewCallSite.kind c.in-NewCallSite.ty c.in-NewCallSite.target)
    c.of_call_site.result (option_map refusal.CallSite c.new_site_fault-fault.result) (made.CallSite (length w.sites.call_sites)) c.unless-in-NewCallSite.result
    c.in-NewCallSite.is (new_site_verdict c.args.limits w c.in-NewCallSite.kind c.in-NewCallSite.ty c.in-NewCallSite.target c.new_site_fault-fault.result
    (search rules))
    c.of_call_site.ensures (c.unless-in-NewCallSite.ensures (made.CallSite (length w.sites.call_sites)))

pub returns-in-SetTarget-clause-judged : goal.returns-in-SetTarget-clause-judged
returns-in-SetTarget-clause-judged c =
    as_judged c.args.limits c.args.world.now c.args.event (event.SetTarget c.in-SetTarget.site c.in-SetTarget.target) c.of_call_site-in-SetTarget.result
    (option_map refusal.CallSite c.set_target_fault-fault.result) made.Nothing c.unless-in-SetTarget.result
    c.in-SetTarget.is (set_target_verdict c.args.limits c.args.world.now c.in-SetTarget.site c.in-SetTarget.target c.set_target_fault-fault.result
    (search rules))
    c.of_call_site-in-SetTarget.ensures (c.unless-in-SetTarget.ensures made.Nothing)

pub returns-in-NewSwitch-clause-judged : goal.returns-in-NewSwitch-clause-judged
returns-in-NewSwitch-clause-judged c =
    as_judged c.args.limits c.args.world.now c.args.event event.NewSwitch c.of_call_site-in-NewSwitch.result _
    (made.Switch (length c.args.world.now.sites.switches)) c.unless-in-NewSwitch.result c.in-NewSwitch.is
    (new_switch_comes_to c.args.limits c.args.world.now).verdict (search rules) (c.unless-in-NewSwitch.ensures (made.Switch _))

pub returns-in-Invalidate-clause-judged : goal.returns-in-Invalidate-clause-judged
returns-in-Invalidate-clause-judged c =
    as_judged c.args.limits c.args.world.now c.args.event (event.Invalidate c.in-Invalidate.points) c.of_call_site-in-Invalidate.result _ made.Nothing
    c.unless-in-Invalidate.result c.in-Invalidate.is (invalidate_comes_to c.args.limits c.args.world.now c.in-Invalidate.points).verdict (search rules)
    (c.unless-in-Invalidate.ensures made.Nothing)

pub returns-in-Bind-clause-judged : goal.returns-in-Bind-clause-judged
returns-in-Bind-clause-judged c =
    as_judged c.args.limits c.args.world.now c.args.event (event.Bind c.in-Bind.site c.in-Bind.call_site) c.bind_refusal.result _ made.Nothing
    c.unless-in-Bind.result c.in-Bind.is refl c.bind_refusal.ensures (c.unless-in-Bind.ensures made.Nothing)

pub returns-in-Install-clause-judged : goal.returns-in-Install-clause-judged
returns-in-Install-clause-judged c =
    as_judged c.args.limits c.args.world.now c.args.event (event.Install c.in-Install.rows) c.install_refusal-refusal.result _ made.Nothing
    c.unless-in-Install.result c.in-Install.is refl (search rules) (c.unless-in-Install.ensures made.Nothing)

pub returns-in-Retire-clause-judged : goal.returns-in-Retire-clause-judged
returns-in-Retire-clause-judged c =
    as_judged c.args.limits c.args.world.now c.args.event (event.Retire c.in-Retire.loader) c.retire_refusal.result _ made.Nothing
    c.unless-in-Retire.result c.in-Retire.is refl c.retire_refusal.ensures (c.unless-in-Retire.ensures made.Nothing)

pub returns-in-RetireAll-clause-judged : goal.returns-in-RetireAll-clause-judged
returns-in-RetireAll-clause-judged c =
    as_judged c.args.limits c.args.world.now c.args.event (event.RetireAll c.in-RetireAll.loaders) c.retirement_refusal-refusal.result _ made.Nothing
    c.unless-in-RetireAll.result c.in-RetireAll.is refl (search rules) (c.unless-in-RetireAll.ensures made.Nothing)

pub returns-in-Release-clause-judged : goal.returns-in-Release-clause-judged
returns-in-Release-clause-judged c =
    as_judged c.args.limits c.args.world.now c.args.event (event.Release c.in-Release.call_sites c.in-Release.points) c.release_refusal-refusal.result _
    made.Nothing c.unless-in-Release.result c.in-Release.is refl
    (c.release_refusal-refusal.ensures
    ∙ (λ i. option_map refusal.Release (release_fault c.args.world.now.sites (c.as_slice-in-Release.ensures i) (c.as_slice-in-Release-2.ensures i))))
    (c.unless-in-Release.ensures made.Nothing)
