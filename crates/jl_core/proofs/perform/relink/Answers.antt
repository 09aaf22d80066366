use Rattle.std.specs.Prelude.{[], ◌∷◌}
use Rattle.std.proofs.Common.{ap, sym, subst, ◌∙◌}
use Rattle.jl_types.specs.declared.event.EventOf.TheVariants as events
use Rattle.jl_cache.specs.Links.{link_at}
use Rattle.jl_settle.specs.Settling.{AreUpToDate}
use Rattle.jl_events.specs.Accepted.{Accepted}
use Rattle.jl_core.specs.ForProofs.Changes.{installs_at}
use Rattle.jl_core.specs.ForProofs.Steps.{IsRetirement, of_one, of_several, HasStepped}
use Rattle.jl_core.proofs.StepLaws.{no_retirement, has_changed, fits_so, ticks_so, up_to_date_so}
use Rattle.jl_core.proofs.perform.relink.Goals as goal

pub install_links-requires : goal.install_links-requires
install_links-requires c = (
  c.args.keys.now,
  subst (λ (told : Accepted). HasStepped c.args.world.now c.args.keys.now told c.args.links.now c.args.index.now)
      (c.in-Install.is ∙ ap events.Install (sym c.as_slice.ensures)) c.requires.led,
)

pub returns-in_ok-lost-in-Install-clause-up_to_date : goal.returns-in_ok-lost-in-Install-clause-up_to_date
returns-in_ok-lost-in-Install-clause-up_to_date c =
    subst (λ (told : Accepted). AreUpToDate c.args.world.now (λ s. installs_at s told) (link_at c.args.links.now) (link_at c.install_links.new.links)
    c.install_links.new.index c.in_ok-lost-in-Install.lost.items)
    (ap events.Install c.as_slice.ensures ∙ sym c.in-Install.is) c.in_ok-lost-in-Install.ensures

pub settle-requires-clause-changed : goal.settle-requires-clause-changed
settle-requires-clause-changed c =
    has_changed _ _ _ _ _ c.requires.led (no_retirement _ c.in_default.not-Retire c.in_default.not-RetireAll) c.defined_class-defined.result
    (sym c.defined_class-defined.ensures)

pub settle-requires-clause-fits : goal.settle-requires-clause-fits
settle-requires-clause-fits c =
    fits_so _ _ _ _ _ c.requires.led (no_retirement _ c.in_default.not-Retire c.in_default.not-RetireAll) c.defined_class-defined.result
    (sym c.defined_class-defined.ensures)
    c.args.work.now c.requires.small

pub returns-in_ok-lost-in_default-clause-ticks : goal.returns-in_ok-lost-in_default-clause-ticks
returns-in_ok-lost-in_default-clause-ticks c =
    ticks_so _ _ _ _ _ c.requires.led (no_retirement _ c.in_default.not-Retire c.in_default.not-RetireAll) c.defined_class-defined.result
    (sym c.defined_class-defined.ensures)
    c.args.work.now c.settle.new.work c.in_ok-lost-in_default.ensures.ticks

pub returns-in_ok-lost-in_default-clause-up_to_date : goal.returns-in_ok-lost-in_default-clause-up_to_date
returns-in_ok-lost-in_default-clause-up_to_date c =
    up_to_date_so _ _ _ _ _ c.requires.led c.in_default.not-Install (link_at c.settle.new.links) c.settle.new.index c.in_ok-lost-in_default.lost.items
    c.in_ok-lost-in_default.ensures.up_to_date

pub retire_links-requires-clause-is : goal.retire_links-requires-clause-is
retire_links-requires-clause-is c = (
  c.in-Retire.field-0 ∷ [],
  subst (λ (told : Accepted). IsRetirement told (c.in-Retire.field-0 ∷ [])) (sym c.in-Retire.is) (of_one c.in-Retire.field-0),
)

pub retire_links-requires-in-RetireAll-clause-is : goal.retire_links-requires-in-RetireAll-clause-is
retire_links-requires-in-RetireAll-clause-is c = (
  c.in-RetireAll.field-0,
  subst (λ (told : Accepted). IsRetirement told c.in-RetireAll.field-0) (sym c.in-RetireAll.is) (of_several c.in-RetireAll.field-0),
)

pub returns-in_ok-lost-in-Retire-clause-up_to_date : goal.returns-in_ok-lost-in-Retire-clause-up_to_date
returns-in_ok-lost-in-Retire-clause-up_to_date c =
    subst (λ (told : Accepted). AreUpToDate c.args.world.now (λ s. installs_at s told) (link_at c.args.links.now) (link_at c.retire_links.new.links)
    c.retire_links.new.index c.in_ok-lost-in-Retire.lost.items)
    (sym c.in-Retire.is) c.in_ok-lost-in-Retire.ensures.up_to_date

pub returns-in_ok-lost-in-RetireAll-clause-up_to_date : goal.returns-in_ok-lost-in-RetireAll-clause-up_to_date
returns-in_ok-lost-in-RetireAll-clause-up_to_date c =
    subst (λ (told : Accepted). AreUpToDate c.args.world.now (λ s. installs_at s told) (link_at c.args.links.now)
    (link_at c.retire_links-in-RetireAll.new.links) c.retire_links-in-RetireAll.new.index c.in_ok-lost-in-RetireAll.lost.items)
    (sym c.in-RetireAll.is) c.in_ok-lost-in-RetireAll.ensures.up_to_date
