use Rattle.std.proofs.Common.{refl, sym, subst}
use Rattle.jl_types.specs.declared.event.EventOf.TheVariants as events
use Rattle.jl_cache.specs.Links.{link_at}
use Rattle.jl_settle.specs.Settling.{AreUpToDate}
use Rattle.jl_core.specs.ForProofs.Changes.{installs_at}
use Rattle.jl_core.proofs.StepLaws.{was_index, up_to_date_installed}
use Rattle.jl_core.proofs.perform.install_links.Goals as goal

pub install_rows-requires : goal.install_rows-requires
install_rows-requires c =
    was_index c.args.world.now c.requires.0 (events.Install c.args.rows.now) c.args.links.now c.args.index.now c.requires.1 c.args.rows.now refl

pub returns : goal.returns
returns c =
    subst (AreUpToDate c.args.world.now (λ s. installs_at s (events.Install c.args.rows.now)) (link_at c.args.links.now) (link_at c.install_rows.new.links)
    c.install_rows.new.index) (sym c.new.ensures.items)
    (up_to_date_installed c.args.world.now c.requires.0 (events.Install c.args.rows.now) c.args.links.now c.args.index.now c.requires.1 c.args.rows.now refl
    c.install_rows.new.links c.in_ok-install_rows.ensures.links c.install_rows.new.index c.in_ok-install_rows.ensures.index)
