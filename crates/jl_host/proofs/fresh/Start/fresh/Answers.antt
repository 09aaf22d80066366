use Rattle.std.specs.Prelude.{ℕ, List}
use Rattle.std.specs.List.{list_all}
use Rattle.std.proofs.Common.{◌∙◌, ap, subst, inl}
use Rattle.std.proofs.lemmas.Result.{err_from_is_err_and}
use Rattle.jl_types.specs.declared.limits.Limits.{Limits}
use Rattle.jl_types.specs.declared.link.Link.{Link}
use Rattle.jl_types.specs.Values.World.{World}
use Rattle.jl_core.specs.State.{State, empty_core, world_of}
use Rattle.jl_renewal.specs.Renewal.{fresh_rows}
use Rattle.jl_renewal.specs.Renewed.{has_few_rows}
use Rattle.jl_renewal.specs.Adds.{Installs}
use Rattle.jl_renewal.specs.Told.{IsFilledFrom, IsPartlyFilled}
use Rattle.jl_host.specs.Renewing.{Start, listed}
use Rattle.jl_host.proofs.CaughtUp.{nothing_behind}
use Rattle.jl_host.proofs.ComingOver.{rows_over}
use Rattle.jl_host.proofs.UnderWayLinks.{listed_fresh}
use Rattle.jl_host.proofs.fresh.Start.fresh.Goals as goal

pub returns-in_err-numbers-clause-refused : goal.returns-in_err-numbers-clause-refused
returns-in_err-numbers-clause-refused c =
    let most = c.args.limits in
    let after = c.try_refill.new.fresh in
    let r = c.in_err-numbers.field-0.0 in
    let p = err_from_is_err_and c.from_residual-in_err-numbers.result c.from_residual-in_err-numbers.ensures.1 in
    rw (p.1, p.2)
    (inl (
      after,
      subst (λ (s : Start). IsPartlyFilled s.seen.world s.past s.released most (empty_core most) after r) c.self.view_is
          (subst (λ (core : State). IsPartlyFilled c.self.inside.seen.world c.self.inside.past c.self.inside.released most core after r) c.in_ok-core.ensures
          (subst (λ (w : World). IsPartlyFilled w c.self.inside.past c.self.inside.released most c.in_ok-core.core after r) c.world-old.ensures
          c.in_err-numbers.ensures.stops)),
    ))

pub renumbered_links-requires : goal.renumbered_links-requires
renumbered_links-requires c =
    ap (list_all (λ (row : ℕ × Link). has_few_rows row.1))
    (c.as_slice.ensures.value ∙ c.in_ok-linked.ensures ∙ ap (λ links. listed links c.self.inside.sites) c.deref.ensures)
    ∙ c.self.invariant.2

pub install_fresh-requires : goal.install_fresh-requires
install_fresh-requires c =
    let n = c.in_ok-numbers.numbers in
    let between = c.try_refill.new.fresh in
    let filled = subst (λ (core : State). IsFilledFrom c.self.inside.seen.world c.self.inside.past c.self.inside.released n core between) c.in_ok-core.ensures
    (subst (λ (w : World). IsFilledFrom w c.self.inside.past c.self.inside.released n c.in_ok-core.core between) c.world-old.ensures
    c.in_ok-numbers.ensures.added) in
    let linked = c.as_slice.ensures.value ∙ c.in_ok-linked.ensures ∙ ap (λ links. listed links c.self.inside.sites) c.deref.ensures in
    let rows = rows_over c.self.inside.seen.world c.self.inside.past c.self.inside.released _ c.as_slice.result.now c.as_slice-2.result.now n c.args.limits
    between c.self.invariant filled (c.as_slice-2.ensures.value ∙ c.in_ok-rows.ensures) linked in
    listed_fresh c.self.inside.links.value c.self.inside.sites c.self.inside.seen.world (world_of between) c.self.inside.released n
    c.as_slice-2.result.now c.as_slice.result.now filled.numbers rows linked

pub returns-clause-made : goal.returns-clause-made
returns-clause-made c =
    let n = c.in_ok-numbers.numbers in
    let between = c.try_refill.new.fresh in
    let filled = subst (λ (core : State). IsFilledFrom c.self.inside.seen.world c.self.inside.past c.self.inside.released n core between) c.in_ok-core.ensures
    (subst (λ (w : World). IsFilledFrom w c.self.inside.past c.self.inside.released n c.in_ok-core.core between) c.world-old.ensures
    c.in_ok-numbers.ensures.added) in
    let linked = c.as_slice.ensures.value ∙ c.in_ok-linked.ensures ∙ ap (λ links. listed links c.self.inside.sites) c.deref.ensures in
    let rows = rows_over c.self.inside.seen.world c.self.inside.past c.self.inside.released _ c.as_slice.result.now c.as_slice-2.result.now n c.args.limits
    between c.self.invariant filled (c.as_slice-2.ensures.value ∙ c.in_ok-rows.ensures) linked in
    record {
      between = between;
      refilled = subst (λ (s : Start). IsFilledFrom s.seen.world s.past s.released n (empty_core c.args.limits) between) c.self.view_is filled;
      linked = subst (λ (s : Start). Installs (fresh_rows (world_of between) n (listed s.links s.sites)) between c.install_fresh.new.fresh) c.self.view_is
          (subst (λ (there : List (ℕ × Link)). Installs there between c.install_fresh.new.fresh)
          (rows ∙ ap (fresh_rows (world_of between) n) linked) c.in_ok-install_fresh.ensures.installs);
    }

pub invariant_of-result : goal.invariant_of-result
invariant_of-result c =
    nothing_behind c.install_fresh.new.fresh c.args.limits.sites c.in_ok-links.links.value
    (ap (λ (l : Limits). l.sites)
    (c.in_ok-install_fresh.ensures.installs.adds.limit ∙ c.in_ok-numbers.ensures.added.adds.limit ∙ ap (λ (s : State). s.limits) c.in_ok-core.ensures))
    c.no_links.ensures.few c.in_ok-links.ensures.blank
