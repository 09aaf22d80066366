use Rattle.std.specs.Prelude.{ℕ}
use Rattle.std.specs.List.{list_all}
use Rattle.std.proofs.Common.{ap, ◌∙◌}
use Rattle.jl_types.specs.declared.link.Link.{Link}
use Rattle.jl_renewal.specs.Staying.{numbers_of}
use Rattle.jl_renewal.specs.Renewed.{has_few_rows}
use Rattle.jl_renewal.proofs.NumberedLinks.{links_few, rows_told}
use Rattle.jl_renewal.proofs.RenewalLaws.{past_of, rows_may, is_renewal}
use Rattle.jl_renewal.proofs.renewal.renew.Goals as goal

pub refill-requires-clause-past : goal.refill-requires-clause-past
refill-requires-clause-past c =
    past_of c.args.core.now c.world-old.result.now c.log.result.now c.world-old.ensures.world c.log.ensures.events c.log.ensures.answered

pub renumbered_links-requires : goal.renumbered_links-requires
renumbered_links-requires c =
    ap (list_all (λ (row : ℕ × Link). has_few_rows row.1)) (c.as_slice.ensures.value ∙ c.in_ok-linked.ensures) ∙ links_few c.args.core.now

pub install_fresh-requires : goal.install_fresh-requires
install_fresh-requires c =
    rows_may c.args.core.now c.args.released.now c.in_ok-numbers.numbers c.refill.new.fresh c.as_slice-2.result.now c.as_slice.result.now
    (c.in_ok-numbers.ensures.refilled.numbers ∙ ap (λ w. numbers_of w c.args.released.now) c.world-old.ensures.world)
    (rows_told c.args.core.now c.args.released.now c.world-old.result.now c.log.result.now c.in_ok-numbers.numbers c.in_ok-fresh.fresh c.refill.new.fresh
    c.as_slice-2.result.now c.as_slice.result.now c.log.ensures.answered c.log.ensures.files c.world-old.ensures.world c.in_ok-numbers.ensures.refilled
    (c.as_slice-2.ensures.value ∙ c.in_ok-rows.ensures) (c.as_slice.ensures.value ∙ c.in_ok-linked.ensures))
    (c.as_slice.ensures.value ∙ c.in_ok-linked.ensures)

pub returns-clause-renewal : goal.returns-clause-renewal
returns-clause-renewal c =
    is_renewal c.args.core.now c.args.released.now c.args.limits c.world-old.result.now c.log.result.now c.in_ok-numbers.numbers c.in_ok-fresh.fresh
    c.refill.new.fresh c.install_fresh.new.fresh c.as_slice-2.result.now c.as_slice.result.now c.world-old.ensures.world c.log.ensures.events
    c.in_ok-fresh.ensures c.in_ok-numbers.ensures.refilled
    (rows_told c.args.core.now c.args.released.now c.world-old.result.now c.log.result.now c.in_ok-numbers.numbers c.in_ok-fresh.fresh c.refill.new.fresh
    c.as_slice-2.result.now c.as_slice.result.now c.log.ensures.answered c.log.ensures.files c.world-old.ensures.world c.in_ok-numbers.ensures.refilled
    (c.as_slice-2.ensures.value ∙ c.in_ok-rows.ensures) (c.as_slice.ensures.value ∙ c.in_ok-linked.ensures))
    (c.as_slice.ensures.value ∙ c.in_ok-linked.ensures) c.in_ok-install_fresh.ensures.installs
