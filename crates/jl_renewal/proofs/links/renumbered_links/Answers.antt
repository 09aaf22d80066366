use Rattle.std.proofs.Common.{ℕ, ap, ◌∙◌}
use Rattle.std.proofs.lemmas.List.Sums.{AllPass-from_list_all}
use Rattle.jl_types.specs.declared.link.Link.{Link}
use Rattle.jl_renewal.specs.Renewed.{has_few_rows, renumbered_at}
use Rattle.jl_renewal.proofs.AddLaws.{pushes_turn}
use Rattle.jl_renewal.proofs.links.renumbered_links.Goals as goal

pub renumbered_at-requires : goal.renumbered_at-requires
renumbered_at-requires c =
    ap (λ (row : ℕ × Link). has_few_rows row.1) c.one-item.is
    ∙ AllPass-from_list_all (λ (row : ℕ × Link). has_few_rows row.1) c.args.linked.now c.requires c.loop-one.one-index c.one-item.result c.loop-one-test.true

pub loop-one-preserved : goal.loop-one-preserved
loop-one-preserved c =
    pushes_turn _ c.args.linked.now c.loop-one.one-index c.one-item.result c.renumbered_at.result _ _ c.loop-one-test.true
    (c.renumbered_at.ensures ∙ ap (renumbered_at c.args.numbers.now) c.one-item.is)
    c.loop-one.invariant c.in_ok-push_if_any.ensures
