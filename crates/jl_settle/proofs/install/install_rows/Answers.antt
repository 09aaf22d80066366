use Rattle.std.specs.Prelude.{◌≡◌, ℕ, List, map, if◌then◌else◌}
use Rattle.std.proofs.Common.{ap, ◌∙◌}
use Rattle.jl_types.specs.declared.link.Link.{Link}
use Rattle.jl_hierarchy.proofs.Rising.{has}
use Rattle.jl_cache.specs.Links.{link_at}
use Rattle.jl_deps.specs.Indexes.{rests_at, rests_if}
use Rattle.jl_settle.proofs.SettleLaws.{on_ok, installed_index}
use Rattle.jl_settle.proofs.install.install_rows.Goals as goal

pub returns-clause-index : goal.returns-clause-index
returns-clause-index c =
    let w = c.args.world.now in
    let links = link_at c.install_kept.new.self in
    let sites : c.as_slice.result.now ≡ map (λ (row : ℕ × Link). row.0) c.args.rows.now = c.as_slice.ensures.value ∙ c.in_ok-sites.ensures in
    on_ok c.refresh.result
    (λ looked.
    installed_index w c.args.rows.now (link_at c.args.links.now) links c.args.index.now c.refresh.new.index c.requires c.in_ok-install_kept.ensures
    (λ s. looked s ∙ ap (λ (ts : List ℕ). if has s ts then rests_if w s (links s) else rests_at c.args.index.now s) sites))
    c.refresh.ensures
