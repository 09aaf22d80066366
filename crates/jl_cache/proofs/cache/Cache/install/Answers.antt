use Rattle.std.specs.Prelude.{◌<◌, ◌^◌, ℕ, List}
use Rattle.std.specs.List.{AllByRecursion}
use Rattle.std.proofs.Common.{sym, ap, subst, ◌∙◌}
use Rattle.jl_types.specs.declared.link.Link.{Link}
use Rattle.jl_cache.specs.Links.{link_at, link_with}
use Rattle.jl_cache.specs.ForProofs.Sites.{HaveSites}
use Rattle.jl_cache.proofs.SiteLaws.{rows_put}
use Rattle.jl_cache.proofs.cache.Cache.install.Goals as goal

pub returns-clause-ok : goal.returns-clause-ok
returns-clause-ok c = λ s.
    c.put_all.ensures s
    ∙ ap (λ (rows : List (ℕ × Link)). link_with rows (link_at c.make_room.new.links.entries s) s) c.in_ok-kept.ensures
    ∙ ap (λ (links : List (ℕ × Link)). link_with c.args.rows.now (link_at links s) s) (c.make_room.ensures.same ∙ c.self.view_is)

pub invariant_of-self-2 : goal.invariant_of-self-2
invariant_of-self-2 c =
    rows_put c.put_all.new.links.entries c.make_room.new.links.entries c.in_ok-kept.kept.items c.put_all.ensures
    (subst (AllByRecursion (λ (row : ℕ × Link). row.0 < 2 ^ 32)) c.as_slice.ensures.value c.make_room.ensures.sites)
    (subst HaveSites (sym c.make_room.ensures.same) c.self.invariant)
