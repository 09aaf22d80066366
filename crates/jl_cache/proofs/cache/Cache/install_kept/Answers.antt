use Rattle.std.specs.Prelude.{ℕ, List}
use Rattle.std.proofs.Common.{ap, ◌∙◌}
use Rattle.std.proofs.lemmas.Result.{on_ok_weaker}
use Rattle.jl_types.specs.declared.link.Link.{Link}
use Rattle.jl_cache.specs.Links.{link_at, link_with}
use Rattle.jl_cache.proofs.cache.Cache.install_kept.Goals as goal

pub returns : goal.returns
returns c = on_ok_weaker c.put_kept_rows.result (λ put s.
    put s
    ∙ ap (λ (links : List (ℕ × Link)). link_with c.args.rows.now (link_at links s) s) (c.make_room.ensures.same ∙ c.self.view_is)) c.put_kept_rows.ensures.links
