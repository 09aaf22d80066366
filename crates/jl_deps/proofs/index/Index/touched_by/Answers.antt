use Rattle.std.proofs.Common.{◌∙◌}
use Rattle.jl_hierarchy.proofs.Rising.{one_rising}
use Rattle.jl_types.specs.Events.Footprints.{meets}
use Rattle.jl_types.proofs.BySite.{rises_of}
use Rattle.jl_deps.specs.Indexes.{touched_by}
use Rattle.jl_deps.proofs.TouchLaws.{sites_rise}
use Rattle.jl_deps.proofs.index.Index.touched_by.Goals as goal

pub returns-clause-sites : goal.returns-clause-sites
returns-clause-sites c =
    let index = c.args.self.now in
    one_rising c.put_in_order.new.sites.items (touched_by index c.args.keys.now) c.put_in_order.ensures.rising
    (sites_rise (λ r. meets r.footprint c.args.keys.now) index (rises_of index c.listed_under.ensures.rising))
    (λ s. c.put_in_order.ensures.same s ∙ c.in_ok-sites.ensures.sites s)
