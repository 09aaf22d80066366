use Rattle.std.specs.Prelude.{ℕ}
use Rattle.std.proofs.Common.{rules}
use Rattle.std.proofs.lemmas.Iterator.Consumers.{YieldsList-at}
use Rattle.std.proofs.lemmas.Iterator.{YieldsList-from_slice, YieldsList-from_map}
use Rattle.std.proofs.lemmas.Iterator.Adapters.{items_from_extend}
use Rattle.jl_types.specs.declared.link.Link.{Link}
use Rattle.jl_core.proofs.slots.with_sites.Goals as goal

pub returns : goal.returns
returns c =
    let rows = YieldsList-at c.map.ensures.source (YieldsList-from_slice c.args.rows.now c.iter.ensures.rest) in
    let added =
    items_from_extend c.extend.result c.extend.ensures.ran
    (YieldsList-from_map _ (λ (row : ℕ × Link). row.0) rows c.map.ensures.closure (λ x r q k. search rules))
    in search rules
