use Rattle.std.specs.Prelude.{length}
use Rattle.std.proofs.Common.{sym, ◌∙◌, rules, arith}
use Rattle.std.proofs.lemmas.Iterator.{YieldsList-from_range}
use Rattle.std.proofs.lemmas.Iterator.Adapters.{option_map_id}
use Rattle.std.proofs.lemmas.Iterator.Search.{find_from_yields_List}
use Rattle.jl_types.specs.Events.Release.{stays_with, guards_by_one}
use Rattle.jl_callsites.proofs.sites.Sites.first_guarding.Goals as goal

pub returns : goal.returns
returns c =
    let n = length c.args.self.now.call_sites in
    sym (option_map_id c.find.result)
    ∙ find_from_yields_List (stays_with c.args.self.now c.args.call_sites.now (guards_by_one c.args.points.now)) _ _ _ c.find.ensures.ran
    (YieldsList-from_range 0 n n (λ i. record { start = 0; end = c.few_call_sites-count.ensures.count i }) (omega arith)) (λ x b q k. search rules)
