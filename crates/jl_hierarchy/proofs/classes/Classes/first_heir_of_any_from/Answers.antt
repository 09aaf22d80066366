use Rattle.std.specs.Prelude.{◌-◌, length}
use Rattle.std.proofs.Common.{sym, ◌∙◌, rules, arith}
use Rattle.std.proofs.lemmas.Iterator.{YieldsList-from_range}
use Rattle.std.proofs.lemmas.Iterator.Adapters.{option_map_id}
use Rattle.std.proofs.lemmas.Iterator.Search.{find_from_yields_List}
use Rattle.jl_types.specs.ForProofs.Leaving.{inherits_any}
use Rattle.jl_hierarchy.proofs.classes.Classes.first_heir_of_any_from.Goals as goal

pub returns : goal.returns
returns c =
    let n = length c.args.self.now.rows - c.args.first in
    sym (option_map_id c.find.result)
    ∙ find_from_yields_List (inherits_any c.args.self.now c.args.leaving.now) _ _ _ c.find.ensures.ran
    (YieldsList-from_range c.args.first (length c.args.self.now.rows) n
    (λ i. record { start = c.args.first; end = c.count_in_order-count.ensures.count i }) (omega arith))
    (λ x b q k. search rules)
