use Rattle.std.proofs.Common.{◌≡◌, List, map, drop, length, ◌-◌}
use Rattle.json.specs.Token.{Token}
use Rattle.serde_json.specs.View.{items_of}
use Rattle.jl_json.specs.ForProofs.NameReading.{name_text}
use Rattle.jl_json.specs.ClassAnswers.{site_data}
use Rattle.jl_json.specs.ForProofs.Written.{PutsItems}
use Rattle.jl_json.proofs.class_answer.write_sites.Given as goal

-- whatever ends it well from here ends it well from the start
abbrev pub invariant-loop-site : goal.invariant-loop-site
invariant-loop-site l =
    ((end : List Token) → PutsItems (items_of (map (site_data name_text) (drop l.place l.sites))) l.out.tokens end
    → PutsItems (items_of (map (site_data name_text) l.sites)) l.initial.out.tokens end)
    × (l.out.before ≡ l.initial.out.before)

abbrev pub decreases-loop-site : goal.decreases-loop-site
decreases-loop-site l = length l.sites - l.place
