use Rattle.std.proofs.Common.{◌≡◌, List, map, drop, length, ◌-◌}
use Rattle.json.specs.Token.{Token}
use Rattle.serde_json.specs.View.{items_of}
use Rattle.jl_json.specs.ForProofs.NameReading.{name_text}
use Rattle.jl_json.specs.ClassAnswers.{method_data}
use Rattle.jl_json.specs.ForProofs.Written.{PutsItems}
use Rattle.jl_json.proofs.class_answer.write_methods.Given as goal

-- whatever ends it well from here ends it well from the start
abbrev pub invariant-loop-method : goal.invariant-loop-method
invariant-loop-method l =
    ((end : List Token) → PutsItems (items_of (map (method_data name_text) (drop l.place l.methods))) l.out.tokens end
    → PutsItems (items_of (map (method_data name_text) l.methods)) l.initial.out.tokens end)
    × (l.out.before ≡ l.initial.out.before)

abbrev pub decreases-loop-method : goal.decreases-loop-method
decreases-loop-method l = length l.methods - l.place
