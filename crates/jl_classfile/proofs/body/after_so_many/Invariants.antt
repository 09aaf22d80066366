use Rattle.std.proofs.Common.{◌≡◌, ◌-◌}
use Rattle.std.specs.Prelude.{option_map}
use Rattle.jl_classfile.specs.ForProofs.Bodies.{items_at, attribute_at}
use Rattle.jl_classfile.proofs.body.after_so_many.Given as goal

abbrev pub invariant-attributes : goal.invariant-attributes
invariant-attributes l = option_map (λ x. x.1) (items_at attribute_at (l.count - l.counter) l.rest) ≡ option_map (λ x. x.1)
    (items_at attribute_at l.count l.bytes)
