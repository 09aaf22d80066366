use Rattle.std.proofs.Common.{◌≡◌}
use Rattle.jl_types.specs.Values.Ancestry.{superclasses}
use Rattle.jl_types.specs.Linkage.Overriding.{can_override}
use Rattle.jl_select.specs.ForProofs.Walks.{first_passing}
use Rattle.jl_select.proofs.selection.overriding.Given as goal

-- what is found from here is what is found from the receiver's class
abbrev pub invariant-loop-found : goal.invariant-loop-found
invariant-loop-found l =
    first_passing (λ m. can_override l.classes m l.resolved) l.classes l.sought.name l.sought.ty (superclasses l.classes l.at)
    ≡ first_passing (λ m. can_override l.fn.classes m l.fn.resolved) l.fn.classes l.fn.sought.name l.fn.sought.ty (superclasses l.fn.classes l.fn.receiver)

abbrev pub decreases-loop-found : goal.decreases-loop-found
decreases-loop-found l = l.at
