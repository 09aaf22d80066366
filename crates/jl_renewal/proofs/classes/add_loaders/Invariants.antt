use Rattle.std.specs.Prelude.{filter_map, option_map}
use Rattle.std.proofs.Common.{take}
use Rattle.jl_types.specs.declared.event.EventOf.TheVariants as event
use Rattle.jl_renewal.specs.Adds.{Adds}
use Rattle.jl_renewal.proofs.classes.add_loaders.Given as goal

abbrev pub invariant-loop-number : goal.invariant-loop-number
invariant-loop-number g l =
    Adds (filter_map (option_map (λ n. event.NewLoader)) (take l.number-index l.others))
    (g.M.EventMachine.state l.fn.fresh) (g.M.EventMachine.state l.fresh)
