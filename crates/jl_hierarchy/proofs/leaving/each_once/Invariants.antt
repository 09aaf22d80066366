use Rattle.std.specs.Prelude.{◌≡◌, [], take}
use Rattle.jl_types.specs.Events.Retirement.{gone_with}
use Rattle.jl_hierarchy.proofs.leaving.each_once.Given as goal

abbrev pub invariant-loop-loader : goal.invariant-loop-loader
invariant-loop-loader l = l.loaders.keys ≡ gone_with [] (take l.loader-index l.fn.listed)
