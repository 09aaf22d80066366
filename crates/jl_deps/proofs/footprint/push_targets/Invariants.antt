use Rattle.std.proofs.Common.{◌≡◌, ◌++◌, map, take}
use Rattle.jl_types.specs.declared.key.Key.TheVariants as key
use Rattle.jl_deps.proofs.footprint.push_targets.Given as goal

abbrev pub invariant-loop-call_site : goal.invariant-loop-call_site
invariant-loop-call_site l = l.keys.items ≡ l.fn.keys.items ++ map key.Target (take l.call_site-index l.call_sites)
