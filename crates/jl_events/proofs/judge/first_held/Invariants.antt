use Rattle.std.specs.Prelude.{◌≡◌, drop}
use Rattle.jl_types.specs.Linkage.Resolution.{first_of}
use Rattle.jl_types.specs.Events.Verdict.{retire_all_fault}
use Rattle.jl_events.proofs.RetireLaws.{faults_of}
use Rattle.jl_events.proofs.judge.first_held.Given as goal

-- the refusal is that of the loaders that are left
abbrev pub invariant-loop-loader : goal.invariant-loop-loader
invariant-loop-loader l = first_of (faults_of l.world l.loaders (drop l.loader-index l.loaders)) ≡ retire_all_fault l.world l.loaders
