use Rattle.std.specs.Prelude.{ℕ, ◌+◌, List, drop}
use Rattle.std.proofs.Common.{sym, ap, ◌∙◌}
use Rattle.jl_types.specs.Linkage.Resolution.{first_of}
use Rattle.jl_types.proofs.Lists.{rest_at}
use Rattle.jl_events.proofs.RetireLaws.{faults_of, held_first, not_held, no_fault_then}
use Rattle.jl_events.proofs.judge.first_held.Goals as goal

pub returns-in-Some : goal.returns-in-Some
returns-in-Some c =
    held_first c.args.world.now c.args.loaders.now (drop (c.loop-loader.loader-index + 1) c.args.loaders.now) c.loader-item.result c.in-Some.fault
    (sym c.loader_fault.ensures ∙ c.in-Some.is)
    ∙ ap (λ (ls : List ℕ). first_of (faults_of c.args.world.now c.args.loaders.now ls))
    (sym (rest_at c.args.loaders.now c.loop-loader.loader-index c.loader-item.result c.loop-loader-test.true c.loader-item.is))
    ∙ c.loop-loader.invariant

pub loop-loader-preserved : goal.loop-loader-preserved
loop-loader-preserved c =
    not_held c.args.world.now c.args.loaders.now (drop (c.loop-loader.loader-index + 1) c.args.loaders.now) c.loader-item.result
    (sym c.loader_fault.ensures ∙ no_fault_then c.loader_fault.result c.in_default.not-Some)
    ∙ ap (λ (ls : List ℕ). first_of (faults_of c.args.world.now c.args.loaders.now ls))
    (sym (rest_at c.args.loaders.now c.loop-loader.loader-index c.loader-item.result c.loop-loader-test.true c.loader-item.is))
    ∙ c.loop-loader.invariant
