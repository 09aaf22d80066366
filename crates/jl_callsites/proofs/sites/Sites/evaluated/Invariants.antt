use Rattle.std.proofs.Common.{◌≡◌}
use Rattle.jl_types.specs.Linkage.Targets as targets
use Rattle.jl_callsites.proofs.Turns.{turns_at}
use Rattle.jl_callsites.proofs.sites.Sites.evaluated.Given as goal

-- the target stands for what the part from here on does
abbrev pub invariant-loop-target : goal.invariant-loop-target
invariant-loop-target l = targets.evaluated l.self l.site l.target ≡ targets.evaluated l.fn.self l.fn.site l.fn.target

-- the depths of this target and of those of all earlier call sites
abbrev pub decreases-loop-target : goal.decreases-loop-target
decreases-loop-target l = turns_at l.self l.site l.target
