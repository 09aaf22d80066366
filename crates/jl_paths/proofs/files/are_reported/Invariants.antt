use Rattle.std.proofs.Common.{◌≡◌, map, take}
use Rattle.jl_paths.proofs.files.are_reported.Given as goal

-- those so far
abbrev pub invariant-loop-source : goal.invariant-loop-source
invariant-loop-source l = l.reported.items ≡ map (λ source. source.is_reported) (take l.source-index l.sources)
