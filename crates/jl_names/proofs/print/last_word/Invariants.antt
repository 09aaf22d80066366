use Rattle.std.proofs.Common.{◌≡◌, take}
use Rattle.jl_names.specs.ForProofs.Prints.{last_word}
use Rattle.jl_names.proofs.print.last_word.Given as goal

abbrev pub invariant-loop-byte : goal.invariant-loop-byte
invariant-loop-byte l = l.word ≡ last_word (take l.byte-index l.bytes)
