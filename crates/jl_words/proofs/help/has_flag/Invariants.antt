use Rattle.std.proofs.Common.{◌≡◌, drop, map, string_bytes}
use Rattle.jl_words.specs.Help.{has_flag}
use Rattle.jl_words.proofs.help.has_flag.Given as goal

-- among the words there is one if there is one among those from here on
abbrev pub invariant-loop-word : goal.invariant-loop-word
invariant-loop-word l = has_flag (map string_bytes (drop l.word-index l.words)) ≡ has_flag (map string_bytes l.words)
