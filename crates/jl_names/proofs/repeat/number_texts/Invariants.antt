use Rattle.std.specs.HashMap.{get_by}
use Rattle.std.specs.Cmp.Lexicographic.{pointwise}
use Rattle.std.proofs.Common.{nat_eq}
use Rattle.jl_names.proofs.RepeatLaws.{Numbered}
use Rattle.jl_names.proofs.repeat.number_texts.Given as goal

abbrev pub invariant-loop-i : goal.invariant-loop-i
invariant-loop-i l = Numbered l.texts l.i l.numbers.items (λ x. get_by (λ k. pointwise nat_eq x k.now) l.first)
