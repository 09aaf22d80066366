use Rattle.std.proofs.Common.{◌≡◌, ◌<◌, ℕ, Some}
use Rattle.std.specs.Prelude.{slice_get}
use Rattle.jl_classfile.specs.declared.body.Member.{Member}
use Rattle.jl_classfile.specs.ForProofs.Members.{AreTexts}
use Rattle.jl_classfile.proofs.twin.keep_texts.Given as goal

abbrev pub invariant-loop-method : goal.invariant-loop-method
invariant-loop-method l = (k : ℕ) (m : Member) → k < l.method-index → slice_get l.methods k ≡ Some m → AreTexts l.texts l.pool m
