-- The derived `==` of answers holds exactly of equal answers.
use Rattle.std.proofs.Common.{◌≡◌, true, false, ap, refl, rules, Decides, sym}
use Rattle.std.specs.Prelude.{Bool, MatchBool}
use Rattle.std.proofs.lemmas.Bool.{both_ways}
use denote.Enum.Bare.{same_true}
use Rattle.jl_types.specs.declared.answer.Missing.{Missing}
use Rattle.jl_types.specs.declared.answer.Missing.TheVariants.{Named, CallerHost, MethodHost}
use Rattle.jl_types.specs.declared.answer.Unlinked.{Unlinked}
use Rattle.jl_types.specs.declared.answer.Unlinked.TheVariants.{NotReady, Unbound, Gone, NoSite}
use Rattle.jl_types.specs.declared.answer.Answer.{Answer}
use Rattle.jl_types.specs.declared.answer.Answer.TheVariants as answer
use Rattle.jl_types.specs.contracts.answer.Missing.{the_type}
use Rattle.jl_types.specs.contracts.answer.MissingPartialEq.TheImpl as missing
use Rattle.jl_types.specs.contracts.answer.UnlinkedPartialEq.TheImpl as unlinked
use Rattle.jl_types.specs.contracts.answer.AnswerPartialEq.TheImpl as same
use Rattle.jl_types.specs.ForProofs.Same.{throwable_decides, method_decides, decided}

missing_same : (x : Missing) → (missing.ghosts).eq x x ≡ true
missing_same Named = refl
missing_same CallerHost = refl
missing_same MethodHost = refl

missing_decides : (x y : Missing) → Decides ((missing.ghosts).eq x y) (x ≡ y)
missing_decides = decided (missing.ghosts).eq (λ x y h. same_true the_type (search rules) x y h) missing_same

unlinked_sound : (x y : Unlinked) → (unlinked.ghosts).eq x y ≡ true → x ≡ y
unlinked_sound (NotReady a) (NotReady b) h = ap NotReady ((missing_decides a b).0 h)
unlinked_sound Unbound Unbound h = refl
unlinked_sound Gone Gone h = refl
unlinked_sound NoSite NoSite h = refl
unlinked_sound _ _ h = cc

unlinked_same : (x : Unlinked) → (unlinked.ghosts).eq x x ≡ true
unlinked_same (NotReady a) = missing_same a
unlinked_same Unbound = refl
unlinked_same Gone = refl
unlinked_same NoSite = refl

unlinked_decides : (x y : Unlinked) → Decides ((unlinked.ghosts).eq x y) (x ≡ y)
unlinked_decides = decided (unlinked.ghosts).eq unlinked_sound unlinked_same

answer_sound : (x y : Answer) → (same.ghosts).eq x y ≡ true → x ≡ y
answer_sound (answer.Run m) (answer.Run n) h = ap answer.Run ((method_decides m n).0 h)
answer_sound (answer.Throws a) (answer.Throws b) h = ap answer.Throws ((throwable_decides a b).0 h)
answer_sound answer.BadReceiver answer.BadReceiver h = refl
answer_sound (answer.Unlinked a) (answer.Unlinked b) h = ap answer.Unlinked ((unlinked_decides a b).0 h)
answer_sound _ _ h = cc

answer_same : (x : Answer) → (same.ghosts).eq x x ≡ true
answer_same (answer.Run m) = (method_decides m m).1 refl
answer_same (answer.Throws a) = (throwable_decides a a).1 refl
answer_same answer.BadReceiver = refl
answer_same (answer.Unlinked a) = unlinked_same a

pub answer_decides : (x y : Answer) → Decides ((same.ghosts).eq x y) (x ≡ y)
answer_decides = decided (same.ghosts).eq answer_sound answer_same

-- a result that a test decides
pub by_decision : {P : Type 0} (r b : Bool) → r ≡ b → Decides b P → MatchBool r P (¬ P)
by_decision true b e d = d.0 (sym e)
by_decision false b e d = λ p. both_ways b (sym e) (d.1 p)
