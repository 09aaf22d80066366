-- What an installed link answers, by its form: for null, for classes that the caller knows of, and for newer ones.
use Rattle.std.specs.Prelude.{◌≡◌, [], ◌∷◌, Some, None, refl}
use Rattle.jl_types.specs.declared.answer.Outcome.TheVariants.{Run, Throws}
use Rattle.jl_types.specs.declared.answer.Recv.TheVariants.{Null, Of}
use Rattle.jl_types.specs.declared.answer.Throwable.TheVariants.{NullPointerException, NoSuchMethodError, AbstractMethodError, IncompatibleClassChangeError}
use Rattle.jl_types.specs.declared.answer.Answer.TheVariants as answer
use Rattle.jl_types.specs.declared.answer.Fast.TheVariants.{Now, Miss}
use Rattle.jl_types.specs.declared.link.Link.{Link}
use Rattle.jl_types.specs.declared.link.Link.TheVariants.{Fault, Plain, Direct, Table, Mega}
use Rattle.jl_types.specs.declared.link.TableKind.TheVariants as kind
use Rattle.jl_types.specs.Events.Fast.{fast_answer}
use Rattle.jl_types.proofs.Rows.Sketch.{first}

-- ---- a fault and a method without receiver: whatever the receiver is

fault_of_null : fast_answer (Some (Fault NoSuchMethodError)) 3 Null ≡ Now (answer.Throws NoSuchMethodError)
fault_of_null = refl

fault_of_newer : fast_answer (Some (Fault NoSuchMethodError)) 3 (Of 3) ≡ Now (answer.Throws NoSuchMethodError)
fault_of_newer = refl

plain_of_null : fast_answer (Some (Plain (first 1))) 3 Null ≡ Now (answer.Run (first 1))
plain_of_null = refl

plain_of_newer : fast_answer (Some (Plain (first 1))) 3 (Of 3) ≡ Now (answer.Run (first 1))
plain_of_newer = refl

-- ---- one outcome for each receiver

direct_of_null : fast_answer (Some (Direct (Run (first 1)))) 3 Null ≡ Now (answer.Throws NullPointerException)
direct_of_null = refl

direct_of_known : fast_answer (Some (Direct (Run (first 1)))) 3 (Of 2) ≡ Now (answer.Run (first 1))
direct_of_known = refl

direct_of_newer : fast_answer (Some (Direct (Run (first 1)))) 3 (Of 3) ≡ Miss
direct_of_newer = refl

throws_for_known : fast_answer (Some (Direct (Throws AbstractMethodError))) 3 (Of 2) ≡ Now (answer.Throws AbstractMethodError)
throws_for_known = refl

throws_for_null : fast_answer (Some (Direct (Throws AbstractMethodError))) 3 Null ≡ Now (answer.Throws NullPointerException)
throws_for_null = refl

-- ---- tables

abbrev rows : Link
rows = Table kind.Interface ((1, Throws AbstractMethodError) ∷ (2, Run (first 2)) ∷ [])

row_that_throws : fast_answer (Some rows) 4 (Of 1) ≡ Now (answer.Throws AbstractMethodError)
row_that_throws = refl

without_row : fast_answer (Some rows) 4 (Of 3) ≡ Now (answer.Throws IncompatibleClassChangeError)
without_row = refl

row_of_newer : fast_answer (Some rows) 2 (Of 2) ≡ Miss
row_of_newer = refl

megamorphic_of_known : fast_answer (Some Mega) 4 (Of 1) ≡ Miss
megamorphic_of_known = refl

pending_of_null : fast_answer None 4 Null ≡ Miss
pending_of_null = refl
