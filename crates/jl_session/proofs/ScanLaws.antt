-- What a line of the mode scan is answered.
use Rattle.std.proofs.Common.{◌≡◌, ◌≢◌, ◌∙◌, ap, refl, subst, inl, inr, ◌⊎◌, ℕ, List, Option, Some}
use Rattle.std.proofs.Common.{None, MatchOption, Bool, true, false, Result, Ok, Err, IfOk, OnOk, is_ok, ◌++◌, if◌then◌else◌}
use Rattle.serde_json.specs.Data.{Data}
use Rattle.serde_json.specs.View.{view}
use Rattle.serde_json.specs.declared.value.Value.{Value}
use Rattle.jl_classfile.specs.declared.fault.ClassFault.{ClassFault}
use Rattle.jl_classfile.specs.declared.fault.ClassFault.TheVariants.{TooLarge, BadMagic, BadVersion}
use Rattle.jl_classfile.specs.declared.fault.ClassFault.TheVariants.{Truncated, Pool, ModuleFile}
use Rattle.jl_classfile.specs.declared.fault.ClassFault.TheVariants.{BadSuper, DuplicateMethod}
use Rattle.jl_classfile.specs.declared.fault.ClassFault.TheVariants.{TwoCodes, Code, TrailingBytes}
use Rattle.jl_classfile.specs.declared.fault.ClassFault.TheVariants.{BadMember, BadLink, BadNest}
use Rattle.jl_classfile.specs.declared.fault.ClassFault.TheVariants.{Memory}
use Rattle.jl_class.specs.Class.{ClassFile}
use Rattle.jl_classfile.specs.Parts.{Parts}
use Rattle.jl_classfile.specs.ClassFiles.{IsClass}
use Rattle.jl_classfile.specs.Shown.{shown}
use Rattle.jl_classfile.specs.Faults.{IsFault}
use Rattle.jl_json.specs.ClassAnswers.{class_data, IsClassText}
use Rattle.jl_json.specs.Refusals.{refusal_data}
use Rattle.serde_json.specs.Written.{compact_text}
use Rattle.jl_session.specs.Jsons.{bad_command, IsTextOf, AddsTextOf}
use Rattle.jl_session.specs.Scans.{file_of, IsFaultAnswer, IsFileAnswer, IsScanAnswer}

memory_or_not : (f : ClassFault) → (f ≡ Memory) ⊎ (f ≢ Memory)
memory_or_not TooLarge = inr (λ e. absurd cc)
memory_or_not BadMagic = inr (λ e. absurd cc)
memory_or_not BadVersion = inr (λ e. absurd cc)
memory_or_not Truncated = inr (λ e. absurd cc)
memory_or_not (Pool f) = inr (λ e. absurd cc)
memory_or_not ModuleFile = inr (λ e. absurd cc)
memory_or_not BadSuper = inr (λ e. absurd cc)
memory_or_not (DuplicateMethod i) = inr (λ e. absurd cc)
memory_or_not (TwoCodes i) = inr (λ e. absurd cc)
memory_or_not (Code i f) = inr (λ e. absurd cc)
memory_or_not TrailingBytes = inr (λ e. absurd cc)
memory_or_not (BadMember k) = inr (λ e. absurd cc)
memory_or_not (BadLink n) = inr (λ e. absurd cc)
memory_or_not BadNest = inr (λ e. absurd cc)
memory_or_not Memory = inl refl

-- a fault's refusal is an answer
refused : (bytes : List ℕ) (f : ClassFault) (answer : Data) → (f ≢ Memory → IsFault bytes f)
    → answer ≡ refusal_data f → IsFaultAnswer bytes answer
refused bytes f answer fault is = elim (memory_or_not f) [
  | inl e ↦ inr (is ∙ ap refusal_data e)
  | inr some ↦ inl (f, fault some, is)
]

pub refusal_answers : {E : Type 0} (r : Result Value E) (bytes : List ℕ) (f : ClassFault)
    → (f ≢ Memory → IsFault bytes f) → IfOk r (λ v. view v ≡ refusal_data f) → IfOk r (λ v. IsFaultAnswer bytes (view v))
refusal_answers (Ok v) bytes f fault is = refused bytes f (view v) fault is
refusal_answers (Err e) bytes f fault is = tt

pub refused_text : (bytes : List ℕ) (f : ClassFault) (answer : Data) (text : List ℕ) → (f ≢ Memory → IsFault bytes f)
    → answer ≡ refusal_data f → text ≡ compact_text answer → IsTextOf (IsFileAnswer bytes) text
refused_text bytes f answer text fault is said = (answer, inr (refused bytes f answer fault is), said)

pub shown_text : (bytes : List ℕ) (p : Parts) (file : ClassFile) (text : List ℕ) → IsClass bytes p → file ≡ shown p
    → IsClassText file text → IsTextOf (IsFileAnswer bytes) text
shown_text bytes p file text class is said =
    (class_data said.0 file, inl (p, said.0, class, said.1, ap (class_data said.0) is), said.2)

-- an answer to the bytes of a line is one to the line
of_file : (o : Option (List ℕ)) (hit : Bool) (bytes : List ℕ) (answer : Data)
    → MatchOption o (hit ≡ false) (λ file. (hit ≡ true) × (bytes ≡ file))
    → hit ≡ true → IsFileAnswer bytes answer → MatchOption o (answer ≡ bad_command) (λ file. IsFileAnswer file answer)
of_file None hit bytes answer told is a = absurd cc
of_file (Some file) hit bytes answer told is a = subst (λ (b : List ℕ). IsFileAnswer b answer) told.1 a

pub file_text : (line : List ℕ) (hit : Bool) (bytes old new : List ℕ)
    → MatchOption (file_of line) (hit ≡ false) (λ file. (hit ≡ true) × (bytes ≡ file)) → hit ≡ true
    → AddsTextOf (IsFileAnswer bytes) old new → AddsTextOf (IsScanAnswer line) old new
file_text line hit bytes old new told is (text, said, added) =
    (text, (said.0, of_file (file_of line) hit bytes said.0 told is said.1, said.2), added)

no_file : (o : Option (List ℕ)) (hit : Bool) (bytes : List ℕ)
    → MatchOption o (hit ≡ false) (λ file. (hit ≡ true) × (bytes ≡ file))
    → hit ≡ false → MatchOption o (bad_command ≡ bad_command) (λ file. IsFileAnswer file bad_command)
no_file None hit bytes told is = refl
no_file (Some file) hit bytes told is = absurd cc

pub bad_text : (line : List ℕ) (hit : Bool) (bytes text : List ℕ)
    → MatchOption (file_of line) (hit ≡ false) (λ file. (hit ≡ true) × (bytes ≡ file)) → hit ≡ false
    → text ≡ compact_text bad_command → IsTextOf (IsScanAnswer line) text
bad_text line hit bytes text told is said = (bad_command, no_file (file_of line) hit bytes told is, said)

-- a text is added, unless there is no memory
pub added_text : {E : Type 0} (r : Result Unit E) (IsSaid : Data → Type 0) (old new text : List ℕ)
    → new ≡ (if is_ok r then old ++ text else old) → IsTextOf IsSaid text → OnOk r (AddsTextOf IsSaid old new)
added_text (Ok x) IsSaid old new text is said = (text, said, is)
added_text (Err e) IsSaid old new text is said = tt

pub for_ok : {X E : Type 0} {P Q : X → Type 0} → ((x : X) → P x → Q x) → (r : Result X E) → IfOk r P → IfOk r Q
for_ok f (Ok x) h = f x h
for_ok f (Err e) h = tt
