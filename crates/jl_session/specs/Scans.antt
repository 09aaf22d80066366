-- What a line of the mode scan is answered.
use Rattle.std.specs.Prelude.{◌≡◌, ◌⊎◌, ℕ, List, [], ◌∷◌, Option, None, MatchOption}
use Rattle.std.specs.Result.{result_ok}
use Rattle.hex.specs.Hex.{decode_of}
use Rattle.serde_json.specs.Data.{Data}
use Rattle.jl_classfile.specs.declared.fault.ClassFault.{ClassFault}
use Rattle.jl_classfile.specs.declared.fault.ClassFault.TheVariants.{Memory}
use Rattle.jl_classfile.specs.Parts.{Parts}
use Rattle.jl_classfile.specs.ClassFiles.{IsClass}
use Rattle.jl_classfile.specs.Shown.{shown}
use Rattle.jl_classfile.specs.Faults.{IsFault}
use Rattle.jl_json.specs.Names.{SpellsNames}
use Rattle.jl_json.specs.ClassAnswers.{class_data}
use Rattle.jl_json.specs.Refusals.{refusal_data}
use Rattle.jl_session.specs.Jsons.{bad_command}

-- the bytes that a line is the hexadecimal of, in either case; an empty line is that of none
abbrev pub file_of : List ℕ → Option (List ℕ)
file_of [] = None
file_of (digit ∷ rest) = result_ok (decode_of (digit ∷ rest))

-- the answer to a file that isn't read: a fault of the bytes, or want of memory
abbrev pub IsFaultAnswer : List ℕ → Data → Type 0
IsFaultAnswer bytes answer =
    ((f : ClassFault) × IsFault bytes f × (answer ≡ refusal_data f)) ⊎ (answer ≡ refusal_data Memory)

-- the answer to a file: what the class file shows, or why it isn't read
abbrev pub IsFileAnswer : List ℕ → Data → Type 0
IsFileAnswer bytes answer =
    ((p : Parts) × (text_of : List ℕ → List ℕ) × IsClass bytes p × SpellsNames text_of
    × (answer ≡ class_data text_of (shown p)))
    ⊎ IsFaultAnswer bytes answer

abbrev pub IsScanAnswer : List ℕ → Data → Type 0
IsScanAnswer line answer =
    MatchOption (file_of line) (answer ≡ bad_command) (λ bytes. IsFileAnswer bytes answer)
