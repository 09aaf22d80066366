-- What a line of the mode sketch is answered.
use Rattle.std.specs.Prelude.{◌≡◌, ◌⊎◌, ℕ, List, Option, Some, None}
use Rattle.hex.specs.Hex.{encode_lower}
use Rattle.serde_json.specs.Data.{Data}
use Rattle.serde_json.specs.Written.{compact_text}
use Rattle.jl_sketch.specs.declared.fault.SketchFault.{SketchFault}
use Rattle.jl_sketch.specs.declared.sketch.Sketch.{Sketch}
use Rattle.jl_sketch.specs.Faults.{IsSketchFault, IsWritten}
use Rattle.jl_json.specs.Refusals.{sketch_refusal_data}
use Rattle.jl_json.specs.Sketches.{sketch_of}
use Rattle.jl_session.specs.Jsons.{IsReadAs, IsTextOf, bad_command}

-- why the sketch isn't written: a fault of it, or want of memory
abbrev pub IsSketchRefusal : Sketch → Data → Type 0
IsSketchRefusal sketch answer = (f : SketchFault) × IsSketchFault sketch f × (answer ≡ sketch_refusal_data f)

-- the bytes of the sketch in lower-case hexadecimal, or why it isn't written
abbrev pub IsWrittenText : Sketch → List ℕ → Type 0
IsWrittenText sketch text =
    ((bytes : List ℕ) × IsWritten sketch bytes × (text ≡ encode_lower bytes)) ⊎ IsTextOf (IsSketchRefusal sketch) text

abbrev pub IsAskedText : Option Sketch → List ℕ → Type 0
IsAskedText (Some sketch) text = IsWrittenText sketch text
IsAskedText None text = text ≡ compact_text bad_command

abbrev pub IsSketchAnswer : List ℕ → List ℕ → Type 0
IsSketchAnswer line text = (asked : Option Sketch) × IsReadAs sketch_of line asked × IsAskedText asked text
