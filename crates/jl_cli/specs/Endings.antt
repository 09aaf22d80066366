-- How the program ends: its exit status, and the line that it writes on the standard error.
use Rattle.std.specs.Prelude.{ℕ, List, [], codes, Result, Ok, Err}
use Rattle.jl_cli.specs.declared.ending.Ending.{Ending}
use Rattle.jl_cli.specs.declared.ending.Ending.TheVariants.{InputEnded, BadWords, FarmFailed, LineTooLong, DeviceFailed, OutOfMemory, NothingReported}
use Rattle.jl_lines.specs.declared.line_fault.LineFault.{LineFault}
use Rattle.jl_lines.specs.declared.line_fault.LineFault.TheVariants.{TooLong, Device}
use Rattle.jl_lines.specs.declared.line_fault.LineFault.TheVariants as lines
use Rattle.jl_cli.specs.declared.farm_fault.FarmLineFault.{FarmLineFault}
use Rattle.jl_cli.specs.declared.farm_fault.FarmLineFault.TheVariants.{Line, Farm}
use Rattle.jl_words.specs.declared.words.WordsFault.{WordsFault}
use Rattle.jl_words.specs.declared.words.WordsFault.TheVariants as words
use Rattle.jl_lines.specs.Lines.{ended}

-- the exit status
abbrev pub status_of : Ending → ℕ
status_of InputEnded = 0
status_of BadWords = 1
status_of FarmFailed = 1
status_of LineTooLong = 2
status_of DeviceFailed = 3
status_of OutOfMemory = 4
status_of NothingReported = 5

-- what is written on the standard error: a line, unless the input ended
abbrev pub line_of : Ending → List ℕ
line_of InputEnded = []
line_of BadWords = ended (codes "linkd: bad words")
line_of FarmFailed = ended (codes "linkd: farm failed")
line_of LineTooLong = ended (codes "linkd: line too long")
line_of DeviceFailed = ended (codes "linkd: input or output failed")
line_of OutOfMemory = ended (codes "linkd: out of memory")
line_of NothingReported = ended (codes "linkd: nothing to report")

-- ---- how each fault ends it

abbrev pub words_end : WordsFault → Ending
words_end words.BadWords = BadWords
words_end words.Memory = OutOfMemory

abbrev pub lines_end : LineFault → Ending
lines_end TooLong = LineTooLong
lines_end Device = DeviceFailed
lines_end lines.Memory = OutOfMemory

abbrev pub farm_end : FarmLineFault → Ending
farm_end (Line fault) = lines_end fault
farm_end (Farm fault) = FarmFailed

-- how the program ends, by the result of its run
abbrev pub ending_of : {A E : Type 0} → (E → Ending) → Result A E → Ending
ending_of ends (Ok done) = InputEnded
ending_of ends (Err fault) = ends fault
