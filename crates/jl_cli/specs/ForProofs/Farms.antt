-- The faults of the parts of a farm over lines. Only private clauses cite this.
use Rattle.std.specs.Prelude.{◌≡◌, ⊤}
use Rattle.jl_lines.specs.declared.line_fault.LineFault.TheVariants.{Memory}
use Rattle.jl_cli.specs.declared.farm_fault.FarmLineFault.{FarmLineFault}
use Rattle.jl_cli.specs.declared.farm_fault.FarmLineFault.TheVariants.{Line, Farm}

-- a fault after the answers with which nothing is written: of lines it is want of memory
abbrev pub IsUnwritten : FarmLineFault → Type 0
IsUnwritten (Line fault) = fault ≡ Memory
IsUnwritten (Farm fault) = ⊤

-- a fault of the farm's own
abbrev pub IsOfFarm : FarmLineFault → Type 0
IsOfFarm (Line fault) = ⊥
IsOfFarm (Farm fault) = ⊤
