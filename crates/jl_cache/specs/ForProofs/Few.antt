-- Tables of one or two classes as they are kept. A means of proof.
use Rattle.std.specs.Prelude.{ℕ, List, [], ◌∷◌}
use Rattle.jl_types.specs.declared.answer.Outcome.{Outcome}
use Rattle.jl_types.specs.declared.answer.Outcome.TheVariants.{Run}
use Rattle.jl_cache.specs.declared.few.ShortRow.{ShortRow}
use Rattle.jl_cache.specs.declared.few.Few.{Few}
use Rattle.jl_cache.specs.declared.few.Few.TheVariants.{One, Two}

-- the row of which this is kept
abbrev pub row_of : ShortRow → ℕ × Outcome
row_of row = (row.receiver, Run (record { class = row.class; index = row.index }))

-- the rows that are kept
abbrev pub rows_of : Few → List (ℕ × Outcome)
rows_of (One row) = row_of row ∷ []
rows_of (Two first second) = row_of first ∷ row_of second ∷ []
