-- How many evaluations the last of a list of events may take.
use Rattle.std.specs.Prelude.{ℕ, List, [], ◌∷◌, ◌++◌}
use Rattle.jl_types.specs.Events.Event.{Event}
use Rattle.jl_types.specs.Events.Footprints.{bound}

-- how many evaluations the last of these events may take, which came after those before them
abbrev pub most_after : List Event → List Event → ℕ
most_after before [] = 0
most_after before (e ∷ []) = bound before e
most_after before (e ∷ f ∷ rest) = most_after (before ++ e ∷ []) (f ∷ rest)

-- how many evaluations the last event of the list may take after those before it, and none if there is no event
abbrev pub most_of_last : List Event → ℕ
most_of_last h = most_after [] h
