-- Different methods that are collected, call by call.
use Rattle.std.specs.Prelude.{Bool, List, [], ◌∷◌, ◌++◌, Option, Some, None, if◌then◌else◌}
use Rattle.std.specs.List.{list_any}
use Rattle.jl_types.specs.declared.ids.MethodId.{MethodId}
use Rattle.jl_report.specs.Methods.{is_same}

abbrev pub is_among : List MethodId → MethodId → Bool
is_among ms m = list_any (λ n. is_same n m) ms

-- the methods, and the one that a further call runs, if it isn't among them
abbrev pub with_run : List MethodId → Option MethodId → List MethodId
with_run ms None = ms
with_run ms (Some m) = if is_among ms m then ms else ms ++ m ∷ []
