-- What a reference resolves to, by what was found.
use Rattle.std.specs.Prelude.{ℕ, Option, Result, Err, if◌then◌else◌}
use Rattle.jl_types.specs.declared.ids.MethodId.{MethodId}
use Rattle.jl_types.specs.declared.answer.ResolveAnswer.{ResolveAnswer}
use Rattle.jl_types.specs.declared.answer.ResolveAnswer.TheVariants.{Fault}
use Rattle.jl_types.specs.declared.answer.Throwable.TheVariants.{IllegalAccessError}
use Rattle.jl_types.specs.Values.World.{Classes}
use Rattle.jl_types.specs.Linkage.Access.{is_accessible_class}
use Rattle.jl_types.specs.Linkage.Resolution.{if_accessible}

-- if the class is accessible, what was found, if that is accessible, too
abbrev pub resolved_by : Classes → ℕ → ℕ → Option MethodId → Result MethodId ResolveAnswer
resolved_by cs from named m =
    if is_accessible_class cs from named then if_accessible cs from named m else Err (Fault IllegalAccessError)
