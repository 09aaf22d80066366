-- The class for which a site waits, by its name: one that links need and that isn't recorded yet (JVMS 5.3, 5.4.4).
use Rattle.std.specs.Prelude.{ℕ, List, slice_get, Option, Some, None, option_and_then, Result, Ok, Err, if◌then◌else◌}
use Rattle.jl_pool.specs.declared.reference.Reference.{Reference}
use Rattle.jl_class.specs.declared.site.Operand.{Operand}
use Rattle.jl_class.specs.declared.site.Operand.TheVariants as operand
use Rattle.jl_types.specs.declared.answer.Missing.{Missing}
use Rattle.jl_types.specs.declared.answer.Missing.TheVariants.{Named, CallerHost, MethodHost}
use Rattle.jl_types.specs.declared.answer.ResolveAnswer.{ResolveAnswer}
use Rattle.jl_types.specs.declared.answer.ResolveAnswer.TheVariants.{NotReady, Fault}
use Rattle.jl_types.specs.declared.ids.Place.{Place}
use Rattle.jl_types.specs.Values.World.{World, Classes}
use Rattle.jl_types.specs.Values.Members.{is_present}
use Rattle.jl_types.specs.Linkage.Resolution.{Resolved, resolved, found, named_class}
use Rattle.jl_types.specs.Linkage.Stages.{invocation_at}

-- the nest host that the class's file names (JVMS 4.7.28)
abbrev pub nest_host_named : Classes → ℕ → Option (List ℕ)
nest_host_named cs c = option_and_then (λ row. row.file.nest_host) (slice_get cs.rows c)

-- that of the class whose method the reference finds
abbrev pub method_host_named : Classes → ℕ → Reference (List ℕ) → Option (List ℕ)
method_host_named cs d ref = option_and_then (λ m. nest_host_named cs m.class) (option_and_then (found cs ref) (named_class cs d ref))

-- what is missing, for the caller's class d
abbrev pub missing_named : Classes → ℕ → Reference (List ℕ) → Missing → Option (List ℕ)
missing_named cs d ref Named = Some ref.owner
missing_named cs d ref CallerHost = nest_host_named cs d
missing_named cs d ref MethodHost = method_host_named cs d ref

-- by what the reference resolves to
abbrev pub awaited_by_answer : Classes → ℕ → Reference (List ℕ) → Result Resolved ResolveAnswer → Option (List ℕ)
awaited_by_answer cs d ref (Err (NotReady missing)) = missing_named cs d ref missing
awaited_by_answer cs d ref (Err (Fault throwable)) = None
awaited_by_answer cs d ref (Ok r) = None

-- an invokedynamic waits for no class
abbrev pub awaited_by : Classes → ℕ → Operand (List ℕ) → Option (List ℕ)
awaited_by cs d (operand.Method ref) = awaited_by_answer cs d ref (resolved cs d ref)
awaited_by cs d (operand.CallSite specifier) = None

abbrev pub awaited_at : Classes → Place → Option (List ℕ)
awaited_at cs place =
    if is_present cs place.class then option_and_then (λ site. awaited_by cs place.class site.operand) (invocation_at cs place) else None

-- of the requested site s
abbrev pub awaited : ℕ → World → Option (List ℕ)
awaited s w = option_and_then (awaited_at w.classes) (slice_get w.places s)
