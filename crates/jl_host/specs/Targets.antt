-- Targets that a host gives, as parts: a guard stands before its first part and its fallback, each with all that belongs to it.
use Rattle.std.specs.Prelude.{ℕ, nat_le, ◌==◌, ◌+◌, max, List, [], ◌∷◌, ◌++◌, Option, Some, None, option_map, option_and_then}
use Rattle.std.specs.Prelude.{if◌then◌else◌}
use Rattle.serde_json.specs.Read.{max_depth}
use Rattle.jl_types.specs.declared.event.EventOf.TheVariants as event
use Rattle.jl_types.specs.Values.Target.{Target, Method, Guard, Invoker}
use Rattle.jl_host.specs.declared.targets.TargetPart.{TargetPart}
use Rattle.jl_host.specs.declared.told.Told.{Told}
use Rattle.jl_host.specs.Reading.{method_of}
use Rattle.jl_host.specs.Linkers.{Opened, IsAskedIf, IfOpenWithMemory, call_site_of, kind_of}

-- ---- nesting

-- how many arrays and objects the target's JSON has in one another: a method is an array in an object
abbrev pub nesting : Target → ℕ
nesting (Method m) = 2
nesting (Guard p first fallback) = max (nesting first) (nesting fallback) + 1
nesting (Invoker c) = 1

-- the guard, unless it is deeper than JSON may be
abbrev pub guard_of : ℕ → Target → Target → Option Target
guard_of point first fallback = if nat_le (nesting (Guard point first fallback)) max_depth then Some (Guard point first fallback) else None

-- ---- a part, before the targets that were read after it

-- the guard of the next two
abbrev pub guard_before : ℕ → List Target → Option (List Target)
guard_before point [] = None
guard_before point (first ∷ []) = None
guard_before point (first ∷ fallback ∷ rest) = option_map (λ guard. guard ∷ rest) (guard_of point first fallback)

-- A number that says nothing by the kind isn't looked at.
abbrev pub read_before : TargetPart → List Target → Option (List Target)
read_before part later =
    if part.kind == 0 then option_map (λ m. Method m ∷ later) (method_of part.number part.value)
    else if part.kind == 1 then guard_before part.number later
    else if part.kind == 2 then Some (Invoker part.number ∷ later)
    else None

-- ---- whole targets

-- the targets that the parts are, one after another
unfoldable pub targets_of : List TargetPart → Option (List Target)
targets_of [] = Some []
targets_of (part ∷ parts) = option_and_then (read_before part) (targets_of parts)

abbrev pub only : List Target → Option Target
only [] = None
only (t ∷ []) = Some t
only (t ∷ u ∷ rest) = None

abbrev pub target_of : List TargetPart → Option Target
target_of parts = option_and_then only (targets_of parts)

-- ---- the parts of a target

abbrev pub part : ℕ → ℕ → ℕ → TargetPart
part kind number value = record { kind = kind; number = number; value = value }

-- a guard stands before the parts of its first part and of its fallback
abbrev pub parts_of : Target → List TargetPart
parts_of (Method m) = part 0 m.class m.index ∷ []
parts_of (Guard p first fallback) = part 1 p 0 ∷ parts_of first ++ parts_of fallback
parts_of (Invoker c) = part 2 c 0 ∷ []

-- ---- events

abbrev pub IsNewCallSiteOf : ℕ → List ℕ → List TargetPart → Option Opened → ℕ → Told → Option Opened → Type 0
IsNewCallSiteOf kind ty parts = IfOpenWithMemory (IsAskedIf (call_site_of (kind_of kind) ty (target_of parts)))

abbrev pub IsSetTargetOf : ℕ → List TargetPart → Option Opened → ℕ → Told → Option Opened → Type 0
IsSetTargetOf c parts = IfOpenWithMemory (IsAskedIf (option_map (event.SetTarget c) (target_of parts)))
