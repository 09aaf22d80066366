-- What a linker is asked of its classes and methods, and of its work, and what each of these calls leaves.
use Rattle.std.specs.Prelude.{◌≡◌, ◌⊎◌, ◌≤◌, ℕ, List, map, slice_get, Option, Some, None, option_map}
use Rattle.std.specs.Option.{option_and_then}
use Rattle.jl_class.specs.declared.site.Kind.{Kind}
use Rattle.jl_class.specs.declared.site.Kind.TheVariants.{Virtual, Special, Static, Interface, Dynamic}
use Rattle.jl_class.specs.Class.{Method}
use Rattle.jl_class.specs.Site.{Site}
use Rattle.jl_types.specs.Values.World.{World, Classes}
use Rattle.jl_types.specs.Values.Members.{lookup, method_at}
use Rattle.jl_core.specs.State.{events, world_of}
use Rattle.jl_core.specs.WorkBounds.{most_of_last}
use Rattle.jl_host.specs.declared.invocations.Invocation.{Invocation}
use Rattle.jl_host.specs.Numbers.{done, memory, unknown_class, no_such_place, closed}
use Rattle.jl_host.specs.Copies.{IsCopied}
use Rattle.jl_host.specs.Reading.{method_of}
use Rattle.jl_host.specs.Linkers.{Opened}
use Rattle.jl_host.specs.Awaiting.{awaited}

-- ---- a class by its name

-- there is none, for this reason, and nothing was written; or it was written
abbrev pub IsWrittenIf : {A : Type 0} → ℕ → Option A → A → ℕ → A → Type 0
IsWrittenIf reason None before status after = (status ≡ reason) × (after ≡ before)
IsWrittenIf reason (Some value) before status after = (status ≡ done) × (after ≡ value)

-- the linker isn't open, and nothing was written; or this is so of what it has
abbrev pub IsTold : {A : Type 0} → ℕ → (Classes → Option A) → Option Opened → A → ℕ → A → Option Opened → Type 0
IsTold reason value None before status after new = (status ≡ closed) × (after ≡ before) × (new ≡ None)
IsTold reason value (Some old) before status after new =
    IsWrittenIf reason (value (world_of old.session.core).classes) before status after × (new ≡ Some old)

-- what the loader finds under the name (JVMS 5.3)
abbrev pub IsLookup : ℕ → List ℕ → Option Opened → ℕ → ℕ → ℕ → Option Opened → Type 0
IsLookup loader name = IsTold unknown_class (λ cs. lookup cs loader name)

-- ---- lists of a class or a method

-- there is none, for this reason, and nothing was written; or it is copied
abbrev pub IsCopiedIf : {A : Type 0} → ℕ → Option (List A) → List A → ℕ → ℕ → List A → ℕ → Type 0
IsCopiedIf reason None before length_before status after count = (status ≡ reason) × (after ≡ before) × (count ≡ length_before)
IsCopiedIf reason (Some items) before length_before status after count = IsCopied items before status after count

-- the linker isn't open, and nothing was written; or this is so of the list that it has
abbrev pub IsListed : {A : Type 0} → ℕ → (Opened → Option (List A)) → Option Opened → List A → ℕ → ℕ → List A → ℕ → Option Opened → Type 0
IsListed reason list None before length_before status after count new =
    (status ≡ closed) × (after ≡ before) × (count ≡ length_before) × (new ≡ None)
IsListed reason list (Some old) before length_before status after count new =
    IsCopiedIf reason (list old) before length_before status after count × (new ≡ Some old)

-- the name of the class as its file has it, be it retired or not (JVMS 4.2.1)
abbrev pub class_name : ℕ → World → Option (List ℕ)
class_name c w = option_map (λ row. row.file.name) (slice_get w.classes.rows c)

abbrev pub IsClassName : ℕ → Option Opened → List ℕ → ℕ → ℕ → List ℕ → ℕ → Option Opened → Type 0
IsClassName c = IsListed unknown_class (λ old. class_name c (world_of old.session.core))

-- the method at this place among those that the class declares
abbrev pub method_in : ℕ → ℕ → World → Option Method
method_in c place w = option_and_then (method_at w.classes) (method_of c place)

-- the method's name, or its descriptor (JVMS 4.2.2, 4.3.3)
abbrev pub IsMethodName : ℕ → ℕ → Option Opened → List ℕ → ℕ → ℕ → List ℕ → ℕ → Option Opened → Type 0
IsMethodName c place = IsListed no_such_place (λ old. option_map (λ m. m.name) (method_in c place (world_of old.session.core)))

abbrev pub IsMethodType : ℕ → ℕ → Option Opened → List ℕ → ℕ → ℕ → List ℕ → ℕ → Option Opened → Type 0
IsMethodType c place = IsListed no_such_place (λ old. option_map (λ m. m.ty) (method_in c place (world_of old.session.core)))

-- an instruction by its opcode (JVMS 6.5)
abbrev pub opcode : Kind → ℕ
opcode Virtual = 182
opcode Special = 183
opcode Static = 184
opcode Interface = 185
opcode Dynamic = 186

abbrev pub invocation_shown : Site → Invocation
invocation_shown site = record { pc = site.pc; opcode = opcode site.kind }

-- the invocations in the method's code, by rising pc
abbrev pub IsInvocations : ℕ → ℕ → Option Opened → List Invocation → ℕ → ℕ → List Invocation → ℕ → Option Opened → Type 0
IsInvocations c place =
    IsListed no_such_place (λ old. option_map (λ m. map invocation_shown m.sites) (method_in c place (world_of old.session.core)))

-- the class that the refusal of the last event told of by its name
abbrev pub IsRefusedName : Option Opened → List ℕ → ℕ → ℕ → List ℕ → ℕ → Option Opened → Type 0
IsRefusedName = IsListed unknown_class (λ old. old.named)

-- the class for which the site waits
abbrev pub IsAwaited : ℕ → Option Opened → List ℕ → ℕ → ℕ → List ℕ → ℕ → Option Opened → Type 0
IsAwaited s = IsListed unknown_class (λ old. awaited s (world_of old.session.core))

-- ---- work

-- the linker isn't open, and nothing was written; or how much the last accepted event took, which is no more than it may
abbrev pub IsLastWork : Option Opened → ℕ → ℕ → ℕ → Option Opened → Type 0
IsLastWork None before status after new = (status ≡ closed) × (after ≡ before) × (new ≡ None)
IsLastWork (Some old) before status after new =
    (status ≡ done) × (after ≤ most_of_last (events old.session.core)) × (new ≡ Some old)

-- the linker isn't open; or it is as before, also if there was no memory
abbrev pub IsCatchUp : Option Opened → ℕ → Option Opened → Type 0
IsCatchUp None status new = (status ≡ closed) × (new ≡ None)
IsCatchUp (Some old) status new = ((status ≡ done) ⊎ (status ≡ memory)) × (new ≡ Some old)
