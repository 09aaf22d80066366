-- Calls of methods that no code invokes, as reflection, method handles and native code make them, and references that they resolve.
use Rattle.std.specs.Prelude.{ℕ, Bool, ◌&&◌, List, [], slice_get, if◌then◌else◌, Option, Some, None, is_some, Result, Ok, Err}
use Rattle.std.specs.Option.{option_and_then, option_map_or}
use Rattle.jl_pool.specs.declared.reference.Reference.{Reference}
use Rattle.jl_types.specs.declared.ids.MethodId.{MethodId}
use Rattle.jl_types.specs.declared.answer.Answer.{Answer}
use Rattle.jl_types.specs.declared.answer.Answer.TheVariants as answer
use Rattle.jl_types.specs.declared.answer.Outcome.{Outcome}
use Rattle.jl_types.specs.declared.answer.Outcome.TheVariants.{Run}
use Rattle.jl_types.specs.declared.answer.Recv.{Recv}
use Rattle.jl_types.specs.declared.answer.Recv.TheVariants.{Null, Of}
use Rattle.jl_types.specs.declared.answer.ResolveAnswer.{ResolveAnswer}
use Rattle.jl_types.specs.declared.answer.ResolveAnswer.TheVariants.{NotReady, Fault}
use Rattle.jl_types.specs.declared.answer.Throwable.TheVariants.{NullPointerException}
use Rattle.jl_types.specs.declared.answer.Unlinked.TheVariants as unlinked
use Rattle.jl_types.specs.Values.World.{Classes}
use Rattle.jl_types.specs.Values.Members.{is_present, is_concrete, is_interface, is_static, method_at, method_test}
use Rattle.jl_types.specs.Values.Ancestry.{is_ancestor}
use Rattle.jl_types.specs.Linkage.Access.{is_accessible_class}
use Rattle.jl_types.specs.Linkage.Calls.{answered}
use Rattle.jl_types.specs.Linkage.Resolution.{found, resolved_in}
use Rattle.jl_types.specs.Linkage.Selection.{virtual_outcome, interface_outcome, is_init}
use Rattle.jl_host.specs.declared.shown.CallAnswer.{CallAnswer}
use Rattle.jl_host.specs.declared.shown.ResolutionShown.{ResolutionShown}
use Rattle.jl_host.specs.Numbers.{unknown_class, no_such_place}
use Rattle.jl_host.specs.Reading.{method_of}
use Rattle.jl_host.specs.Showing.{recv_of, answer_shown, throwable_number, unlinked_number}
use Rattle.jl_host.specs.Linkers.{Opened}
use Rattle.jl_host.specs.Asking.{IsTold}

-- ---- calls

-- an object may be of class x, and x is r's class or below it
abbrev pub may_receive : Classes → MethodId → ℕ → Bool
may_receive cs r x = is_concrete cs x && is_ancestor cs r.class x

-- r is an instance initialization method (JVMS 2.9.1)
abbrev pub is_initialization : Classes → MethodId → Bool
is_initialization cs r = method_test (λ method. is_init method.name) cs r

-- On an object of class x: r itself, if it is an instance initialization method. Else what selection makes of it (JVMS 5.4.6), as at an
-- invokeinterface that names r's interface, or at an invokevirtual (6.5).
abbrev pub outcome_on : Classes → MethodId → ℕ → Outcome
outcome_on cs r x =
    if is_initialization cs r then Run r else (
    if is_interface cs r.class then interface_outcome cs x r.class r else virtual_outcome cs x r)

abbrev pub called_on : Classes → MethodId → Recv → Answer
called_on cs r Null = answer.Throws NullPointerException
called_on cs r (Of x) = if may_receive cs r x then answered (outcome_on cs r x) else answer.BadReceiver

-- the answer to a call of the resolved method r: a static one runs, whatever the receiver is
abbrev pub called : Classes → MethodId → Recv → Answer
called cs r recv = if is_static cs r then answer.Run r else called_on cs r recv

-- ---- references

abbrev pub name_in : Classes → ℕ → List ℕ
name_in cs c = option_map_or (λ row. row.file.name) (slice_get cs.rows c) []

-- a reference to a method of this name and descriptor in the class, of an interface's method if that is an interface (JVMS 4.4.2)
abbrev pub reference_in : Classes → ℕ → List ℕ → List ℕ → Reference (List ℕ)
reference_in cs named name ty = record { itf = is_interface cs named; owner = name_in cs named; name = name; ty = ty }

-- ---- as numbers

-- the method that was found, and 2^32 - 1 twice if none was
abbrev pub with_method : ℕ → ℕ → Option MethodId → ResolutionShown
with_method kind value None = record { kind = kind; value = value; class_number = 4294967295; method = 4294967295 }
with_method kind value (Some m) = record { kind = kind; value = value; class_number = m.class; method = m.index }

-- what was found, accessible or not, and what the reference resolves to
abbrev pub resolution_shown : Option MethodId → Result MethodId ResolveAnswer → ResolutionShown
resolution_shown m (Ok resolved) = with_method 0 0 m
resolution_shown m (Err (Fault throwable)) = with_method 1 (throwable_number throwable) m
resolution_shown m (Err (NotReady missing)) = with_method 3 (unlinked_number (unlinked.NotReady missing)) m

-- what a reference to the method of this name and descriptor in the class `named` resolves to for the class `from` (JVMS 5.4.3.3, 5.4.3.4,
-- 5.4.4)
abbrev pub resolution_in : Classes → ℕ → ℕ → List ℕ → List ℕ → ResolutionShown
resolution_in cs from named name ty =
    resolution_shown (found cs (reference_in cs named name ty) named) (resolved_in cs from (reference_in cs named name ty) named)

-- ---- what the calls leave

-- the method at this place among those of a class that is present
abbrev pub if_there : Classes → MethodId → Option MethodId
if_there cs m = if is_present cs m.class && is_some (method_at cs m) then Some m else None

abbrev pub present_method : ℕ → ℕ → Classes → Option MethodId
present_method c place cs = option_and_then (if_there cs) (method_of c place)

abbrev pub call_shown : ℕ → ℕ → ℕ → Classes → Option CallAnswer
call_shown c place receiver cs = option_and_then (λ m. Some (answer_shown (called cs m (recv_of receiver)))) (present_method c place cs)

abbrev pub IsSelect : ℕ → ℕ → ℕ → Option Opened → CallAnswer → ℕ → CallAnswer → Option Opened → Type 0
IsSelect c place receiver = IsTold no_such_place (call_shown c place receiver)

-- of two classes that are present
abbrev pub if_present : {A : Type 0} → Classes → ℕ → ℕ → A → Option A
if_present cs c d value = if is_present cs c && is_present cs d then Some value else None

abbrev pub IsResolve : ℕ → ℕ → List ℕ → List ℕ → Option Opened → ResolutionShown → ℕ → ResolutionShown → Option Opened → Type 0
IsResolve from named name ty = IsTold unknown_class (λ cs. if_present cs from named (resolution_in cs from named name ty))

-- whether the class is accessible to the class `from`: 1, or 0 (JVMS 5.4.4)
abbrev pub IsClassAccessible : ℕ → ℕ → Option Opened → ℕ → ℕ → ℕ → Option Opened → Type 0
IsClassAccessible from c = IsTold unknown_class (λ cs. if_present cs from c (if is_accessible_class cs from c then 1 else 0))
