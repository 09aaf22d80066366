-- The answer to a call (JVMS 6.5). It knows of no links, tables or lists of receivers.
use Rattle.std.specs.Prelude.{ℕ, Bool, true, ◌&&◌, if◌then◌else◌}
use Rattle.jl_types.specs.declared.answer.Outcome.{Outcome}
use Rattle.jl_types.specs.declared.answer.Outcome.TheVariants.{Run, Throws}
use Rattle.jl_types.specs.declared.answer.Throwable.TheVariants.{NullPointerException}
use Rattle.jl_types.specs.declared.answer.Recv.{Recv}
use Rattle.jl_types.specs.declared.answer.Recv.TheVariants.{Null, Of}
use Rattle.jl_types.specs.declared.answer.Answer.{Answer}
use Rattle.jl_types.specs.declared.answer.Answer.TheVariants as answer
use Rattle.jl_types.specs.Values.World.{World, Classes}
use Rattle.jl_types.specs.Values.Members.{is_concrete}
use Rattle.jl_types.specs.Values.Ancestry.{is_ancestor}
use Rattle.jl_types.specs.Linkage.Stages.{Selector, ByVirtual, ByInterface, BySpecial, ResolvedCall, Stage, Waits, Fails, Calls, Selects, stage}
use Rattle.jl_types.specs.Linkage.Links.{outcome}

abbrev pub answered : Outcome → Answer
answered (Run m) = answer.Run m
answered (Throws throwable) = answer.Throws throwable

-- at invokevirtual an object is a receiver only if its class has the named class among its ancestors
abbrev pub fits_named : Classes → ResolvedCall → Selector → ℕ → Bool
fits_named cs i ByVirtual x = is_ancestor cs i.named x
fits_named cs i ByInterface x = true
fits_named cs i BySpecial x = true

-- an object may be of class x, and be a receiver here
abbrev pub is_receiver : Classes → ResolvedCall → ℕ → Bool
is_receiver cs i x = is_concrete cs x && fits_named cs i i.selector x

abbrev pub selected : Classes → ResolvedCall → Recv → Answer
selected cs i Null = answer.Throws NullPointerException
selected cs i (Of x) = if is_receiver cs i x then answered (outcome cs i x) else answer.BadReceiver

abbrev pub answer_of : Classes → Stage → Recv → Answer
answer_of cs (Waits reason) recv = answer.Unlinked reason
answer_of cs (Fails throwable) recv = answer.Throws throwable
answer_of cs (Calls m) recv = answer.Run m
answer_of cs (Selects i) recv = selected cs i recv

-- the answer to a call of site s on the receiver
abbrev pub dispatch : World → ℕ → Recv → Answer
dispatch w s recv = answer_of w.classes (stage w s) recv
