-- The answer that an installed link gives without a look at the world.
use Rattle.std.specs.Prelude.{ℕ, Bool, true, false, ◌&&◌, ◌==◌, nat_le, find, Option, Some, None, if◌then◌else◌}
use Rattle.jl_types.specs.declared.link.Link.{Link}
use Rattle.jl_types.specs.declared.link.Link.TheVariants.{Fault, Plain, Direct, Table, Mega}
use Rattle.jl_types.specs.declared.link.TableKind.{TableKind}
use Rattle.jl_types.specs.declared.link.TableKind.TheVariants as table
use Rattle.jl_types.specs.declared.answer.Outcome.{Outcome}
use Rattle.jl_types.specs.declared.answer.Recv.{Recv}
use Rattle.jl_types.specs.declared.answer.Recv.TheVariants.{Null, Of}
use Rattle.jl_types.specs.declared.answer.Answer.{Answer}
use Rattle.jl_types.specs.declared.answer.Fast.{Fast}
use Rattle.jl_types.specs.declared.answer.Fast.TheVariants.{Now, Miss}
use Rattle.jl_types.specs.declared.answer.Answer.TheVariants as answer
use Rattle.jl_types.specs.declared.answer.Throwable.TheVariants.{IncompatibleClassChangeError, NullPointerException}
use Rattle.jl_types.specs.Linkage.Calls.{answered}

abbrev pub no_entry : TableKind → Answer
no_entry table.Virtual = answer.BadReceiver
no_entry table.Interface = answer.Throws IncompatibleClassChangeError

abbrev pub entry_answer : TableKind → Option (ℕ × Outcome) → Answer
entry_answer kind None = no_entry kind
entry_answer kind (Some row) = answered row.1

-- the link's answer for a receiver
abbrev pub link_answer : Link → Recv → Fast
link_answer (Fault throwable) recv = Now (answer.Throws throwable)
link_answer (Plain m) recv = Now (answer.Run m)
link_answer (Direct outcome) Null = Now (answer.Throws NullPointerException)
link_answer (Direct outcome) (Of x) = Now (answered outcome)
link_answer (Table kind rows) Null = Now (answer.Throws NullPointerException)
link_answer (Table kind rows) (Of x) = Now (entry_answer kind (find (λ row. row.0 == x) rows))
link_answer Mega recv = Miss

-- ---- for a caller that knows of so many classes

abbrev pub looks_at_receiver : Link → Bool
looks_at_receiver (Fault throwable) = false
looks_at_receiver (Plain m) = false
looks_at_receiver (Direct outcome) = true
looks_at_receiver (Table kind rows) = true
looks_at_receiver Mega = false

abbrev pub is_newer : ℕ → Recv → Bool
is_newer n Null = false
is_newer n (Of x) = nat_le n x

-- the link's answer; a miss if there is no link, or if the link looks at a receiver whose class the caller doesn't know of
abbrev pub fast_answer : Option Link → ℕ → Recv → Fast
fast_answer None n recv = Miss
fast_answer (Some link) n recv = if looks_at_receiver link && is_newer n recv then Miss else link_answer link recv
