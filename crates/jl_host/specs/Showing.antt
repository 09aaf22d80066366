-- Answers, links and receivers as numbers.
use Rattle.std.specs.Prelude.{◌≡◌, ℕ, ◌+◌, ◌*◌, ◌/◌, ◌%◌, ◌^◌, ◌==◌, List, [], ◌∷◌, map, min, length, get_or, Option, Some, None, if◌then◌else◌}
use Rattle.jl_types.specs.declared.ids.MethodId.{MethodId}
use Rattle.jl_types.specs.declared.answer.Answer.{Answer}
use Rattle.jl_types.specs.declared.answer.Answer.TheVariants.{Run, Throws, BadReceiver, Unlinked}
use Rattle.jl_types.specs.declared.answer.Outcome.{Outcome}
use Rattle.jl_types.specs.declared.answer.Outcome.TheVariants as outcome
use Rattle.jl_types.specs.declared.answer.Recv.{Recv}
use Rattle.jl_types.specs.declared.answer.Recv.TheVariants.{Null, Of}
use Rattle.jl_types.specs.declared.answer.Throwable.{Throwable}
use Rattle.jl_types.specs.declared.answer.Throwable.TheVariants as throwable
use Rattle.jl_types.specs.declared.answer.Missing.TheVariants.{Named, CallerHost, MethodHost}
use Rattle.jl_types.specs.declared.answer.Unlinked.{Unlinked as Reason}
use Rattle.jl_types.specs.declared.answer.Unlinked.TheVariants.{NotReady, Unbound, Gone, NoSite}
use Rattle.jl_types.specs.declared.answer.Fast.{Fast}
use Rattle.jl_types.specs.declared.answer.Fast.TheVariants.{Now, Miss, Closed}
use Rattle.jl_types.specs.declared.link.Link.{Link}
use Rattle.jl_types.specs.declared.link.Link.TheVariants.{Fault, Plain, Direct, Table, Mega}
use Rattle.jl_types.specs.declared.link.TableKind.{TableKind}
use Rattle.jl_types.specs.declared.link.TableKind.TheVariants.{Virtual, Interface}
use Rattle.jl_host.specs.declared.shown.CallAnswer.{CallAnswer}
use Rattle.jl_host.specs.declared.shown.Row.{Row}
use Rattle.jl_host.specs.declared.shown.LinkShown.{LinkShown}

-- 2^32 - 1 is the null reference
abbrev pub recv_of : ℕ → Recv
recv_of n = if n == 4294967295 then Null else Of n

abbrev pub throwable_number : Throwable → ℕ
throwable_number throwable.NoSuchMethodError = 1
throwable_number throwable.IllegalAccessError = 2
throwable_number throwable.IncompatibleClassChangeError = 3
throwable_number throwable.AbstractMethodError = 4
throwable_number throwable.NullPointerException = 5

abbrev pub unlinked_number : Reason → ℕ
unlinked_number (NotReady Named) = 1
unlinked_number (NotReady CallerHost) = 2
unlinked_number (NotReady MethodHost) = 3
unlinked_number Unbound = 4
unlinked_number Gone = 5
unlinked_number NoSite = 6

-- ---- answers

abbrev pub runs : MethodId → CallAnswer
runs m = record { kind = 0; class_number = m.class; value = m.index }

abbrev pub otherwise : ℕ → ℕ → CallAnswer
otherwise kind value = record { kind = kind; class_number = 0; value = value }

abbrev pub answer_shown : Answer → CallAnswer
answer_shown (Run m) = runs m
answer_shown (Throws t) = otherwise 1 (throwable_number t)
answer_shown BadReceiver = otherwise 2 0
answer_shown (Unlinked reason) = otherwise 3 (unlinked_number reason)

-- what isn't known at once is a kind of its own
abbrev pub fast_shown : Fast → CallAnswer
fast_shown (Now answer) = answer_shown answer
fast_shown Miss = otherwise 4 0
fast_shown Closed = otherwise 4 0

-- ---- answers in 64 bits

-- from bit 0 on the class, from bit 32 on the value, from bit 56 on the kind
abbrev pub bits_of : CallAnswer → ℕ
bits_of answer = answer.class_number + 2 ^ 32 * answer.value + 2 ^ 56 * answer.kind

-- the answer of the bits
abbrev pub answer_of : ℕ → CallAnswer
answer_of bits = record { kind = bits / 2 ^ 56; class_number = bits % 2 ^ 32; value = bits / 2 ^ 32 % 2 ^ 24 }

-- the bits are those of the answer, which is had back from them
pub record HasBits (answer : CallAnswer) (bits : ℕ) : Type 0 where
  pub is : bits ≡ bits_of answer
  pub again : answer_of bits ≡ answer

-- ---- links

abbrev pub no_row : Row
no_row = record { receiver = 0; kind = 0; class_number = 0; value = 0 }

abbrev pub row_of : ℕ → Outcome → Row
row_of receiver (outcome.Run m) = record { receiver = receiver; kind = 0; class_number = m.class; value = m.index }
row_of receiver (outcome.Throws t) = record { receiver = receiver; kind = 1; class_number = 0; value = throwable_number t }

-- eight rows: these, and none in what is left
abbrev pub with_rows : ℕ → List Row → LinkShown
with_rows kind rows =
    record { kind = kind; count = min (length rows) 8; rows = map (λ i. get_or rows i no_row) (0 ∷ 1 ∷ 2 ∷ 3 ∷ 4 ∷ 5 ∷ 6 ∷ 7 ∷ []) }

abbrev pub table_kind : TableKind → ℕ
table_kind Virtual = 4
table_kind Interface = 5

abbrev pub shown : Link → LinkShown
shown (Fault t) = with_rows 1 (row_of 0 (outcome.Throws t) ∷ [])
shown (Plain m) = with_rows 2 (row_of 0 (outcome.Run m) ∷ [])
shown (Direct o) = with_rows 3 (row_of 0 o ∷ [])
shown (Table kind rows) = with_rows (table_kind kind) (map (λ row. row_of row.0 row.1) rows)
shown Mega = with_rows 6 []

abbrev pub link_shown : Option Link → LinkShown
link_shown None = with_rows 0 []
link_shown (Some link) = shown link
