-- The outcomes of an invocation, receiver by receiver. A means of proof.
use Rattle.std.specs.Prelude.{ℕ, Bool, true, ◌&&◌, List, [], ◌∷◌, map, Option, Some, None, option_and_then, if◌then◌else◌}
use Rattle.jl_types.specs.declared.ids.MethodId.{MethodId}
use Rattle.jl_types.specs.declared.answer.Answer.{Answer}
use Rattle.jl_types.specs.declared.answer.Answer.TheVariants as answer
use Rattle.jl_types.specs.declared.answer.Outcome.{Outcome}
use Rattle.jl_types.specs.declared.answer.Outcome.TheVariants.{Run, Throws}
use Rattle.jl_types.specs.declared.answer.Recv.{Recv}
use Rattle.jl_types.specs.declared.answer.Recv.TheVariants.{Null, Of}
use Rattle.jl_types.specs.declared.answer.Throwable.TheVariants.{NullPointerException}
use Rattle.jl_types.specs.declared.link.Link.{Link}
use Rattle.jl_types.specs.declared.link.Link.TheVariants.{Direct}
use Rattle.jl_types.specs.declared.link.TableKind.{TableKind}
use Rattle.jl_types.specs.declared.link.TableKind.TheVariants.{Virtual, Interface}
use Rattle.jl_types.specs.Values.World.{Classes}
use Rattle.jl_types.specs.Values.Members.{is_concrete, is_private}
use Rattle.jl_types.specs.Values.Ancestry.{receivers, is_ancestor}
use Rattle.jl_types.specs.Linkage.Selection.{virtual_outcome, interface_outcome}
use Rattle.jl_types.specs.Linkage.Links.{runs, virtual_link, table_or_mega}
use Rattle.jl_types.specs.Linkage.Calls.{answered}
use Rattle.jl_relink.specs.declared.selection.Selection.{Selection}

abbrev pub outcome_by : Classes → TableKind → ℕ → MethodId → ℕ → Outcome
outcome_by cs Virtual named m x = virtual_outcome cs x m
outcome_by cs Interface named m x = interface_outcome cs x named m

abbrev pub outcome_of : Classes → Selection → ℕ → Outcome
outcome_of cs s x = outcome_by cs s.kind s.named s.method x

-- these receivers, each with its outcome
abbrev pub rows_of : Classes → Selection → List ℕ → List (ℕ × Outcome)
rows_of cs s xs = map (λ x. (x, outcome_of cs s x)) xs

-- the method that earlier receivers and this one run, if they run the same method
abbrev pub joined : Option MethodId → Outcome → Option MethodId
joined None (Run m) = Some m
joined (Some first) (Run m) = if runs first (Run m) then Some first else None
joined earlier (Throws throwable) = None

-- what earlier receivers run, and these, too
abbrev pub run_on : Option MethodId → List (ℕ × Outcome) → Option MethodId
run_on common [] = common
run_on common (row ∷ rows) = option_and_then (λ m. run_on (Some m) rows) (joined common row.1)

-- ---- links

-- the link of an invocation whose receivers decide it, by their outcomes
abbrev pub link_by_rows : TableKind → List (ℕ × Outcome) → Link
link_by_rows Virtual rows = virtual_link rows
link_by_rows Interface rows = table_or_mega Interface rows

abbrev pub virtual_link_of : Classes → Selection → Link
virtual_link_of cs s =
    if is_private cs s.method then Direct (outcome_of cs s s.named) else virtual_link (rows_of cs s (receivers cs s.named))

abbrev pub link_by : Classes → TableKind → Selection → Link
link_by cs Virtual s = virtual_link_of cs s
link_by cs Interface s = table_or_mega Interface (rows_of cs s (receivers cs s.named))

abbrev pub selected_link : Classes → Selection → Link
selected_link cs s = link_by cs s.kind s

-- ---- answers

abbrev pub fits_by : Classes → TableKind → ℕ → ℕ → Bool
fits_by cs Virtual named x = is_ancestor cs named x
fits_by cs Interface named x = true

abbrev pub fits_named : Classes → Selection → ℕ → Bool
fits_named cs s x = fits_by cs s.kind s.named x

abbrev pub fits : Classes → Selection → ℕ → Bool
fits cs s x = is_concrete cs x && fits_named cs s x

abbrev pub selected_answer : Classes → Selection → Recv → Answer
selected_answer cs s Null = answer.Throws NullPointerException
selected_answer cs s (Of x) = if fits cs s x then answered (outcome_of cs s x) else answer.BadReceiver

abbrev pub special_answer : Classes → Outcome → Recv → Answer
special_answer cs o Null = answer.Throws NullPointerException
special_answer cs o (Of x) = if is_concrete cs x then answered o else answer.BadReceiver
