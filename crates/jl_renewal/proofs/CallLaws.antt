-- What an invocation comes to is the same under new numbers.
use Rattle.std.specs.Prelude.{◌≡◌, ◌==◌, ◌&&◌, ℕ, zero, suc, nat_le, Bool, true, false, All, List, [], ◌∷◌, map, length, if◌then◌else◌}
use Rattle.std.specs.List.{list_all}
use Rattle.std.proofs.Common.{refl, sym, ap, subst, ◌∙◌, arith}
use Rattle.std.proofs.lemmas.List.{length-map}
use Rattle.jl_types.specs.declared.ids.MethodId.{MethodId}
use Rattle.jl_types.specs.declared.answer.Answer.TheVariants as answer
use Rattle.jl_types.specs.declared.answer.Outcome.{Outcome}
use Rattle.jl_types.specs.declared.answer.Outcome.TheVariants.{Run, Throws}
use Rattle.jl_types.specs.declared.answer.Recv.{Recv}
use Rattle.jl_types.specs.declared.answer.Recv.TheVariants.{Null, Of}
use Rattle.jl_types.specs.declared.link.Link.TheVariants.{Direct, Table, Mega}
use Rattle.jl_types.specs.declared.link.TableKind.{TableKind}
use Rattle.jl_types.specs.declared.link.TableKind.TheVariants as table
use Rattle.jl_types.specs.Values.World.{Classes}
use Rattle.jl_types.specs.Values.Members.{is_present, is_private}
use Rattle.jl_types.specs.Values.Ancestry.{receivers}
use Rattle.jl_types.specs.Linkage.Selection.{virtual_outcome}
use Rattle.jl_types.specs.Linkage.Stages.{Selector, ByVirtual, ByInterface, BySpecial, ResolvedCall}
use Rattle.jl_types.specs.Linkage.Links.{outcome_by, outcome, table_rows, table_or_mega, runs, virtual_link, link_by}
use Rattle.jl_types.specs.Linkage.Calls.{answered, fits_named, is_receiver, selected}
use Rattle.jl_renewal.specs.Numbers.{Numbers, renumbered}
use Rattle.jl_renewal.specs.Renewed.{renumbered_method, renumbered_outcome, renumbered_row, renumbered_link, renumbered_answer, renumbered_receiver}
use Rattle.jl_renewal.specs.Renewed.{IsPresentReceiver}
use Rattle.jl_renewal.proofs.Alike.{AreAlike}
use Rattle.jl_renewal.proofs.AccessLaws.{private_same}
use Rattle.jl_renewal.proofs.SelectionLaws.{virtual_same, virtual_present, interface_same, special_same}
use Rattle.jl_renewal.proofs.StageLaws.{renumbered_call, IsCallThere}

abbrev Row : Type 0
Row = ℕ × Outcome

-- what runs is of a present class
abbrev RunsPresent : Classes → Outcome → Type 0
RunsPresent cs o = (m : MethodId) → o ≡ Run m → is_present cs m.class ≡ true

table_same : (n : Numbers) (kind : TableKind) (rows : List Row)
    → table_or_mega kind (map (renumbered_row n) rows) ≡ renumbered_link n (table_or_mega kind rows)
table_same n kind rows =
    ap (λ (k : ℕ). if nat_le k 8 then Table kind (map (renumbered_row n) rows) else Mega) (length-map rows (renumbered_row n))
    ∙ by_test (nat_le (length rows) 8)
  where
    by_test : (b : Bool) → (if b then Table kind (map (renumbered_row n) rows) else Mega) ≡ renumbered_link n (if b then Table kind rows else Mega)
    by_test true = refl
    by_test false = refl

module _ (n : Numbers) (cs ds : Classes) (alike : AreAlike n cs ds) where
  runs_same : (m : MethodId) → is_present cs m.class ≡ true → (o : Outcome) → RunsPresent cs o
      → runs (renumbered_method n m) (renumbered_outcome n o) ≡ runs m o
  runs_same m there (Run k) present = ap (λ (b : Bool). b && (m.index == k.index)) (alike.same m.class k.class there (present k refl))
  runs_same m there (Throws throwable) present = refl

  all_run_same : (m : MethodId) → is_present cs m.class ≡ true → (rows : List Row) → All (λ (row : Row). RunsPresent cs row.1) rows
      → list_all (λ row. runs (renumbered_method n m) row.1) (map (renumbered_row n) rows) ≡ list_all (λ row. runs m row.1) rows
  all_run_same m there [] all = refl
  all_run_same m there (row ∷ rows) all = λ i.
      runs_same m there row.1 (all zero row (omega arith)) i && all_run_same m there rows (λ k d lt. all (suc k) d (omega (arith, lt))) i

  -- the link of a virtual call by its rows
  virtual_link_same : (rows : List Row) → All (λ (row : Row). RunsPresent cs row.1) rows
      → virtual_link (map (renumbered_row n) rows) ≡ renumbered_link n (virtual_link rows)
  virtual_link_same [] all = refl
  virtual_link_same ((x, Throws throwable) ∷ rows) all = table_same n table.Virtual ((x, Throws throwable) ∷ rows)
  virtual_link_same ((x, Run m) ∷ rows) all =
      (λ i. if all_run_same m (all zero (x, Run m) (omega arith) m refl) rows (λ k d lt. all (suc k) d (omega (arith, lt))) i
      then Direct (Run (renumbered_method n m)) else table_same n table.Virtual ((x, Run m) ∷ rows) i)
      ∙ by_test (list_all (λ row. runs m row.1) rows)
    where
      by_test : (b : Bool) → (if b then Direct (Run (renumbered_method n m)) else renumbered_link n (table_or_mega table.Virtual ((x, Run m) ∷ rows)))
          ≡ renumbered_link n (if b then Direct (Run m) else table_or_mega table.Virtual ((x, Run m) ∷ rows))
      by_test true = refl
      by_test false = refl

  module _ (call : ResolvedCall) (there : IsCallThere cs call) where
    -- what it comes to for a receiver
    outcome_by_same : (selector : Selector) (x : ℕ) → is_present cs x ≡ true
        → outcome_by ds (renumbered_call n call) selector (renumbered n.classes x) ≡ renumbered_outcome n (outcome_by cs call selector x)
    outcome_by_same ByVirtual x at = virtual_same n cs ds alike x call.method at there.method
    outcome_by_same ByInterface x at = interface_same n cs ds alike x call.named call.method at there.named there.method
    outcome_by_same BySpecial x at = special_same n cs ds alike call.caller call.named call.ref there.caller there.named

    rows_by_same : (selector : Selector) (xs : List ℕ) → All (λ x. is_present cs x ≡ true) xs
        → map (λ x. (x, outcome_by ds (renumbered_call n call) selector x)) (map (renumbered n.classes) xs)
        ≡ map (renumbered_row n) (map (λ x. (x, outcome_by cs call selector x)) xs)
    rows_by_same selector [] all = refl
    rows_by_same selector (x ∷ xs) all = λ i.
        (renumbered n.classes x, outcome_by_same selector x (all zero x (omega arith)) i)
        ∷ rows_by_same selector xs (λ k d lt. all (suc k) d (omega (arith, lt))) i

    pub table_rows_same : table_rows ds (renumbered_call n call) ≡ map (renumbered_row n) (table_rows cs call)
    table_rows_same =
        ap (map (λ x. (x, outcome ds (renumbered_call n call) x))) (alike.below call.named there.named)
        ∙ rows_by_same call.selector (receivers cs call.named) (alike.below_present call.named)

    none_runs : All (λ (row : Row). RunsPresent cs row.1) []
    none_runs k d lt = absurd (omega (arith, lt))

    one_more_runs : (row : Row) (rows : List Row) → RunsPresent cs row.1 → All (λ (r : Row). RunsPresent cs r.1) rows
        → All (λ (r : Row). RunsPresent cs r.1) (row ∷ rows)
    one_more_runs row rows first rest zero d lt = first
    one_more_runs row rows first rest (suc k) d lt = rest k d (omega (arith, lt))

    each_present : (xs : List ℕ) → All (λ x. is_present cs x ≡ true) xs
        → All (λ (row : Row). RunsPresent cs row.1) (map (λ x. (x, outcome_by cs call ByVirtual x)) xs)
    each_present [] all = none_runs
    each_present (x ∷ xs) all =
        one_more_runs (x, virtual_outcome cs x call.method) (map (λ x. (x, outcome_by cs call ByVirtual x)) xs)
        (virtual_present n cs ds alike x call.method (all zero x (omega arith)) there.method)
        (each_present xs (λ k d lt. all (suc k) d (omega (arith, lt))))

    -- its link
    link_by_same : (selector : Selector) → call.selector ≡ selector
        → link_by ds (renumbered_call n call) selector ≡ renumbered_link n (link_by cs call selector)
    link_by_same ByVirtual is =
        (λ i. if private_same n cs ds alike call.method there.method i
        then Direct (virtual_same n cs ds alike call.named call.method there.named there.method i)
        else (ap virtual_link table_rows_same ∙ virtual_link_same (table_rows cs call) rows_present) i)
        ∙ by_test (is_private cs call.method)
      where
        by_test : (b : Bool)
            → (if b then Direct (renumbered_outcome n (virtual_outcome cs call.named call.method)) else renumbered_link n (virtual_link (table_rows cs call)))
            ≡ renumbered_link n (if b then Direct (virtual_outcome cs call.named call.method) else virtual_link (table_rows cs call))
        by_test true = refl
        by_test false = refl

        rows_present : All (λ (row : Row). RunsPresent cs row.1) (table_rows cs call)
        rows_present =
            subst (λ (selector : Selector). All (λ (row : Row). RunsPresent cs row.1) (map (λ x. (x, outcome_by cs call selector x)) (receivers cs call.named)))
            (sym is) (each_present (receivers cs call.named) (alike.below_present call.named))
    link_by_same ByInterface is = ap (table_or_mega table.Interface) table_rows_same ∙ table_same n table.Interface (table_rows cs call)
    link_by_same BySpecial is = ap Direct (special_same n cs ds alike call.caller call.named call.ref there.caller there.named)

    pub link_same : link_by ds (renumbered_call n call) call.selector ≡ renumbered_link n (link_by cs call call.selector)
    link_same = link_by_same call.selector refl

    -- ---- its answer to a receiver

    fits_same : (selector : Selector) (x : ℕ) → is_present cs x ≡ true
        → fits_named ds (renumbered_call n call) selector (renumbered n.classes x) ≡ fits_named cs call selector x
    fits_same ByVirtual x at = alike.ancestors call.named x there.named at
    fits_same ByInterface x at = refl
    fits_same BySpecial x at = refl

    answered_same : (o : Outcome) → answered (renumbered_outcome n o) ≡ renumbered_answer n (answered o)
    answered_same (Run m) = refl
    answered_same (Throws throwable) = refl

    pub selected_same : (recv : Recv) → IsPresentReceiver cs recv
        → selected ds (renumbered_call n call) (renumbered_receiver n recv) ≡ renumbered_answer n (selected cs call recv)
    selected_same Null at = refl
    selected_same (Of x) at =
        (λ i. if alike.concretes x at i && fits_same call.selector x at i then answered (outcome_by_same call.selector x at i) else answer.BadReceiver)
        ∙ by_test (is_receiver cs call x)
      where
        by_test : (b : Bool) → (if b then answered (renumbered_outcome n (outcome cs call x)) else answer.BadReceiver)
            ≡ renumbered_answer n (if b then answered (outcome cs call x) else answer.BadReceiver)
        by_test true = answered_same (outcome cs call x)
        by_test false = refl
