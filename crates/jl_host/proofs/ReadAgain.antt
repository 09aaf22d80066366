-- What is shown of a link is read as that link.
use Rattle.std.specs.Prelude.{◌≡◌, ℕ, ◌≤◌, nat_le, Bool, true, false, List, [], ◌∷◌, map, length, Option, Some, None, option_map, Result, Ok, Err}
use Rattle.std.specs.Prelude.{if◌then◌else◌}
use Rattle.std.specs.Cmp.Derive.{both_true}
use Rattle.std.specs.List.{list_all}
use Rattle.std.specs.Option.{option_and_then}
use Rattle.std.proofs.Common.{refl, ap, sym, ◌∙◌, arith}
use Rattle.std.proofs.lemmas.Bool.{and_parts, leb-true}
use Rattle.std.proofs.lemmas.List.{length-map}
use Rattle.jl_types.specs.declared.answer.Outcome.{Outcome}
use Rattle.jl_types.specs.declared.answer.Outcome.TheVariants.{Run, Throws}
use Rattle.jl_types.specs.declared.answer.Throwable.{Throwable}
use Rattle.jl_types.specs.declared.answer.Throwable.TheVariants as throwable
use Rattle.jl_types.specs.declared.link.Link.{Link}
use Rattle.jl_types.specs.declared.link.Link.TheVariants.{Fault, Plain, Direct, Table, Mega}
use Rattle.jl_types.specs.declared.link.TableKind.{TableKind}
use Rattle.jl_types.specs.declared.link.TableKind.TheVariants.{Virtual, Interface}
use Rattle.jl_types.specs.declared.answer.Unlinked.{Unlinked}
use Rattle.jl_types.specs.Values.World.{World, Classes}
use Rattle.jl_types.specs.Linkage.Stages.{Selector, ByVirtual, ByInterface, BySpecial, ResolvedCall, Stage, Waits, Fails, Calls, Selects, stage}
use Rattle.jl_types.specs.Linkage.Links.{scratch, table_or_mega, virtual_link, table_rows, runs}
use Rattle.jl_types.specs.Linkage.Links as links
use Rattle.jl_types.specs.Linkage.Selection.{virtual_outcome}
use Rattle.jl_types.specs.Values.Members.{is_private}
use Rattle.jl_host.specs.declared.shown.Row.{Row}
use Rattle.jl_host.specs.Showing.{shown, row_of, with_rows, table_kind, throwable_number}
use Rattle.jl_host.specs.Reading.{throwable_of, outcome_of, entry_of, all_of, with_first, single_of, table_of, table_kind_of, link_by, link_of}
use Rattle.jl_host.specs.Reading.{outcomes, is_declarable, runs_declarable, is_shown_whole}

-- ---- rows

thrown_again : (t : Throwable) → throwable_of (throwable_number t) ≡ Some t
thrown_again throwable.NoSuchMethodError = refl
thrown_again throwable.IllegalAccessError = refl
thrown_again throwable.IncompatibleClassChangeError = refl
thrown_again throwable.AbstractMethodError = refl
thrown_again throwable.NullPointerException = refl

outcome_again : (receiver : ℕ) (o : Outcome) → is_declarable o ≡ true → outcome_of (row_of receiver o) ≡ Some o
outcome_again receiver (Run m) h = ap (λ (b : Bool). option_map Run (if b then Some m else None)) h
outcome_again receiver (Throws t) h = ap (option_map Throws) (thrown_again t)

entry_again : (receiver : ℕ) (o : Outcome) → is_declarable o ≡ true → entry_of (row_of receiver o) ≡ Some (receiver, o)
entry_again receiver (Run m) h = ap (option_map (λ o. (receiver, o))) (outcome_again receiver (Run m) h)
entry_again receiver (Throws t) h = ap (option_map (λ o. (receiver, o))) (outcome_again receiver (Throws t) h)

abbrev rows_of : List (ℕ × Outcome) → List Row
rows_of rows = map (λ row. row_of row.0 row.1) rows

all_again : (rows : List (ℕ × Outcome)) → list_all is_declarable (map (λ row. row.1) rows) ≡ true → all_of entry_of (rows_of rows) ≡ Some rows
unfolding all_of
all_again [] h = refl
all_again (row ∷ rows) h =
    let parts = and_parts (is_declarable row.1) (list_all is_declarable (map (λ r. r.1) rows)) h in
    ap (λ (o : Option (ℕ × Outcome)). with_first o (all_of entry_of (rows_of rows))) (entry_again row.0 row.1 parts.0)
    ∙ ap (with_first (Some row)) (all_again rows parts.1)

-- ---- tables

kind_again : (kind : TableKind) → table_kind_of (table_kind kind) ≡ Some kind
kind_again Virtual = refl
kind_again Interface = refl

-- at most eight rows are all there
taken_again : (kind : TableKind) (n : ℕ) (rows : List Row) → length rows ≤ 8
    → table_of kind (with_rows n rows).count (with_rows n rows).rows ≡ option_map (Table kind) (all_of entry_of rows)
taken_again kind n [] few = refl
taken_again kind n (a ∷ []) few = refl
taken_again kind n (a ∷ b ∷ []) few = refl
taken_again kind n (a ∷ b ∷ c ∷ []) few = refl
taken_again kind n (a ∷ b ∷ c ∷ d ∷ []) few = refl
taken_again kind n (a ∷ b ∷ c ∷ d ∷ e ∷ []) few = refl
taken_again kind n (a ∷ b ∷ c ∷ d ∷ e ∷ f ∷ []) few = refl
taken_again kind n (a ∷ b ∷ c ∷ d ∷ e ∷ f ∷ g ∷ []) few = refl
taken_again kind n (a ∷ b ∷ c ∷ d ∷ e ∷ f ∷ g ∷ h ∷ []) few = refl
taken_again kind n (a ∷ b ∷ c ∷ d ∷ e ∷ f ∷ g ∷ h ∷ i ∷ rows) few = absurd (omega (arith, few))

-- ---- links

single_again : (kind : ℕ) (link : Link) (o : Outcome) → single_of kind o ≡ Some link → is_declarable o ≡ true
    → option_and_then (single_of kind) (outcome_of (row_of 0 o)) ≡ Some link
single_again kind link o is h = ap (option_and_then (single_of kind)) (outcome_again 0 o h) ∙ is

direct_again : (o : Outcome) → single_of 3 o ≡ Some (Direct o)
direct_again (Run m) = refl
direct_again (Throws t) = refl

pub read_again : (link : Link) → is_shown_whole link ≡ true → link_of (shown link) ≡ Some link
read_again (Fault t) h = single_again 1 (Fault t) (Throws t) refl refl
read_again (Plain m) h = single_again 2 (Plain m) (Run m) refl (and_parts (is_declarable (Run m)) true h).0
read_again (Direct o) h = single_again 3 (Direct o) o (direct_again o) (and_parts (is_declarable o) true h).0
read_again (Table kind rows) h =
    let outcomes = map (λ (row : ℕ × Outcome). row.1) rows in
    let parts = and_parts (nat_le (length outcomes) 8) (list_all is_declarable outcomes) h in
    let few : length (rows_of rows) ≤ 8 =
    let same = length-map rows (λ (row : ℕ × Outcome). row_of row.0 row.1) in
    let long = length-map rows (λ (row : ℕ × Outcome). row.1) in
    let most = leb-true (length outcomes) 8 parts.0 in
    omega (arith, same, long, most)
    in
    ap (λ (k : Option TableKind). link_by k (shown (Table kind rows))) (kind_again kind)
    ∙ taken_again kind (table_kind kind) (rows_of rows) few
    ∙ ap (option_map (Table kind)) (all_again rows parts.1)
read_again Mega h = refl

-- ---- a link from scratch has at most eight rows

abbrev is_few : Link → Bool
is_few link = nat_le (length (outcomes link)) 8

abbrev is_few_if : Result Link Unlinked → Bool
is_few_if (Ok link) = is_few link
is_few_if (Err reason) = true

few_table : (kind : TableKind) (rows : List (ℕ × Outcome)) → is_few (table_or_mega kind rows) ≡ true
few_table kind rows = by_test (nat_le (length rows) 8) refl
  where
    by_test : (b : Bool) → nat_le (length rows) 8 ≡ b → is_few (if b then Table kind rows else Mega) ≡ true
    by_test true is = ap (λ n. nat_le n 8) (length-map rows (λ (row : ℕ × Outcome). row.1)) ∙ is
    by_test false is = refl

few_either : (b : Bool) (x y : Link) → is_few x ≡ true → is_few y ≡ true → is_few (if b then x else y) ≡ true
few_either true x y h k = h
few_either false x y h k = k

few_virtual : (rows : List (ℕ × Outcome)) → is_few (virtual_link rows) ≡ true
few_virtual [] = refl
few_virtual ((x, Throws t) ∷ rows) = few_table Virtual ((x, Throws t) ∷ rows)
few_virtual ((x, Run m) ∷ rows) =
    few_either (list_all (λ row. runs m row.1) rows) (Direct (Run m)) (table_or_mega Virtual ((x, Run m) ∷ rows)) refl (few_table Virtual ((x, Run m) ∷ rows))

few_selected : (cs : Classes) (i : ResolvedCall) (selector : Selector) → is_few (links.link_by cs i selector) ≡ true
few_selected cs i ByVirtual =
    few_either (is_private cs i.method) (Direct (virtual_outcome cs i.named i.method)) (virtual_link (table_rows cs i)) refl (few_virtual (table_rows cs i))
few_selected cs i ByInterface = few_table Interface (table_rows cs i)
few_selected cs i BySpecial = refl

few_at : (cs : Classes) (at : Stage) → is_few_if (links.link_of cs at) ≡ true
few_at cs (Waits reason) = refl
few_at cs (Fails t) = refl
few_at cs (Calls m) = refl
few_at cs (Selects i) = few_selected cs i i.selector

pub whole_from_scratch : (w : World) (s : ℕ) (link : Link) → scratch w s ≡ Ok link → runs_declarable link ≡ true → is_shown_whole link ≡ true
whole_from_scratch w s link is small = both_true (ap is_few_if (sym is) ∙ few_at w.classes (stage w s)) small
