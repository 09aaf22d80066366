-- The links of an old core under new numbers are the fresh rows of a renewal, and none has a table of more than eight rows.
use Rattle.std.specs.Prelude.{◌≡◌, ◌&&◌, ℕ, zero, suc, nat_le, Bool, true, false, ⊤, Contains, List, [], ◌∷◌, length, Option, Some, None}
use Rattle.std.specs.Prelude.{option_map, option_and_then, Result, Ok, Err, if◌then◌else◌}
use Rattle.std.specs.List.{list_all, cons_option}
use Rattle.std.proofs.Common.{refl, sym, ap, subst, ◌∙◌, arith}
use Rattle.jl_types.specs.declared.answer.Outcome.{Outcome}
use Rattle.jl_types.specs.declared.answer.Outcome.TheVariants.{Run, Throws}
use Rattle.jl_types.specs.declared.answer.Unlinked.{Unlinked}
use Rattle.jl_types.specs.declared.link.Link.{Link}
use Rattle.jl_types.specs.declared.link.Link.TheVariants.{Direct, Table, Mega}
use Rattle.jl_types.specs.declared.link.TableKind.{TableKind}
use Rattle.jl_types.specs.declared.link.TableKind.TheVariants as table
use Rattle.jl_types.specs.Values.World.{World, Classes}
use Rattle.jl_types.specs.Values.Members.{is_private}
use Rattle.jl_types.specs.Linkage.Selection.{virtual_outcome}
use Rattle.jl_types.specs.Linkage.Stages.{Selector, ByVirtual, ByInterface, BySpecial, ResolvedCall, Stage, Waits, Fails, Calls, Selects, stage}
use Rattle.jl_types.specs.Linkage.Links.{table_rows, table_or_mega, runs, virtual_link, link_by, link_of, scratch}
use Rattle.jl_types.proofs.Installed.{installed_to, settled_now}
use Rattle.jl_types.proofs.InstalledLinks.{links_are}
use Rattle.jl_relink.specs.Laws.{AreAccepted, has_read_file}
use Rattle.jl_core.specs.State.{State, events, world_of, links_of, AreAnswered}
use Rattle.jl_core.specs.Logs.{Entry}
use Rattle.jl_renewal.specs.declared.released.Released.{Released}
use Rattle.jl_renewal.specs.Numbers.{Numbers, new_number}
use Rattle.jl_renewal.specs.Staying.{numbers_of}
use Rattle.jl_renewal.specs.Renewal.{row_of, fresh_row, fresh_rows, IsRefilled}
use Rattle.jl_renewal.specs.Renewed.{renewed, renumbered_link, renumbered_at, renumbered_links, has_few_rows}
use Rattle.jl_renewal.proofs.ComeOver.{comes}
use Rattle.jl_renewal.proofs.RenewalPhases.{all_accepted}

-- ---- few rows

-- of a link, if there is one
abbrev IsFew : Result Link Unlinked → Type 0
IsFew (Ok l) = has_few_rows l ≡ true
IsFew (Err reason) = ⊤

table_few : (kind : TableKind) (rows : List (ℕ × Outcome)) → has_few_rows (table_or_mega kind rows) ≡ true
table_few kind rows = by_test (nat_le (length rows) 8) refl
  where
    by_test : (b : Bool) → nat_le (length rows) 8 ≡ b → has_few_rows (if b then Table kind rows else Mega) ≡ true
    by_test true is = is
    by_test false is = refl

virtual_few : (rows : List (ℕ × Outcome)) → has_few_rows (virtual_link rows) ≡ true
virtual_few [] = refl
virtual_few ((x, Throws throwable) ∷ rows) = table_few table.Virtual ((x, Throws throwable) ∷ rows)
virtual_few ((x, Run m) ∷ rows) = by_test (list_all (λ row. runs m row.1) rows)
  where
    by_test : (b : Bool) → has_few_rows (if b then Direct (Run m) else table_or_mega table.Virtual ((x, Run m) ∷ rows)) ≡ true
    by_test true = refl
    by_test false = table_few table.Virtual ((x, Run m) ∷ rows)

call_few : (cs : Classes) (call : ResolvedCall) (selector : Selector) → has_few_rows (link_by cs call selector) ≡ true
call_few cs call ByVirtual = by_test (is_private cs call.method)
  where
    by_test : (b : Bool) → has_few_rows (if b then Direct (virtual_outcome cs call.named call.method) else virtual_link (table_rows cs call)) ≡ true
    by_test true = refl
    by_test false = virtual_few (table_rows cs call)
call_few cs call ByInterface = table_few table.Interface (table_rows cs call)
call_few cs call BySpecial = refl

result_few : (cs : Classes) (t : Stage) → IsFew (link_of cs t)
result_few cs (Waits reason) = tt
result_few cs (Fails throwable) = refl
result_few cs (Calls m) = refl
result_few cs (Selects i) = call_few cs i i.selector

link_few : (w : World) (s : ℕ) (l : Link) → scratch w s ≡ Ok l → has_few_rows l ≡ true
link_few w s l is = subst IsFew is (result_few w.classes (stage w s))

-- a test that each of these passes
all_pass : {A : Type 0} (test : A → Bool) (xs : List A) → ((x : A) → Contains xs x → test x ≡ true) → list_all test xs ≡ true
all_pass test [] each = refl
all_pass test (x ∷ xs) each =
    let first = each x (zero, omega arith, refl) in
    let rest = all_pass test xs (λ y c. each y (suc c.0, let lt = c.1 in omega (arith, lt), c.2)) in
    λ i. first i && rest i

-- each link of a core is of few rows
pub links_few : (core : State) → list_all (λ row. has_few_rows row.1) (links_of core) ≡ true
links_few core =
    all_pass (λ (row : ℕ × Link). has_few_rows row.1) (links_of core)
    (λ row c.
    let is = (links_are (events core) row.0 row.1).1 c in
    link_few (world_of core) row.0 row.1 (settled_now (events core) row.0 row.1 (installed_to (events core) row.0 row.1 is)))

-- ---- the rows of a renewal

module _ (v : World) (n : Numbers) where
  same_row : (row : ℕ × Link) → ((k : ℕ) → new_number n.sites row.0 ≡ Some k → scratch v k ≡ Ok (renumbered_link n row.1))
      → fresh_row v n row ≡ renumbered_at n row
  same_row row come = by_number (new_number n.sites row.0) refl
    where
      by_number : (o : Option ℕ) → new_number n.sites row.0 ≡ o
          → option_and_then (λ s. row_of s (scratch v s)) o ≡ option_map (λ s. (s, renumbered_link n row.1)) o
      by_number None is = refl
      by_number (Some k) is = ap (row_of k) (come k is)

  same_rows : (rows : List (ℕ × Link))
      → ((row : ℕ × Link) → Contains rows row → (k : ℕ) → new_number n.sites row.0 ≡ Some k → scratch v k ≡ Ok (renumbered_link n row.1))
      → fresh_rows v n rows ≡ renumbered_links n rows
  same_rows [] come = refl
  same_rows (row ∷ rows) come =
      let first = same_row row (come row (zero, omega arith, refl)) in
      let rest = same_rows rows (λ r c. come r (suc c.0, let lt = c.1 in omega (arith, lt), c.2)) in
      λ i. cons_option (first i) (rest i)

module _ (old : State) (released : Released) (accepted : AreAccepted old.limits (events old)) where
  -- in what stays of the old world
  pub come_over : fresh_rows (renewed (world_of old) released) (numbers_of (world_of old) released) (links_of old)
      ≡ renumbered_links (numbers_of (world_of old) released) (links_of old)
  come_over =
      same_rows (renewed (world_of old) released) (numbers_of (world_of old) released) (links_of old)
      (λ row c k has. comes old released accepted row.0 k row.1 c has)

  -- and so in a core that was refilled
  pub rows_come : (before fresh : State) (entries : List Entry) (n : Numbers) → IsRefilled (world_of old) entries released n before fresh
      → fresh_rows (world_of fresh) n (links_of old) ≡ renumbered_links n (links_of old)
  rows_come before fresh entries n refilled =
      (λ i. fresh_rows (refilled.world i) (refilled.numbers i) (links_of old))
      ∙ (come_over ∙ ap (λ (m : Numbers). renumbered_links m (links_of old)) (sym refilled.numbers))

-- so it is of the links of a core that is renewed
pub rows_told : (core : State) (released : Released) (w : World) (entries : List Entry) (n : Numbers) (before fresh : State)
    (rows linked : List (ℕ × Link)) → AreAnswered core → list_all has_read_file (events core) ≡ true → w ≡ world_of core
    → IsRefilled w entries released n before fresh → rows ≡ renumbered_links n linked → linked ≡ links_of core → rows ≡ fresh_rows (world_of fresh) n linked
rows_told core released w entries n before fresh rows linked answered files world refilled are is =
    let accepted : AreAccepted core.limits (events core) = record { each = all_accepted core answered; files = files } in
    let here = subst (λ (v : World). IsRefilled v entries released n before fresh) world refilled in
    are ∙ (ap (renumbered_links n) is ∙ (sym (rows_come core released accepted before fresh entries n here) ∙ ap (fresh_rows (world_of fresh) n) (sym is)))
