-- A link from scratch gives the answer of the call.
use Rattle.std.specs.Prelude.{◌≡◌, ℕ, ◌==◌, ◌&&◌, ◌||◌, nat_le, Bool, true, false, cond, List, [], ◌∷◌, length, map, filter, find, Some, None}
use Rattle.std.specs.Prelude.{Result, Ok, Err, if◌then◌else◌}
use Rattle.std.specs.List.{list_any, list_all}
use Rattle.std.proofs.Common.{refl, ap, sym, ◌∙◌, arith, inl, inr}
use Rattle.std.proofs.lemmas.Bool.Decides.{Decides-eqb}
use Rattle.std.proofs.lemmas.Bool.{or_cases, and_parts, and_from, both_ways}
use Rattle.std.proofs.lemmas.Cmp.{nat_eq_equiv}
use Rattle.jl_pool.specs.declared.reference.Reference.{Reference}
use Rattle.jl_types.specs.declared.ids.MethodId.{MethodId}
use Rattle.jl_types.specs.declared.answer.Outcome.{Outcome}
use Rattle.jl_types.specs.declared.answer.Outcome.TheVariants as outcome_is
use Rattle.jl_types.specs.declared.answer.Chosen.TheVariants.{Method as Picked}
use Rattle.jl_types.specs.declared.answer.Throwable.{Throwable}
use Rattle.jl_types.specs.declared.answer.Throwable.TheVariants.{NullPointerException, IncompatibleClassChangeError}
use Rattle.jl_types.specs.declared.answer.Unlinked.{Unlinked}
use Rattle.jl_types.specs.declared.answer.Recv.{Recv}
use Rattle.jl_types.specs.declared.answer.Recv.TheVariants.{Null, Of}
use Rattle.jl_types.specs.declared.answer.Answer.{Answer}
use Rattle.jl_types.specs.declared.answer.Answer.TheVariants as answer
use Rattle.jl_types.specs.declared.link.Link.{Link}
use Rattle.jl_types.specs.declared.link.Link.TheVariants.{Fault, Plain, Direct, Table, Mega}
use Rattle.jl_types.specs.declared.link.TableKind.{TableKind}
use Rattle.jl_types.specs.declared.link.TableKind.TheVariants as table
use Rattle.jl_types.specs.Values.World.{World, Classes}
use Rattle.jl_types.specs.Values.Members.{numbers, method_at, is_present, class_test, is_concrete, is_private, is_concrete_row}
use Rattle.jl_types.specs.Values.Ancestry.{is_ancestor, receivers}
use Rattle.jl_types.specs.Linkage.Selection.{virtual_outcome, interface_outcome, interface_ending, special_outcome, chosen, chosen_of, ending}
use Rattle.jl_types.specs.Linkage.Stages.{Selector, ByVirtual, ByInterface, BySpecial, ResolvedCall, Stage, Waits, Fails, Calls, Selects, stage}
use Rattle.jl_types.specs.Linkage.Links.{outcome, table_rows, table_or_mega, virtual_link, runs, link_by, link_of, scratch}
use Rattle.jl_types.specs.Linkage.Calls.{answered, is_receiver, selected, answer_of, dispatch}
use Rattle.jl_types.specs.Events.Fast.{no_entry, entry_answer}
use Rattle.jl_types.proofs.Bools.{any-range-from, any-filter-at}
use Rattle.jl_types.proofs.Lists.{passes_within}

-- installed if the outcome hangs on the receiver
abbrev pub looks : Link → Bool
looks (Fault throwable) = false
looks (Plain m) = false
looks (Direct o) = true
looks (Table kind rows) = true
looks Mega = true

-- ---- without a receiver

pub unlinked_call : (cs : Classes) (stage : Stage) (u : Unlinked) (recv : Recv) → link_of cs stage ≡ Err u → answer_of cs stage recv ≡ answer.Unlinked u
unlinked_call cs (Waits reason) u recv e = cc
unlinked_call cs (Fails throwable) u recv e = cc
unlinked_call cs (Calls m) u recv e = cc
unlinked_call cs (Selects i) u recv e = cc

never_unlinked : (o : Outcome) (u : Unlinked) → answered o ≡ answer.Unlinked u → ⊥
never_unlinked (outcome_is.Run m) u e = cc
never_unlinked (outcome_is.Throws t) u e = cc

branch_unlinked : (b : Bool) (o : Outcome) (u : Unlinked) → (if b then answered o else answer.BadReceiver) ≡ answer.Unlinked u → ⊥
branch_unlinked true o u e = never_unlinked o u e
branch_unlinked false o u e = cc

pub call_unlinked : (cs : Classes) (stage : Stage) (u : Unlinked) (recv : Recv) → answer_of cs stage recv ≡ answer.Unlinked u → link_of cs stage ≡ Err u
call_unlinked cs (Waits reason) u recv e = ap Err (same reason u e)
  where
    same : (a b : Unlinked) → answer.Unlinked a ≡ answer.Unlinked b → a ≡ b
    same a b e = cc
call_unlinked cs (Fails throwable) u recv e = cc
call_unlinked cs (Calls m) u recv e = cc
call_unlinked cs (Selects i) u Null e = cc
call_unlinked cs (Selects i) u (Of x) e = absurd (branch_unlinked (is_receiver cs i x) (outcome cs i x) u e)

-- ---- a link that looks at the receiver is no fault and no plain one

looks_table : (kind : TableKind) (rows : List (ℕ × Outcome)) → looks (table_or_mega kind rows) ≡ true
looks_table kind rows = by_size (nat_le (length rows) 8)
  where
    by_size : (b : Bool) → looks (if b then Table kind rows else Mega) ≡ true
    by_size true = refl
    by_size false = refl

looks_virtual : (rows : List (ℕ × Outcome)) → looks (virtual_link rows) ≡ true
looks_virtual [] = refl
looks_virtual ((x, outcome_is.Throws t) ∷ rows) = looks_table table.Virtual ((x, outcome_is.Throws t) ∷ rows)
looks_virtual ((x, outcome_is.Run m) ∷ rows) = by_same (list_all (λ row. runs m row.1) rows)
  where
    by_same : (b : Bool) → looks (if b then Direct (outcome_is.Run m) else table_or_mega table.Virtual ((x, outcome_is.Run m) ∷ rows)) ≡ true
    by_same true = refl
    by_same false = looks_table table.Virtual ((x, outcome_is.Run m) ∷ rows)

looks_by : (cs : Classes) (i : ResolvedCall) (selector : Selector) → looks (link_by cs i selector) ≡ true
looks_by cs i ByVirtual = by_private (is_private cs i.method)
  where
    by_private : (b : Bool) → looks (if b then Direct (virtual_outcome cs i.named i.method) else virtual_link (table_rows cs i)) ≡ true
    by_private true = refl
    by_private false = looks_virtual (table_rows cs i)
looks_by cs i ByInterface = looks_table table.Interface (table_rows cs i)
looks_by cs i BySpecial = refl

abbrev link_is : Link → Link → Type 0
link_is a b = let l : Result Link Unlinked = Ok a in l ≡ Ok b

ok_same : (a b : Link) → link_is a b → a ≡ b
ok_same a b e = cc

fault_call : (cs : Classes) (stage : Stage) (t : Throwable) (recv : Recv) → link_of cs stage ≡ Ok (Fault t) → answer_of cs stage recv ≡ answer.Throws t
fault_call cs (Waits reason) t recv e = cc
fault_call cs (Fails throwable) t recv e = cc
fault_call cs (Calls m) t recv e = cc
fault_call cs (Selects i) t recv e = absurd (both_ways (looks (link_by cs i i.selector)) (ap looks (ok_same (link_by cs i i.selector) (Fault t) e))
    (looks_by cs i i.selector))

plain_call : (cs : Classes) (stage : Stage) (m : MethodId) (recv : Recv) → link_of cs stage ≡ Ok (Plain m) → answer_of cs stage recv ≡ answer.Run m
plain_call cs (Waits reason) m recv e = cc
plain_call cs (Fails throwable) m recv e = cc
plain_call cs (Calls n) m recv e = cc
plain_call cs (Selects i) m recv e = absurd (both_ways (looks (link_by cs i i.selector)) (ap looks (ok_same (link_by cs i i.selector) (Plain m) e))
    (looks_by cs i i.selector))

pub fault_is_thrown : (w : World) (s : ℕ) (t : Throwable) (recv : Recv) → scratch w s ≡ Ok (Fault t) → dispatch w s recv ≡ answer.Throws t
fault_is_thrown w s t recv e = fault_call w.classes (stage w s) t recv e

pub plain_is_run : (w : World) (s : ℕ) (m : MethodId) (recv : Recv) → scratch w s ≡ Ok (Plain m) → dispatch w s recv ≡ answer.Run m
plain_is_run w s m recv e = plain_call w.classes (stage w s) m recv e

-- ---- with a receiver

abbrev row_is : ℕ → ℕ × Outcome → Bool
row_is x row = row.0 == x

abbrev rows_of : (ℕ → Outcome) → List ℕ → List (ℕ × Outcome)
rows_of g xs = map (λ x. (x, g x)) xs

-- the entry of a number that is among the list
entry_found : (g : ℕ → Outcome) (x : ℕ) (xs : List ℕ) → list_any (λ y. y == x) xs ≡ true → find (row_is x) (rows_of g xs) ≡ Some (x, g x)
entry_found g x [] h = cc
entry_found g x (y ∷ xs) h = by_test (y == x) refl h (entry_found g x xs)
  where
    by_test : (b : Bool) → (y == x) ≡ b → (b || list_any (λ y. y == x) xs) ≡ true
        → (list_any (λ y. y == x) xs ≡ true → find (row_is x) (rows_of g xs) ≡ Some (x, g x))
        → cond b (Some (y, g y)) (find (row_is x) (rows_of g xs)) ≡ Some (x, g x)
    by_test true e h rest = ap (λ (z : ℕ). Some (z, g z)) ((Decides-eqb y x).0 e)
    by_test false e h rest = rest h

no_entry_found : (g : ℕ → Outcome) (x : ℕ) (xs : List ℕ) → list_any (λ y. y == x) xs ≡ false → find (row_is x) (rows_of g xs) ≡ None
no_entry_found g x [] h = refl
no_entry_found g x (y ∷ xs) h = by_test (y == x) h (no_entry_found g x xs)
  where
    by_test : (b : Bool) → (b || list_any (λ y. y == x) xs) ≡ false → (list_any (λ y. y == x) xs ≡ false → find (row_is x) (rows_of g xs) ≡ None)
        → cond b (Some (y, g y)) (find (row_is x) (rows_of g xs)) ≡ None
    by_test true h rest = cc
    by_test false h rest = rest h

-- a number that doesn't pass isn't left by the filter
none_left : (p : ℕ → Bool) (x : ℕ) (xs : List ℕ) → p x ≡ false → list_any (λ y. y == x) (filter p xs) ≡ false
none_left p x [] h = refl
none_left p x (y ∷ xs) h = by_test (p y) refl (none_left p x xs h)
  where
    not_same : (b : Bool) → (y == x) ≡ b → p y ≡ true → b ≡ false
    not_same true e k = absurd (both_ways (p x) h (sym (ap p ((Decides-eqb y x).0 e)) ∙ k))
    not_same false e k = refl

    by_test : (b : Bool) → p y ≡ b → list_any (λ y. y == x) (filter p xs) ≡ false → list_any (λ y. y == x) (cond b (y ∷ filter p xs) (filter p xs)) ≡ false
    by_test true e rest = ap (λ (b : Bool). b || list_any (λ y. y == x) (filter p xs)) (not_same (y == x) refl e) ∙ rest
    by_test false e rest = rest

module _ (cs : Classes) (named x : ℕ) where
  -- the objects that are a named class are of its receivers
  pub among_receivers : is_concrete cs x ≡ true → is_ancestor cs named x ≡ true → list_any (λ y. y == x) (receivers cs named) ≡ true
  among_receivers h k =
      let lt = passes_within is_concrete_row cs.rows x (and_parts (is_present cs x) (class_test is_concrete_row cs x) h).1 in
      let all : list_any (λ y. y == x) (numbers cs) ≡ true = any-range-from (λ y. y == x) 0 (length cs.rows) x (omega arith) (omega arith)
      (nat_eq_equiv.refl x) in
      any-filter-at (λ y. is_concrete cs y && is_ancestor cs named y) (λ y. y == x) x (numbers cs) all
      (and_from (is_concrete cs x) (is_ancestor cs named x) h k) (nat_eq_equiv.refl x)

  pub not_among_receivers : is_ancestor cs named x ≡ false → list_any (λ y. y == x) (receivers cs named) ≡ false
  not_among_receivers h = none_left (λ y. is_concrete cs y && is_ancestor cs named y) x (numbers cs) (and_false (is_concrete cs x) (is_ancestor cs named x) h)
    where
      and_false : (a b : Bool) → b ≡ false → (a && b) ≡ false
      and_false true b h = h
      and_false false b h = refl

-- ---- tables

-- the answer of a table to an object of class x, if the entries are those of the receivers
entry_of : (cs : Classes) (i : ResolvedCall) (kind : TableKind) (x : ℕ) (b : Bool) → is_ancestor cs i.named x ≡ b → is_concrete cs x ≡ true
    → (if b then answered (outcome cs i x) else no_entry kind) ≡ entry_answer kind (find (row_is x) (table_rows cs i))
entry_of cs i kind x true e h = ap (entry_answer kind) (sym (entry_found (outcome cs i) x (receivers cs i.named) (among_receivers cs i.named x h e)))
entry_of cs i kind x false e h = ap (entry_answer kind) (sym (no_entry_found (outcome cs i) x (receivers cs i.named) (not_among_receivers cs i.named x e)))

abbrev invocation : Selector → ℕ → ℕ → Reference (List ℕ) → MethodId → ResolvedCall
invocation selector d named ref m = record { selector = selector; caller = d; named = named; ref = ref; method = m }

table_shown : (kind k : TableKind) (rows rs : List (ℕ × Outcome)) → table_or_mega kind rows ≡ Table k rs → (k ≡ kind) × (rs ≡ rows)
table_shown kind k rows rs e = by_size (nat_le (length rows) 8) e
  where
    by_size : (b : Bool) → (if b then Table kind rows else Mega) ≡ Table k rs → (k ≡ kind) × (rs ≡ rows)
    by_size true e = (cc, cc)
    by_size false e = cc

virtual_shown : (k : TableKind) (rows rs : List (ℕ × Outcome)) → virtual_link rows ≡ Table k rs → (k ≡ table.Virtual) × (rs ≡ rows)
virtual_shown k [] rs e = (cc, cc)
virtual_shown k ((x, outcome_is.Throws t) ∷ rows) rs e = table_shown table.Virtual k ((x, outcome_is.Throws t) ∷ rows) rs e
virtual_shown k ((x, outcome_is.Run m) ∷ rows) rs e = by_same (list_all (λ row. runs m row.1) rows) e
  where
    by_same : (b : Bool) → (if b then Direct (outcome_is.Run m) else table_or_mega table.Virtual ((x, outcome_is.Run m) ∷ rows)) ≡ Table k rs
        → (k ≡ table.Virtual) × (rs ≡ (x, outcome_is.Run m) ∷ rows)
    by_same true e = cc
    by_same false e = table_shown table.Virtual k ((x, outcome_is.Run m) ∷ rows) rs e

entry_same : (k kind : TableKind) (rs rows : List (ℕ × Outcome)) (x : ℕ) → (k ≡ kind) × (rs ≡ rows)
    → entry_answer kind (find (row_is x) rows) ≡ entry_answer k (find (row_is x) rs)
entry_same k kind rs rows x h = λ i. entry_answer (sym h.0 i) (find (row_is x) (sym h.1 i))

if_concrete : (b c : Bool) (a : Answer) → b ≡ true → (if b && c then a else answer.BadReceiver) ≡ (if c then a else answer.BadReceiver)
if_concrete b c a h = ap (λ (b : Bool). if b && c then a else answer.BadReceiver) h

table_call : (cs : Classes) (selector : Selector) (d named : ℕ) (ref : Reference (List ℕ)) (m : MethodId) (x : ℕ) (k : TableKind) (rs : List (ℕ × Outcome))
    → link_by cs (invocation selector d named ref m) selector ≡ Table k rs → is_concrete cs x ≡ true
    → selected cs (invocation selector d named ref m) (Of x) ≡ entry_answer k (find (row_is x) rs)
table_call cs ByVirtual d named ref m x k rs e h = by_private (is_private cs m) e
  where
    by_private : (b : Bool) → (if b then Direct (virtual_outcome cs named m) else virtual_link (table_rows cs (invocation ByVirtual d named ref m))) ≡ Table k
        rs
        → selected cs (invocation ByVirtual d named ref m) (Of x) ≡ entry_answer k (find (row_is x) rs)
    by_private true e = cc
    by_private false e =
        if_concrete (is_concrete cs x) (is_ancestor cs named x) (answered (virtual_outcome cs x m)) h
        ∙ entry_of cs (invocation ByVirtual d named ref m) table.Virtual x (is_ancestor cs named x) refl h
        ∙ entry_same k table.Virtual rs (table_rows cs (invocation ByVirtual d named ref m)) x
        (virtual_shown k (table_rows cs (invocation ByVirtual d named ref m)) rs e)
table_call cs ByInterface d named ref m x k rs e h =
    if_concrete (is_concrete cs x) true (answered (interface_outcome cs x named m)) h
    ∙ by_ancestor (is_ancestor cs named x) refl
    ∙ entry_same k table.Interface rs (table_rows cs (invocation ByInterface d named ref m)) x
    (table_shown table.Interface k (table_rows cs (invocation ByInterface d named ref m)) rs e)
  where
    by_ancestor : (b : Bool) → is_ancestor cs named x ≡ b
        → answered (interface_outcome cs x named m) ≡ entry_answer table.Interface (find (row_is x) (table_rows cs (invocation ByInterface d named ref m)))
    by_ancestor true is = entry_of cs (invocation ByInterface d named ref m) table.Interface x true is h
    by_ancestor false is =
        ap (λ (b : Bool). answered (if b then interface_ending cs (chosen cs x m) else outcome_is.Throws IncompatibleClassChangeError)) is
        ∙ entry_of cs (invocation ByInterface d named ref m) table.Interface x false is h
table_call cs BySpecial d named ref m x k rs e h = cc

-- ---- direct links

runs_same : (m : MethodId) (o : Outcome) → runs m o ≡ true → o ≡ outcome_is.Run m
runs_same m (outcome_is.Run n) h =
    let both = and_parts (m.class == n.class) (m.index == n.index) h in
    λ i. outcome_is.Run (record { class = sym ((Decides-eqb m.class n.class).0 both.0) i; index = sym ((Decides-eqb m.index n.index).0 both.1) i })
runs_same m (outcome_is.Throws t) h = cc

all_run : (m : MethodId) (g : ℕ → Outcome) (x : ℕ) (xs : List ℕ) → list_all (λ row. runs m row.1) (rows_of g xs) ≡ true
    → list_any (λ y. y == x) xs ≡ true → g x ≡ outcome_is.Run m
all_run m g x [] h k = cc
all_run m g x (y ∷ xs) h k =
    let both = and_parts (runs m (g y)) (list_all (λ row. runs m row.1) (rows_of g xs)) h in
    elim (or_cases (y == x) (list_any (λ y. y == x) xs) k) [
      | inl same ↦ sym (ap g ((Decides-eqb y x).0 same)) ∙ runs_same m (g y) both.0
      | inr more ↦ all_run m g x xs both.1 more
    ]

direct_shown : (o : Outcome) (g : ℕ → Outcome) (x : ℕ) (xs : List ℕ) → virtual_link (rows_of g xs) ≡ Direct o → list_any (λ y. y == x) xs ≡ true → g x ≡ o
direct_shown o g x [] e k = cc
direct_shown o g x (y ∷ xs) e k = by_first (g y) refl e
  where
    no_table : (b : Bool) (rows : List (ℕ × Outcome)) → (if b then Table table.Virtual rows else Mega) ≡ Direct o → ⊥
    no_table true rows e = cc
    no_table false rows e = cc

    by_same : (m : MethodId) (b : Bool) → g y ≡ outcome_is.Run m → list_all (λ row. runs m row.1) (rows_of g xs) ≡ b
        → (if b then Direct (outcome_is.Run m) else table_or_mega table.Virtual ((y, outcome_is.Run m) ∷ rows_of g xs)) ≡ Direct o → g x ≡ o
    by_same m true is all e =
        let found : g x ≡ outcome_is.Run m = elim (or_cases (y == x) (list_any (λ y. y == x) xs) k) [
          | inl same ↦ sym (ap g ((Decides-eqb y x).0 same)) ∙ is
          | inr more ↦ all_run m g x xs all more
        ] in found ∙ direct_same (outcome_is.Run m) o e
      where
        direct_same : (a b : Outcome) → Direct a ≡ Direct b → a ≡ b
        direct_same a b e = cc
    by_same m false is all e = absurd (no_table (nat_le (length ((y, outcome_is.Run m) ∷ rows_of g xs)) 8) ((y, outcome_is.Run m) ∷ rows_of g xs) e)

    by_first : (r : Outcome) → g y ≡ r → virtual_link ((y, r) ∷ rows_of g xs) ≡ Direct o → g x ≡ o
    by_first (outcome_is.Throws t) is e = absurd (no_table (nat_le (length ((y, outcome_is.Throws t) ∷ rows_of g xs)) 8) ((y, outcome_is.Throws t)
        ∷ rows_of g xs) e)
    by_first (outcome_is.Run m) is e = by_same m (list_all (λ row. runs m row.1) (rows_of g xs)) is refl e

direct_outcome : (cs : Classes) (selector : Selector) (d named : ℕ) (ref : Reference (List ℕ)) (m : MethodId) (x : ℕ) (o : Outcome)
    → link_by cs (invocation selector d named ref m) selector ≡ Direct o → is_receiver cs (invocation selector d named ref m) x ≡ true
    → outcome cs (invocation selector d named ref m) x ≡ o
direct_outcome cs ByVirtual d named ref m x o e h = by_private (is_private cs m) refl e
  where
    both : (is_concrete cs x ≡ true) × (is_ancestor cs named x ≡ true)
    both = and_parts (is_concrete cs x) (is_ancestor cs named x) h

    direct_same : (a b : Outcome) → Direct a ≡ Direct b → a ≡ b
    direct_same a b e = cc

    by_private : (b : Bool) → is_private cs m ≡ b
        → (if b then Direct (virtual_outcome cs named m) else virtual_link (table_rows cs (invocation ByVirtual d named ref m))) ≡ Direct o
        → virtual_outcome cs x m ≡ o
    by_private true is e =
        ap (λ (b : Bool). ending cs (if b then Picked m else chosen_of cs x m (method_at cs m))) is
        ∙ sym (ap (λ (b : Bool). ending cs (if b then Picked m else chosen_of cs named m (method_at cs m))) is)
        ∙ direct_same (virtual_outcome cs named m) o e
    by_private false is e = direct_shown o (λ x. virtual_outcome cs x m) x (receivers cs named) e (among_receivers cs named x both.0 both.1)
direct_outcome cs ByInterface d named ref m x o e h = absurd (no_direct (nat_le (length (table_rows cs (invocation ByInterface d named ref m))) 8) e)
  where
    no_direct : (b : Bool) → (if b then Table table.Interface (table_rows cs (invocation ByInterface d named ref m)) else Mega) ≡ Direct o → ⊥
    no_direct true e = cc
    no_direct false e = cc
direct_outcome cs BySpecial d named ref m x o e h = direct_same (special_outcome cs d named ref) o e
  where
    direct_same : (a b : Outcome) → Direct a ≡ Direct b → a ≡ b
    direct_same a b e = cc

-- ---- of a site

pub null_is_thrown : (w : World) (s : ℕ) (i : ResolvedCall) → stage w s ≡ Selects i → dispatch w s Null ≡ answer.Throws NullPointerException
null_is_thrown w s i e = ap (λ (st : Stage). answer_of w.classes st Null) e

pub table_answers : (w : World) (s x : ℕ) (k : TableKind) (rows : List (ℕ × Outcome)) → scratch w s ≡ Ok (Table k rows) → is_concrete w.classes x ≡ true
    → dispatch w s (Of x) ≡ entry_answer k (find (row_is x) rows)
table_answers w s x k rows e h = by_stage (stage w s) e
  where
    by_stage : (st : Stage) → link_of w.classes st ≡ Ok (Table k rows) → answer_of w.classes st (Of x) ≡ entry_answer k (find (row_is x) rows)
    by_stage (Waits reason) e = cc
    by_stage (Fails throwable) e = cc
    by_stage (Calls m) e = cc
    by_stage (Selects i) e = table_call w.classes i.selector i.caller i.named i.ref i.method x k rows
        (ok_same (link_by w.classes i i.selector) (Table k rows) e) h

pub direct_answers : (w : World) (s x : ℕ) (i : ResolvedCall) (o : Outcome) → stage w s ≡ Selects i → scratch w s ≡ Ok (Direct o)
    → is_receiver w.classes i x ≡ true → dispatch w s (Of x) ≡ answered o
direct_answers w s x i o is e h =
    let link : link_by w.classes i i.selector ≡ Direct o = ok_same (link_by w.classes i i.selector) (Direct o) (sym (ap (link_of w.classes) is) ∙ e) in
    ap (λ (st : Stage). answer_of w.classes st (Of x)) is
    ∙ ap (λ (b : Bool). if b then answered (outcome w.classes i x) else answer.BadReceiver) h
    ∙ ap answered (direct_outcome w.classes i.selector i.caller i.named i.ref i.method x o link h)
