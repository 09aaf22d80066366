-- The table with the slots of the next entry is shown as it should be; and what a caller finds there.
use Rattle.std.proofs.Common.{◌≡◌, ℕ, List, [], ◌∷◌, ◌++◌, map, replicate, get_or, refl, Option, Some, None, ap, sym, ◌∙◌, subst}
use Rattle.std.proofs.lemmas.List.Sums.{fold-append}
use Rattle.logbook.specs.Pages.{Book}
use Rattle.jl_types.specs.declared.limits.Limits.{Limits}
use Rattle.jl_types.specs.declared.link.Link.{Link}
use Rattle.jl_types.specs.Events.Entries.{Entry}
use Rattle.jl_types.specs.Events.History.{installed}
use Rattle.jl_types.specs.Events.Entries.{IsLegal, written, table_of, classes_of, events_of}
use Rattle.jl_types.proofs.Written.{legal_shows}
use Rattle.jl_server.specs.declared.mark.Tag.{Tag}
use Rattle.std.specs.Option.{unwrap_or}
use Rattle.jl_types.specs.Events.Fast.{fast_answer}
use Rattle.jl_types.specs.declared.answer.Fast.{Fast}
use Rattle.jl_types.specs.declared.answer.Recv.{Recv}
use Rattle.jl_server.specs.declared.table.Table.{Table}
use Rattle.jl_server.specs.declared.table.Change.{Change}
use Rattle.jl_server.specs.declared.table.Content.{Content}
use Rattle.jl_server.specs.ForProofs.Shown.{content, changed, IsShown, Knows, server_of}
use Rattle.jl_server.specs.Calls.{answers_at}

module _ (n : Limits) (t : Content) (c : Change) (xs : List Entry) (e : Entry) (same : t.limits ≡ n) (before : t.list.reached.log ≡ xs)
    (after : c.list.reached.log ≡ xs ++ e ∷ []) (slots : c.slots.items ≡ e.slots) (classes : c.classes ≡ classes_of (xs ++ e ∷ []))
    (legal : IsLegal n (xs ++ e ∷ [])) where
  links_next : t.links ≡ table_of t.limits t.list.reached.log → written t.links c.slots.items ≡ table_of t.limits c.list.reached.log
  links_next is =
      ap (λ (ls : List (Option Link)). written ls c.slots.items) is
      ∙ (ap (λ (zs : List Entry). written (table_of t.limits zs) c.slots.items) before
      ∙ (ap (written (table_of t.limits xs)) slots
      ∙ (sym (fold-append (λ (links : List (Option Link)) (p : Entry). written links p.slots) (replicate t.limits.sites None) xs (e ∷ []))
      ∙ ap (table_of t.limits) (sym after))))

  pub shown_next : IsShown t → IsShown (changed t c)
  shown_next shown = record {
    legal = subst (λ (k : Limits). IsLegal k c.list.reached.log) (sym same) (subst (λ (zs : List Entry). IsLegal n zs) (sym after) legal);
    links = links_next shown.links;
    classes = classes ∙ ap classes_of (sym after);
  }

-- ---- what a caller finds

-- the history and the limits of a known table
found_by : (t : Content) (b : Book) (n : Limits) (v : Option Tag) → server_of v ≡ Some (b, n) → Knows t v → (t.list.reached.book ≡ b) × (t.limits ≡ n)
found_by t b n None is knows = absurd (cc is)
found_by t b n (Some tag) is knows =
    (sym knows.0 ∙ ap (λ (o : Option (Book × Limits)). (unwrap_or o (b, n)).0) is, sym knows.1 ∙ ap (λ (o : Option (Book × Limits)). (unwrap_or o (b, n)).1) is)

module _ (y : Table) where
  pub same_book : (v : Option Tag) (b : Book) (n : Limits) → server_of v ≡ Some (b, n) → Knows (content y) v → y.list.reached.book ≡ b
  same_book v b n is knows = (found_by (content y) b n v is knows).0

  pub legal_shown : (v : Option Tag) (b : Book) (n : Limits) → server_of v ≡ Some (b, n) → Knows (content y) v → IsShown (content y)
      → IsLegal n y.list.reached.log
  legal_shown v b n is knows shown = subst (λ (k : Limits). IsLegal k y.list.reached.log) (found_by (content y) b n v is knows).1 shown.legal

  -- a call there gives the fast answer of what is installed
  pub answer_shown : (s : ℕ) (recv : Recv) (zs : List Entry) (f : Fast) → IsShown (content y) → zs ≡ y.list.reached.log
      → f ≡ fast_answer (get_or y.links s None) y.classes recv → f ≡ fast_answer (installed (events_of zs) s) (classes_of zs) recv
  answer_shown s recv zs f shown same is =
      is ∙ (ap (λ (l : Option Link). fast_answer l y.classes recv) (ap (λ (ls : List (Option Link)). get_or ls s None) shown.links
      ∙ legal_shows y.limits y.list.reached.log shown.legal s)
      ∙ (ap (λ (k : ℕ). fast_answer (installed (events_of y.list.reached.log) s) k recv) shown.classes
      ∙ ap (λ (ws : List Entry). fast_answer (installed (events_of ws) s) (classes_of ws) recv) (sym same)))

  -- so do several
  pub answers_shown : (calls : List (ℕ × Recv)) (zs : List Entry) (fs : List Fast) → IsShown (content y) → zs ≡ y.list.reached.log
      → fs ≡ map (λ call. fast_answer (get_or y.links call.0 None) y.classes call.1) calls → fs ≡ answers_at zs calls
  answers_shown calls zs fs shown same is =
      is ∙ (λ i. map (λ call. answer_shown call.0 call.1 zs (fast_answer (get_or y.links call.0 None) y.classes call.1) shown same refl i) calls)
