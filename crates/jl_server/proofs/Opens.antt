-- The first table, and a change of nothing.
use Rattle.std.proofs.Common.{◌≡◌, ℕ, zero, suc, List, [], ◌∷◌, replicate, Option, Some, None, ap, sym, ◌∙◌, subst}
use mathlib.Core.Option.{some}
use lib.ListN.{get_elem?}
use Rattle.logbook.specs.Pages.{Book}
use Rattle.jl_types.specs.declared.limits.Limits.{Limits}
use Rattle.jl_types.specs.Events.Entries.{Entry}
use Rattle.jl_types.specs.Events.Entries.{IsLegal, table_of, classes_of, written}
use Rattle.jl_server.specs.declared.mark.Tag.{Tag}
use Rattle.jl_server.specs.declared.table.Table.{Table}
use Rattle.jl_server.specs.declared.table.Change.{Change}
use Rattle.jl_server.specs.declared.table.Content.{Content}
use Rattle.jl_server.specs.ForProofs.Shown.{content, changed, tag_of, server_of, IsShown, Knows, Ruled}
use Rattle.jl_types.proofs.Legal.{legal_none}

shown_first : (t : Content) → t.links ≡ replicate t.limits.sites None → t.classes ≡ 0 → t.list.reached.log ≡ [] → IsShown t
shown_first t links classes log = record {
  legal = subst (λ (zs : List Entry). IsLegal t.limits zs) (sym log) (legal_none t.limits);
  links = links ∙ ap (table_of t.limits) (sym log);
  classes = classes ∙ ap classes_of (sym log);
}

only : (x : Table) (seat : ℕ) (v : Option Tag) → get_elem? (None ∷ []) seat ≡ some v → Knows (content x) v
only x zero v at = let e : ◌≡◌ {A = Option Tag} None v = cc at in subst (λ (u : Option Tag). Knows (content x) u) e tt
only x (suc seat) v at = absurd (cc at)

pub opens : (limits : Limits) (x : Table) → x.limits ≡ limits → x.links ≡ replicate limits.sites None → x.classes ≡ 0 → x.list.reached.log ≡ []
    → Ruled x (None ∷ [])
opens limits x same links classes log =
    (shown_first (content x) (links ∙ ap (λ (k : Limits). replicate k.sites None) (sym same)) classes log, only x)

-- a change of nothing leaves a first table one
pub blank : (t : Content) (c : Change) → t.list.reached.log ≡ [] → c.slots.items ≡ [] → c.classes ≡ 0 → c.list.reached.log ≡ [] → IsShown t
    → IsShown (changed t c)
blank t c first slots classes log shown = record {
  legal = subst (λ (zs : List Entry). IsLegal t.limits zs) (sym log) (legal_none t.limits);
  links = ap (written t.links) slots ∙ (shown.links ∙ ap (table_of t.limits) (first ∙ sym log));
  classes = classes ∙ ap classes_of (sym log);
}

-- which server it is that shows a change
pub known_server : (b : Book) (n : Limits) (t u : Content) (c : Change) (v : Option Tag) → u ≡ changed t c → v ≡ Some (tag_of u) → t.limits ≡ n
    → c.list.reached.book ≡ b → server_of v ≡ Some (b, n)
known_server b n t u c v is known limits book =
    ap server_of (known ∙ ap (λ (s : Content). Some (tag_of s)) is) ∙ (λ i. Some (book i, limits i))

-- two tables with one content
pub alike : (x y : Table) → x.limits ≡ y.limits → x.links ≡ y.links → x.classes ≡ y.classes → x.list ≡ y.list → content x ≡ content y
alike x y limits p q r i = record { limits = limits i; links = p i; classes = q i; list = r i }
