-- The steps at the published table keep its rule.
use Rattle.std.proofs.Common.{◌≡◌, ℕ, fold, ◌≢◌, List, [], ◌∷◌, ◌++◌, length, set, Option, Some, None, refl, ap, sym, ◌∙◌, subst, ⊎_elim, arith}
use mathlib.Core.Option.{some}
use lib.ListN.{get_elem?}
use Rattle.left_right.specs.Register.{Admits, TurnsAt, Turns, Forks, Merges}
use Rattle.atomic_table.proofs.Lists.{at_set, at_snoc}
use Rattle.jl_server.specs.declared.mark.Tag.{Tag}
use Rattle.jl_server.specs.declared.table.Table.{Table}
use Rattle.jl_server.specs.declared.table.Change.{Change}
use Rattle.jl_server.specs.declared.table.Content.{Content}
use Rattle.jl_server.specs.ForProofs.Shown.{content, changed, tag_of, IsShown, Knows, Ruled, Publishes, Enters}

pub admits : Admits Ruled None
admits x views h = (
  h.0,
  λ seat v at. ⊎_elim (h.1 seat v) (λ (e : None ≡ v). subst (λ (u : Option Tag). Knows (content x) u) e tt)
      (at_snoc views None v seat at),
)

same_known : (s t : Content) (v : Option Tag) → t.list.reached.book ≡ s.list.reached.book → t.limits ≡ s.limits → Knows s v → Knows t v
same_known s t None book limits knows = tt
same_known s t (Some tag) book limits knows = (knows.0 ∙ sym book, knows.1 ∙ sym limits)

module _ (seat : ℕ) (v : Option Tag) (x y : Table) (book : y.list.reached.book ≡ x.list.reached.book) (limits : y.limits ≡ x.limits) where
  -- a table of the same history, with the same limits
  pub turns : (w : Option Tag) → Knows (content y) w → (IsShown (content x) → IsShown (content y)) → (views : List (Option Tag)) → Ruled x views
      → Ruled y (set views seat w)
  turns w known shown views h = (
    shown h.0,
    λ j u e. ⊎_elim (λ (t : (j ≡ seat) × (w ≡ u)). subst (λ (z : Option Tag). Knows (content y) z) t.1 known)
        (λ (t : (j ≢ seat) × (get_elem? views j ≡ some u)). same_known (content x) (content y) u book limits (h.1 j u t.1)) (at_set views seat j w u e),
  )

  pub publishes : (IsShown (content x) → IsShown (content y)) → TurnsAt Ruled seat v x y Publishes
  publishes shown views h at = (Some (tag_of (content y)), turns (Some (tag_of (content y))) (refl, refl) shown views h, refl)

pub enters : (seat : ℕ) (v : Option Tag) → Turns Ruled seat v (λ x. x) Enters
enters seat v x views h at = (v, turns seat v x x refl refl v (h.1 seat v at) (λ s. s) views h, (refl, h.0, h.1 seat v at))

pub forks : (seat : ℕ) (v : Option Tag) → Forks Ruled seat v v v
forks seat v x views h at =
    let kept = turns seat v x x refl refl v (h.1 seat v at) (λ s. s) views h in (
      h.0,
      λ j u e. ⊎_elim (kept.1 j u) (λ (same : v ≡ u). subst (λ (z : Option Tag). Knows (content x) z) same (h.1 seat v at))
          (at_snoc (set views seat v) v u j e),
    )

-- one seat takes over what another knows, which knows nothing afterwards
pub merges : (seat : ℕ) (v : Option Tag) (other : ℕ) (w : Option Tag) → Merges Ruled seat v other w w None
merges seat v other w x views h at apart there =
    let known : Knows (content x) w = ⊎_elim (λ (t : (other ≡ seat) × (w ≡ w)). absurd (apart t.0))
    (λ (t : (other ≢ seat) × (get_elem? views other ≡ some w)). h.1 other w t.1) (at_set views seat other w w there) in
    turns other w x x refl refl None tt (λ s. s) (set views seat w) (turns seat v x x refl refl w known (λ s. s) views h)

-- the state after a change, as publishing asks for it
pub next_table : (seat : ℕ) (v : Option Tag) (x : Table) (change : Change) → change.list.reached.book ≡ x.list.reached.book
    → (IsShown (content x) → IsShown (changed (content x) change))
    → (y : Table) → content y ≡ changed (content x) change → TurnsAt Ruled seat v x y Publishes
next_table seat v x change book shown y is =
    publishes seat v x y (ap (λ (t : Content). t.list.reached.book) is ∙ book)
    (ap (λ (t : Content). t.limits) is)
    (λ s. subst IsShown (sym is) (shown s))

-- what is pending, where one change was appended to nothing
pub one_change : {A : Type 0} (xs ys : List A) (x y : A) → length xs ≡ 0 → ys ≡ xs ++ x ∷ [] → y ≡ x → ys ≡ y ∷ []
one_change [] ys x y none is same = is ∙ ap (λ z. z ∷ []) (sym same)
one_change (z ∷ xs) ys x y none is same = absurd (omega (arith, none))

-- a writer of which one change is pending
pub next_pending : (seat : ℕ) (v : Option Tag) (x : Table) (pending : List Change) (change : Change) → pending ≡ change ∷ []
    → change.list.reached.book ≡ x.list.reached.book → (IsShown (content x) → IsShown (changed (content x) change))
    → (y : Table) → content y ≡ fold changed (content x) pending → TurnsAt Ruled seat v x y Publishes
next_pending seat v x pending change one book shown y is = next_table seat v x change book shown y (is ∙ ap (fold changed (content x)) one)
