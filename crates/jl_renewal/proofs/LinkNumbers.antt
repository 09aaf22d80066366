-- New numbers tell links apart, where they tell the classes apart that these name.
use Rattle.std.specs.Prelude.{◌≡◌, ◌||◌, ℕ, Bool, true, false, List, [], ◌∷◌, map, Option, Some, None, option_map, Result, Ok, Err, if◌then◌else◌}
use Rattle.std.specs.Bool.{one_answer}
use Rattle.std.proofs.Common.{refl, sym, ap, subst, ◌∙◌}
use Rattle.std.proofs.lemmas.Bool.Decides.{Decides-like}
use Rattle.jl_types.specs.declared.ids.MethodId.{MethodId}
use Rattle.jl_types.specs.declared.answer.Outcome.{Outcome}
use Rattle.jl_types.specs.declared.answer.Outcome.TheVariants.{Run, Throws}
use Rattle.jl_types.specs.declared.answer.Unlinked.{Unlinked}
use Rattle.jl_types.specs.declared.link.Link.{Link}
use Rattle.jl_types.specs.declared.link.Link.TheVariants.{Fault, Plain, Direct, Table, Mega}
use Rattle.jl_types.specs.declared.link.TableKind.{TableKind}
use Rattle.jl_types.specs.ForProofs.SameLink.{link_decides}
use Rattle.jl_types.specs.Values.World.{Classes}
use Rattle.jl_types.specs.Values.Members.{is_present}
use Rattle.jl_types.specs.Linkage.Links.{same_link}
use Rattle.jl_types.specs.Events.History.{kept}
use Rattle.jl_renewal.specs.Numbers.{Numbers, renumbered}
use Rattle.jl_renewal.specs.Renewed.{renumbered_method, renumbered_outcome, renumbered_row, renumbered_link, renumbered_result}
use Rattle.jl_renewal.proofs.LinkClasses.{IsOutcomeThere, AreRowsThere, IsLinkThere, IsResultThere}

abbrev Row : Type 0
Row = ℕ × Outcome

same_run : (a b : MethodId) → Run a ≡ Run b → a ≡ b
same_run a b e = cc

same_plain : (a b : MethodId) → Plain a ≡ Plain b → a ≡ b
same_plain a b e = cc

same_direct : (a b : Outcome) → Direct a ≡ Direct b → a ≡ b
same_direct a b e = cc

same_table : (k j : TableKind) (xs ys : List Row) → Table k xs ≡ Table j ys → (k ≡ j) × (xs ≡ ys)
same_table k j xs ys e =
    let kind : k ≡ j = cc in
    let rows : xs ≡ ys = cc in
    (kind, rows)

same_cons : (x y : Row) (xs ys : List Row) → ◌≡◌ {A = List Row} (x ∷ xs) (y ∷ ys) → (x ≡ y) × (xs ≡ ys)
same_cons x y xs ys e =
    let first : x ≡ y = cc in
    let rest : xs ≡ ys = cc in
    (first, rest)

-- links of two worlds, each under numbers of its own, which are the same for each class that is present in both
module _ (n m : Numbers) (cs ds : Classes)
    (one : (c d : ℕ) → is_present cs c ≡ true → is_present ds d ≡ true → renumbered n.classes c ≡ renumbered m.classes d → c ≡ d)
    (same : (c : ℕ) → is_present cs c ≡ true → is_present ds c ≡ true → renumbered n.classes c ≡ renumbered m.classes c) where
  -- ---- two that are the same under new numbers are the same

  method_one : (a b : MethodId) → is_present cs a.class ≡ true → is_present ds b.class ≡ true → renumbered_method n a ≡ renumbered_method m b → a ≡ b
  method_one a b pa pb e =
      let class = one a.class b.class pa pb (ap (λ (x : MethodId). x.class) e) in
      let index = ap (λ (x : MethodId). x.index) e in
      λ i. record { class = class i; index = index i }

  outcome_one : (a b : Outcome) → IsOutcomeThere cs a → IsOutcomeThere ds b → renumbered_outcome n a ≡ renumbered_outcome m b → a ≡ b
  outcome_one (Run a) (Run b) pa pb e = ap Run (method_one a b pa pb (same_run (renumbered_method n a) (renumbered_method m b) e))
  outcome_one (Run a) (Throws t) pa pb e = cc
  outcome_one (Throws t) (Run b) pa pb e = cc
  outcome_one (Throws t) (Throws u) pa pb e = e

  rows_one : (xs ys : List Row) → AreRowsThere cs xs → AreRowsThere ds ys
      → ◌≡◌ {A = List Row} (map (renumbered_row n) xs) (map (renumbered_row m) ys) → xs ≡ ys
  rows_one [] [] px py e = refl
  rows_one [] (y ∷ ys) px py e = cc
  rows_one (x ∷ xs) [] px py e = cc
  rows_one (x ∷ xs) (y ∷ ys) px py e =
      let parts = same_cons (renumbered_row n x) (renumbered_row m y) (map (renumbered_row n) xs) (map (renumbered_row m) ys) e in
      let class = one x.0 y.0 px.0 py.0 (ap (λ (r : Row). r.0) parts.0) in
      let outcome = outcome_one x.1 y.1 px.1 py.1 (ap (λ (r : Row). r.1) parts.0) in
      let rest = rows_one xs ys px.2 py.2 parts.1 in
      λ i. (class i, outcome i) ∷ rest i

  link_one : (l k : Link) → IsLinkThere cs l → IsLinkThere ds k → renumbered_link n l ≡ renumbered_link m k → l ≡ k
  link_one (Fault t) (Fault u) pl pk e = e
  link_one (Plain a) (Plain b) pl pk e = ap Plain (method_one a b pl pk (same_plain (renumbered_method n a) (renumbered_method m b) e))
  link_one (Direct a) (Direct b) pl pk e = ap Direct (outcome_one a b pl pk (same_direct (renumbered_outcome n a) (renumbered_outcome m b) e))
  link_one (Table k xs) (Table j ys) pl pk e =
      let parts = same_table k j (map (renumbered_row n) xs) (map (renumbered_row m) ys) e in
      let rows = rows_one xs ys pl pk parts.1 in
      λ i. Table (parts.0 i) (rows i)
  link_one Mega Mega pl pk e = refl
  link_one _ _ pl pk e = cc

  -- ---- and one has the same new numbers by both

  method_still : (a : MethodId) → is_present cs a.class ≡ true → is_present ds a.class ≡ true → renumbered_method n a ≡ renumbered_method m a
  method_still a pa pb = ap (λ (c : ℕ). record a { class = c }) (same a.class pa pb)

  outcome_still : (a : Outcome) → IsOutcomeThere cs a → IsOutcomeThere ds a → renumbered_outcome n a ≡ renumbered_outcome m a
  outcome_still (Run a) pa pb = ap Run (method_still a pa pb)
  outcome_still (Throws t) pa pb = refl

  rows_still : (xs : List Row) → AreRowsThere cs xs → AreRowsThere ds xs → map (renumbered_row n) xs ≡ map (renumbered_row m) xs
  rows_still [] px py = refl
  rows_still (x ∷ xs) px py =
      let class = same x.0 px.0 py.0 in
      let outcome = outcome_still x.1 px.1 py.1 in
      let rest = rows_still xs px.2 py.2 in
      λ i. (class i, outcome i) ∷ rest i

  link_still : (l : Link) → IsLinkThere cs l → IsLinkThere ds l → renumbered_link n l ≡ renumbered_link m l
  link_still (Fault t) pl pk = refl
  link_still (Plain a) pl pk = ap Plain (method_still a pl pk)
  link_still (Direct a) pl pk = ap Direct (outcome_still a pl pk)
  link_still (Table k xs) pl pk = ap (Table k) (rows_still xs pl pk)
  link_still Mega pl pk = refl

  -- ---- so what an event leaves of a link is the same under new numbers

  links_same : (l k : Link) → IsLinkThere cs l → IsLinkThere ds k → same_link (renumbered_link n l) (renumbered_link m k) ≡ same_link l k
  links_same l k pl pk =
      one_answer (same_link (renumbered_link n l) (renumbered_link m k)) (same_link l k)
      (Decides-like (same_link (renumbered_link n l) (renumbered_link m k)) (link_one l k pl pk)
      (λ e. link_still l pl (subst (IsLinkThere ds) (sym e) pk) ∙ ap (renumbered_link m) e)
      (link_decides (renumbered_link n l) (renumbered_link m k)))
      (link_decides l k)

  either : (b : Bool) (k : Link) → (if b then Some (renumbered_link m k) else None) ≡ option_map (renumbered_link m) (if b then Some k else None)
  either true k = refl
  either false k = refl

  pub kept_same : (b : Bool) (o : Option Link) (r : Result Link Unlinked) → ((l : Link) → o ≡ Some l → IsLinkThere cs l) → IsResultThere ds r
      → kept b (option_map (renumbered_link n) o) (renumbered_result m r) ≡ option_map (renumbered_link m) (kept b o r)
  kept_same b o (Err reason) had now = refl
  kept_same b None (Ok k) had now = either (b || false) k
  kept_same b (Some l) (Ok k) had now =
      ap (λ (c : Bool). if b || c then Some (renumbered_link m k) else None) (links_same l k (had l refl) now) ∙ either (b || same_link l k) k

  -- where there is another link only if that is the one under new numbers, so it stays
  pub kept_only : (b : Bool) (o q : Option Link) (r : Result Link Unlinked) → ((l : Link) → q ≡ Some l → option_map (renumbered_link n) o ≡ Some l)
      → ((l : Link) → o ≡ Some l → IsLinkThere cs l) → IsResultThere ds r → (l : Link) → kept b q (renumbered_result m r) ≡ Some l
      → option_map (renumbered_link m) (kept b o r) ≡ Some l
  kept_only b o q (Err reason) only had now l e = cc
  kept_only b o None (Ok k) only had now l e = by_test b e
    where
      by_test : (b : Bool) → kept b None (Ok (renumbered_link m k)) ≡ Some l → option_map (renumbered_link m) (kept b o (Ok k)) ≡ Some l
      by_test true e = e
      by_test false e = cc
  kept_only b o (Some j) (Ok k) only had now l e =
      sym (kept_same b o (Ok k) had now) ∙ (ap (λ (q : Option Link). kept b q (Ok (renumbered_link m k))) (only j refl) ∙ e)
