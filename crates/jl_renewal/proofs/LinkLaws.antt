-- What the installs of a renewal leave installed.
use Rattle.std.specs.Prelude.{◌≡◌, ◌↔◌, ℕ, zero, suc, ◌<◌, ◌≤◌, ◌==◌, ◌||◌, Bool, true, false, List, [], ◌∷◌, ◌++◌, map, take, drop, length, get_or}
use Rattle.std.specs.Prelude.{Option, Some, None, Result, Ok, Err}
use Rattle.std.specs.Prelude.{option_and_then, fold, Contains, if◌then◌else◌}
use Rattle.std.specs.List.{cons_option, list_any}
use Rattle.std.proofs.Common.{refl, sym, ap, ◌∙◌, arith, append_assoc, length-drop}
use Rattle.std.proofs.lemmas.Bool.Decides.{Decides-eqb}
use Rattle.std.proofs.lemmas.Option.{same_Some}
use Rattle.std.proofs.lemmas.List.{append-nil, take-append-drop}
use Rattle.std.proofs.lemmas.List.Sums.{fold-append}
use Rattle.std.proofs.lemmas.List.Folds.{list_any-append}
use Rattle.jl_types.specs.declared.link.Link.{Link}
use Rattle.jl_types.specs.declared.answer.Unlinked.{Unlinked}
use Rattle.jl_types.specs.declared.event.EventOf.TheVariants as event
use Rattle.jl_types.specs.Values.World.{World, nothing_yet}
use Rattle.jl_types.specs.Linkage.Links.{scratch}
use Rattle.jl_types.specs.ForProofs.SameLink.{link_decides}
use Rattle.jl_types.specs.Events.Event.{Event}
use Rattle.jl_types.specs.Events.Verdict.{step}
use Rattle.jl_types.specs.Events.History.{world_after, installed, installed_links, has_link, kept}
use Rattle.jl_types.proofs.Installed.{installed_to, settled_now, kept_none, kept_link}
use Rattle.jl_types.proofs.InstalledLinks.{links_are}
use Rattle.jl_types.proofs.OneMore.{installed_step}
use Rattle.jl_renewal.specs.Numbers.{Numbers, new_number}
use Rattle.jl_renewal.specs.Adds.{HasCome}
use Rattle.jl_renewal.specs.Renewal.{AreBatches, row_of, fresh_row, fresh_rows}
use Rattle.jl_renewal.proofs.QuietLaws.{IsQuiet, none_there}

abbrev Row : Type 0
Row = ℕ × Link

-- ---- installs change no world

idle : (w : World) (batches : List (List Row)) → fold step w (map event.Install batches) ≡ w
idle w [] = refl
idle w (batch ∷ batches) = idle w batches

pub same_world : (h : List Event) (batches : List (List Row)) → world_after (h ++ map event.Install batches) ≡ world_after h
same_world h batches = fold-append step nothing_yet h (map event.Install batches) ∙ idle (world_after h) batches

-- ---- what is installed after them

abbrev at : ℕ → Row → Bool
at k row = row.0 == k

abbrev among : ℕ → List (List Row) → Bool
among k batches = list_any (list_any (at k)) batches

kept_twice : (first second : Bool) (o : Option Link) (r : Result Link Unlinked) → kept second (kept first o r) r ≡ kept (first || second) o r
kept_twice first second o (Err reason) = refl
kept_twice first second o (Ok l) = by_tests first second (has_link o l)
  where
    by_tests : (b c d : Bool)
        → (if c || has_link (if b || d then Some l else None) l then Some l else None) ≡ (if (b || c) || d then Some l else None)
    by_tests true true d = refl
    by_tests true false d = ap (λ (x : Bool). if x then Some l else None) ((link_decides l l).1 refl)
    by_tests false true d = refl
    by_tests false false true = ap (λ (x : Bool). if x then Some l else None) ((link_decides l l).1 refl)
    by_tests false false false = refl

kept_so : (h : List Event) (k : ℕ) → installed h k ≡ kept false (installed h k) (scratch (world_after h) k)
kept_so h k = by_link (installed h k) refl
  where
    by_link : (o : Option Link) → installed h k ≡ o → o ≡ kept false o (scratch (world_after h) k)
    by_link None e = sym (kept_none (scratch (world_after h) k))
    by_link (Some l) e = sym (ap (kept false (Some l)) (settled_now h k l (installed_to h k l e)) ∙ kept_link l)

pub after_batches : (k : ℕ) (batches : List (List Row)) (h : List Event)
    → installed (h ++ map event.Install batches) k ≡ kept (among k batches) (installed h k) (scratch (world_after h) k)
after_batches k [] h = ap (λ (es : List Event). installed es k) (append-nil h) ∙ kept_so h k
after_batches k (batch ∷ batches) h =
    ap (λ (es : List Event). installed es k) (sym (append_assoc h (event.Install batch ∷ []) (map event.Install batches)))
    ∙ (after_batches k batches (h ++ event.Install batch ∷ [])
    ∙ (ap (λ (w : World). kept (among k batches) (installed (h ++ event.Install batch ∷ []) k) (scratch w k)) (same_world h (batch ∷ []))
    ∙ (ap (λ (o : Option Link). kept (among k batches) o (scratch (world_after h) k))
    (installed_step h (event.Install batch) k
    ∙ ap (λ (w : World). kept (list_any (at k) batch) (installed h k) (scratch w k)) (same_world h (batch ∷ [])))
    ∙ kept_twice (list_any (at k) batch) (among k batches) (installed h k) (scratch (world_after h) k))))

-- ---- the batches are the rows

pub in_rows : (k : ℕ) (batches : List (List Row)) (rows : List Row) → AreBatches batches rows → among k batches ≡ list_any (at k) rows
in_rows k [] rows none = ap (list_any (at k)) (sym none)
in_rows k (batch ∷ batches) rows are =
    ap (λ (first : List Row). list_any (at k) first || among k batches) are.1
    ∙ (ap (λ (b : Bool). list_any (at k) (take 256 rows) || b) (in_rows k batches (drop 256 rows) are.2)
    ∙ (sym (list_any-append (at k) (take 256 rows) (drop 256 rows)) ∙ ap (list_any (at k)) (take-append-drop 256 rows)))

batched : (most : ℕ) (rows : List Row) → length rows ≤ most → (batches : List (List Row)) × AreBatches batches rows
batched most [] le = ([], refl)
batched zero (row ∷ rows) le = absurd (omega (arith, le))
batched (suc most) (row ∷ rows) le =
    let fewer = length-drop 256 (row ∷ rows) in
    let rest = batched most (drop 256 (row ∷ rows)) (omega (arith, le, fewer)) in
    (take 256 (row ∷ rows) ∷ rest.0, (omega arith, refl, rest.1))

-- the first of them are among these
pub in_front : (k : ℕ) (batches : List (List Row)) (rows left : List Row)
    → ((others : List (List Row)) → AreBatches others left → AreBatches (batches ++ others) rows)
    → list_any (list_any (at k)) batches ≡ true → list_any (at k) rows ≡ true
in_front k batches rows left are is =
    let others = batched (length left) left (omega arith) in
    sym (in_rows k (batches ++ others.0) rows (are others.0 others.1))
    ∙ (list_any-append (list_any (at k)) batches others.0 ∙ ap (λ (b : Bool). b || among k others.0) is)

-- ---- the rows are those of sites that had a link

module _ (w : World) (n : Numbers) (k : ℕ) where
  later : (row : Row) (rows : List Row) → HasCome rows n k → HasCome (row ∷ rows) n k
  later row rows came = record {
    site = came.site;
    link = came.link;
    had = (suc came.had.0, let lt = came.had.1 in omega arith, came.had.2);
    has = came.has;
  }

  pub came_from : (linked : List Row) → list_any (at k) (fresh_rows w n linked) ≡ true → HasCome linked n k
  came_from [] e = cc
  came_from (row ∷ linked) e = by_number (new_number n.sites row.0) refl e (came_from linked)
    where
      by_row : (j : ℕ) (r : Result Link Unlinked) → new_number n.sites row.0 ≡ Some j
          → list_any (at k) (cons_option (row_of j r) (fresh_rows w n linked)) ≡ true
          → (list_any (at k) (fresh_rows w n linked) ≡ true → HasCome linked n k) → HasCome (row ∷ linked) n k
      by_row j (Err reason) is e rest = later row linked (rest e)
      by_row j (Ok l) is e rest = by_test (j == k) refl e
        where
          by_test : (b : Bool) → (j == k) ≡ b → (b || list_any (at k) (fresh_rows w n linked)) ≡ true → HasCome (row ∷ linked) n k
          by_test true same e = record {
            site = row.0;
            link = row.1;
            had = (0, omega arith, refl);
            has = is ∙ ap Some ((Decides-eqb j k).0 same);
          }
          by_test false other e = later row linked (rest e)

      by_number : (o : Option ℕ) → new_number n.sites row.0 ≡ o
          → list_any (at k) (cons_option (option_and_then (λ s. row_of s (scratch w s)) o) (fresh_rows w n linked)) ≡ true
          → (list_any (at k) (fresh_rows w n linked) ≡ true → HasCome linked n k) → HasCome (row ∷ linked) n k
      by_number None is e rest = later row linked (rest e)
      by_number (Some j) is e rest = by_row j (scratch w j) is e rest

  -- a row that is there, first or later
  first_row : (l : Link) (o : Option Row) (rows : List Row) → o ≡ Some (k, l) → list_any (at k) (cons_option o rows) ≡ true
  first_row l None rows e = cc
  first_row l (Some row) rows e =
      ap (λ (b : Bool). b || list_any (at k) rows) ((Decides-eqb row.0 k).1 (ap (λ (r : Row). r.0) (same_Some row (k, l) e)))

  or_true : (b : Bool) → (b || true) ≡ true
  or_true true = refl
  or_true false = refl

  later_row : (o : Option Row) (rows : List Row) → list_any (at k) rows ≡ true → list_any (at k) (cons_option o rows) ≡ true
  later_row None rows e = e
  later_row (Some row) rows e = ap (λ (b : Bool). at k row || b) e ∙ or_true (at k row)

  goes : (l : Link) → scratch w k ≡ Ok l → (linked : List Row) (s : ℕ) (m : Link) (i : ℕ) → i < length linked → get_or linked i (s, m) ≡ (s, m)
      → new_number n.sites s ≡ Some k → list_any (at k) (fresh_rows w n linked) ≡ true
  goes l now [] s m i lt is has = absurd (omega arith)
  goes l now (row ∷ linked) s m zero lt is has =
      first_row l (fresh_row w n row) (fresh_rows w n linked)
      (ap (option_and_then (λ j. row_of j (scratch w j))) (ap (λ (r : Row). new_number n.sites r.0) is ∙ has) ∙ ap (row_of k) now)
  goes l now (row ∷ linked) s m (suc i) lt is has =
      later_row (fresh_row w n row) (fresh_rows w n linked) (goes l now linked s m i (omega arith) is has)

  pub goes_to : (l : Link) → scratch w k ≡ Ok l → (linked : List Row) → HasCome linked n k → list_any (at k) (fresh_rows w n linked) ≡ true
  goes_to l now linked came = goes l now linked came.site came.link came.had.0 came.had.1 came.had.2 came.has

-- ---- both

kept_gives : (b : Bool) (r : Result Link Unlinked) (l : Link) → kept b None r ≡ Some l → (b ≡ true) × (r ≡ Ok l)
kept_gives b (Err reason) l e = cc
kept_gives true (Ok m) l e = (refl, ap Ok (same_Some m l e))
kept_gives false (Ok m) l e = cc

-- the installs of the rows, after events that install nothing
module _ (h : List Event) (n : Numbers) (linked : List Row) (batches : List (List Row)) (are : AreBatches batches (fresh_rows (world_after h) n linked))
    (k : ℕ) (quiet : IsQuiet k h) (l : Link) where
  now_is : installed (h ++ map event.Install batches) k ≡ kept (list_any (at k) (fresh_rows (world_after h) n linked)) None (scratch (world_after h) k)
  now_is =
      after_batches k batches h
      ∙ (λ i. kept (in_rows k batches (fresh_rows (world_after h) n linked) are i) (none_there k h quiet i) (scratch (world_after h) k))

  came : Contains (installed_links (h ++ map event.Install batches)) (k, l) → HasCome linked n k × (scratch (world_after h) k ≡ Ok l)
  came c =
      let both = kept_gives (list_any (at k) (fresh_rows (world_after h) n linked)) (scratch (world_after h) k) l
      (sym now_is ∙ (links_are (h ++ map event.Install batches) k l).1 c) in
      (came_from (world_after h) n k linked both.0, both.1)

  goes_there : HasCome linked n k × (scratch (world_after h) k ≡ Ok l) → Contains (installed_links (h ++ map event.Install batches)) (k, l)
  goes_there p =
      (links_are (h ++ map event.Install batches) k l).0
      (now_is
      ∙ (ap (λ (b : Bool). kept b None (scratch (world_after h) k)) (goes_to (world_after h) n k l p.1 linked p.0)
      ∙ ap (kept true None) p.1))

  pub links_come : Contains (installed_links (h ++ map event.Install batches)) (k, l) ↔ (HasCome linked n k × (scratch (world_after h) k ≡ Ok l))
  links_come = (came, goes_there)
