-- The place of an element, and what a write leaves.
use Rattle.std.specs.Prelude.{◌≡◌, ℕ, zero, suc, ◌+◌, ◌-◌, ◌*◌, ◌/◌, ◌<◌, ◌≤◌, List, [], ◌∷◌, ◌++◌, length, replicate, get_or, slice_get, slice_set}
use Rattle.std.specs.Prelude.{Some, None, Result, Ok, Err, OnOk, OnErr}
use Rattle.std.proofs.Common.{refl, ap, sym, ◌∙◌, subst, arith, length-append}
use Rattle.std.proofs.lemmas.List.{append_assoc, get_or_append_left, length-replicate, length-set, replicate-append-replicate}
use Rattle.std.proofs.lemmas.List.{set-append_left, set-append_right}
use Rattle.std.proofs.lemmas.Option.{same_Some, slice_get_past, slice_get_within}
use Rattle.std.proofs.Math.Nat.{div-add-mod}
use Rattle.jl_pages.specs.ForProofs.Pages.{elements}
use Rattle.jl_pages.proofs.PageLaws.{in_front, after}
use Rattle.jl_slots.specs.ForProofs.Pages.{AreWhole, all_pages}

module _ {T : Type 0} where
  none_past : (xs : List T) (q : ℕ) → slice_get xs q ≡ None → length xs ≤ q
  none_past [] q none = omega arith
  none_past (x ∷ xs) zero none = cc
  none_past (x ∷ xs) (suc q) none = let rest = none_past xs q none in omega (arith, rest)

  copy_at : (n q : ℕ) (x : T) → q < n → slice_get (replicate n x) q ≡ Some x
  copy_at zero q x few = absurd (omega (arith, few))
  copy_at (suc n) zero x few = refl
  copy_at (suc n) (suc q) x few = copy_at n q x (omega (arith, few))

module _ {T : Type 0} where
  pub many : (pages : List (List T)) → AreWhole pages → length (elements pages) ≡ 256 * length pages
  many [] whole = refl
  many (page ∷ pages) whole =
      let rest = many pages whole.1 in
      omega (arith, length-append page (elements pages), whole.0, rest)

  pub within : (pages : List (List T)) (i : ℕ) → AreWhole pages → i < length (elements pages) → i / 256 < length pages
  within pages i whole few =
      let all = many pages whole in
      omega (arith, all, few, div-add-mod i 256)

  pub whole_at : (pages : List (List T)) (q : ℕ) (d : List T) → AreWhole pages → q < length pages → length (get_or pages q d) ≡ 256
  whole_at [] q d whole few = absurd (omega (arith, few))
  whole_at (page ∷ pages) zero d whole few = whole.0
  whole_at (page ∷ pages) (suc q) d whole few = whole_at pages q d whole.1 (omega (arith, few))

  -- in its page
  pub at_page : (pages : List (List T)) (page : List T) (q i r : ℕ) → AreWhole pages → slice_get pages q ≡ Some page → i ≡ 256 * q + r → r < 256
      → slice_get (elements pages) i ≡ slice_get page r
  at_page [] page q i r whole at is few = cc
  at_page (first ∷ pages) page zero i r whole at is few =
      in_front first (elements pages) i (omega (arith, whole.0, is, few))
      ∙ (λ k. slice_get (same_Some first page at k) (same_place k))
    where
      same_place : i ≡ r
      same_place = omega (arith, is)
  at_page (first ∷ pages) page (suc q) i r whole at is few =
      after first (elements pages) i (256 * q + r) (omega (arith, whole.0, is)) ∙ at_page pages page q (256 * q + r) r whole.1 at refl few

  -- past the last one
  pub past_all : (pages : List (List T)) (q i r : ℕ) → AreWhole pages → slice_get pages q ≡ None → i ≡ 256 * q + r → slice_get (elements pages) i ≡ None
  past_all [] q i r whole none is = refl
  past_all (first ∷ pages) zero i r whole none is = cc
  past_all (first ∷ pages) (suc q) i r whole none is =
      after first (elements pages) i (256 * q + r) (omega (arith, whole.0, is)) ∙ past_all pages q (256 * q + r) r whole.1 none refl

  -- a write in a page is one among all elements
  pub set_at : (pages : List (List T)) (d : List T) (x : T) (q i r : ℕ) → AreWhole pages → q < length pages → i ≡ 256 * q + r → r < 256
      → elements (slice_set pages q (slice_set (get_or pages q d) r x)) ≡ slice_set (elements pages) i x
  set_at [] d x q i r whole few is small = absurd (omega (arith, few))
  set_at (first ∷ pages) d x zero i r whole few is small =
      ap (λ k. slice_set first k x ++ elements pages) (omega (arith, is))
      ∙ sym (set-append_left first (elements pages) i x (omega (arith, whole.0, is, small)))
  set_at (first ∷ pages) d x (suc q) i r whole few is small =
      ap (λ xs. first ++ xs) (set_at pages d x q (256 * q + r) r whole.1 (omega (arith, few)) refl small
      ∙ ap (λ k. slice_set (elements pages) k x) (omega (arith, is)))
      ∙ sym (set-append_right first (elements pages) 256 i x whole.0 (omega (arith, is)))

  -- pages that are all alike
  pub all_alike : (n : ℕ) (x : T) → elements (replicate n (replicate 256 x)) ≡ replicate (256 * n) x
  all_alike zero x = refl
  all_alike (suc n) x =
      ap (λ xs. replicate 256 x ++ xs) (all_alike n x) ∙ replicate-append-replicate 256 (256 * n) x ∙ ap (λ k. replicate k x) (omega arith)

  pub all_whole : (n : ℕ) (x : T) → AreWhole (replicate n (replicate 256 x))
  all_whole zero x = tt
  all_whole (suc n) x = (length-replicate 256 x, all_whole n x)

  -- ---- pages that are listed, and those after them

  -- none is
  pub none_listed : (blank : List T) (count : ℕ) → all_pages [] blank count ≡ replicate count blank
  none_listed blank count = ap (λ k. replicate k blank) (omega arith)

  -- a page that is listed
  pub listed_at : (pages : List (List T)) (blank page : List T) (count q : ℕ) → slice_get pages q ≡ Some page
      → slice_get (all_pages pages blank count) q ≡ Some page
  listed_at pages blank page count q at = in_front pages (replicate (count - length pages) blank) q (slice_get_within pages q page at) ∙ at

  -- one that isn't listed is as it was at first
  pub unlisted_at : (pages : List (List T)) (blank : List T) (count q : ℕ) → slice_get pages q ≡ None → q < count
      → slice_get (all_pages pages blank count) q ≡ Some blank
  unlisted_at pages blank count q none few =
      let past : length pages ≤ q = none_past pages q none in
      after pages (replicate (count - length pages) blank) q (q - length pages) (omega (arith, past))
      ∙ copy_at (count - length pages) (q - length pages) blank (omega (arith, past, few))

  -- there is no later one
  pub none_at : (pages : List (List T)) (blank : List T) (count q : ℕ) → slice_get pages q ≡ None → count ≤ q
      → slice_get (all_pages pages blank count) q ≡ None
  none_at pages blank count q none most =
      let past : length pages ≤ q = none_past pages q none in
      let all = length-append pages (replicate (count - length pages) blank) in
      let rest = length-replicate (count - length pages) blank in
      slice_get_past (all_pages pages blank count) q (omega (arith, past, all, rest, most))

  -- one page more is listed as it is
  pub one_listed : (pages new : List (List T)) (blank page : List T) (count q : ℕ) → q < length (all_pages pages blank count) → length pages ≤ q
      → new ≡ pages ++ page ∷ [] → page ≡ blank → all_pages new blank count ≡ all_pages pages blank count
  one_listed pages new blank page count q within past is same =
      let all = length-append pages (replicate (count - length pages) blank) in
      let rest = length-replicate (count - length pages) blank in
      let more = length-append pages (blank ∷ []) in
      let less : count - length pages ≡ suc (count - length (pages ++ blank ∷ [])) = omega (arith, within, past, all, rest, more) in
      ap (λ ps. all_pages ps blank count) (is ∙ ap (λ p. pages ++ p ∷ []) same)
      ∙ (append_assoc pages (blank ∷ []) (replicate (count - length (pages ++ blank ∷ [])) blank)
      ∙ ap (λ k. pages ++ replicate k blank) (sym less))

  -- a write in a listed page
  pub set_listed : (pages : List (List T)) (blank : List T) (count : ℕ) (page : List T) (q : ℕ) → q < length pages
      → all_pages (slice_set pages q page) blank count ≡ slice_set (all_pages pages blank count) q page
  set_listed pages blank count page q few =
      ap (λ k. slice_set pages q page ++ replicate (count - k) blank) (length-set pages q page)
      ∙ sym (set-append_left pages (replicate (count - length pages) blank) q page few)

  pub listed_whole : (pages : List (List T)) (blank d : List T) (count q : ℕ) → AreWhole (all_pages pages blank count) → q < length pages
      → length (get_or pages q d) ≡ 256
  listed_whole pages blank d count q whole few =
      let all = length-append pages (replicate (count - length pages) blank) in
      ap length (sym (get_or_append_left pages (replicate (count - length pages) blank) d q few))
      ∙ whole_at (all_pages pages blank count) q d whole (omega (arith, few, all))

  pub written : (pages : List (List T)) (blank : List T) (count : ℕ) (d : List T) (x : T) (q i r : ℕ) → AreWhole (all_pages pages blank count)
      → q < length pages → i ≡ 256 * q + r → r < 256
      → elements (all_pages (slice_set pages q (slice_set (get_or pages q d) r x)) blank count) ≡ slice_set (elements (all_pages pages blank count)) i x
  written pages blank count d x q i r whole few is small =
      let all = length-append pages (replicate (count - length pages) blank) in
      ap elements (set_listed pages blank count (slice_set (get_or pages q d) r x) q few)
      ∙ ap (λ page. elements (slice_set (all_pages pages blank count) q (slice_set page r x)))
      (sym (get_or_append_left pages (replicate (count - length pages) blank) d q few))
      ∙ set_at (all_pages pages blank count) d x q i r whole (omega (arith, few, all)) is small

  -- a write that may fail leaves the page as long
  pub as_long : {E : Type 0} (old new : List T) (r : ℕ) (x : T) (result : Result (Unit {0}) E) → OnOk result (new ≡ slice_set old r x)
      → OnErr result (new ≡ old) → length new ≡ length old
  as_long old new r x (Ok u) ok err = ap length ok ∙ length-set old r x
  as_long old new r x (Err e) ok err = ap length err

  one_whole : (pages : List (List T)) (page : List T) (q : ℕ) → AreWhole pages → length page ≡ 256 → AreWhole (slice_set pages q page)
  one_whole [] page q whole is = tt
  one_whole (first ∷ pages) page zero whole is = (is, whole.1)
  one_whole (first ∷ pages) page (suc q) whole is = (whole.0, one_whole pages page q whole.1 is)

  -- all pages stay whole
  pub whole_listed : (pages : List (List T)) (blank page : List T) (count q : ℕ) → AreWhole (all_pages pages blank count) → q < length pages
      → length page ≡ 256 → AreWhole (all_pages (slice_set pages q page) blank count)
  whole_listed pages blank page count q whole few is =
      subst AreWhole (sym (set_listed pages blank count page q few)) (one_whole (all_pages pages blank count) page q whole is)
