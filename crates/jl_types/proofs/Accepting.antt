-- The verdict on an install is what is said of the rows that it accepts.
use Rattle.std.specs.Prelude.{◌≡◌, ◌≢◌, ◌↔◌, ℕ, suc, ◌<◌, ◌≤◌, ◌⊎◌, ◌==◌, ◌||◌, nat_lt, nat_le, ⊤, Bool, true, false, List}
use Rattle.std.specs.Prelude.{[], ◌∷◌, map, length, Option, Some, None, option_map, Result, Ok, Err, All, AllPairs, if◌then◌else◌}
use Rattle.std.specs.Bool.{then_some}
use Rattle.std.specs.List.{AllByRecursion, list_any}
use Rattle.std.proofs.Common.{refl, ap, ◌∙◌, arith, inl, inr, Decides}
use Rattle.std.proofs.lemmas.Bool.Decides.{Decides-eqb, Decides-ltb, Decides-or}
use Rattle.std.proofs.lemmas.List.Elements.{All-from_recursion, recursion_from_All}
use Rattle.std.proofs.lemmas.List.Kept.{AllPairs-cons}
use Rattle.std.proofs.lemmas.Bool.{cases_lt, or_parts, ne_eqb, both_ways, leb-false, lt-leb}
use Rattle.jl_types.specs.declared.limits.Limits.{Limits}
use Rattle.jl_types.specs.declared.link.Link.{Link}
use Rattle.jl_types.specs.declared.answer.Unlinked.{Unlinked}
use Rattle.jl_types.specs.declared.event.Made.TheVariants as made
use Rattle.jl_types.specs.declared.event.EventOf.TheVariants as event
use Rattle.jl_types.specs.declared.refusal.Refusal.{Refusal}
use Rattle.jl_types.specs.declared.refusal.Refusal.TheVariants as refusal
use Rattle.jl_types.specs.declared.refusal.SitesFault.{SitesFault}
use Rattle.jl_types.specs.declared.refusal.SitesFault.TheVariants as sites
use Rattle.jl_types.specs.Linkage.Links.{same_link}
use Rattle.jl_types.specs.ForProofs.SameLink.{link_decides}
use Rattle.jl_types.specs.Values.World.{World}
use Rattle.jl_types.specs.Linkage.Resolution.{first_of}
use Rattle.jl_types.specs.Linkage.Links.{scratch}
use Rattle.jl_types.specs.Events.Batches.{is_bad_size, sites_fault}
use Rattle.jl_types.specs.Events.Verdict.{of_sites, row_fault, install_fault, Accepts, unless, verdict}
use Rattle.jl_types.proofs.Firsts.{first_none, test_none}

-- ---- the size

bad_decides : (n : ℕ) → Decides (is_bad_size n) ((n ≡ 0) ⊎ (256 < n))
bad_decides n = Decides-or (n == 0) (nat_lt 256 n) (Decides-eqb n 0) (Decides-ltb 256 n)

good_size : (n : ℕ) → is_bad_size n ≡ false → (1 ≤ n) × (n ≤ 256)
good_size n e = (
  elim (cases_lt n 1) [ inr h ↦ h | inl lt ↦ absurd (both_ways (is_bad_size n) e ((bad_decides n).1 (inl (omega arith)))) ],
  elim (cases_lt 256 n) [ inr h ↦ h | inl lt ↦ absurd (both_ways (is_bad_size n) e ((bad_decides n).1 (inr lt))) ],
)

size_good : (n : ℕ) → 1 ≤ n → n ≤ 256 → is_bad_size n ≡ false
size_good n h k = by_test (is_bad_size n) refl
  where
    by_test : (b : Bool) → is_bad_size n ≡ b → b ≡ false
    by_test true e = absurd (elim ((bad_decides n).0 e) [ inl z ↦ omega arith | inr lt ↦ omega arith ])
    by_test false e = refl

-- ---- the sites

-- requested sites that come neither earlier nor twice
abbrev AreFresh : World → List ℕ → List ℕ → Type 0
AreFresh w earlier [] = ⊤
AreFresh w earlier (s ∷ rest) = (s < length w.places) × (list_any (λ t. t == s) earlier ≡ false) × AreFresh w (s ∷ earlier) rest

fresh : (w : World) (earlier all : List ℕ) → sites_fault w earlier all ≡ None → AreFresh w earlier all
fresh w earlier [] e = tt
fresh w earlier (s ∷ rest) e =
    let known = first_none (then_some (nat_le (length w.places) s) (sites.Unknown s)) _ e in
    let once = first_none (then_some (list_any (λ t. t == s) earlier) (sites.Repeated s)) _ known.1 in
    let more = first_none (sites_fault w (s ∷ earlier) rest) [] once.1 in (
      leb-false (length w.places) s (test_none (nat_le (length w.places) s) (sites.Unknown s) known.0),
      test_none (list_any (λ t. t == s) earlier) (sites.Repeated s) once.0,
      fresh w (s ∷ earlier) rest more.0,
    )

no_fault : (w : World) (earlier all : List ℕ) → AreFresh w earlier all → sites_fault w earlier all ≡ None
no_fault w earlier [] h = refl
no_fault w earlier (s ∷ rest) h =
    (λ i. first_of (then_some (lt-leb (length w.places) s h.0 i) (sites.Unknown s) ∷ then_some (h.1 i) (sites.Repeated s) ∷ no_fault w (s ∷ earlier) rest h.2 i
    ∷ []))

-- ---- the rows

abbrev site : ℕ × Link → ℕ
site row = row.0

abbrev sites_in : List (ℕ × Link) → List ℕ
sites_in rows = map (λ row. row.0) rows

abbrev Other : ℕ × Link → ℕ × Link → Type 0
Other a b = a.0 ≢ b.0

record AreApart (w : World) (earlier : List ℕ) (rows : List (ℕ × Link)) : Type 0 where
  requested : AllByRecursion (λ row. row.0 < length w.places) rows
  new : AllByRecursion (λ row. list_any (λ t. t == row.0) earlier ≡ false) rows
  once : AllPairs Other rows

not_first : (s : ℕ) (earlier : List ℕ) (rows : List (ℕ × Link)) → AllByRecursion (λ row. list_any (λ t. t == row.0) (s ∷ earlier) ≡ false) rows
    → AllByRecursion (λ row. (s == row.0) ≡ false) rows × AllByRecursion (λ row. list_any (λ t. t == row.0) earlier ≡ false) rows
not_first s earlier [] h = (tt, tt)
not_first s earlier (row ∷ rows) h =
    let both = or_parts (s == row.0) (list_any (λ t. t == row.0) earlier) h.0 in
    let rest = not_first s earlier rows h.1 in
    ((both.0, rest.0), (both.1, rest.1))

others : (row : ℕ × Link) (rows : List (ℕ × Link)) → AllByRecursion (λ r. (row.0 == r.0) ≡ false) rows → AllByRecursion (Other row) rows
others row [] h = tt
others row (r ∷ rows) h = (λ same. both_ways (row.0 == r.0) h.0 ((Decides-eqb row.0 r.0).1 same), others row rows h.1)

apart : (w : World) (earlier : List ℕ) (rows : List (ℕ × Link)) → AreFresh w earlier (sites_in rows) → AreApart w earlier rows
apart w earlier [] h = record { requested = tt; new = tt; once = λ i j d lt le. absurd (omega arith) }
apart w earlier (row ∷ rows) h =
    let rest = apart w (row.0 ∷ earlier) rows h.2 in
    let parts = not_first row.0 earlier rows rest.new in
    record {
      requested = (h.0, rest.requested);
      new = (h.1, parts.1);
      once = AllPairs-cons Other row rows (All-from_recursion (Other row) rows (others row rows parts.0)) rest.once;
    }

also_first : (s : ℕ) (earlier : List ℕ) (rows : List (ℕ × Link)) → AllByRecursion (λ row. list_any (λ t. t == row.0) earlier ≡ false) rows
    → AllByRecursion (λ row. (s == row.0) ≡ false) rows → AllByRecursion (λ row. list_any (λ t. t == row.0) (s ∷ earlier) ≡ false) rows
also_first s earlier [] h k = tt
also_first s earlier (row ∷ rows) h k = (ap (λ (b : Bool). b || list_any (λ t. t == row.0) earlier) k.0 ∙ h.0, also_first s earlier rows h.1 k.1)

all_differ : (row : ℕ × Link) (rows : List (ℕ × Link)) → AllByRecursion (Other row) rows → AllByRecursion (λ r. (row.0 == r.0) ≡ false) rows
all_differ row [] h = tt
all_differ row (r ∷ rows) h = (ne_eqb row.0 r.0 h.0, all_differ row rows h.1)

apart_fresh : (w : World) (earlier : List ℕ) (rows : List (ℕ × Link)) → AreApart w earlier rows → AreFresh w earlier (sites_in rows)
apart_fresh w earlier [] h = tt
apart_fresh w earlier (row ∷ rows) h =
    let head : All (Other row) rows = λ k d lt. h.once 0 (suc k) d (omega arith) (omega arith) in
    let tail : AllPairs Other rows = λ i j d lt le. h.once (suc i) (suc j) d (omega arith) (omega arith) in (
      h.requested.0,
      h.new.0,
      apart_fresh w (row.0 ∷ earlier) rows (record {
        requested = h.requested.1;
        new = also_first row.0 earlier rows h.new.1 (all_differ row rows (recursion_from_All (Other row) rows head));
        once = tail;
      }),
    )

none_new : (rows : List (ℕ × Link)) → AllByRecursion (λ row. list_any (λ t. t == row.0) [] ≡ false) rows
none_new [] = tt
none_new (row ∷ rows) = (refl, none_new rows)

-- ---- the links

abbrev pub linked : Link → Result Link Unlinked
linked l = Ok l

pub good_link : (s : ℕ) (l : Link) (r : Result Link Unlinked) → row_fault s l r ≡ None → r ≡ Ok l
good_link s l (Err reason) e = cc
good_link s l (Ok now) e = by_test (same_link now l) refl e
  where
    by_test : (b : Bool) → same_link now l ≡ b → (if b then None else Some (refusal.Stale s now)) ≡ None → linked now ≡ linked l
    by_test true is e = ap linked ((link_decides now l).0 is)
    by_test false is e = cc

link_good : (s : ℕ) (l : Link) (r : Result Link Unlinked) → r ≡ Ok l → row_fault s l r ≡ None
link_good s l r e = ap (row_fault s l) e ∙ ap (λ (b : Bool). if b then None else Some (refusal.Stale s l)) ((link_decides l l).1 refl)

module _ (w : World) where
  abbrev links : List (ℕ × Link) → List (Option Refusal)
  links rows = map (λ row. row_fault row.0 row.1 (scratch w row.0)) rows

  present : (rows : List (ℕ × Link)) → first_of (links rows) ≡ None → AllByRecursion (λ row. scratch w row.0 ≡ Ok row.1) rows
  present [] e = tt
  present (row ∷ rows) e =
      let parts = first_none (row_fault row.0 row.1 (scratch w row.0)) (links rows) e in
      (good_link row.0 row.1 (scratch w row.0) parts.0, present rows parts.1)

  none_stale : (rows : List (ℕ × Link)) → AllByRecursion (λ row. scratch w row.0 ≡ Ok row.1) rows → first_of (links rows) ≡ None
  none_stale [] h = refl
  none_stale (row ∷ rows) h =
      ap (λ (o : Option Refusal). first_of (o ∷ links rows)) (link_good row.0 row.1 (scratch w row.0) h.0) ∙ none_stale rows h.1

  no_sites : (o : Option SitesFault) → option_map of_sites o ≡ None → o ≡ None
  no_sites None e = refl
  no_sites (Some f) e = cc

  accepts : (rows : List (ℕ × Link)) → install_fault w rows ≡ None → Accepts w rows
  accepts rows e =
      let size = first_none (then_some (is_bad_size (length rows)) refusal.BatchSize) _ e in
      let known = first_none (option_map of_sites (sites_fault w [] (sites_in rows))) _ size.1 in
      let each = first_none (first_of (links rows)) [] known.1 in
      let good = good_size (length rows) (test_none (is_bad_size (length rows)) refusal.BatchSize size.0) in
      let all = apart w [] rows (fresh w [] (sites_in rows) (no_sites (sites_fault w [] (sites_in rows)) known.0)) in
      record {
        some = good.0;
        few = good.1;
        requested = All-from_recursion (λ (row : ℕ × Link). row.0 < length w.places) rows all.requested;
        once = all.once;
        present = All-from_recursion (λ (row : ℕ × Link). scratch w row.0 ≡ Ok row.1) rows (present rows each.0);
      }

  accepted : (rows : List (ℕ × Link)) → Accepts w rows → install_fault w rows ≡ None
  accepted rows a =
      let all : AreApart w [] rows = record {
        requested = recursion_from_All (λ (row : ℕ × Link). row.0 < length w.places) rows a.requested;
        new = none_new rows;
        once = a.once;
      } in
      (λ i.
      first_of
      (then_some (size_good (length rows) a.some a.few i) refusal.BatchSize ∷ option_map of_sites (no_fault w [] (sites_in rows) (apart_fresh w [] rows all) i)
      ∷ none_stale rows (recursion_from_All (λ (row : ℕ × Link). scratch w row.0 ≡ Ok row.1) rows a.present) i ∷ []))

  unless_none : (o : Option Refusal) → unless o made.Nothing ≡ Ok made.Nothing → o ≡ None
  unless_none None e = refl
  unless_none (Some r) e = cc

  pub accepted_installs : (limits : Limits) (rows : List (ℕ × Link)) → (verdict limits w (event.Install rows) ≡ Ok made.Nothing) ↔ Accepts w rows
  accepted_installs limits rows = (
    λ e. accepts rows (unless_none (install_fault w rows) e),
    λ a. ap (λ (o : Option Refusal). unless o made.Nothing) (accepted rows a),
  )
