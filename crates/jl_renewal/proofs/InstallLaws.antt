-- The installs of a renewal are accepted.
use Rattle.std.specs.Prelude.{◌≡◌, ◌<◌, ◌≤◌, ◌+◌, ℕ, zero, suc, Bool, List, [], ◌∷◌, ◌++◌, map, take, drop, min, length, get_or, Option, Some, None}
use Rattle.std.specs.Prelude.{option_and_then, Result, Ok, Err, IsOk, OnErr, All, AllPairs}
use Rattle.std.specs.List.{cons_option}
use Rattle.std.proofs.Common.{refl, sym, ap, subst, ◌∙◌, arith, append_assoc, inl, inr}
use Rattle.std.proofs.lemmas.List.{append-nil, map-append, take_min, drop_min}
use Rattle.std.proofs.lemmas.List.Kept.{AllPairs-cons}
use Rattle.jl_types.specs.declared.limits.Limits.{Limits}
use Rattle.jl_types.specs.declared.link.Link.{Link}
use Rattle.jl_types.specs.declared.answer.Unlinked.{Unlinked}
use Rattle.jl_types.specs.declared.event.EventOf.TheVariants as event
use Rattle.jl_types.specs.declared.event.Made.{Made}
use Rattle.jl_types.specs.declared.event.Reply.{Reply}
use Rattle.jl_types.specs.declared.refusal.Refusal.{Refusal}
use Rattle.jl_types.specs.declared.refusal.Refusal.TheVariants.{Memory}
use Rattle.jl_types.specs.Values.World.{World}
use Rattle.jl_types.specs.Linkage.Links.{scratch}
use Rattle.jl_types.specs.Events.Event.{Event}
use Rattle.jl_types.specs.Events.Verdict.{verdict}
use Rattle.jl_types.proofs.Accepting.{accepted_installs}
use Rattle.jl_types.proofs.InstalledLinks.{requested}
use Rattle.jl_core.specs.State.{State, events, world_of, IsAccepted, IsRefused}
use Rattle.jl_renewal.specs.Numbers.{Numbers, numbered, new_number}
use Rattle.jl_renewal.specs.Renewal.{row_of, fresh_rows, AreBatches}
use Rattle.jl_renewal.specs.Adds.{AreFresh, MayAdd, Adds, Installs, InstallsFront, StopsAt}
use Rattle.jl_renewal.specs.Carries.{IsRefusedIn}
use Rattle.jl_renewal.proofs.AddLaws.{adds_none, adds_both}
use Rattle.jl_renewal.proofs.FollowLaws.{world_added}
use Rattle.jl_renewal.proofs.NumberLaws.{some_stays, some_is, before_rises}

abbrev Row : Type 0
Row = ℕ × Link

abbrev Rises : List Row → Type 0
Rises rows = AllPairs (λ a b. a.0 < b.0) rows

-- ---- a front of them and the rest

got_take : (rows : List Row) (k i : ℕ) (d : Row) → i < length (take k rows) → get_or (take k rows) i d ≡ get_or rows i d
got_take [] zero i d lt = refl
got_take [] (suc k) i d lt = refl
got_take (row ∷ rows) zero i d lt = absurd (omega (arith, lt))
got_take (row ∷ rows) (suc k) zero d lt = refl
got_take (row ∷ rows) (suc k) (suc i) d lt = got_take rows k i d (omega (arith, lt))

got_drop : (rows : List Row) (k i : ℕ) (d : Row) → get_or (drop k rows) i d ≡ get_or rows (k + i) d
got_drop rows zero i d = let same : i ≡ zero + i = omega arith in ap (λ (j : ℕ). get_or rows j d) same
got_drop [] (suc k) i d = refl
got_drop (row ∷ rows) (suc k) i d = let up : suc (k + i) ≡ suc k + i = omega arith in got_drop rows k i d ∙ ap (λ (j : ℕ). get_or (row ∷ rows) j d) up

fewer : (rows : List Row) (k : ℕ) → length (take k rows) ≤ length rows
fewer [] zero = omega arith
fewer [] (suc k) = omega arith
fewer (row ∷ rows) zero = omega arith
fewer (row ∷ rows) (suc k) = let le = fewer rows k in omega (arith, le)

at_most : (rows : List Row) (k : ℕ) → length (take k rows) ≤ k
at_most [] zero = omega arith
at_most [] (suc k) = omega arith
at_most (row ∷ rows) zero = omega arith
at_most (row ∷ rows) (suc k) = let le = at_most rows k in omega (arith, le)

left_over : (rows : List Row) (k i : ℕ) → i < length (drop k rows) → k + i < length rows
left_over rows zero i lt = omega (arith, lt)
left_over [] (suc k) i lt = absurd (omega (arith, lt))
left_over (row ∷ rows) (suc k) i lt = let less = left_over rows k i lt in omega (arith, less)

module _ (w : World) (rows : List Row) (fresh : AreFresh w rows) where
  front : (k : ℕ) → AreFresh w (take k rows)
  front k = record {
    rises = λ i j d lt within.
        subst (λ (r : Row). r.0 < (get_or (take k rows) j d).0) (sym (got_take rows k i d (omega (arith, lt, within))))
        (subst (λ (r : Row). (get_or rows i d).0 < r.0) (sym (got_take rows k j d within))
        (fresh.rises i j d lt (let le = fewer rows k in omega (arith, le, within))));
    present = λ i d within.
        subst (λ (r : Row). scratch w r.0 ≡ Ok r.1) (sym (got_take rows k i d within))
        (fresh.present i d (let le = fewer rows k in omega (arith, le, within)));
  }

  -- what is left of them
  pub rest_fresh : (k : ℕ) → AreFresh w (drop k rows)
  rest_fresh k = record {
    rises = λ i j d lt within.
        subst (λ (r : Row). r.0 < (get_or (drop k rows) j d).0) (sym (got_drop rows k i d))
        (subst (λ (r : Row). (get_or rows (k + i) d).0 < r.0) (sym (got_drop rows k j d))
        (fresh.rises (k + i) (k + j) d (omega (arith, lt)) (left_over rows k j within)));
    present = λ i d within. subst (λ (r : Row). scratch w r.0 ≡ Ok r.1) (sym (got_drop rows k i d)) (fresh.present (k + i) d (left_over rows k i within));
  }

  some_first : 1 ≤ length rows → 1 ≤ length (take 256 rows)
  some_first = by_rows rows
    where
      by_rows : (rows : List Row) → 1 ≤ length rows → 1 ≤ length (take 256 rows)
      by_rows [] lt = absurd (omega (arith, lt))
      by_rows (row ∷ rows) lt = omega arith

  -- the first of them are accepted
  pub batch_accepted : (limits : Limits) → 1 ≤ length rows → IsOk (verdict limits w (event.Install (take 256 rows)))
  batch_accepted limits some =
      subst (λ (r : Result Made Refusal). IsOk r)
      (sym ((accepted_installs w limits (take 256 rows)).1 (record {
        some = some_first some;
        few = at_most rows 256;
        requested = λ i d within. let row = get_or (take 256 rows) i d in requested w row.0 row.1 ((front 256).present i d within);
        once = λ i j d lt within same. let less = (front 256).rises i j d lt within in absurd (omega (arith, less, same));
        present = (front 256).present;
      }))) refl

-- ---- the rows of a renewal

module _ (w : World) (n : Numbers) (stays : List Bool) (is : n.sites ≡ numbered stays) where
  new_rises : (s t i j : ℕ) → new_number n.sites s ≡ Some i → new_number n.sites t ≡ Some j → s < t → i < j
  new_rises s t i j ei ej lt =
      let a = subst (λ (ns : List (Option ℕ)). new_number ns s ≡ Some i) is ei in
      let b = subst (λ (ns : List (Option ℕ)). new_number ns t ≡ Some j) is ej in
      let less = before_rises stays s t (some_stays stays s i a) lt in
      let at_i = some_is stays s i a in
      let at_j = some_is stays t j b in
      omega (arith, less, at_i, at_j)

  -- those after a row are above it
  above : (s i : ℕ) → new_number n.sites s ≡ Some i → (linked : List Row) → All (λ (q : Row). s < q.0) linked
      → All (λ (q : Row). i < q.0) (fresh_rows w n linked)
  above s i ei [] all = λ k d lt. absurd (omega (arith, lt))
  above s i ei (q ∷ linked) all =
      by_number (new_number n.sites q.0) refl (above s i ei linked (λ k d lt. all (suc k) d (omega (arith, lt))))
    where
      cons : (r : Row) (rows : List Row) → i < r.0 → All (λ (q : Row). i < q.0) rows → All (λ (q : Row). i < q.0) (r ∷ rows)
      cons r rows first rest zero d lt = first
      cons r rows first rest (suc k) d lt = rest k d (omega (arith, lt))

      by_link : (j : ℕ) (r : Result Link Unlinked) → new_number n.sites q.0 ≡ Some j → All (λ (q : Row). i < q.0) (fresh_rows w n linked)
          → All (λ (q : Row). i < q.0) (cons_option (row_of j r) (fresh_rows w n linked))
      by_link j (Err reason) ej rest = rest
      by_link j (Ok l) ej rest = cons (j, l) (fresh_rows w n linked) (new_rises s q.0 i j ei ej (all 0 q (omega arith))) rest

      by_number : (o : Option ℕ) → new_number n.sites q.0 ≡ o → All (λ (q : Row). i < q.0) (fresh_rows w n linked)
          → All (λ (q : Row). i < q.0) (cons_option (option_and_then (λ s. row_of s (scratch w s)) o) (fresh_rows w n linked))
      by_number None e rest = rest
      by_number (Some j) e rest = by_link j (scratch w j) e rest

  -- each is there from scratch, and their sites rise
  pub rows_fresh : (linked : List Row) → AllPairs (λ a b. a.0 < b.0) linked → AreFresh w (fresh_rows w n linked)
  rows_fresh [] rises = record { rises = λ i j d lt within. absurd (omega (arith, lt, within)); present = λ i d lt. absurd (omega (arith, lt)) }
  rows_fresh (row ∷ linked) rises =
      by_number (new_number n.sites row.0) refl (rows_fresh linked (λ i j d lt within. rises (suc i) (suc j) d (omega (arith, lt)) (omega (arith, within))))
    where
      later : All (λ (q : Row). row.0 < q.0) linked
      later k d lt = rises 0 (suc k) d (omega arith) (omega (arith, lt))

      by_link : (j : ℕ) (r : Result Link Unlinked) → scratch w j ≡ r → new_number n.sites row.0 ≡ Some j → AreFresh w (fresh_rows w n linked)
          → AreFresh w (cons_option (row_of j r) (fresh_rows w n linked))
      by_link j (Err reason) now ej rest = rest
      by_link j (Ok l) now ej rest = record {
        rises = AllPairs-cons (λ (a b : Row). a.0 < b.0) (j, l) (fresh_rows w n linked) (above row.0 j ej linked later) rest.rises;
        present = first;
      }
        where
          first : All (λ (r : Row). scratch w r.0 ≡ Ok r.1) ((j, l) ∷ fresh_rows w n linked)
          first zero d lt = now
          first (suc k) d lt = rest.present k d (omega (arith, lt))

      by_number : (o : Option ℕ) → new_number n.sites row.0 ≡ o → AreFresh w (fresh_rows w n linked)
          → AreFresh w (cons_option (option_and_then (λ s. row_of s (scratch w s)) o) (fresh_rows w n linked))
      by_number None e rest = rest
      by_number (Some j) e rest = by_link j (scratch w j) refl e rest

-- ---- a loop that installs them

pub installs_none : (rows : List Row) (a : State) → InstallsFront rows rows a a
installs_none rows a = record { batches = []; are_batches = λ others are. are; adds = adds_none a }

pub installs_turn : (rows left batch rest : List Row) (a b c : State) → 1 ≤ length left → batch ≡ take 256 left → rest ≡ drop 256 left
    → InstallsFront rows left a b → Adds (event.Install batch ∷ []) b c → InstallsFront rows rest a c
installs_turn rows left batch rest a b c some first later so_far one = record {
  batches = so_far.batches ++ batch ∷ [];
  are_batches = λ others are.
      subst (λ (batches : List (List Row)). AreBatches batches rows) (sym (append_assoc so_far.batches (batch ∷ []) others))
      (so_far.are_batches (batch ∷ others) (some, first, subst (λ (xs : List Row). AreBatches others xs) later are));
  adds = subst (λ (es : List Event). Adds es a c) (sym (map-append event.Install so_far.batches (batch ∷ [])))
      (adds_both (map event.Install so_far.batches) (event.Install batch ∷ []) a b c so_far.adds one);
}

pub installs_all : (rows left : List Row) (a b : State) → length left ≡ 0 → InstallsFront rows left a b → Installs rows a b
installs_all rows [] a b none so_far = record {
  batches = so_far.batches;
  are_batches = subst (λ (batches : List (List Row)). AreBatches batches rows) (append-nil so_far.batches) (so_far.are_batches [] refl);
  adds = so_far.adds;
}
installs_all rows (row ∷ left) a b none so_far = cc

-- the first of them may be installed
pub may_install : (left batch : List Row) (b : State) → 1 ≤ length left → batch ≡ take 256 left → AreFresh (world_of b) left
    → MayAdd (event.Install batch ∷ []) b
may_install left batch b some first fresh =
    subst (λ (xs : List Row). MayAdd (event.Install xs ∷ []) b) (sym first) (batch_accepted (world_of b) left fresh b.limits some, tt)

-- and then the others, since an install changes nothing of what there is to link
pub still_fresh : (left batch rest : List Row) (b c : State) → rest ≡ drop 256 left → Adds (event.Install batch ∷ []) b c → AreFresh (world_of b) left
    → AreFresh (world_of c) rest
still_fresh left batch rest b c later one fresh =
    subst (λ (w : World). AreFresh w rest) (sym (world_added (event.Install batch ∷ []) b c one))
    (subst (λ (xs : List Row). AreFresh (world_of b) xs) (sym later) (rest_fresh (world_of b) left fresh 256))

-- what is accepted is added
pub adds_of : (e : Event) (reply : Reply) (a b : State) → IsAccepted a b e reply → Adds (e ∷ []) a b
adds_of e reply a b accepted = record {
  events = ap events accepted.logged ∙ map-append (λ (entry : Event × Reply). entry.0) a.log ((e, reply) ∷ []);
  limit = ap (λ (core : State). core.limits) accepted.logged;
}

-- what may be accepted is refused for want of memory alone
lacks_memory : (verdict : Result Made Refusal) (r : Refusal) → IsOk verdict → IsRefused verdict r → r ≡ Memory
lacks_memory (Ok m) r ok (inl e) = cc
lacks_memory (Ok m) r ok (inr lacks) = lacks.0
lacks_memory (Err s) r ok refused = cc

-- what was split off, as the code has found it
pub front_is : (left front made : List Row) (n : ℕ) → n ≡ min 256 (length left) → front ≡ take n left → made ≡ front → made ≡ take 256 left
front_is left front made n is first copied = copied ∙ (first ∙ (ap (λ (k : ℕ). take k left) is ∙ take_min 256 left))

pub after_is : (left later : List Row) (n : ℕ) → n ≡ min 256 (length left) → later ≡ drop n left → later ≡ drop 256 left
after_is left later n is rest = rest ∙ (ap (λ (k : ℕ). drop k left) is ∙ drop_min 256 left)

pub install_lacks : (left batch : List Row) (b : State) (r : Refusal) → 1 ≤ length left → batch ≡ take 256 left → AreFresh (world_of b) left
    → IsRefused (verdict b.limits (world_of b) (event.Install batch)) r → r ≡ Memory
install_lacks left batch b r some first fresh refused =
    lacks_memory (verdict b.limits (world_of b) (event.Install batch)) r (may_install left batch b some first fresh).0 refused

-- a refusal of a core, as its clause has it
refused_in : (b : State) (e : Event) (r : Refusal) → IsRefused (verdict b.limits (world_of b) e) r → IsRefusedIn b e r
refused_in b e r (inl is) = inr is
refused_in b e r (inr lacks) = inl lacks.0

-- where the core refuses the next of them
pub stops : (rows left batch : List Row) (a b c : State) (r : Refusal) → 1 ≤ length left → c ≡ b → batch ≡ take 256 left → InstallsFront rows left a b
    → IsRefused (verdict b.limits (world_of b) (event.Install batch)) r → StopsAt rows a c r
stops rows left batch a b c r some same first so_far refused = record {
  left = left;
  some = some;
  front = subst (λ (core : State). InstallsFront rows left a core) (sym same) so_far;
  refused =
      subst (λ (core : State). IsRefusedIn core (event.Install (take 256 left)) r) (sym same)
      (subst (λ (xs : List Row). IsRefusedIn b (event.Install xs) r) first (refused_in b (event.Install batch) r refused));
}

-- where there is no memory for the next of them
pub lacks : {X E : Type 0} (rows left : List Row) (a b c : State) → 1 ≤ length left → c ≡ b → InstallsFront rows left a b
    → (r : Result X E) → OnErr r (StopsAt rows a c Memory)
lacks rows left a b c some same so_far (Ok x) = tt
lacks rows left a b c some same so_far (Err e) = record {
  left = left;
  some = some;
  front = subst (λ (core : State). InstallsFront rows left a core) (sym same) so_far;
  refused = inl refl;
}
