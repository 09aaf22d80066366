-- The sites of a batch, one at a time.
use Rattle.std.specs.Prelude.{◌≡◌, ℕ, ◌<◌, ◌+◌, ◌==◌, nat_le, take, drop, get_or, Bool, true, false, ◌||◌, List, [], ◌∷◌, ◌++◌, fold}
use Rattle.std.specs.Prelude.{map, length, ◌≤◌, All, Option, Some, None, option_map, Result, Ok, Err}
use Rattle.std.specs.Bool.{then_some}
use Rattle.std.specs.List.{list_any, AllZip}
use Rattle.std.proofs.Common.{refl, ap, sym, subst, ◌∙◌, append-nil, arith}
use Rattle.std.proofs.lemmas.List.{take-append-drop, take_more}
use Rattle.std.proofs.lemmas.List.Elements.{All-append, All-cons, All-head, All-nil, All-tail}
use Rattle.std.proofs.lemmas.Bool.{lt-leb}
use Rattle.jl_types.specs.declared.link.Link.{Link}
use Rattle.jl_types.specs.declared.answer.Unlinked.{Unlinked}
use Rattle.jl_types.specs.declared.refusal.SitesFault.{SitesFault}
use Rattle.jl_types.specs.declared.refusal.SitesFault.TheVariants.{Repeated}
use Rattle.jl_types.specs.declared.refusal.PrepareFault.{PrepareFault}
use Rattle.jl_types.specs.declared.refusal.PrepareFault.TheVariants as fault
use Rattle.jl_types.specs.Events.Batches.{is_bad_size, sites_fault}
use Rattle.jl_types.specs.Events.Preparation.{of_sites, link_fault, ready_fault, prepare_fault, ArePrepared}
use Rattle.jl_types.specs.Values.World.{World}
use Rattle.jl_types.specs.Linkage.Links.{scratch}
use Rattle.jl_types.specs.Linkage.Resolution.{first_of}
use Rattle.jl_types.proofs.Bools.{or_none}
use Rattle.jl_types.proofs.Firsts.{first_alone}
use Rattle.jl_types.proofs.Lists.{rest_at}

-- ---- unknown and repeated sites

module _ {A : Type 0} (site : A → ℕ) where
  -- the sites of these rows, the last one first
  abbrev pub sites_before : List A → List ℕ
  sites_before rows = fold (λ sites row. site row ∷ sites) [] rows

  any_fold : (s : ℕ) (rows : List A) (sites : List ℕ)
      → list_any (λ t. t == s) (fold (λ sites row. site row ∷ sites) sites rows) ≡ (list_any (λ row. site row == s) rows || list_any (λ t. t == s) sites)
  any_fold s [] sites = refl
  any_fold s (row ∷ rows) sites = any_fold s rows (site row ∷ sites) ∙ turned (list_any (λ row. site row == s) rows) (site row == s)
      (list_any (λ t. t == s) sites)
    where
      turned : (a b c : Bool) → (a || (b || c)) ≡ ((b || a) || c)
      turned true true c = refl
      turned true false c = refl
      turned false true c = refl
      turned false false c = refl

  pub any_site : (s : ℕ) (rows : List A) → list_any (λ t. t == s) (sites_before rows) ≡ list_any (λ row. site row == s) rows
  any_site s rows = any_fold s rows [] ∙ or_none (list_any (λ row. site row == s) rows)

  fold_end : (sites : List ℕ) (rows : List A) (row : A) → fold (λ sites row. site row ∷ sites) sites (rows ++ row ∷ []) ≡ site row
      ∷ fold (λ sites row. site row ∷ sites) sites rows
  fold_end sites [] row = refl
  fold_end sites (x ∷ rows) row = fold_end (site x ∷ sites) rows row

  pub sites_more : (rows : List A) (row : A) → sites_before (rows ++ row ∷ []) ≡ site row ∷ sites_before rows
  sites_more rows row = fold_end [] rows row

pub repeated_site : (w : World) (earlier : List ℕ) (s : ℕ) (sites : List ℕ) → nat_le (length w.places) s ≡ false → list_any (λ t. t == s) earlier ≡ true
    → sites_fault w earlier (s ∷ sites) ≡ Some (Repeated s)
repeated_site w earlier s sites e f = rw (e, f) refl

pub new_site : (w : World) (earlier : List ℕ) (s : ℕ) (sites : List ℕ) → nat_le (length w.places) s ≡ false → list_any (λ t. t == s) earlier ≡ false
    → sites_fault w earlier (s ∷ sites) ≡ sites_fault w (s ∷ earlier) sites
new_site w earlier s sites e f = rw (e, f) (first_alone (sites_fault w (s ∷ earlier) sites))

-- one row on, where the rows before have no fault
module _ {A : Type 0} (site : A → ℕ) (w : World) (rows : List A) (n : ℕ) (row : A) (lt : n < length rows) (is : row ≡ get_or rows n row) (s : ℕ)
    (same : s ≡ site row) (known : s < length w.places) where
  abbrev left : ℕ → Option SitesFault
  left k = sites_fault w (sites_before site (take k rows)) (map site (drop k rows))

  split : left n ≡ sites_fault w (sites_before site (take n rows)) (s ∷ map site (drop (n + 1) rows))
  split =
      ap (λ (rs : List A). sites_fault w (sites_before site (take n rows)) (map site rs)) (rest_at rows n row lt is)
      ∙ ap (λ t. sites_fault w (sites_before site (take n rows)) (t ∷ map site (drop (n + 1) rows))) (sym same)

  pub comes_again : list_any (λ r. site r == s) (take n rows) ≡ true → left n ≡ Some (Repeated s)
  comes_again h = split ∙ repeated_site w (sites_before site (take n rows)) s (map site (drop (n + 1) rows)) (lt-leb (length w.places) s known)
      (any_site site s (take n rows) ∙ h)

  pub comes_first : list_any (λ r. site r == s) (take n rows) ≡ false → left (n + 1) ≡ left n
  comes_first h =
      ap (λ (earlier : List ℕ). sites_fault w earlier (map site (drop (n + 1) rows)))
      (ap (sites_before site) (take_more rows n row lt ∙ ap (λ (r : A). take n rows ++ r ∷ []) (sym is))
      ∙ sites_more site (take n rows) row
      ∙ ap (λ t. t ∷ sites_before site (take n rows)) (sym same))
      ∙ sym (new_site w (sites_before site (take n rows)) s (map site (drop (n + 1) rows)) (lt-leb (length w.places) s known)
      (any_site site s (take n rows) ∙ h))
      ∙ sym split

-- ---- sites below a bound

module _ {A : Type 0} (site : A → ℕ) where
  -- what isn't below the bound is none of those that are
  pub none_equal : (bound s : ℕ) (rows : List A) → All (λ row. site row < bound) rows → bound ≤ s → list_any (λ row. site row == s) rows ≡ false
  none_equal bound s [] below past = refl
  none_equal bound s (row ∷ rows) below past =
      let lower = All-head (λ row. site row < bound) row rows below in
      ap (λ b. b || list_any (λ row. site row == s) rows) (other (site row) s (omega (arith, lower, past)))
      ∙ none_equal bound s rows (All-tail (λ row. site row < bound) row rows below) past
    where
      other : (a b : ℕ) → a < b → (a == b) ≡ false
      other a b lt = grind (arith, lt)

  weaker : (bound next : ℕ) (rows : List A) → bound ≤ next → All (λ row. site row < bound) rows → All (λ row. site row < next) rows
  weaker bound next rows up below = λ k d there. let low = below k d there in omega (arith, low, up)

  -- one row on
  pub all_below : (bound next : ℕ) (rows : List A) (n : ℕ) (row : A) → n < length rows → row ≡ get_or rows n row
      → All (λ row. site row < bound) (take n rows) → bound ≤ next → site row < next → All (λ row. site row < next) (take (n + 1) rows)
  all_below bound next rows n row there is below up lt =
      subst (All (λ row. site row < next)) (sym (take_more rows n row there ∙ ap (λ (r : A). take n rows ++ r ∷ []) (sym is)))
      (All-append (λ row. site row < next) (take n rows) (row ∷ []) (weaker bound next (take n rows) up below)
      (All-cons (λ row. site row < next) row [] lt (All-nil (λ row. site row < next))))

-- ---- the links of a preparation

first_site : (w : World) (s : ℕ) (sites : List ℕ) (r : Result Link Unlinked) → scratch w s ≡ r
    → ready_fault w (s ∷ sites) ≡ first_of (link_fault s r ∷ map (λ s. link_fault s (scratch w s)) sites)
first_site w s sites r e = ap (λ (r : Result Link Unlinked). first_of (link_fault s r ∷ map (λ s. link_fault s (scratch w s)) sites)) e

pub not_ready : (w : World) (s : ℕ) (sites : List ℕ) (reason : Unlinked) → scratch w s ≡ Err reason → ready_fault w (s ∷ sites) ≡ Some (fault.NotReady s)
not_ready w s sites reason e = first_site w s sites (Err reason) e

pub ready : (w : World) (s : ℕ) (sites : List ℕ) (link : Link) → scratch w s ≡ Ok link → ready_fault w (s ∷ sites) ≡ ready_fault w sites
ready w s sites link e = first_site w s sites (Ok link) e

-- sites that have links are passed over
ready_past : (w : World) (sites rest : List ℕ) (rows : List (ℕ × Link)) → ArePrepared w sites rows → ready_fault w (sites ++ rest) ≡ ready_fault w rest
ready_past w [] rest [] h = refl
ready_past w [] rest (row ∷ rows) h = absurd h
ready_past w (s ∷ sites) rest [] h = absurd h
ready_past w (s ∷ sites) rest (row ∷ rows) h = ready w s (sites ++ rest) row.1 h.0.1 ∙ ready_past w sites rest rows h.1

pub all_ready : (w : World) (sites : List ℕ) (rows : List (ℕ × Link)) → ArePrepared w sites rows → ready_fault w sites ≡ None
all_ready w sites rows h = ap (ready_fault w) (sym (append-nil sites)) ∙ ready_past w sites [] rows h

fails_first : (w : World) (s : ℕ) (sites : List ℕ) (f : PrepareFault) → link_fault s (scratch w s) ≡ Some f → ready_fault w (s ∷ sites) ≡ Some f
fails_first w s sites f e = ap (λ (o : Option PrepareFault). first_of (o ∷ map (λ s. link_fault s (scratch w s)) sites)) e

pub first_unready : (w : World) (sites : List ℕ) (n s : ℕ) (rows : List (ℕ × Link)) (f : PrepareFault) → ArePrepared w (take n sites) rows
    → drop n sites ≡ s ∷ drop (n + 1) sites → link_fault s (scratch w s) ≡ Some f → ready_fault w sites ≡ Some f
first_unready w sites n s rows f h e g =
    ap (ready_fault w) (sym (take-append-drop n sites))
    ∙ ready_past w (take n sites) (drop n sites) rows h
    ∙ ap (ready_fault w) e
    ∙ fails_first w s (drop (n + 1) sites) f g

pub size_and_sites : (w : World) (sites : List ℕ) → is_bad_size (length sites) ≡ false → sites_fault w [] sites ≡ None
    → prepare_fault w sites ≡ ready_fault w sites
size_and_sites w sites e f = (λ i. first_of (then_some (e i) fault.BatchSize ∷ option_map of_sites (f i) ∷ ready_fault w sites ∷ []))
    ∙ first_alone (ready_fault w sites)

pub zip_each : {A B : Type 0} (P Q : A → B → Type 0) → ((x : A) (y : B) → P x y → Q x y) → (xs : List A) (ys : List B) → AllZip P xs ys → AllZip Q xs ys
zip_each P Q f [] [] h = h
zip_each P Q f [] (y ∷ ys) h = absurd h
zip_each P Q f (x ∷ xs) [] h = absurd h
zip_each P Q f (x ∷ xs) (y ∷ ys) h = (f x y h.0, zip_each P Q f xs ys h.1)
