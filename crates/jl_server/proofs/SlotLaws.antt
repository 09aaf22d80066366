-- What the slots of published links are once one is written.
use Rattle.std.specs.Prelude.{◌≡◌, ◌≢◌, ℕ, zero, suc, ◌+◌, ◌<◌, ◌≤◌, ◌^◌, true, false, List, [], ◌∷◌, ◌++◌, map, length, filter, replicate, get_or, slice_get}
use Rattle.std.specs.Prelude.{slice_set, Option, Some, None, option_map}
use Rattle.std.proofs.lemmas.Bool.{cases_eq}
use Rattle.std.proofs.lemmas.Grind.{get_or-set_at}
use Rattle.std.proofs.lemmas.Option.{same_Some}
use Rattle.std.proofs.Common.{◌⊎◌, inl, inr, ⊎_elim, refl, ap, sym, subst, ◌∙◌, arith, length-append}
use Rattle.std.proofs.lemmas.List.{map-set, set-get_or, get_or-set_same, get_or-set_other, length-set, length-replicate}
use Rattle.jl_types.specs.declared.link.Link.TheVariants as link
use Rattle.jl_types.specs.declared.link.TableKind.{TableKind}
use Rattle.jl_server.specs.declared.links.Slot.{Slot}
use Rattle.jl_server.specs.declared.links.Slot.TheVariants.{Empty, Fault, Plain, Direct, Table, Mega}
use Rattle.jl_server.specs.ForProofs.Slots.{Rows, link_of, has_table, has_place, place_of, ArePlaces, AreSlots, IsPut}

-- ---- places

-- of a site that has no place, a place more is one more
pub one_more : (places : List ℕ) (s n : ℕ) → s < length places → get_or places s 0 ≡ 0
    → length (filter has_place (slice_set places s (suc n))) ≡ length (filter has_place places) + 1
one_more [] s n within none = absurd (omega (arith, within))
one_more (zero ∷ places) zero n within none = omega arith
one_more (suc p ∷ places) zero n within none = absurd (omega (arith, none))
one_more (zero ∷ places) (suc s) n within none = one_more places s n (omega (arith, within)) none
one_more (suc p ∷ places) (suc s) n within none =
    let rest = one_more places s n (omega (arith, within)) none in
    omega (arith, rest)

pub at_most : (places : List ℕ) → length (filter has_place places) ≤ length places
at_most [] = omega arith
at_most (zero ∷ places) = let rest = at_most places in omega (arith, rest)
at_most (suc p ∷ places) = let rest = at_most places in omega (arith, rest)

pub none_placed : (n : ℕ) → length (filter has_place (replicate n 0)) ≡ 0
none_placed zero = refl
none_placed (suc n) = none_placed n

pub no_place : (n s : ℕ) → (let none : ℕ = 0 in get_or (replicate n none) s 0 ≡ 0)
no_place zero s = refl
no_place (suc n) zero = refl
no_place (suc n) (suc s) = no_place n s

placed_at : (number n : ℕ) → place_of number ≡ Some n → number ≡ suc n
placed_at zero n is = cc
placed_at (suc place) n is = ap suc (same_Some place n is)

placed_nowhere : (number : ℕ) → place_of number ≡ None → number ≡ 0
placed_nowhere zero is = refl
placed_nowhere (suc place) is = cc

-- what was read
pub read_place : (places read : List ℕ) (s n : ℕ) (place : Option ℕ) → read ≡ places → place ≡ place_of (get_or read s 0) → place ≡ Some n
    → get_or places s 0 ≡ suc n
read_place places read s n place same is some =
    placed_at (get_or places s 0) n (ap (λ xs. place_of (get_or xs s 0)) (sym same) ∙ sym is ∙ some)

pub read_none : (places read : List ℕ) (s : ℕ) (place : Option ℕ) → read ≡ places → place ≡ place_of (get_or read s 0) → place ≡ None
    → get_or places s 0 ≡ 0
read_none places read s place same is none =
    placed_nowhere (get_or places s 0) (ap (λ xs. place_of (get_or xs s 0)) (sym same) ∙ sym is ∙ none)

-- while a site has no place there is room
pub has_room : (places : List ℕ) (tables : List Rows) (s : ℕ) → ArePlaces places tables → s < length places → get_or places s 0 ≡ 0
    → length tables < length places
has_room places tables s are within none =
    let more = one_more places s 0 within none in
    let most = at_most (slice_set places s 1) in
    omega (arith, more, most, length-set places s 1, are.count)

-- ---- lists

module _ {T : Type 0} where
  pub got_in_front : (xs ys : List T) (i : ℕ) → i < length xs → slice_get (xs ++ ys) i ≡ slice_get xs i
  got_in_front [] ys i few = absurd (omega (arith, few))
  got_in_front (x ∷ xs) ys zero few = refl
  got_in_front (x ∷ xs) ys (suc i) few = got_in_front xs ys i (omega (arith, few))

  pub got_last : (xs : List T) (x : T) → slice_get (xs ++ x ∷ []) (length xs) ≡ Some x
  got_last [] x = refl
  got_last (y ∷ xs) x = got_last xs x

  pub got_set : (xs : List T) (i : ℕ) (x : T) → i < length xs → slice_get (slice_set xs i x) i ≡ Some x
  got_set [] i x few = absurd (omega (arith, few))
  got_set (y ∷ xs) zero x few = refl
  got_set (y ∷ xs) (suc i) x few = got_set xs i x (omega (arith, few))

  pub got_other : (xs : List T) (i j : ℕ) (x : T) → j ≢ i → slice_get (slice_set xs i x) j ≡ slice_get xs j
  got_other [] i j x apart = refl
  got_other (y ∷ xs) zero zero x apart = absurd (apart refl)
  got_other (y ∷ xs) zero (suc j) x apart = refl
  got_other (y ∷ xs) (suc i) zero x apart = refl
  got_other (y ∷ xs) (suc i) (suc j) x apart = got_other xs i j x (λ e. apart (ap suc e))

  all_same : {U : Type 0} (f g : T → U) (d : T) (xs : List T) → ((t : ℕ) → t < length xs → f (get_or xs t d) ≡ g (get_or xs t d)) → map f xs ≡ map g xs
  all_same f g d [] same = refl
  all_same f g d (x ∷ xs) same = λ i. same 0 (omega arith) i ∷ all_same f g d xs (λ t few. same (suc t) (omega (arith, few))) i

  -- two functions that agree but at one place give lists that differ there alone
  pub same_but : {U : Type 0} (f g : T → U) (d : T) (xs : List T) (s : ℕ) (u : U) → ((t : ℕ) → t ≢ s → t < length xs → f (get_or xs t d) ≡ g (get_or xs t d))
      → slice_set (map f xs) s u ≡ slice_set (map g xs) s u
  same_but f g d [] s u same = refl
  same_but f g d (x ∷ xs) zero u same = ap (λ ys. u ∷ ys) (all_same f g d xs (λ t few. same (suc t) (omega arith) (omega (arith, few))))
  same_but f g d (x ∷ xs) (suc s) u same =
      λ i. same 0 (omega arith) (omega arith) i ∷ same_but f g d xs s u (λ t apart few. same (suc t) (λ e. apart (omega (arith, e))) (omega (arith, few))) i

-- ---- places

-- the rows of a site that has its place
pub put_again : (places : List ℕ) (tables : List Rows) (s n : ℕ) (row : Rows) → ArePlaces places tables → get_or places s 0 ≡ suc n
    → ArePlaces places (slice_set tables n row)
put_again places tables s n row are at =
    record {
      few = are.few;
      count = length-set tables n row ∙ are.count;
      within = λ t m is. let few = are.within t m is in omega (arith, few, length-set tables n row);
      apart = are.apart;
    }

pub is_put_again : (places : List ℕ) (tables : List Rows) (s n : ℕ) (row : Rows) → ArePlaces places tables → get_or places s 0 ≡ suc n
    → IsPut places tables s row n places (slice_set tables n row)
is_put_again places tables s n row are at =
    record {
      places = sym (ap (slice_set places s) (sym at) ∙ set-get_or places s 0);
      rows = got_set tables n row (are.within s n at);
      own = λ t is. are.apart t s n is at;
      others = λ m apart few. got_other tables n m row apart;
    }

-- the rows of a site that had no place
module _ (places : List ℕ) (tables : List Rows) (s : ℕ) (row : Rows) (are : ArePlaces places tables) (few : s < length places)
    (none : get_or places s 0 ≡ 0) where
  not_there : (t : ℕ) → get_or places t 0 ≡ suc (length tables) → ⊥
  not_there t is = let past = are.within t (length tables) is in omega (arith, past)

  -- each place is the new one, which site s has, or one that was there
  place_after : (t n : ℕ) → get_or (slice_set places s (suc (length tables))) t 0 ≡ suc n
      → ((t ≡ s) × (n ≡ length tables)) ⊎ ((t ≢ s) × (get_or places t 0 ≡ suc n))
  place_after t n is =
      ⊎_elim
      (λ (same : t ≡ s).
      let new = get_or-set_at places s t (suc (length tables)) 0 same few in
      inl (same, omega (arith, new, is)))
      (λ (apart : t ≢ s). inr (apart, sym (get_or-set_other places s t (suc (length tables)) 0 apart) ∙ is)) (cases_eq t s)

  within_after : (t n : ℕ) → get_or (slice_set places s (suc (length tables))) t 0 ≡ suc n → n < length (tables ++ row ∷ [])
  within_after t n is =
      let longer = length-append tables (row ∷ []) in
      elim (place_after t n is) [ inl both ↦ omega (arith, both.1, longer) | inr both ↦ (let few = are.within t n both.1 in omega (arith, few, longer)) ]

  apart_after : (t u n : ℕ) → get_or (slice_set places s (suc (length tables))) t 0 ≡ suc n
      → get_or (slice_set places s (suc (length tables))) u 0 ≡ suc n → t ≡ u
  apart_after t u n is also =
      elim (place_after t n is) [
        | inl one ↦ elim (place_after u n also) [
          | inl other ↦ one.0 ∙ sym other.0
          | inr other ↦ absurd (let past = are.within u n other.1 in omega (arith, past, one.1))
        ]
        | inr one ↦ elim (place_after u n also) [
          | inl other ↦ absurd (let past = are.within t n one.1 in omega (arith, past, other.1))
          | inr other ↦ are.apart t u n one.1 other.1
        ]
      ]

  are_first : ArePlaces (slice_set places s (suc (length tables))) (tables ++ row ∷ [])
  are_first =
      record {
        few = omega (arith, are.few, length-set places s (suc (length tables)));
        count =
            length-append tables (row ∷ []) ∙ ap (λ n. n + 1) are.count ∙ sym (one_more places s (length tables) few none);
        within = within_after;
        apart = apart_after;
      }

  is_first : IsPut places tables s row (length tables) (slice_set places s (length tables + 1)) (tables ++ row ∷ [])
  is_first =
      record {
        places = ap (slice_set places s) (omega arith);
        rows = got_last tables row;
        own = λ t is. absurd (not_there t is);
        others = λ m apart few. got_in_front tables (row ∷ []) m few;
      }

  pub put_first : (n : ℕ) (new : List Rows) → n ≡ length tables → new ≡ tables ++ row ∷ [] → ArePlaces (slice_set places s (n + 1)) new
  put_first n new at is =
      let number : suc (length tables) ≡ n + 1 = omega (arith, at) in
      subst (λ m. ArePlaces (slice_set places s m) new) number (subst (ArePlaces (slice_set places s (suc (length tables)))) (sym is) are_first)

  pub is_put_first : (n : ℕ) (new : List Rows) → n ≡ length tables → new ≡ tables ++ row ∷ [] → IsPut places tables s row n (slice_set places s (n + 1)) new
  is_put_first n new at is =
      subst (λ m. IsPut places tables s row m (slice_set places s (m + 1)) new) (sym at)
      (subst (IsPut places tables s row (length tables) (slice_set places s (length tables + 1))) (sym is) is_first)

-- ---- slots

-- without a slot that names a place, a slot says its link by itself
pub by_itself : (tables : List Rows) (slot : Slot) → has_table slot ≡ false → link_of tables slot ≡ link_of [] slot
by_itself tables Empty plain = refl
by_itself tables (Fault throwable) plain = refl
by_itself tables (Plain method) plain = refl
by_itself tables (Direct outcome) plain = refl
by_itself tables (Table kind place) plain = cc
by_itself tables Mega plain = refl

names_none : (slot : Slot) (kind : TableKind) (n : ℕ) → has_table slot ≡ false → slot ≡ Table kind n → ⊥
names_none slot kind n plain is = let names : has_table slot ≡ true = ap has_table is in cc

-- a slot that names no place
module _ (slots : List Slot) (places : List ℕ) (tables : List Rows) (most s : ℕ) (slot : Slot) (are : AreSlots slots places tables most)
    (plain : has_table slot ≡ false) (few : s < length slots) where
  pub slot_set : AreSlots (slice_set slots s slot) places tables most
  slot_set =
      record {
        each = are.each ∙ sym (length-set slots s slot);
        room = omega (arith, are.room, length-set slots s slot);
        placed = are.placed;
        named =
            λ t n kind is.
            ⊎_elim
            (λ (same : t ≡ s). absurd (names_none slot kind n plain (sym (get_or-set_at slots s t slot Empty same few) ∙ is)))
            (λ (apart : t ≢ s). are.named t n kind (sym (get_or-set_other slots s t slot Empty apart) ∙ is)) (cases_eq t s);
      }

  pub slot_seen : map (link_of tables) (slice_set slots s slot) ≡ slice_set (map (link_of tables) slots) s (link_of [] slot)
  slot_seen = map-set (link_of tables) slots s slot ∙ ap (slice_set (map (link_of tables) slots) s) (by_itself tables slot plain)

-- a slot that names the place of the rows that were put
module _ (slots : List Slot) (places : List ℕ) (tables : List Rows) (most s : ℕ) (kind : TableKind) (row : Rows) (n : ℕ) (after : List ℕ) (new : List Rows)
    (are : AreSlots slots places tables most) (few : s < length slots) (next : ArePlaces after new) (put : IsPut places tables s row n after new) where
  -- of each other site
  same_place : (t : ℕ) → t ≢ s → get_or after t 0 ≡ get_or places t 0
  same_place t apart = ap (λ xs. get_or xs t 0) put.places ∙ get_or-set_other places s t (suc n) 0 apart

  own_place : get_or after s 0 ≡ suc n
  own_place = ap (λ xs. get_or xs s 0) put.places ∙ get_or-set_same places s (suc n) 0 (omega (arith, few, are.each))

  named_after : (t m : ℕ) (other : TableKind) → get_or (slice_set slots s (Table kind n)) t Empty ≡ Table other m → get_or after t 0 ≡ suc m
  named_after t m other is =
      ⊎_elim
      (λ (same : t ≡ s).
      let there : Table kind n ≡ Table other m = sym (get_or-set_at slots s t (Table kind n) Empty same few) ∙ is in
      let equal : n ≡ m = cc in
      ap (λ u. get_or after u 0) same ∙ own_place ∙ ap suc equal)
      (λ (apart : t ≢ s). same_place t apart ∙ are.named t m other (sym (get_or-set_other slots s t (Table kind n) Empty apart) ∙ is)) (cases_eq t s)

  pub table_set : AreSlots (slice_set slots s (Table kind n)) after new most
  table_set =
      record {
        each = ap length put.places ∙ length-set places s (suc n) ∙ are.each ∙ sym (length-set slots s (Table kind n));
        room = omega (arith, are.room, length-set slots s (Table kind n));
        placed = next;
        named = named_after;
      }

  -- the link of a slot whose rows stay
  link_stays : (slot : Slot) → ((m : ℕ) (other : TableKind) → slot ≡ Table other m → slice_get new m ≡ slice_get tables m)
      → link_of new slot ≡ link_of tables slot
  link_stays Empty stays = refl
  link_stays (Fault throwable) stays = refl
  link_stays (Plain method) stays = refl
  link_stays (Direct outcome) stays = refl
  link_stays (Table other m) stays = ap (λ rows. option_map (λ row. link.Table other row) rows) (stays m other refl)
  link_stays Mega stays = refl

  rows_stay : (t : ℕ) → t ≢ s → (m : ℕ) (other : TableKind) → get_or slots t Empty ≡ Table other m → slice_get new m ≡ slice_get tables m
  rows_stay t apart m other is =
      let named = are.named t m other is in
      put.others m (λ e. apart (put.own t (named ∙ ap suc e))) (are.placed.within t m named)

  pub table_seen : map (link_of new) (slice_set slots s (Table kind n)) ≡ slice_set (map (link_of tables) slots) s (Some (link.Table kind row))
  table_seen =
      map-set (link_of new) slots s (Table kind n)
      ∙ ap (slice_set (map (link_of new) slots) s) (ap (option_map (λ rows. link.Table kind rows)) put.rows)
      ∙ same_but (link_of new) (link_of tables) Empty slots s (Some (link.Table kind row))
      (λ t apart few. link_stays (get_or slots t Empty) (rows_stay t apart))

-- a site past the end
pub nothing_set : {T : Type 0} (xs : List T) (s : ℕ) (x : T) → length xs ≤ s → slice_set xs s x ≡ xs
nothing_set [] s x past = refl
nothing_set (y ∷ xs) zero x past = absurd (omega (arith, past))
nothing_set (y ∷ xs) (suc s) x past = ap (λ zs. y ∷ zs) (nothing_set xs s x (omega (arith, past)))

-- ---- no links

pub none_seen : (n : ℕ) → map (link_of []) (replicate n Empty) ≡ replicate n None
none_seen zero = refl
none_seen (suc n) = ap (λ xs. None ∷ xs) (none_seen n)

no_suc : (m : ℕ) → 0 ≡ suc m → ⊥
no_suc m is = omega (arith, is)

no_table : (n s m : ℕ) (kind : TableKind) → get_or (replicate n Empty) s Empty ≡ Table kind m → ⊥
no_table zero s m kind is = cc
no_table (suc n) zero m kind is = cc
no_table (suc n) (suc s) m kind is = no_table n s m kind is

pub no_slots : (n most : ℕ) → n < 2 ^ 32 → n ≤ most → AreSlots (replicate n Empty) (replicate n 0) [] most
no_slots n most few room =
    record {
      each = length-replicate {A = ℕ} n 0 ∙ sym (length-replicate n Empty);
      room = omega (arith, room, length-replicate n Empty);
      placed =
          record {
            few = omega (arith, few, length-replicate {A = ℕ} n 0);
            count = sym (none_placed n);
            within = λ s m is. absurd (no_suc m (sym (no_place n s) ∙ is));
            apart = λ s t m is also. absurd (no_suc m (sym (no_place n s) ∙ is));
          };
      named = λ s m kind is. absurd (no_table n s m kind is);
    }

pub made_slots : (n : ℕ) (slots : List Slot) (places : List ℕ) (tables : List Rows) (most : ℕ) → slots ≡ replicate n Empty → places ≡ replicate n 0
    → tables ≡ [] → most ≡ n → n < 2 ^ 32 → AreSlots slots places tables most
made_slots n slots places tables most each at none room few =
    subst (λ xs. AreSlots xs places tables most) (sym each)
    (subst (λ xs. AreSlots (replicate n Empty) xs tables most) (sym at)
    (subst (λ xs. AreSlots (replicate n Empty) (replicate n 0) xs most) (sym none) (no_slots n most few (omega (arith, room)))))

pub made_none : (n : ℕ) (slots : List Slot) (tables : List Rows) → slots ≡ replicate n Empty → tables ≡ [] → map (link_of tables) slots ≡ replicate n None
made_none n slots tables each none = (λ i. map (link_of (none i)) (each i)) ∙ none_seen n
