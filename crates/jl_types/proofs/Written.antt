-- The slots of a legal list, written one after another, are what is installed after its events.
use Rattle.std.specs.Prelude.{◌≡◌, ◌≢◌, ℕ, zero, suc, ◌+◌, ◌<◌, ◌≤◌, ◌⊎◌, Bool, true, false, List, [], ◌∷◌, ◌++◌, length, fold, replicate, filter_map}
use Rattle.std.specs.Prelude.{slice_get, set, get_or, Option, Some, None, option_map, if◌then◌else◌}
use Rattle.std.specs.List.{range_with_len, cons_option}
use Rattle.std.specs.Option.{unwrap_or}
use Rattle.std.proofs.Common.{refl, ap, sym, ◌∙◌, arith, inl, inr}
use Rattle.std.proofs.lemmas.Bool.{cases_lt}
use Rattle.std.proofs.lemmas.List.{get_or-set_other, get_or-replicate, get_or_past, length-set}
use Rattle.std.proofs.lemmas.List.Sums.{fold-append}
use Rattle.std.proofs.lemmas.Grind.{get_or-set_at}
use Rattle.std.proofs.lemmas.Option.{slice_get-get_or}
use Rattle.jl_types.specs.declared.limits.Limits.{Limits}
use Rattle.jl_types.specs.declared.link.Link.{Link}
use Rattle.jl_types.specs.Events.Event.{Event}
use Rattle.jl_types.specs.ForProofs.SameLink.{link_decides}
use Rattle.jl_types.specs.Events.History.{world_after, installed}
use Rattle.jl_types.specs.Events.Entries.{Entry, IsEntry, IsLegal, events_of, same_slot, change, slots_changed, written, table_of}
use Rattle.jl_types.proofs.InstalledLinks.{installed_requested}
use Rattle.jl_types.proofs.Legal.{by_entries, events_more}
use Rattle.jl_types.proofs.Places.{places_grow, legal_limit}

-- ---- a slot that changes, and one that doesn't

same_slot_is : (a b : Option Link) → same_slot a b ≡ true → a ≡ b
same_slot_is None None e = refl
same_slot_is None (Some l) e = cc
same_slot_is (Some l) None e = cc
same_slot_is (Some l) (Some m) e = ap Some (sym ((link_decides m l).0 e))

pub changed : (before after : Option Link) → unwrap_or (change before after) before ≡ after
changed before after = by_test (same_slot before after) refl
  where
    by_test : (b : Bool) → same_slot before after ≡ b → unwrap_or (if b then None else Some after) before ≡ after
    by_test true is = same_slot_is before after is
    by_test false is = refl

-- ---- writing

pub length_written : (slots : List (ℕ × Option Link)) (table : List (Option Link)) → length (written table slots) ≡ length table
length_written [] table = refl
length_written (slot ∷ slots) table = length_written slots (set table slot.0 slot.1) ∙ length-set table slot.0 slot.1

-- what f gives of n sites from a on
abbrev pub rows : (ℕ → Option (Option Link)) → ℕ → ℕ → List (ℕ × Option Link)
rows f a n = filter_map (λ t. option_map (λ slot. (t, slot)) (f t)) (range_with_len a n)

-- that, written
module _ (f : ℕ → Option (Option Link)) (s : ℕ) where
  abbrev from_first : ℕ → ℕ → Option (Option Link) → List (ℕ × Option Link)
  from_first a n o = cons_option (option_map (λ slot. (a, slot)) o) (rows f (a + 1) n)

  -- another site's slot stays
  past_first : (a n : ℕ) (table : List (Option Link)) (o : Option (Option Link)) → s ≢ a
      → ((t : List (Option Link)) → get_or (written t (rows f (a + 1) n)) s None ≡ get_or t s None)
      → get_or (written table (from_first a n o)) s None ≡ get_or table s None
  past_first a n table None apart rest = rest table
  past_first a n table (Some slot) apart rest = rest (set table a slot) ∙ get_or-set_other table a s slot None apart

  outside : (n a : ℕ) (table : List (Option Link)) → (s < a) ⊎ (a + n ≤ s) → get_or (written table (rows f a n)) s None ≡ get_or table s None
  outside zero a table other = refl
  outside (suc n) a table (inl lt) = past_first a n table (f a) (λ (e : s ≡ a). absurd (omega arith)) (λ t. outside n (a + 1) t (inl (omega arith)))
  outside (suc n) a table (inr le) = past_first a n table (f a) (λ (e : s ≡ a). absurd (omega arith)) (λ t. outside n (a + 1) t (inr (omega arith)))

  at_first : (a n : ℕ) (table : List (Option Link)) (o : Option (Option Link)) → f a ≡ o → s ≡ a → s < length table
      → get_or (written table (from_first a n o)) s None ≡ unwrap_or (f s) (get_or table s None)
  at_first a n table None is same lt =
      outside n (a + 1) table (inl (omega arith)) ∙ sym (ap (λ o. unwrap_or o (get_or table s None)) (ap f same ∙ is))
  at_first a n table (Some slot) is same lt =
      outside n (a + 1) (set table a slot) (inl (omega arith)) ∙ get_or-set_at table a s slot None same (omega arith)
      ∙ sym (ap (λ o. unwrap_or o (get_or table s None)) (ap f same ∙ is))

  after_first : (a n : ℕ) (table : List (Option Link)) (o : Option (Option Link)) → s ≢ a → s < length table
      → ((t : List (Option Link)) → s < length t → get_or (written t (rows f (a + 1) n)) s None ≡ unwrap_or (f s) (get_or t s None))
      → get_or (written table (from_first a n o)) s None ≡ unwrap_or (f s) (get_or table s None)
  after_first a n table None apart lt rest = rest table lt
  after_first a n table (Some slot) apart lt rest =
      rest (set table a slot) (omega (arith, length-set table a slot)) ∙ ap (unwrap_or (f s)) (get_or-set_other table a s slot None apart)

  -- the site's slot is what f gives of it
  inside : (n a : ℕ) (table : List (Option Link)) → a ≤ s → s < a + n → s < length table
      → get_or (written table (rows f a n)) s None ≡ unwrap_or (f s) (get_or table s None)
  inside zero a table le lt wide = absurd (omega arith)
  inside (suc n) a table le lt wide = elim (cases_lt a s) [
    | inl above ↦ after_first a n table (f a) (λ (e : s ≡ a). absurd (omega arith)) wide (λ t w. inside n (a + 1) t (omega arith) (omega arith) w)
    | inr below ↦ at_first a n table (f a) refl (omega arith) wide
  ]

-- ---- an entry

-- a site that isn't requested has no link
pub unrequested : (h : List Event) (s : ℕ) → length (world_after h).places ≤ s → installed h s ≡ None
unrequested h s le = by_link (installed h s) refl
  where
    by_link : (o : Option Link) → installed h s ≡ o → o ≡ None
    by_link None is = refl
    by_link (Some l) is = let lt = installed_requested h s l is in absurd (omega arith)

module _ (h : List Event) (e : Event) (s : ℕ) (table : List (Option Link)) (wide : s < length table) (now : get_or table s None ≡ installed h s) where
  pub slots_written : get_or (written table (slots_changed h e)) s None ≡ installed (h ++ e ∷ []) s
  slots_written = by_place (cases_lt s (length (world_after (h ++ e ∷ [])).places))
    where
      by_place : (s < length (world_after (h ++ e ∷ [])).places) ⊎ (length (world_after (h ++ e ∷ [])).places ≤ s)
          → get_or (written table (slots_changed h e)) s None ≡ installed (h ++ e ∷ []) s
      by_place (inl lt) =
          inside (λ t. change (installed h t) (installed (h ++ e ∷ []) t)) s (length (world_after (h ++ e ∷ [])).places) 0 table (omega arith)
          (omega arith) wide
          ∙ ap (λ (o : Option Link). unwrap_or (change (installed h s) (installed (h ++ e ∷ []) s)) o) now
          ∙ changed (installed h s) (installed (h ++ e ∷ []) s)
      by_place (inr le) =
          outside (λ t. change (installed h t) (installed (h ++ e ∷ []) t)) s (length (world_after (h ++ e ∷ [])).places) 0 table (inr (omega arith))
          ∙ now ∙ unrequested h s (let grown = places_grow h e in omega arith) ∙ sym (unrequested (h ++ e ∷ []) s le)

-- ---- a legal list

width : (limits : Limits) (entries : List Entry) (table : List (Option Link)) → length table ≡ limits.sites
    → length (fold (λ links entry. written links entry.slots) table entries) ≡ limits.sites
width limits [] table is = is
width limits (entry ∷ entries) table is = width limits entries (written table entry.slots) (length_written entry.slots table ∙ is)

no_links : (n : ℕ) (o : Option Link) → length (replicate n o) ≡ n
no_links zero o = refl
no_links (suc n) o = ap suc (no_links n o)

pub length_table : (limits : Limits) (entries : List Entry) → length (table_of limits entries) ≡ limits.sites
length_table limits entries = width limits entries (replicate limits.sites None) (no_links limits.sites None)

abbrev Shows : Limits → List Entry → Type 0
Shows limits entries = (s : ℕ) → s < limits.sites → get_or (table_of limits entries) s None ≡ installed (events_of entries) s

module _ (limits : Limits) where
  shows_none : Shows limits []
  shows_none s lt = get_or-replicate limits.sites s None None lt

  shows_more : (done : List Entry) (entry : Entry) → IsEntry limits (events_of done) entry → Shows limits done → Shows limits (done ++ entry ∷ [])
  shows_more done entry next shows s lt =
      let h = events_of done in
      let table = table_of limits done in
      ap (λ (links : List (Option Link)). get_or links s None) (fold-append (λ (links : List (Option Link)) (p : Entry). written links p.slots)
      (replicate limits.sites None) done (entry ∷ []))
      ∙ ap (λ (slots : List (ℕ × Option Link)). get_or (written table slots) s None) next.slots
      ∙ slots_written h entry.event s table (omega (arith, length_table limits done)) (shows s lt)
      ∙ sym (ap (λ (es : List Event). installed es s) (events_more done entry))

  module _ (entries : List Entry) (legal : IsLegal limits entries) where
    below : (s : ℕ) → s < limits.sites → get_or (table_of limits entries) s None ≡ installed (events_of entries) s
    below = by_entries limits (Shows limits) shows_more shows_none entries legal

    pub beyond : (s : ℕ) → limits.sites ≤ s → installed (events_of entries) s ≡ None
    beyond s le = unrequested (events_of entries) s (let limit = legal_limit limits entries legal in omega arith)

    pub legal_slots : (s : ℕ) → s < limits.sites → slice_get (table_of limits entries) s ≡ Some (installed (events_of entries) s)
    legal_slots s lt = slice_get-get_or (table_of limits entries) s None (omega (arith, length_table limits entries)) ∙ ap Some (below s lt)

    -- the table is what is installed, also where it ends
    pub legal_shows : (s : ℕ) → get_or (table_of limits entries) s None ≡ installed (events_of entries) s
    legal_shows s = elim (cases_lt s limits.sites) [
      | inl lt ↦ below s lt
      | inr le ↦ get_or_past (table_of limits entries) s None (omega (arith, length_table limits entries)) ∙ sym (beyond s le)
    ]
