-- One more event settles what it installs, and keeps what keeps its link.
use Rattle.std.specs.Prelude.{◌≡◌, ℕ, zero, suc, ◌+◌, ◌<◌, ◌≤◌, ◌⊎◌, true, false, List, [], ◌∷◌, ◌++◌, take, length, slice_get, Option, Some, Ok}
use Rattle.std.specs.Option.{option_map_or}
use Rattle.std.proofs.Common.{ap, sym, ◌∙◌, arith, inl, inr, length-append}
use Rattle.std.proofs.lemmas.Bool.{cases_lt}
use Rattle.std.proofs.lemmas.List.{take-append-le}
use Rattle.std.proofs.Math.Seq.{take-append-add}
use Rattle.jl_types.specs.declared.link.Link.{Link}
use Rattle.jl_types.specs.Events.Event.{Event}
use Rattle.jl_types.specs.Linkage.Links.{scratch}
use Rattle.jl_types.proofs.Lists.{before_end, at_end}
use Rattle.jl_types.specs.Events.History.{Settled, installs, installed_at, scratch_after, world_after}

-- if an event installs, there is one
pub within : (h : List Event) (s k : ℕ) → installed_at h k s ≡ true → k < length h
within [] s k i = cc
within (e ∷ h) s zero i = omega arith
within (e ∷ h) s (suc k) i = let r = within h s k i in omega arith

module _ (h : List Event) (e : Event) (s : ℕ) (l : Link) where
  older : (n : ℕ) → n ≤ length h → scratch_after (h ++ e ∷ []) n s ≡ scratch_after h n s
  older n le = ap (λ (es : List Event). scratch (world_after es) s) (take-append-le n h (e ∷ []) le)

  newest : (n : ℕ) → length h < n → n ≤ length (h ++ e ∷ []) → scratch_after (h ++ e ∷ []) n s ≡ scratch (world_after (h ++ e ∷ [])) s
  newest n lt le =
      let k : n ≡ length h + 1 = omega (arith, length-append h (e ∷ [])) in
      let p : take n (h ++ e ∷ []) ≡ h ++ e ∷ [] = rw k (take-append-add h (e ∷ []) 1) in
      ap (λ (es : List Event). scratch (world_after es) s) p

  -- the event installs the site
  pub settles : installs s e ≡ true → scratch (world_after (h ++ e ∷ [])) s ≡ Ok l → Settled (h ++ e ∷ []) s l
  settles i now = record {
    since = length h;
    installed = ap (λ (o : Option Event). option_map_or (installs s) o false) (at_end h e) ∙ i;
    stayed = λ n lt le. newest n lt le ∙ now;
  }

  stayed_on : Settled h s l → scratch (world_after (h ++ e ∷ [])) s ≡ Ok l → (n : ℕ) → n ≤ length (h ++ e ∷ []) → (length h < n) ⊎ (n ≤ length h)
      → (since : ℕ) → ((n : ℕ) → since < n → n ≤ length h → scratch_after h n s ≡ Ok l) → since < n → scratch_after (h ++ e ∷ []) n s ≡ Ok l
  stayed_on old now n le (inr small) since st lt = older n small ∙ st n lt small
  stayed_on old now n le (inl large) since st lt = newest n large le ∙ now

  -- the site stays settled while its link stays
  pub stays : Settled h s l → scratch (world_after (h ++ e ∷ [])) s ≡ Ok l → Settled (h ++ e ∷ []) s l
  stays old now = record {
    since = old.since;
    installed = ap (λ (o : Option Event). option_map_or (installs s) o false) (before_end h e old.since (within h s old.since old.installed)) ∙ old.installed;
    stayed = λ n lt le. stayed_on old now n le (cases_lt (length h) n) old.since old.stayed lt;
  }

  split : (new : Settled (h ++ e ∷ []) s l) → (new.since < length h) ⊎ (length h ≤ new.since) → (installs s e ≡ true) ⊎ Settled h s l
  split new (inl small) = inr (record {
    since = new.since;
    installed = ap (λ (o : Option Event). option_map_or (installs s) o false) (sym (before_end h e new.since small)) ∙ new.installed;
    stayed = λ n lt le. sym (older n le) ∙ new.stayed n lt (omega (arith, length-append h (e ∷ [])));
  })
  split new (inr large) =
      let k : new.since ≡ length h = omega (arith, within (h ++ e ∷ []) s new.since new.installed, length-append h (e ∷ [])) in
      let p : slice_get (h ++ e ∷ []) new.since ≡ Some e = rw k (at_end h e) in
      inl (ap (λ (o : Option Event). option_map_or (installs s) o false) (sym p) ∙ new.installed)

  -- there is no other way to be settled
  pub only_so : Settled (h ++ e ∷ []) s l → (scratch (world_after (h ++ e ∷ [])) s ≡ Ok l) × ((installs s e ≡ true) ⊎ Settled h s l)
  only_so new =
      let last = within (h ++ e ∷ []) s new.since new.installed in
      let long = length-append h (e ∷ []) in (
        sym (newest (length h + 1) (omega arith) (omega arith)) ∙ new.stayed (length h + 1) (omega arith) (omega arith),
        split new (cases_lt new.since (length h)),
      )
