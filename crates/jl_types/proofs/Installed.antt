-- The test of History says what its relation says.
use Rattle.std.specs.Prelude.{◌≡◌, ℕ, ◌+◌, ◌<◌, ◌≤◌, ◌⊎◌, ◌||◌, nat_le, Bool, true, false, List, length, Some, None, Ok, Err, Result, if◌then◌else◌}
use Rattle.std.proofs.Common.{refl, ap, sym, ◌∙◌, arith, inl, inr, Decides, subst}
use Rattle.std.proofs.lemmas.Bool.Decides.{Decides-below_and, Decides-below_or, Decides-and, Decides-or, Decides-like, leb_tells}
use Rattle.std.proofs.Math.Seq.{take-length}
use Rattle.std.proofs.lemmas.Bool.{cases_lt}
use Rattle.std.proofs.lemmas.Option.{cond_some}
use Rattle.jl_types.specs.declared.link.Link.{Link}
use Rattle.jl_types.specs.declared.answer.Unlinked.{Unlinked}
use Rattle.jl_types.specs.Events.Event.{Event}
use Rattle.jl_types.specs.Linkage.Links.{same_link}
use Rattle.jl_types.specs.ForProofs.SameLink.{link_decides}
use Rattle.jl_types.specs.Linkage.Links.{scratch}
use Rattle.jl_types.specs.Events.History.{Settled, installed_at, scratch_after, world_after, is_link, kept, all_below, any_below, settled_since}
use Rattle.jl_types.specs.Events.History.{settled, installed, installed_of}
use Rattle.jl_types.proofs.Settling.{within}

le_decides : (n m : ℕ) → Decides (nat_le n m) (n ≤ m)
le_decides n m = elim (leb_tells n m) [ inl p ↦ (λ e. p.1, λ h. p.0) | inr p ↦ (λ e. cc, λ h. absurd (omega arith)) ]

pub is_link_decides : (r : Result Link Unlinked) (l : Link) → Decides (is_link r l) (r ≡ Ok l)
is_link_decides (Ok now) l = Decides-like (same_link now l) (ap Ok) (λ e. cc) (link_decides now l)
is_link_decides (Err reason) l = (λ e. cc, λ e. cc)

-- ---- what an event leaves of a link, if it installs none

-- if there was none, there is none
pub kept_none : (r : Result Link Unlinked) → kept false None r ≡ None
kept_none (Ok now) = refl
kept_none (Err reason) = refl

-- the link from scratch stays
pub kept_link : (l : Link) → kept false (Some l) (Ok l) ≡ Some l
kept_link l = ap (λ (b : Bool). if b then Some l else None) ((link_decides l l).1 refl)

-- ---- the test

module _ (h : List Event) (s : ℕ) (l : Link) where
  since_decides : (since : ℕ) → Decides (settled_since h s l since) ((installed_at h since s ≡ true)
      × ((n : ℕ) → n < length h + 1 → (n ≤ since) ⊎ (scratch_after h n s ≡ Ok l)))
  since_decides since =
      Decides-and (installed_at h since s) (all_below (λ n. nat_le n since || is_link (scratch_after h n s) l) (length h + 1)) (λ e. e, λ e. e)
      (Decides-below_and (λ n. nat_le n since || is_link (scratch_after h n s) l) (λ n. (n ≤ since) ⊎ (scratch_after h n s ≡ Ok l))
      (all_below (λ n. nat_le n since || is_link (scratch_after h n s) l))
      (λ n. Decides-or (nat_le n since) (is_link (scratch_after h n s) l) (le_decides n since) (is_link_decides (scratch_after h n s) l)) refl (λ n. refl)
      (length h + 1))

  pub settled_decides : Decides (settled h s l) (Settled h s l)
  settled_decides =
      let some =
      Decides-below_or (settled_since h s l)
      (λ since. (installed_at h since s ≡ true) × ((n : ℕ) → n < length h + 1 → (n ≤ since) ⊎ (scratch_after h n s ≡ Ok l)))
      (any_below (settled_since h s l)) since_decides refl (λ n. refl) (length h)
      in (
        λ e. let f = some.0 e in record {
          since = f.0;
          installed = f.2.0;
          stayed = λ n lt le. elim (f.2.1 n (omega arith)) [ inl small ↦ absurd (omega arith) | inr is ↦ is ];
        },
        λ st.
            some.1 (
              st.since,
              within h s st.since st.installed,
              (st.installed, λ n lt. elim (cases_lt st.since n) [ inr small ↦ inl small | inl large ↦ inr (st.stayed n large (omega arith)) ]),
            ),
      )

  -- a settled site's link is its link now
  pub settled_now : Settled h s l → scratch (world_after h) s ≡ Ok l
  settled_now st =
      let lt = within h s st.since st.installed in
      ap (λ (es : List Event). scratch (world_after es) s) (sym (take-length h)) ∙ st.stayed (length h) lt (omega arith)

  -- the site's installed link is the one by which it is settled
  pub installed_from : Settled h s l → installed h s ≡ Some l
  installed_from st = ap (installed_of h s) (settled_now st) ∙ ap (λ (b : Bool). if b then Some l else None) (settled_decides.1 st)

  from_now : (r : Result Link Unlinked) → installed_of h s r ≡ Some l → Settled h s l
  from_now (Err reason) e = cc
  from_now (Ok now) e =
      let p = cond_some (settled h s now) now l e in
      settled_decides.0 (subst (λ (k : Link). settled h s k ≡ true) p.1 p.0)

  pub installed_to : installed h s ≡ Some l → Settled h s l
  installed_to e = from_now (scratch (world_after h) s) e
