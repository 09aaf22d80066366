-- What one more event leaves installed.
use Rattle.std.specs.Prelude.{◌≡◌, ℕ, ◌||◌, Bool, List, [], ◌∷◌, ◌++◌, Option, Some, None, Ok, Err, Result, if◌then◌else◌}
use Rattle.std.specs.Bool.{one_answer}
use Rattle.std.proofs.Common.{refl, ap, inl, inr, Decides}
use Rattle.std.proofs.lemmas.Bool.Decides.{Decides-or, Decides-like}
use Rattle.jl_types.specs.declared.link.Link.{Link}
use Rattle.jl_types.specs.declared.answer.Unlinked.{Unlinked}
use Rattle.jl_types.specs.Events.Event.{Event}
use Rattle.jl_types.specs.Linkage.Links.{same_link}
use Rattle.jl_types.specs.ForProofs.SameLink.{link_decides}
use Rattle.jl_types.specs.Linkage.Links.{scratch}
use Rattle.jl_types.specs.Events.History.{installs, world_after, settled, installed, installed_of, has_link, kept}
use Rattle.jl_types.proofs.Settling.{settles, stays, only_so}
use Rattle.jl_types.proofs.Installed.{settled_decides, installed_from, installed_to}

has_link_decides : (o : Option Link) (l : Link) → Decides (has_link o l) (o ≡ Some l)
has_link_decides None l = (λ e. cc, λ e. cc)
has_link_decides (Some m) l = Decides-like (same_link m l) (ap Some) (λ e. cc) (link_decides m l)

module _ (h : List Event) (e : Event) (s : ℕ) where
  by_link : (l : Link) → scratch (world_after (h ++ e ∷ [])) s ≡ Ok l → settled (h ++ e ∷ []) s l ≡ (installs s e || has_link (installed h s) l)
  by_link l now = one_answer (settled (h ++ e ∷ []) s l) (installs s e || has_link (installed h s) l)
      (Decides-like (settled (h ++ e ∷ []) s l) (λ st. (only_so h e s l st).1) (λ u. elim u [ inl i ↦ settles h e s l i now | inr old ↦ stays h e s l old now ])
      (settled_decides (h ++ e ∷ []) s l))
      (Decides-or (installs s e) (has_link (installed h s) l) (λ i. i, λ i. i)
      (Decides-like (has_link (installed h s) l) (installed_to h s l) (installed_from h s l) (has_link_decides (installed h s) l)))

  by_now : (r : Result Link Unlinked) → scratch (world_after (h ++ e ∷ [])) s ≡ r → installed_of (h ++ e ∷ []) s r ≡ kept (installs s e) (installed h s) r
  by_now (Err reason) now = refl
  by_now (Ok l) now = ap (λ (b : Bool). if b then Some l else None) (by_link l now)

  pub installed_step : installed (h ++ e ∷ []) s ≡ kept (installs s e) (installed h s) (scratch (world_after (h ++ e ∷ [])) s)
  installed_step = by_now (scratch (world_after (h ++ e ∷ [])) s) refl
