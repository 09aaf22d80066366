-- What one accepted event does to the links and the log. A means of proof.
use Rattle.std.specs.Prelude.{◌≡◌, ◌==◌, ℕ, Bool, false, ◌&&◌, List, [], ◌∷◌, length, filter, Some, Ok, is_some, is_none}
use Rattle.std.specs.List.{list_any, range_with_len}
use Rattle.jl_types.specs.declared.link.Link.{Link}
use Rattle.jl_types.specs.Events.Event.{Event}
use Rattle.jl_types.specs.declared.event.EventOf.TheVariants as event
use Rattle.jl_types.specs.declared.event.Reply.{Reply}
use Rattle.jl_types.specs.Values.World.{World}
use Rattle.jl_types.specs.Linkage.Links.{scratch}
use Rattle.jl_types.specs.Events.Retirement.{retires_site}
use Rattle.jl_types.specs.Events.History.{installs, kept}
use Rattle.jl_cache.specs.Links.{link_at}
use Rattle.jl_events.specs.Accepted.{Accepted}
use Rattle.jl_events.specs.Changes.{IsMoved}
use Rattle.jl_core.specs.Logs.{Entry, IsLogged}

-- ---- the links

-- each installed link is the site's link from scratch
abbrev pub AreScratch : World → List (ℕ × Link) → Type 0
AreScratch w links = (s : ℕ) (l : Link) → link_at links s ≡ Some l → scratch w s ≡ Ok l

-- the accepted event installs a link at site s
abbrev pub installs_at : ℕ → Accepted → Bool
installs_at s (event.Install rows) = list_any (λ row. row.0 == s) rows
installs_at s _ = false

-- of the first n sites, those that had a link before and have none after, rising
abbrev pub lost : ℕ → List (ℕ × Link) → List (ℕ × Link) → List ℕ
lost n before after = filter (λ s. is_some (link_at before s) && is_none (link_at after s)) (range_with_len 0 n)

-- the accepted event retires site s
abbrev pub retires_at : World → Accepted → ℕ → Bool
retires_at w (event.Retire loader) s = retires_site w (loader ∷ []) s
retires_at w (event.RetireAll loaders) s = retires_site w loaders s
retires_at w _ s = false

-- ---- all of it

pub record IsDone (old new : World) (before after : List (ℕ × Link)) (log more : List Entry) (e : Event) (reply : Reply) : Type 0 where
  pub moved : IsMoved old new e reply.made
  pub dropped : reply.dropped ≡ lost (length old.places) before after
  pub links : (s : ℕ) → link_at after s ≡ kept (installs s e) (link_at before s) (scratch new s)
  pub logged : IsLogged new.classes.rows e reply log more
