-- One call that requests an invocation and installs its link, and one that installs the links of those sites that have one.
use Rattle.std.specs.Prelude.{◌≡◌, ◌⊎◌, ℕ, nat_lt, ◌==◌, List, [], ◌∷◌, ◌++◌, map, filter_map, drop, length, Option, Some, None, Result, Ok, Err}
use Rattle.std.specs.Prelude.{MatchBool, if◌then◌else◌}
use Rattle.jl_types.specs.declared.answer.Unlinked.{Unlinked}
use Rattle.jl_types.specs.declared.link.Link.{Link}
use Rattle.jl_types.specs.Values.World.{World}
use Rattle.jl_types.specs.Linkage.Links.{scratch}
use Rattle.jl_types.specs.Events.Event.{Event}
use Rattle.jl_types.specs.Events.History.{installed}
use Rattle.jl_core.specs.State.{State, events, world_of}
use Rattle.jl_host.specs.declared.told.Told.{Told}
use Rattle.jl_host.specs.declared.shown.LinkShown.{LinkShown}
use Rattle.jl_host.specs.Numbers.{done, memory, malformed, closed, too_short}
use Rattle.jl_host.specs.Telling.{nothing}
use Rattle.jl_host.specs.Showing.{link_shown}
use Rattle.jl_host.specs.Linkers.{Opened, IsAsked, IsUnasked, IsInstalled, request_at}

-- a link that the site has stays; if it has none, its link is prepared and installed
abbrev pub IsInstalledOnce : ℕ → Option Link → Opened → ℕ → Told → Opened → Type 0
IsInstalledOnce s (Some link) old status told new = IsUnasked done old status told new
IsInstalledOnce s None old status told new = IsInstalled (s ∷ []) old status told new

-- The site s of the place is linked. It is told in any case, and the link that is installed at it then.
pub record IsLinkedAt (s : ℕ) (old : Opened) (status : ℕ) (told : Told) (link : LinkShown) (new : Opened) : Type 0 where
  pub said : Told
  pub linked : IsInstalledOnce s (installed (events old.session.core) s) old status said new
  pub told_is : told ≡ record said { number = s }
  pub link_is : link ≡ link_shown (installed (events new.session.core) s)

-- the place is requested by this event; a refusal of that is told, and else its site is linked
pub record IsLinked (request : Event) (old : Opened) (before : LinkShown) (status : ℕ) (told : Told) (link : LinkShown) (new : Opened) : Type 0 where
  pub first : ℕ
  pub said : Told
  pub between : Opened
  pub requested : IsAsked request old first said between
  pub rest : MatchBool (first == done) (IsLinkedAt said.number between status told link new)
      ((status ≡ first) × (told ≡ said) × (link ≡ before) × (new ≡ between))

-- the request, if it is one
abbrev pub IsLinkedIf : Option Event → Opened → LinkShown → ℕ → Told → LinkShown → Opened → Type 0
IsLinkedIf None old before status told link new = IsUnasked malformed old status told new × (link ≡ before)
IsLinkedIf (Some request) old before status told link new = IsLinked request old before status told link new

abbrev pub IsLink : ℕ → ℕ → ℕ → Option Opened → LinkShown → ℕ → Told → LinkShown → Option Opened → Type 0
IsLink class method pc None before status told link new = (status ≡ closed) × (told ≡ nothing) × (link ≡ before) × (new ≡ None)
IsLink class method pc (Some old) before status told link new =
    (next : Opened) × (new ≡ Some next) × IsLinkedIf (request_at class method pc) old before status told link next

-- ---- those of several sites that have a link

-- the site, if it has a link from scratch
abbrev pub if_linked : ℕ → Result Link Unlinked → Option ℕ
if_linked s (Ok link) = Some s
if_linked s (Err reason) = None

-- those of the sites that have a link from scratch now
abbrev pub ready_among : World → List ℕ → List ℕ
ready_among w sites = filter_map (λ s. if_linked s (scratch w s)) sites

-- if there are none, nothing is installed
abbrev pub IsInstalledIfAny : List ℕ → Opened → ℕ → Told → Opened → Type 0
IsInstalledIfAny [] old status told new = IsUnasked done old status told new
IsInstalledIfAny (s ∷ sites) old status told new = IsInstalled (s ∷ sites) old status told new

-- what is installed at each of the sites, at the front of the array
abbrev pub links_at : State → List ℕ → List LinkShown → List LinkShown
links_at core sites before = map (λ s. link_shown (installed (events core) s)) sites ++ drop (length sites) before

-- the links of those of the sites that have one are installed; if that was done, what each of the sites has is written
pub record IsReadied (sites : List ℕ) (old : Opened) (before : List LinkShown) (status : ℕ) (told : Told) (after : List LinkShown) (new : Opened) : Type 0
  where
    pub installed : IsInstalledIfAny (ready_among (world_of old.session.core) sites) old status told new
    pub written : after ≡ (if status == done then links_at new.session.core sites before else before)

-- no event was asked for, for this reason, and nothing was written
abbrev pub IsNotReadied : ℕ → Opened → List LinkShown → ℕ → Told → List LinkShown → Opened → Type 0
IsNotReadied reason old before status told after new = IsUnasked reason old status told new × (after ≡ before)

-- the links have room for fewer sites; or there was no memory for their lists; or this is so
abbrev pub IsReadyIn : List ℕ → Opened → List LinkShown → ℕ → Told → List LinkShown → Opened → Type 0
IsReadyIn sites old before status told after new =
    MatchBool (nat_lt (length before) (length sites)) (IsNotReadied too_short old before status told after new)
    (IsReadied sites old before status told after new ⊎ IsNotReadied memory old before status told after new)

abbrev pub IsInstallReady : List ℕ → Option Opened → List LinkShown → ℕ → Told → List LinkShown → Option Opened → Type 0
IsInstallReady sites None before status told after new = (status ≡ closed) × (told ≡ nothing) × (after ≡ before) × (new ≡ None)
IsInstallReady sites (Some old) before status told after new =
    (next : Opened) × (new ≡ Some next) × IsReadyIn sites old before status told after next
