-- What is told of a site's link by one receiver.
use Rattle.std.specs.Prelude.{◌≡◌, ◌≢◌, ◌<◌, ℕ, Bool, length, Option, Some, None}
use Rattle.jl_types.specs.declared.ids.MethodId.{MethodId}
use Rattle.jl_types.specs.declared.link.Link.{Link}
use Rattle.jl_types.specs.Values.World.{World, Classes}
use Rattle.jl_types.specs.Linkage.Stages.{Stage, ResolvedCall, BySpecial, Selects, stage}
use Rattle.jl_types.specs.Linkage.Links.{outcome, runs}
use Rattle.jl_types.specs.Events.Footprints.{stays_with}
use Rattle.jl_relink.specs.declared.selection.Selection.{Selection}
use Rattle.jl_relink.specs.Stages.{IsKept}

-- what is kept of an invocation that selects by its receiver and isn't an invokespecial
abbrev pub IsSelection : Classes → Stage → Option Selection → Type 0
IsSelection cs stage None = (i : ResolvedCall) → stage ≡ Selects i → i.selector ≡ BySpecial
IsSelection cs stage (Some s) = (i : ResolvedCall) × (stage ≡ Selects i) × IsKept s i × (s.named < length cs.rows)

-- if the site selects by its receiver, the answer is whether the link stays once there is this receiver more
abbrev pub TellsStay : World → ℕ → Link → ℕ → Bool → Type 0
TellsStay w s l x stays = (i : ResolvedCall) → stage w s ≡ Selects i → i.selector ≢ BySpecial → stays ≡ stays_with l (outcome w.classes i x)

-- if the site selects by its receiver, the answer is whether it runs the method for this one
abbrev pub TellsRun : World → ℕ → MethodId → ℕ → Bool → Type 0
TellsRun w s m x does = (i : ResolvedCall) → stage w s ≡ Selects i → i.selector ≢ BySpecial → does ≡ runs m (outcome w.classes i x)
