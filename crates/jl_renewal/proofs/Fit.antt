-- What holds of a world after accepted events, of which a renewal makes use.
use Rattle.std.specs.Prelude.{◌≡◌, ◌<◌, ℕ, true, false, List, length, slice_get, Some, None, IsOk, take}
use Rattle.std.specs.Str.{bytes_eq}
use Rattle.jl_types.specs.declared.limits.Limits.{Limits}
use Rattle.jl_pool.specs.declared.reference.CallSiteSpecifier.{CallSiteSpecifier}
use Rattle.jl_class.specs.Site.{Site}
use Rattle.jl_class.specs.declared.site.Operand.TheVariants as operand
use Rattle.jl_types.specs.declared.ids.Place.{Place}
use Rattle.jl_types.specs.Values.World.{World, Class, CallSite, unreleased}
use Rattle.jl_types.specs.Values.Members.{lookup, is_retired}
use Rattle.jl_types.specs.Linkage.Stages.{invocation_at}
use Rattle.jl_types.specs.Linkage.Targets.{target_fault}
use Rattle.jl_types.specs.Events.Event.{Event}
use Rattle.jl_types.specs.Events.Verdict.{verdict, names_array, is_polymorphic, same_place}
use Rattle.jl_types.specs.Events.History.{world_after}

-- each event was accepted after those before it
abbrev pub AllAccepted : Limits → List Event → Type 0
AllAccepted limits h = (n : ℕ) (e : Event) → slice_get h n ≡ Some e → IsOk (verdict limits (world_after (take n h)) e)

-- an invocation stands at the place that may be requested
pub record IsInvoked (w : World) (place : Place) : Type 0 where
  pub site : Site
  pub at : invocation_at w.classes place ≡ Some site
  pub array : names_array site.operand ≡ false
  pub polymorphic : is_polymorphic site.operand ≡ false

-- the site is an invokedynamic of the call site's type, unless the call site is released
pub record IsBinding (w : World) (b : ℕ × ℕ) : Type 0 where
  pub place : Place
  pub site : Site
  pub specifier : CallSiteSpecifier (List ℕ)
  pub requested : slice_get w.places b.0 ≡ Some place
  pub at : invocation_at w.classes place ≡ Some site
  pub dynamic : site.operand ≡ operand.CallSite specifier
  pub within : b.1 < length w.sites.call_sites
  pub type : (row : CallSite) → unreleased w.sites.call_sites b.1 ≡ Some row → bytes_eq row.ty specifier.ty ≡ true

pub record IsFit (w : World) : Type 0 where
  -- what a loader finds under a name has that name
  pub named : (loader : ℕ) (name : List ℕ) (c : ℕ) (row : Class) → lookup w.classes loader name ≡ Some c → slice_get w.classes.rows c ≡ Some row
      → row.file.name ≡ name
  -- a loader that isn't retired finds what it has defined
  pub found : (c : ℕ) (row : Class) → slice_get w.classes.rows c ≡ Some row → is_retired w.classes row.loader ≡ false
      → lookup w.classes row.loader row.file.name ≡ Some c
  -- the target of each call site that isn't released would be taken now
  pub targets : (c : ℕ) (site : CallSite) → unreleased w.sites.call_sites c ≡ Some site → target_fault w c site.ty site.target ≡ None
  pub places : (s : ℕ) (place : Place) → slice_get w.places s ≡ Some place → IsInvoked w place
  pub once : (s t : ℕ) (p q : Place) → slice_get w.places s ≡ Some p → slice_get w.places t ≡ Some q → same_place p q ≡ true → s ≡ t
  pub bindings : (i : ℕ) (b : ℕ × ℕ) → slice_get w.bindings i ≡ Some b → IsBinding w b
  pub bound_once : (i j : ℕ) (a b : ℕ × ℕ) → slice_get w.bindings i ≡ Some a → slice_get w.bindings j ≡ Some b → a.0 ≡ b.0 → i ≡ j
