-- A link is that of its place among its classes, whatever else is requested, if no call site is bound.
use Rattle.std.proofs.Common.{◌≡◌, ◌∙◌, ap, refl, ℕ, Option, Some, None, List, [], if◌then◌else◌}
use Rattle.std.specs.Prelude.{slice_get}
use Rattle.jl_class.specs.Site.{Site}
use Rattle.jl_class.specs.declared.site.Kind.{Kind}
use Rattle.jl_class.specs.declared.site.Operand.{Operand}
use Rattle.jl_class.specs.declared.site.Operand.TheVariants as operand
use Rattle.jl_types.specs.declared.ids.Place.{Place}
use Rattle.jl_types.specs.Values.World.{World}
use Rattle.jl_types.specs.Values.Members.{is_present}
use Rattle.jl_types.specs.Linkage.Stages.{Stage, Waits, bound_to, by_binding, by_operand, stage_of, stage_at, invocation_at}
use Rattle.jl_types.specs.declared.answer.Unlinked.TheVariants.{Gone}
use Rattle.jl_types.specs.Linkage.Links.{scratch, link_of}
use Rattle.jl_types.specs.declared.key.Key.{Key}
use Rattle.jl_types.specs.Events.Footprints.{footprint, of_place, of_operand, of_binding, of_invocation}
use Rattle.jl_relink.specs.Placed.{asking}

same_operand : (w : World) (s : ℕ) (place : Place) (kind : Kind) (named : Operand (List ℕ)) → bound_to w s ≡ None
    → by_operand w s place.class kind named ≡ by_operand (asking w.classes place) 0 place.class kind named
same_operand w s place kind (operand.Method ref) none = refl
same_operand w s place kind (operand.CallSite specifier) none = ap (by_binding w.sites) none

same_stage : (w : World) (s : ℕ) (place : Place) (invocation : Option Site) → bound_to w s ≡ None
    → stage_of w s place.class invocation ≡ stage_of (asking w.classes place) 0 place.class invocation
same_stage w s place None none = refl
same_stage w s place (Some site) none = same_operand w s place site.kind site.operand none

pub same_scratch : (w : World) (s : ℕ) (place : Place) → slice_get w.places s ≡ Some place → bound_to w s ≡ None
    → scratch w s ≡ scratch (asking w.classes place) 0
same_scratch w s place at none =
    ap (λ found. link_of w.classes (stage_at w s found)) at
    ∙ ap (λ (found : Stage). link_of w.classes (if is_present w.classes place.class then found else Waits Gone))
    (same_stage w s place (invocation_at w.classes place) none)

same_rest : (w : World) (s : ℕ) (place : Place) (kind : Kind) (named : Operand (List ℕ)) → bound_to w s ≡ None
    → of_operand w s place.class kind named ≡ of_operand (asking w.classes place) 0 place.class kind named
same_rest w s place kind (operand.Method ref) none = refl
same_rest w s place kind (operand.CallSite specifier) none = ap (of_binding w.sites) none

same_footprint_of : (w : World) (s : ℕ) (place : Place) (invocation : Option Site) → bound_to w s ≡ None
    → of_invocation w s place.class invocation ≡ of_invocation (asking w.classes place) 0 place.class invocation
same_footprint_of w s place None none = refl
same_footprint_of w s place (Some site) none = same_rest w s place site.kind site.operand none

pub same_footprint : (w : World) (s : ℕ) (place : Place) → slice_get w.places s ≡ Some place → bound_to w s ≡ None
    → footprint w s ≡ footprint (asking w.classes place) 0
same_footprint w s place at none =
    ap (of_place w s) at
    ∙ ap (λ (keys : List Key). if is_present w.classes place.class then keys else [])
    (same_footprint_of w s place (invocation_at w.classes place) none)
