-- The sites that the index gives for an event's keys are those that the bound counts.
use Rattle.std.specs.Prelude.{◌≡◌, ℕ, ◌<◌, ◌&&◌, true, List, length, Option, Some, None, is_some}
use Rattle.std.proofs.Common.{refl, sym, ◌∙◌}
use Rattle.jl_types.specs.Events.Event.{Event}
use Rattle.jl_types.specs.declared.link.Link.{Link}
use Rattle.jl_types.specs.Events.History.{world_after, installed}
use Rattle.jl_types.proofs.InstalledLinks.{installed_requested}
use Rattle.jl_hierarchy.proofs.Rising.{one_rising, filter_rises}
use Rattle.jl_deps.specs.declared.form.Rests.{Rests}
use Rattle.jl_types.specs.Events.Footprints.{meets, keys, touches, touched}
use Rattle.jl_deps.specs.Indexes.{AreRising, IsIndex, touched_by}
use Rattle.jl_types.proofs.BySite.{rises_of}
use Rattle.jl_deps.proofs.IndexLaws.{touched_of}
use Rattle.jl_deps.proofs.TouchLaws.{sites_rise}
use Rattle.jl_deps.proofs.PointLaws.{in_range}

pub touched_are_bounded : (h : List Event) (e : Event) (index : List (ℕ × Rests)) → AreRising index → IsIndex (world_after h) (installed h) index
    → touched_by index (keys (world_after h) e) ≡ touched h e
touched_are_bounded h e index rising is_index =
    let w = world_after h in
    let p = λ (s : ℕ). is_some (installed h s) && touches w e s in
    one_rising (touched_by index (keys w e)) (touched h e)
    (sites_rise (λ r. meets r.footprint (keys w e)) index (rises_of index rising))
    (filter_rises p 0 (length w.places))
    (λ s. touched_of w e (installed h) index rising is_index s ∙ sym (in_range p (length w.places) (λ s passes. within s (installed h s) refl passes) s))
  where
    within : (s : ℕ) (o : Option Link) → installed h s ≡ o → (is_some o && touches (world_after h) e s) ≡ true → s < length (world_after h).places
    within s None is passes = cc
    within s (Some l) is passes = installed_requested h s l is
