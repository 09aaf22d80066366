-- Worked links: which stay, and which go.
use Rattle.std.specs.Prelude.{◌≡◌, ℕ, true, false, [], ◌∷◌, length, Some, None}
use Rattle.std.proofs.Common.{refl}
use Rattle.jl_class.specs.Class.{ClassFile}
use Rattle.jl_types.specs.declared.event.EventOf.TheVariants as event
use Rattle.jl_types.specs.declared.link.Link.TheVariants.{Mega}
use Rattle.jl_types.specs.Values.World.{World, nothing_yet}
use Rattle.jl_types.specs.Events.Footprints.{most_for}
use Rattle.jl_settle.specs.Settling.{kept_at, goes, defined_by, most_asked}

-- a site that was never requested has no link from scratch
unrequested_is_not_kept : kept_at nothing_yet (λ s. Some Mega) 0 ≡ None
unrequested_is_not_kept = refl

unrequested_goes : goes nothing_yet (λ s. Some Mega) 0 ≡ true
unrequested_goes = refl

module _ (w : World) (s : ℕ) where
  no_link_goes : goes w (λ s. None) s ≡ false
  no_link_goes = refl

module _ (w : World) (loader : ℕ) (file : ClassFile) where
  definition_defines_the_next_class : defined_by w (event.Define loader file) ≡ Some (length w.classes.rows)
  definition_defines_the_next_class = refl

  new_switch_defines_none : defined_by w event.NewSwitch ≡ None
  new_switch_defines_none = refl

-- of a class that was defined a site takes one, and of another event what its link may take
module _ (w : World) (s : ℕ) where
  one_of_a_definition : most_asked w (Some 0) s ≡ 1
  one_of_a_definition = refl

  most_of_another_event : most_asked w None s ≡ most_for w s
  most_of_another_event = refl
