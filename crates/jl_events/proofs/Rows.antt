-- Worked events: what is kept of them, and which classes they define.
use Rattle.std.specs.Prelude.{◌≡◌, ℕ, [], ◌∷◌, length, Some, None}
use Rattle.std.proofs.Common.{refl}
use Rattle.jl_class.specs.Class.{ClassFile}
use Rattle.jl_types.specs.declared.event.EventOf.TheVariants as event
use Rattle.jl_types.specs.Values.World.{Class, World}
use Rattle.jl_events.specs.Accepted.{event_of}
use Rattle.jl_events.specs.Changes.{class_of, defined_by}

-- ---- what is kept of a definition

module _ (row : Class) where
  class_tells_its_definition : event_of (row ∷ []) (event.Define 3 0) ≡ Some (event.Define 3 row.file)
  class_tells_its_definition = refl

  no_class_tells_nothing : event_of (row ∷ []) (event.Define 3 1) ≡ None
  no_class_tells_nothing = refl

kept_by_its_number : class_of (event.Define 3 7) ≡ Some 7
kept_by_its_number = refl

kept_switch_is_no_class : class_of event.NewSwitch ≡ None
kept_switch_is_no_class = refl

-- ---- which class an event defines

module _ (w : World) (loader : ℕ) (file : ClassFile) where
  definition_defines_the_next_class : defined_by w (event.Define loader file) ≡ Some (length w.classes.rows)
  definition_defines_the_next_class = refl

  new_switch_defines_none : defined_by w event.NewSwitch ≡ None
  new_switch_defines_none = refl
