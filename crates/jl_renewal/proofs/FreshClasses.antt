-- The classes that stay, in the fresh core.
use Rattle.std.specs.Prelude.{◌≡◌, ◌==◌, ℕ, true, false, not, List, [], slice_get, Option, Some, None, option_and_then, find}
use Rattle.std.specs.Option.{option_map_or}
use Rattle.std.proofs.Common.{refl, ap, ◌∙◌}
use Rattle.jl_class.specs.Class.{Method}
use Rattle.jl_types.specs.declared.ids.Place.{Place}
use Rattle.jl_types.specs.Values.World.{World, Class, Classes}
use Rattle.jl_types.specs.Values.Members.{is_present, is_retired, methods_of}
use Rattle.jl_types.specs.Linkage.Stages.{invocation_at}
use Rattle.jl_renewal.specs.declared.released.Released.{Released}
use Rattle.jl_renewal.specs.Numbers.{Numbers, new_number, renumbered}
use Rattle.jl_renewal.specs.Staying.{staying_classes, numbers_of}
use Rattle.jl_renewal.specs.Renewed.{renewed, renumbered_class, renumbered_place}
use Rattle.jl_renewal.proofs.StayLaws.{number_of, renumbered_once, renumbered_at, class_stays}

module _ (w : World) (released : Released) where
  abbrev n : Numbers
  n = numbers_of w released

  abbrev fresh : Classes
  fresh = (renewed w released).classes

  pub class_number : (c : ℕ) → is_present w.classes c ≡ true → new_number n.classes c ≡ Some (renumbered n.classes c)
  class_number c e = number_of (staying_classes w.classes) c (class_stays w.classes c e)

  pub class_once : (c d : ℕ) → is_present w.classes c ≡ true → is_present w.classes d ≡ true → renumbered n.classes c ≡ renumbered n.classes d → c ≡ d
  class_once c d here there e =
      renumbered_once (staying_classes w.classes) c d (class_stays w.classes c here) (class_stays w.classes d there) e

  -- a class that stays is there under its new number
  fresh_class : (c : ℕ) (row : Class) → is_present w.classes c ≡ true → slice_get w.classes.rows c ≡ Some row
      → slice_get fresh.rows (renumbered n.classes c) ≡ Some (renumbered_class n row)
  fresh_class c row e there = renumbered_at (renumbered_class n) (staying_classes w.classes) w.classes.rows c row (class_stays w.classes c e) there

  -- what a function says of the fresh row is what it says of the old one, where renumbering changes nothing
  row_same : {A : Type 0} (f : Class → A) (d : A) (c : ℕ) → ((row : Class) → f (renumbered_class n row) ≡ f row) → is_present w.classes c ≡ true
      → option_map_or f (slice_get fresh.rows (renumbered n.classes c)) d ≡ option_map_or f (slice_get w.classes.rows c) d
  row_same f d c same e = by_row (slice_get w.classes.rows c) refl e
    where
      by_row : (o : Option Class) → slice_get w.classes.rows c ≡ o → option_map_or (λ row. not (is_retired w.classes row.loader)) o false ≡ true
          → option_map_or f (slice_get fresh.rows (renumbered n.classes c)) d ≡ option_map_or f o d
      by_row None there present = cc
      by_row (Some row) there present = ap (λ o. option_map_or f o d) (fresh_class c row e there) ∙ same row

  pub fresh_present : (c : ℕ) → is_present w.classes c ≡ true → is_present fresh (renumbered n.classes c) ≡ true
  fresh_present c e = row_same (λ row. true) false c (λ row. refl) e ∙ has_row (slice_get w.classes.rows c) e
    where
      has_row : (o : Option Class) → option_map_or (λ row. not (is_retired w.classes row.loader)) o false ≡ true
          → option_map_or (λ row. true) o false ≡ true
      has_row None present = present
      has_row (Some row) present = refl

  pub fresh_methods : (c : ℕ) → is_present w.classes c ≡ true → methods_of fresh (renumbered n.classes c) ≡ methods_of w.classes c
  fresh_methods c e = row_same (λ row. row.file.methods) [] c (λ row. refl) e

  pub fresh_invocation : (place : Place) → is_present w.classes place.class ≡ true
      → invocation_at fresh (renumbered_place n place) ≡ invocation_at w.classes place
  fresh_invocation place e =
      ap (λ (methods : List Method). option_and_then (λ method. find (λ site. site.pc == place.pc) method.sites) (slice_get methods place.method))
      (fresh_methods place.class e)
