-- What links rest on, in old classes and in what a renewal makes of them: a class that is present is found under its new number, with the
-- same file, and all that it rests on with it.
use Rattle.std.specs.Prelude.{◌≡◌, ℕ, ◌<◌, ◌==◌, Bool, true, All, List, map, slice_get, Some, option_map}
use Rattle.jl_types.specs.declared.ids.MethodId.{MethodId}
use Rattle.jl_types.specs.Values.World.{Class, Classes}
use Rattle.jl_types.specs.Values.Members.{lookup, class_test, is_present, is_interface, is_concrete, same_package, methods_of, method_at, declared}
use Rattle.jl_types.specs.Values.Ancestry.{superclass_of, superclasses, is_subclass, is_proper_subclass, is_ancestor, is_proper_ancestor}
use Rattle.jl_types.specs.Values.Ancestry.{superinterfaces, receivers, AreOrdered}
use Rattle.jl_hierarchy.specs.Constancy.{IsClosed}
use Rattle.jl_renewal.specs.Numbers.{Numbers, renumbered}
use Rattle.jl_renewal.specs.Renewed.{renumbered_class, renumbered_method}

-- the classes cs under new numbers are ds, but for those that are gone
pub record Embeds (n : Numbers) (cs ds : Classes) : Type 0 where
  pub closed : IsClosed cs
  pub ordered : AreOrdered cs.rows
  pub fresh_ordered : AreOrdered ds.rows
  pub rows : (c : ℕ) (row : Class) → is_present cs c ≡ true → slice_get cs.rows c ≡ Some row
      → slice_get ds.rows (renumbered n.classes c) ≡ Some (renumbered_class n row)
  pub still : (c : ℕ) → is_present cs c ≡ true → is_present ds (renumbered n.classes c) ≡ true
  pub onto : (k : ℕ) → is_present ds k ≡ true → (c : ℕ) × (is_present cs c ≡ true) × (renumbered n.classes c ≡ k)
  -- what is above a class that is present
  pub uppers : (k c : ℕ) → is_present cs c ≡ true → is_ancestor ds k (renumbered n.classes c) ≡ true
      → (a : ℕ) × (is_present cs a ≡ true) × (renumbered n.classes a ≡ k)
  pub rises : (c d : ℕ) → is_present cs c ≡ true → is_present cs d ≡ true → c < d → renumbered n.classes c < renumbered n.classes d
  -- loaders of present classes are told apart
  pub loaders : (c d : ℕ) (a b : Class) → is_present cs c ≡ true → is_present cs d ≡ true → slice_get cs.rows c ≡ Some a → slice_get cs.rows d ≡ Some b
      → (renumbered n.loaders a.loader == renumbered n.loaders b.loader) ≡ (a.loader == b.loader)
  -- what they find
  pub lookups : (c : ℕ) (row : Class) (name : List ℕ) → is_present cs c ≡ true → slice_get cs.rows c ≡ Some row
      → lookup ds (renumbered n.loaders row.loader) name ≡ option_map (renumbered n.classes) (lookup cs row.loader name)
  pub first : (name : List ℕ) → lookup ds 0 name ≡ option_map (renumbered n.classes) (lookup cs 0 name)

-- what a class shows, and the classes above and below it, are the same under new numbers
pub record AreAlike (n : Numbers) (cs ds : Classes) : Type 0 where
  pub embeds : Embeds n cs ds
  pub present : (c : ℕ) → is_present cs c ≡ true → is_present ds (renumbered n.classes c) ≡ true
  pub same : (c d : ℕ) → is_present cs c ≡ true → is_present cs d ≡ true → (renumbered n.classes c == renumbered n.classes d) ≡ (c == d)
  pub tests : (test' test : Class → Bool) → ((row : Class) → test' (renumbered_class n row) ≡ test row) → (c : ℕ) → is_present cs c ≡ true
      → class_test test' ds (renumbered n.classes c) ≡ class_test test cs c
  pub packages : (c d : ℕ) → is_present cs c ≡ true → is_present cs d ≡ true
      → same_package ds (renumbered n.classes c) (renumbered n.classes d) ≡ same_package cs c d
  pub interfaces : (c : ℕ) → is_present cs c ≡ true → is_interface ds (renumbered n.classes c) ≡ is_interface cs c
  pub concretes : (c : ℕ) → is_present cs c ≡ true → is_concrete ds (renumbered n.classes c) ≡ is_concrete cs c
  -- methods
  pub methods : (c : ℕ) → is_present cs c ≡ true → methods_of ds (renumbered n.classes c) ≡ methods_of cs c
  pub method : (m : MethodId) → is_present cs m.class ≡ true → method_at ds (renumbered_method n m) ≡ method_at cs m
  pub declares : (name ty : List ℕ) (c : ℕ) → is_present cs c ≡ true
      → declared ds name ty (renumbered n.classes c) ≡ option_map (renumbered_method n) (declared cs name ty c)
  -- what is found is present
  pub found : (c : ℕ) (row : Class) (name : List ℕ) (d : ℕ) → is_present cs c ≡ true → slice_get cs.rows c ≡ Some row → lookup cs row.loader name ≡ Some d
      → is_present cs d ≡ true
  -- above
  pub superclass : (c : ℕ) → is_present cs c ≡ true → superclass_of ds (renumbered n.classes c) ≡ option_map (renumbered n.classes) (superclass_of cs c)
  pub superclass_present : (c d : ℕ) → is_present cs c ≡ true → superclass_of cs c ≡ Some d → is_present cs d ≡ true
  pub upward : (c : ℕ) → is_present cs c ≡ true → superclasses ds (renumbered n.classes c) ≡ map (renumbered n.classes) (superclasses cs c)
  pub upward_present : (c : ℕ) → is_present cs c ≡ true → All (λ d. is_present cs d ≡ true) (superclasses cs c)
  pub subclasses : (c d : ℕ) → is_present cs c ≡ true → is_present cs d ≡ true
      → is_subclass ds (renumbered n.classes c) (renumbered n.classes d) ≡ is_subclass cs c d
  pub proper_subclasses : (c d : ℕ) → is_present cs c ≡ true → is_present cs d ≡ true
      → is_proper_subclass ds (renumbered n.classes c) (renumbered n.classes d) ≡ is_proper_subclass cs c d
  pub ancestors : (a x : ℕ) → is_present cs a ≡ true → is_present cs x ≡ true
      → is_ancestor ds (renumbered n.classes a) (renumbered n.classes x) ≡ is_ancestor cs a x
  pub proper_ancestors : (a x : ℕ) → is_present cs a ≡ true → is_present cs x ≡ true
      → is_proper_ancestor ds (renumbered n.classes a) (renumbered n.classes x) ≡ is_proper_ancestor cs a x
  pub above : (c : ℕ) → is_present cs c ≡ true → superinterfaces ds (renumbered n.classes c) ≡ map (renumbered n.classes) (superinterfaces cs c)
  pub above_present : (c : ℕ) → is_present cs c ≡ true → All (λ d. is_present cs d ≡ true) (superinterfaces cs c)
  -- below
  pub below : (c : ℕ) → is_present cs c ≡ true → receivers ds (renumbered n.classes c) ≡ map (renumbered n.classes) (receivers cs c)
  pub below_present : (c : ℕ) → All (λ d. is_present cs d ≡ true) (receivers cs c)
