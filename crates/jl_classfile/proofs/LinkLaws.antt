-- The class, its superclass and its superinterfaces, tested one after another.
use Rattle.std.proofs.Common.{◌≡◌, ℕ, Bool, true, false, List, [], ◌∷◌, ◌++◌, refl, ap, ◌∙◌}
use Rattle.std.specs.Prelude.{All, IsTrue, Option, not, ◌==◌, ◌&&◌, ◌||◌, if◌then◌else◌}
use Rattle.std.specs.List.{AllByRecursion, Contains}
use Rattle.std.proofs.lemmas.List.Elements.{Contains-append_left, Contains-append_right, recursion_from_All}
use Rattle.jl_names.proofs.Tests.{All-both}
use Rattle.jl_classfile.specs.declared.body.Body.{Body}
use Rattle.jl_pool.specs.Pools.{Pool, class_at}
use Rattle.jl_classfile.specs.Conditions.{superclass_numbers, class_numbers, IsClassNumber, is_object, is_interface, is_module, super_fits, Links}
use Rattle.jl_class.specs.Flags.{extends_object}

pub at_superclass : (b : Body) (n : ℕ) → Contains (superclass_numbers b.super_class) n → Contains (class_numbers b) n
at_superclass b n c =
    Contains-append_right (b.this_class ∷ []) (superclass_numbers b.super_class ++ b.interfaces) n
    (Contains-append_left (superclass_numbers b.super_class) b.interfaces n c)

pub at_interface : (b : Body) (n : ℕ) → Contains b.interfaces n → Contains (class_numbers b) n
at_interface b n c =
    Contains-append_right (b.this_class ∷ []) (superclass_numbers b.super_class ++ b.interfaces) n
    (Contains-append_right (superclass_numbers b.super_class) b.interfaces n c)

pub tested : (major : ℕ) (p : Pool) (b : Body) → is_module major b ≡ false → IsClassNumber p b.this_class
    → AllByRecursion (IsClassNumber p) (superclass_numbers b.super_class) → All (IsClassNumber p) b.interfaces
    → super_fits p b ≡ true → Links major p b
tested major p b no_module this super interfaces fits = record {
  no_module = no_module;
  classes = (
    this,
    All-both (IsClassNumber p) (superclass_numbers b.super_class) b.interfaces super
        (recursion_from_All (IsClassNumber p) b.interfaces interfaces),
  );
  super = fits;
}

fits_object : (root this interface object : Bool) → IsTrue (if root then this && not interface else (not this && (not interface || object)))
    → not interface || object ≡ true
fits_object root this false object h = refl
fits_object root this true true h = refl
fits_object true true true false h = h
fits_object true false true false h = h
fits_object false true true false h = h
fits_object false false true false h = h

-- the superclass of an interface is java/lang/Object
pub extends : (p : Pool) (b : Body) (superclass : Option (List ℕ)) → superclass ≡ class_at p b.super_class → IsTrue (super_fits p b)
    → extends_object b.flags superclass ≡ true
extends p b superclass is fits =
    ap (extends_object b.flags) is ∙ fits_object (b.super_class == 0) (is_object p b.this_class) (is_interface b) (is_object p b.super_class) fits
