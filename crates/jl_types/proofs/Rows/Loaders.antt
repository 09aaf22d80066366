-- Loaders: what they refuse to define and to delegate.
use Rattle.std.specs.Prelude.{◌≡◌, ℕ, List, [], ◌∷◌, ◌++◌, Option, Some, None, Ok, Err, codes, refl}
use Rattle.jl_types.specs.Events.Limits.{fixed}
use Rattle.jl_types.specs.Events.Event.{Event}
use Rattle.jl_types.specs.declared.event.EventOf.TheVariants.{NewLoader, Define, Delegate}
use Rattle.jl_types.specs.declared.event.Made.TheVariants as made
use Rattle.jl_types.specs.declared.refusal.Refusal.TheVariants as refusal
use Rattle.jl_types.specs.declared.refusal.DefineFault.TheVariants.{MissingParent, SecondObject, InaccessibleParent, NamesItself, SuperIsInterface}
use Rattle.jl_types.specs.declared.refusal.DelegateFault.TheVariants as delegate
use Rattle.jl_types.specs.Events.Verdict.{verdict}
use Rattle.jl_types.specs.Values.Members.{lookup}
use Rattle.jl_types.specs.Values.Ancestry.{superclass_of, ancestors}
use Rattle.jl_types.specs.Events.History.{world_after}

abbrev defines : ℕ → List ℕ → ℕ → Option (List ℕ) → Event
defines loader name flags parent =
    Define loader (record { name = name; flags = flags; superclass = parent; interfaces = []; nest_host = None; nest_members = []; methods = [] })

abbrev object : List ℕ
object = codes "java/lang/Object"

-- java/lang/Object in loader 0, and loader 1
abbrev two : List Event
two = defines 0 object 33 None ∷ NewLoader ∷ []

no_parent : verdict (fixed 65536) (world_after two) (defines 1 (codes "A") 33 (Some object)) ≡ Err (refusal.Define (MissingParent object))
no_parent = refl

second_object : verdict (fixed 65536) (world_after two) (defines 1 object 33 None) ≡ Err (refusal.Define SecondObject)
second_object = refl

its_own_parent : verdict (fixed 65536) (world_after two) (defines 0 (codes "A") 33 (Some (codes "A"))) ≡ Err (refusal.Define NamesItself)
its_own_parent = refl

-- loader 1 finds java/lang/Object in loader 0
abbrev shared : List Event
shared = two ++ Delegate 1 object 0 ∷ []

may_delegate : verdict (fixed 65536) (world_after two) (Delegate 1 object 0) ≡ Ok made.Nothing
may_delegate = refl

is_found : lookup ((world_after shared).classes) 1 object ≡ Some 0
is_found = refl

delegated_twice : verdict (fixed 65536) (world_after shared) (Delegate 1 object 0) ≡ Err (refusal.Delegate delegate.AlreadyRecorded)
delegated_twice = refl

not_recorded : verdict (fixed 65536) (world_after shared) (Delegate 1 (codes "X") 0) ≡ Err (refusal.Delegate delegate.NotRecorded)
not_recorded = refl

no_loader : verdict (fixed 65536) (world_after shared) (Delegate 2 object 0) ≡ Err (refusal.Delegate delegate.UnknownLoader)
no_loader = refl

-- ---- delegations, each pair of neighbours in their order

unknown_before_not_recorded : verdict (fixed 65536) (world_after shared) (Delegate 2 (codes "X") 0) ≡ Err (refusal.Delegate delegate.UnknownLoader)
unknown_before_not_recorded = refl

to_unknown_before_not_recorded : verdict (fixed 65536) (world_after shared) (Delegate 0 (codes "X") 2) ≡ Err (refusal.Delegate delegate.UnknownLoader)
to_unknown_before_not_recorded = refl

-- loader 1 has an A of its own
abbrev apart : List Event
apart = shared ++ defines 1 (codes "A") 33 (Some object) ∷ []

not_recorded_before_recorded : verdict (fixed 65536) (world_after apart) (Delegate 1 (codes "A") 0) ≡ Err (refusal.Delegate delegate.NotRecorded)
not_recorded_before_recorded = refl

another_is_recorded : verdict (fixed 65536) (world_after (apart ++ defines 0 (codes "A") 33 (Some object) ∷ [])) (Delegate 1 (codes "A") 0) ≡ Err
    (refusal.Delegate delegate.AlreadyRecorded)
another_is_recorded = refl

delegated_to_itself : verdict (fixed 65536) (world_after shared) (Delegate 0 object 0) ≡ Err (refusal.Delegate delegate.AlreadyRecorded)
delegated_to_itself = refl

-- ---- run-time packages

-- p/A, which isn't public, is for its run-time package alone
abbrev closed : List Event
closed = shared ++ defines 0 (codes "p/A") 32 (Some object) ∷ Delegate 1 (codes "p/A") 0 ∷ []

other_package : verdict (fixed 65536) (world_after closed) (defines 0 (codes "q/B") 33 (Some (codes "p/A")))
    ≡ Err (refusal.Define (InaccessibleParent (codes "p/A")))
other_package = refl

same_package : verdict (fixed 65536) (world_after closed) (defines 0 (codes "p/B") 33 (Some (codes "p/A"))) ≡ Ok (made.Class 2)
same_package = refl

other_loader : verdict (fixed 65536) (world_after closed) (defines 1 (codes "p/B") 33 (Some (codes "p/A")))
    ≡ Err (refusal.Define (InaccessibleParent (codes "p/A")))
other_loader = refl

-- ---- a loader's own parents

-- loader 0 has a final interface A 1, which isn't public, and a class I 2; loader 1 has a class A 3 and an interface I 4
abbrev pub same_names : List Event
same_names = shared
    ++ defines 0 (codes "A") 1552 (Some object)
    ∷ defines 0 (codes "I") 32 (Some object)
    ∷ defines 1 (codes "A") 33 (Some object)
    ∷ defines 1 (codes "I") 1537 (Some object)
    ∷ []

-- B is below A and I of the loader that defines it
abbrev pub with_parents : ℕ → Event
with_parents loader =
    Define loader (record {
      name = codes "B";
      flags = 33;
      superclass = Some (codes "A");
      interfaces = codes "I"
          ∷ [];
      nest_host = None;
      nest_members = [];
      methods = [];
    })

own_parents : verdict (fixed 65536) (world_after same_names) (with_parents 1) ≡ Ok (made.Class 5)
own_parents = refl

other_parents : verdict (fixed 65536) (world_after same_names) (with_parents 0) ≡ Err (refusal.Define SuperIsInterface)
other_parents = refl

own_superclass : superclass_of (world_after (same_names ++ with_parents 1 ∷ [])).classes 5 ≡ Some 3
own_superclass = refl

own_ancestors : ancestors (world_after (same_names ++ with_parents 1 ∷ [])).classes.rows 5 ≡ 0 ∷ 3 ∷ 4 ∷ 5 ∷ []
own_ancestors = refl

recorded_by_its_loader : lookup (world_after (same_names ++ with_parents 1 ∷ [])).classes 1 (codes "B") ≡ Some 5
recorded_by_its_loader = refl

not_by_the_other : lookup (world_after (same_names ++ with_parents 1 ∷ [])).classes 0 (codes "B") ≡ None
not_by_the_other = refl
