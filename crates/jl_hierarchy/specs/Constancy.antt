-- What definitions, delegations, new loaders and retirements leave as it was.
use Rattle.std.specs.Prelude.{◌≡◌, ℕ, ◌<◌, ◌&&◌, ◌||◌, not, Bool, true, false, List, [], ◌∷◌, ◌++◌, length, slice_get, Some, None, is_some, if◌then◌else◌}
use Rattle.std.specs.List.{AllByRecursion}
use Rattle.jl_class.specs.Class.{ClassFile}
use Rattle.jl_class.specs.Flags.{object}
use Rattle.jl_types.specs.Values.World.{Class, Classes}
use Rattle.jl_types.specs.Values.Members.{lookup, is_retired, is_present, is_concrete, is_interface}
use Rattle.jl_types.specs.Values.Ancestry.{is_parent, is_ancestor, AreOrdered}
use Rattle.jl_types.specs.Values.Ancestry as ancestry
use Rattle.jl_types.specs.Linkage.Access.{nest_host}
use Rattle.jl_types.specs.Events.Definitions.{is_final, define_fault, defined}

-- the loader has recorded java/lang/Object
abbrev pub has_object : Classes → ℕ → Bool
has_object cs loader = is_some (lookup cs loader object)

-- java/lang/Object comes first: loader 0 has recorded it if any loader has, or if there is an interface
pub record ObjectComesFirst (cs : Classes) : Type 0 where
  pub recorded : (loader : ℕ) → has_object cs loader ≡ true → has_object cs 0 ≡ true
  pub interfaces : (c : ℕ) → is_interface cs c ≡ true → has_object cs 0 ≡ true

-- What is present rests on what is present: loader 0 is present, and so are the ancestors of present classes and the classes that
-- present loaders have recorded.
pub record IsClosed (cs : Classes) : Type 0 where
  pub first : is_retired cs 0 ≡ false
  pub ancestors : (a x : ℕ) → is_ancestor cs a x ≡ true → is_present cs x ≡ true → is_present cs a ≡ true
  pub records : (loader : ℕ) (name : List ℕ) (c : ℕ) → is_retired cs loader ≡ false → lookup cs loader name ≡ Some c → is_present cs c ≡ true

-- the class may be a parent: a FINAL class has no subclass (JVMS 5.3.5); of a superinterface this isn't asked
abbrev pub may_be_extended : Classes → ℕ → Bool
may_be_extended cs c = not (is_final cs c) || is_interface cs c

-- each parent of a class may be extended
abbrev pub ExtendNoFinal : Classes → Type 0
ExtendNoFinal cs = (c p : ℕ) (row : Class) → slice_get cs.rows c ≡ Some row → is_parent row p ≡ true → may_be_extended cs p ≡ true

-- The classes came in order. What loaders have recorded is there. Each class's parents were defined before it, and may be extended.
-- java/lang/Object comes first. What is present rests on what is present.
pub record AreInOrder (cs : Classes) : Type 0 where
  pub there : AllByRecursion (AllByRecursion (λ r. r.1 < length cs.rows)) cs.loaders
  pub ordered : AreOrdered cs.rows
  pub extended : ExtendNoFinal cs
  pub object : ObjectComesFirst cs
  pub closed : IsClosed cs

-- Each class stays, with its ancestors. So does what a loader that isn't retired has recorded, and the known nest host of a class that
-- isn't retired.
pub record Stays (old new : Classes) : Type 0 where
  pub rows : (c : ℕ) (row : Class) → slice_get old.rows c ≡ Some row → slice_get new.rows c ≡ Some row
  pub records : (loader : ℕ) (name : List ℕ) (c : ℕ) → is_retired new loader ≡ false → lookup old loader name ≡ Some c → lookup new loader name ≡ Some c
  pub ancestors : (c : ℕ) → c < length old.rows → ancestry.ancestors new.rows c ≡ ancestry.ancestors old.rows c
  pub hosts : (c host : ℕ) → is_present new c ≡ true → nest_host old c ≡ Some host → nest_host new c ≡ Some host

-- The class that is added comes last among the receivers of its ancestors, itself included, if objects may be of it. All other
-- receivers stay.
abbrev pub AddsReceiver : Classes → Classes → Type 0
AddsReceiver old new = (c : ℕ)
    → ancestry.receivers new c
    ≡ (if is_concrete new (length old.rows) && is_ancestor new c (length old.rows)
    then ancestry.receivers old c ++ length old.rows ∷ [] else ancestry.receivers old c)

-- with some limit of classes, nothing speaks against it that the loader defines the class of the file
pub record MayDefine (cs : Classes) (loader : ℕ) (file : ClassFile) : Type 0 where
  pub most_classes : ℕ
  pub accepted : define_fault most_classes cs loader file ≡ None

-- the others are these with one class more, which a loader defined that might define it
abbrev pub IsNext : Classes → Classes → Type 0
IsNext old ahead = (loader : ℕ) × (file : ClassFile) × MayDefine old loader file × (ahead ≡ defined old loader file)
