-- The JSON of a sketch, in one form: keys in byte order, each name by its text, each list and each mark written. A
-- superclass or a nest host that the sketch doesn't have is left out.
use Rattle.std.specs.Prelude.{◌≡◌, ◌^◌, ◌<◌, ℕ, List, map, codes, Bool, Option, Some, None, IfSome}
use Rattle.std.specs.List.{AllByRecursion}
use Rattle.serde_json.specs.Data.{Data, boolean, string, array, object, Members, no_members, member}
use Rattle.serde_json.specs.View.{items_of}
use Rattle.jl_sketch.specs.declared.sketch.Sketch.{Sketch}
use Rattle.jl_sketch.specs.declared.sketch.SketchMethod.{SketchMethod}
use Rattle.jl_sketch.specs.declared.sketch.MethodName.{MethodName}
use Rattle.jl_sketch.specs.declared.sketch.Call.{Call}
use Rattle.jl_sketch.specs.declared.sketch.Call.TheVariants.{Virtual, Special, Static, Interface, Dynamic}
use Rattle.jl_json.specs.ClassAnswers.{number_data, name_data}
use Rattle.jl_json.specs.Sketches.{text_name}

-- ---- the form, by the text of each name

module _ (text_of : List ℕ → List ℕ) where
  -- a call whose instruction says what kind of class its method is of
  abbrev pub plain_data : List ℕ → MethodName → Data
  plain_data kind m =
      object (member (codes "kind") (string kind)
      (member (codes "name") (name_data text_of m.name)
      (member (codes "of") (name_data text_of m.owner)
      (member (codes "type") (name_data text_of m.ty) no_members))))

  -- a call that says itself whether its method is an interface's
  abbrev pub marked_data : List ℕ → Bool → MethodName → Data
  marked_data kind itf m =
      object (member (codes "itf") (boolean itf)
      (member (codes "kind") (string kind)
      (member (codes "name") (name_data text_of m.name)
      (member (codes "of") (name_data text_of m.owner)
      (member (codes "type") (name_data text_of m.ty) no_members)))))

  abbrev pub dynamic_data : List ℕ → List ℕ → Data
  dynamic_data name ty =
      object (member (codes "kind") (string (codes "invokedynamic"))
      (member (codes "name") (name_data text_of name)
      (member (codes "type") (name_data text_of ty) no_members)))

  abbrev pub call_data : Call → Data
  call_data (Virtual m) = plain_data (codes "invokevirtual") m
  call_data (Special itf m) = marked_data (codes "invokespecial") itf m
  call_data (Static itf m) = marked_data (codes "invokestatic") itf m
  call_data (Interface m) = plain_data (codes "invokeinterface") m
  call_data (Dynamic name ty) = dynamic_data name ty

  abbrev pub method_data : SketchMethod → Data
  method_data m =
      object (member (codes "calls") (array (items_of (map call_data m.calls)))
      (member (codes "flags") (number_data m.flags)
      (member (codes "name") (name_data text_of m.name)
      (member (codes "type") (name_data text_of m.ty) no_members))))

  abbrev pub names_data : List (List ℕ) → Data
  names_data names = array (items_of (map (name_data text_of) names))

  -- a name under a key, if there is one
  abbrev pub with_name : List ℕ → Option (List ℕ) → Members → Members
  with_name key None members = members
  with_name key (Some name) members = member key (name_data text_of name) members

  abbrev pub sketch_data : Sketch → Data
  sketch_data s =
      object (member (codes "flags") (number_data s.flags)
      (with_name (codes "host") s.host
      (member (codes "interfaces") (names_data s.interfaces)
      (member (codes "members") (names_data s.members)
      (member (codes "methods") (array (items_of (map method_data s.methods)))
      (member (codes "name") (name_data text_of s.name)
      (with_name (codes "super") s.superclass no_members)))))))

  -- ---- sketches that have it: flags of 16 bits, and each name the one that its text is

  abbrev pub IsOfText : List ℕ → Type 0
  IsOfText name = text_name (text_of name) ≡ name

  abbrev pub IsMethodOfText : MethodName → Type 0
  IsMethodOfText m = IsOfText m.owner × IsOfText m.name × IsOfText m.ty

  abbrev pub IsCallOfText : Call → Type 0
  IsCallOfText (Virtual m) = IsMethodOfText m
  IsCallOfText (Special itf m) = IsMethodOfText m
  IsCallOfText (Static itf m) = IsMethodOfText m
  IsCallOfText (Interface m) = IsMethodOfText m
  IsCallOfText (Dynamic name ty) = IsOfText name × IsOfText ty

  pub record HasMethodForm (m : SketchMethod) : Type 0 where
    pub name : IsOfText m.name
    pub ty : IsOfText m.ty
    pub flags : m.flags < 2 ^ 16
    pub calls : AllByRecursion IsCallOfText m.calls

  pub record HasForm (s : Sketch) : Type 0 where
    pub name : IsOfText s.name
    pub flags : s.flags < 2 ^ 16
    pub superclass : IfSome s.superclass IsOfText
    pub interfaces : AllByRecursion IsOfText s.interfaces
    pub methods : AllByRecursion HasMethodForm s.methods
    pub host : IfSome s.host IsOfText
    pub members : AllByRecursion IsOfText s.members
