-- Which JSON is a sketch of a class file, and which sketch: objects of the members that are named here, and of no
-- others. What may be absent may not be null.
use Rattle.std.specs.Prelude.{ℕ, ◌^◌, if◌then◌else◌, Bool, false, List, [], ◌∷◌, codes}
use Rattle.std.specs.Prelude.{Option, Some, None, option_map}
use Rattle.std.specs.Char.Escape.{encode_utf16}
use Rattle.std.specs.List.{flat_map}
use Rattle.std.specs.Str.{bytes_eq, chars}
use Rattle.serde_json.specs.Data.{Data}
use Rattle.serde_json.specs.Find.{get, as_bool, as_str}
use Rattle.jl_names.specs.Mutf8.{mutf8}
use Rattle.jl_sketch.specs.declared.sketch.Sketch.{Sketch}
use Rattle.jl_sketch.specs.declared.sketch.SketchMethod.{SketchMethod}
use Rattle.jl_sketch.specs.declared.sketch.MethodName.{MethodName}
use Rattle.jl_sketch.specs.declared.sketch.Call.{Call}
use Rattle.jl_sketch.specs.declared.sketch.Call.TheVariants.{Virtual, Special, Static, Interface, Dynamic}
use Rattle.jl_json.specs.Members.{◌>>=◌, number_at, list_in, text_at, or_absent, with_only}

-- ---- names

-- the units of a text in UTF-16
abbrev pub text_units : List ℕ → List ℕ
text_units text = flat_map encode_utf16 (chars text)

-- a text in modified UTF-8 (JVMS SE 17 §4.4.7): a character above U+FFFF is two surrogates
abbrev pub text_name : List ℕ → List ℕ
text_name text = mutf8 (text_units text)

abbrev pub name_in : Data → Option (List ℕ)
name_in d = option_map text_name (as_str d)

abbrev pub name_at : List ℕ → Data → Option (List ℕ)
name_at key d = get key d >>= name_in

-- a name, or none if the key is absent
abbrev pub name_if_any : List ℕ → Data → Option (Option (List ℕ))
name_if_any key d = or_absent None (λ value. option_map Some (name_in value)) key d

-- names, none if the key is absent
abbrev pub names_at : List ℕ → Data → Option (List (List ℕ))
names_at key d = or_absent [] (list_in name_in) key d

-- ---- calls

-- a method by its class, name and descriptor
abbrev pub method_name_in : Data → Option MethodName
method_name_in d = do
  owner ← name_at (codes "of") d
  name ← name_at (codes "name") d
  ty ← name_at (codes "type") d
  Some (record { owner = owner; name = name; ty = ty })

abbrev pub plain_keys : List (List ℕ)
plain_keys = codes "kind" ∷ codes "of" ∷ codes "name" ∷ codes "type" ∷ []

abbrev pub marked_keys : List (List ℕ)
marked_keys = codes "kind" ∷ codes "of" ∷ codes "name" ∷ codes "type" ∷ codes "itf" ∷ []

abbrev pub dynamic_keys : List (List ℕ)
dynamic_keys = codes "kind" ∷ codes "name" ∷ codes "type" ∷ []

-- a call whose instruction says what kind of class its method is of
abbrev pub plain_call : Data → Option MethodName
plain_call d = with_only plain_keys d (method_name_in d)

-- a call that says itself whether its method is an interface's
abbrev pub marked_call : Data → Option (Bool × MethodName)
marked_call d = with_only marked_keys d (do
  itf ← or_absent false as_bool (codes "itf") d
  method ← method_name_in d
  Some (itf, method))

abbrev pub dynamic_call : Data → Option Call
dynamic_call d = with_only dynamic_keys d (do
  name ← name_at (codes "name") d
  ty ← name_at (codes "type") d
  Some (Dynamic name ty))

-- the call of this kind (§6.5)
abbrev pub by_kind : List ℕ → Data → Option Call
by_kind kind d =
    if bytes_eq kind (codes "invokevirtual") then option_map Virtual (plain_call d)
    else if bytes_eq kind (codes "invokespecial") then option_map (λ call. Special call.0 call.1) (marked_call d)
    else if bytes_eq kind (codes "invokestatic") then option_map (λ call. Static call.0 call.1) (marked_call d)
    else if bytes_eq kind (codes "invokeinterface") then option_map Interface (plain_call d)
    else if bytes_eq kind (codes "invokedynamic") then dynamic_call d
    else None

abbrev pub call_in : Data → Option Call
call_in d = do
  kind ← text_at (codes "kind") d
  by_kind kind d

-- ---- methods

abbrev pub method_keys : List (List ℕ)
method_keys = codes "name" ∷ codes "type" ∷ codes "flags" ∷ codes "calls" ∷ []

abbrev pub method_in : Data → Option SketchMethod
method_in d = with_only method_keys d (do
  name ← name_at (codes "name") d
  ty ← name_at (codes "type") d
  flags ← number_at (2 ^ 16) (codes "flags") d
  calls ← or_absent [] (list_in call_in) (codes "calls") d
  Some (record { name = name; ty = ty; flags = flags; calls = calls }))

-- ---- the sketch

abbrev pub sketch_keys : List (List ℕ)
sketch_keys =
    codes "name" ∷ codes "flags" ∷ codes "super" ∷ codes "interfaces" ∷ codes "methods" ∷ codes "host"
    ∷ codes "members" ∷ []

abbrev pub sketch_of : Data → Option Sketch
sketch_of d = with_only sketch_keys d (do
  name ← name_at (codes "name") d
  flags ← number_at (2 ^ 16) (codes "flags") d
  superclass ← name_if_any (codes "super") d
  interfaces ← names_at (codes "interfaces") d
  methods ← or_absent [] (list_in method_in) (codes "methods") d
  host ← name_if_any (codes "host") d
  members ← names_at (codes "members") d
  Some (record {
    name = name;
    flags = flags;
    superclass = superclass;
    interfaces = interfaces;
    methods = methods;
    host = host;
    members = members;
  }))
