-- The form of a sketch reads as that sketch.
use Rattle.std.proofs.Common.{◌≡◌, ◌∙◌, ap, refl, ℕ, ◌^◌, List, Some, None, map}
use Rattle.std.proofs.Common.{Option, option_map}
use Rattle.std.specs.Prelude.{IfSome}
use Rattle.std.specs.List.{AllByRecursion}
use Rattle.serde_json.specs.View.{items_of}
use Rattle.jl_sketch.specs.declared.sketch.Sketch.{Sketch}
use Rattle.jl_sketch.specs.declared.sketch.SketchMethod.{SketchMethod}
use Rattle.jl_sketch.specs.declared.sketch.MethodName.{MethodName}
use Rattle.jl_sketch.specs.declared.sketch.Call.{Call}
use Rattle.jl_sketch.specs.declared.sketch.Call.TheVariants.{Virtual, Special, Static, Interface, Dynamic}
use Rattle.jl_json.specs.ClassAnswers.{name_data}
use Rattle.jl_json.specs.Members.{below, each_in, ◌>>=◌}
use Rattle.jl_json.specs.Sketches.{text_name, name_in, call_in, method_in, sketch_of}
use Rattle.jl_json.specs.SketchForms.{call_data, method_data, sketch_data}
use Rattle.jl_json.specs.SketchForms.{IsOfText, IsMethodOfText, IsCallOfText, HasMethodForm, HasForm}
use Rattle.jl_json.proofs.FormLaws.{within, each_again}

-- ---- parts that were read

abbrev method_of : Option (List ℕ) → Option (List ℕ) → Option ℕ → Option (List Call) → Option SketchMethod
method_of name ty flags calls =
    name >>= (λ n. ty >>= (λ t. flags >>= (λ f. calls >>= (λ c.
    Some (record { name = n; ty = t; flags = f; calls = c })))))

abbrev sketch : List ℕ → ℕ → Option (List ℕ) → List (List ℕ) → List SketchMethod → Option (List ℕ) → List (List ℕ)
    → Sketch
sketch name flags superclass interfaces methods host members = record {
  name = name;
  flags = flags;
  superclass = superclass;
  interfaces = interfaces;
  methods = methods;
  host = host;
  members = members;
}

abbrev sketch_from : Option (List ℕ) → Option ℕ → Option (Option (List ℕ)) → Option (List (List ℕ))
    → Option (List SketchMethod) → Option (Option (List ℕ)) → Option (List (List ℕ)) → Option Sketch
sketch_from name flags superclass interfaces methods host members =
    name >>= (λ n. flags >>= (λ f. superclass >>= (λ s. interfaces >>= (λ i. methods >>= (λ m. host >>= (λ h.
    members >>= (λ k. Some (sketch n f s i m h k))))))))

module _ (text_of : List ℕ → List ℕ) where
  name_again : (name : List ℕ) → IsOfText text_of name → name_in (name_data text_of name) ≡ Some name
  name_again name h = ap Some h

  names_again : (names : List (List ℕ)) → AllByRecursion (IsOfText text_of) names
      → each_in name_in (items_of (map (name_data text_of) names)) ≡ Some names
  names_again names h = each_again name_in (name_data text_of) (IsOfText text_of) name_again names h

  -- the method of a call, by the texts of its names
  abbrev told : MethodName → MethodName
  told m = record { owner = text_name (text_of m.owner); name = text_name (text_of m.name); ty = text_name (text_of m.ty) }

  told_again : (m : MethodName) → IsMethodOfText text_of m → told m ≡ m
  told_again m h = λ i. record { owner = h.0 i; name = h.1 i; ty = h.2 i }

  call_again : (c : Call) → IsCallOfText text_of c → call_in (call_data text_of c) ≡ Some c
  call_again (Virtual m) h = ap (λ (m : MethodName). Some (Virtual m)) (told_again m h)
  call_again (Special itf m) h = ap (λ (m : MethodName). Some (Special itf m)) (told_again m h)
  call_again (Static itf m) h = ap (λ (m : MethodName). Some (Static itf m)) (told_again m h)
  call_again (Interface m) h = ap (λ (m : MethodName). Some (Interface m)) (told_again m h)
  call_again (Dynamic name ty) h = λ i. Some (Dynamic (h.0 i) (h.1 i))

  calls_again : (calls : List Call) → AllByRecursion (IsCallOfText text_of) calls
      → each_in call_in (items_of (map (call_data text_of) calls)) ≡ Some calls
  calls_again calls h = each_again call_in (call_data text_of) (IsCallOfText text_of) call_again calls h

  method_again : (m : SketchMethod) → HasMethodForm text_of m → method_in (method_data text_of m) ≡ Some m
  method_again m h = λ i. method_of (Some (h.name i)) (Some (h.ty i)) (within (2 ^ 16) m.flags h.flags i)
      (calls_again m.calls h.calls i)

  methods_again : (methods : List SketchMethod) → AllByRecursion (HasMethodForm text_of) methods
      → each_in method_in (items_of (map (method_data text_of) methods)) ≡ Some methods
  methods_again methods h = each_again method_in (method_data text_of) (HasMethodForm text_of) method_again methods h

  -- the name of a text, if there is one
  abbrev told_name : Option (List ℕ) → Option (List ℕ)
  told_name name = option_map (λ n. text_name (text_of n)) name

  told_name_again : (name : Option (List ℕ)) → IfSome name (IsOfText text_of) → told_name name ≡ name
  told_name_again None h = refl
  told_name_again (Some name) h = ap Some h

  -- what is read of a form with these parts
  abbrev parts : List ℕ → ℕ → Option (List ℕ) → List (List ℕ) → List SketchMethod → Option (List ℕ) → List (List ℕ)
      → Option Sketch
  parts name flags superclass interfaces methods host members =
      sketch_from (Some (text_name (text_of name))) (below (2 ^ 16) flags) (Some (told_name superclass))
      (each_in name_in (items_of (map (name_data text_of) interfaces)))
      (each_in method_in (items_of (map (method_data text_of) methods))) (Some (told_name host))
      (each_in name_in (items_of (map (name_data text_of) members)))

  -- if a sketch has no superclass or no host, its form has no such key
  by_parts : (name : List ℕ) (flags : ℕ) (superclass : Option (List ℕ)) (interfaces : List (List ℕ))
      (methods : List SketchMethod) (host : Option (List ℕ)) (members : List (List ℕ))
      → sketch_of (sketch_data text_of (sketch name flags superclass interfaces methods host members))
      ≡ parts name flags superclass interfaces methods host members
  by_parts name flags None interfaces methods None members = refl
  by_parts name flags None interfaces methods (Some host) members = refl
  by_parts name flags (Some superclass) interfaces methods None members = refl
  by_parts name flags (Some superclass) interfaces methods (Some host) members = refl

  pub sketch_again : (s : Sketch) → HasForm text_of s → sketch_of (sketch_data text_of s) ≡ Some s
  sketch_again s h =
      by_parts s.name s.flags s.superclass s.interfaces s.methods s.host s.members
      ∙ (λ i. sketch_from (Some (h.name i)) (within (2 ^ 16) s.flags h.flags i)
      (Some (told_name_again s.superclass h.superclass i)) (names_again s.interfaces h.interfaces i)
      (methods_again s.methods h.methods i) (Some (told_name_again s.host h.host i)) (names_again s.members h.members i))
