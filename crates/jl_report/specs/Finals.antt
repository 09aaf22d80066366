-- Which links no class drops that a JVM takes: such a class overrides no FINAL method (JVMS 5.3.5). `Drops` doesn't ask for that flag.
use Rattle.std.specs.Prelude.{◌≡◌, ℕ, ◌&&◌, Bool, false, not, List, []}
use Rattle.std.specs.List.{list_any}
use Rattle.std.specs.Option.{option_map_or}
use Rattle.jl_class.specs.Flags.{has_flag}
use Rattle.jl_types.specs.declared.answer.Outcome.TheVariants.{Run}
use Rattle.jl_types.specs.declared.ids.MethodId.{MethodId}
use Rattle.jl_types.specs.Values.World.{Classes}
use Rattle.jl_types.specs.Values.Members.{method_test, declared, is_interface, numbers}
use Rattle.jl_types.specs.Values.Ancestry.{superclass_of, superclasses}
use Rattle.jl_types.specs.Linkage.Resolution.{declared_upward}
use Rattle.jl_types.specs.Linkage.Overriding.{methods_in, can_override}
use Rattle.jl_types.specs.Linkage.Links.{runs}
use Rattle.jl_hierarchy.specs.Redeclared.{AreLines}
use Rattle.jl_report.specs.declared.row.Row.{Row}
use Rattle.jl_report.specs.Methods.{looked_at, run_by}

-- ---- classes

-- a method's flag (4.6)
abbrev pub FINAL : ℕ
FINAL = 0x0010

abbrev pub is_final_method : Classes → MethodId → Bool
is_final_method cs m = method_test (λ method. has_flag method.flags FINAL) cs m

-- the superclass of c, and so on upward
abbrev pub superclasses_above : Classes → ℕ → List ℕ
superclasses_above cs c = option_map_or (superclasses cs) (superclass_of cs c) []

-- the method of this name and descriptor that the class s declares is FINAL, and m can override it (5.4.5)
abbrev pub overrides_in : Classes → MethodId → List ℕ → List ℕ → ℕ → Bool
overrides_in cs m name ty s = option_map_or (λ a. is_final_method cs a && can_override cs m a) (declared cs name ty s) false

-- m can override a FINAL method of its name and descriptor that a superclass of its class declares
abbrev pub overrides_above : Classes → MethodId → Bool
overrides_above cs m =
    method_test (λ method. list_any (overrides_in cs m method.name method.ty) (superclasses_above cs m.class)) cs m

-- A method that c declares can override a FINAL method that a superclass of c declares. That of an interface is java/lang/Object (4.1).
abbrev pub overrides_final : Classes → ℕ → Bool
overrides_final cs c = list_any (overrides_above cs) (methods_in cs c)

-- some class overrides a FINAL method so
abbrev pub some_overrides_final : Classes → Bool
some_overrides_final cs = list_any (overrides_final cs) (numbers cs)

-- What derivation (5.3.5) and the format of class files (4.1) leave: no class overrides a FINAL method, and each ancestor of a class that
-- isn't an interface is one of its superclasses.
pub record AreDerived (cs : Classes) : Type 0 where
  pub finals : some_overrides_final cs ≡ false
  pub lines : AreLines cs.rows

-- ---- rows

-- m stands in a class, and is what c, from itself upward, first declares of its name and descriptor (5.4.3.3)
abbrev pub inherits : Classes → ℕ → MethodId → Bool
inherits cs c m =
    not (is_interface cs m.class)
    && method_test (λ method. option_map_or (λ n. runs m (Run n)) (declared_upward cs method.name method.ty c) false) cs m

-- c is a class, and m, which is FINAL, is what c, from itself upward, first declares of its name and descriptor (5.4.3.3)
abbrev pub is_final_in : Classes → ℕ → MethodId → Bool
is_final_in cs c m = not (is_interface cs c) && (is_final_method cs m && inherits cs c m)

-- the row's link runs one method, a FINAL one of the class among whose receivers it looks, or of a superclass
abbrev pub is_final_call : Classes → Row → Bool
is_final_call cs row = option_map_or (λ c. option_map_or (is_final_in cs c) (run_by row.finding) false) (looked_at row.rests_on) false
