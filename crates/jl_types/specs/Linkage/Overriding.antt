-- Overriding (JVMS 5.4.5).
use Rattle.std.specs.Prelude.{◌≡◌, ℕ, zero, suc, ◌+◌, Bool, true, false, not, ◌&&◌, ◌||◌, List, map, filter, length, IsTrue}
use Rattle.std.specs.List.{list_any, range_with_len}
use Rattle.jl_types.specs.declared.ids.MethodId.{MethodId}
use Rattle.jl_types.specs.Values.World.{Classes}
use Rattle.jl_types.specs.Values.Members.{method_test, methods_of, is_called, is_public, is_private, is_protected, is_static, is_package_private, same_package}
use Rattle.jl_types.specs.Values.Ancestry.{superclasses, is_proper_subclass}

-- both are instance methods of one name and descriptor, and the first isn't private
abbrev pub are_alike : Classes → MethodId → MethodId → Bool
are_alike cs c a =
    (not (is_static cs c) && (not (is_static cs a) && not (is_private cs c)))
    && method_test (λ m. method_test (is_called m.name m.ty) cs a) cs c

-- a is public or protected, or has no access flag and is declared in c's run-time package
abbrev pub is_visible : Classes → MethodId → MethodId → Bool
is_visible cs c a = is_public cs a || (is_protected cs a || (is_package_private cs a && same_package cs a.class c.class))

-- c can override a: the least relation of these two clauses
pub data CanOverride (cs : Classes) : MethodId → MethodId → Type 0 where
  directly : {c a : MethodId} → IsTrue (are_alike cs c a) → IsTrue (is_visible cs c a) → CanOverride cs c a
  -- by way of a method b, in a class between theirs
  through : {c a : MethodId} → IsTrue (are_alike cs c a) → IsTrue (is_package_private cs a)
      → (b : MethodId) → IsTrue (is_proper_subclass cs c.class b.class) → IsTrue (is_proper_subclass cs b.class a.class)
      → CanOverride cs c b → CanOverride cs b a → CanOverride cs c a

-- A class strictly between those of c and a, in the run-time package of a's class, declares a method like a that is public or
-- protected.
pub record IsBridged (cs : Classes) (c a : MethodId) : Type 0 where
  pub method : MethodId
  pub below : is_proper_subclass cs c.class method.class ≡ true
  pub above : is_proper_subclass cs method.class a.class ≡ true
  pub package_is : same_package cs a.class method.class ≡ true
  pub alike : are_alike cs method a ≡ true
  pub visible : (is_public cs method || is_protected cs method) ≡ true

-- ---- overriding as a test

-- the classes above c and below a, and the methods that a class declares
abbrev pub classes_between : Classes → ℕ → ℕ → List ℕ
classes_between cs c a = filter (λ b. is_proper_subclass cs c b && is_proper_subclass cs b a) (superclasses cs c)

abbrev pub methods_in : Classes → ℕ → List MethodId
methods_in cs c = map (λ i. record { class = c; index = i }) (range_with_len 0 (length (methods_of cs c)))

-- whether c can override a, if the clause `through` is used fewer than so many times on a path
abbrev pub can_override_within : ℕ → Classes → MethodId → MethodId → Bool
can_override_within zero cs c a = false
can_override_within (suc steps) cs c a =
    are_alike cs c a && (is_visible cs c a || (is_package_private cs a
    && list_any (λ k. list_any (λ b. can_override_within steps cs c b && can_override_within steps cs b a) (methods_in cs k))
    (classes_between cs c.class a.class)))

-- whether c can override a. Between two classes there are fewer than the number of the lower one.
abbrev pub can_override : Classes → MethodId → MethodId → Bool
can_override cs c a = can_override_within (c.class + 1) cs c a
