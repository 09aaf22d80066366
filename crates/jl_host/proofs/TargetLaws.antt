-- How deep targets nest, and parts that are read from the last one on.
use Rattle.std.specs.Prelude.{◌≡◌, ℕ, zero, suc, ◌<◌, ◌≤◌, ◌-◌, List, [], ◌∷◌, ◌++◌, drop, length, get_or, reverse}
use Rattle.std.specs.Prelude.{Option, Some, None, option_map, option_and_then}
use Rattle.std.specs.Prelude.{true, nat_le, nat_lt, if◌then◌else◌}
use Rattle.std.proofs.Common.{refl, ap, sym, subst, ◌∙◌, arith}
use Rattle.std.proofs.lemmas.Bool.Decides.{nat_tests}
use Rattle.std.proofs.lemmas.List.{append_assoc, append-nil, reverse-append}
use Rattle.serde_json.specs.Read.{max_depth}
use Rattle.jl_types.specs.Values.Target.{Target, Method, Guard, Invoker}
use Rattle.jl_host.specs.declared.targets.TargetPart.{TargetPart}
use Rattle.jl_json.specs.CommandForms.{IsTarget}
use Rattle.jl_types.specs.declared.ids.MethodId.{MethodId}
use Rattle.jl_host.specs.Targets.{nesting, read_before, targets_of, only, target_of, part, parts_of}
use Rattle.jl_host.proofs.ReadingLaws.{rest_from}

pub nesting_some : (t : Target) → 1 ≤ nesting t
nesting_some (Method m) = omega arith
nesting_some (Guard p first fallback) = omega arith
nesting_some (Invoker c) = omega arith

pub none_behind : (parts : List TargetPart) (n : ℕ) → targets_of (drop n parts) ≡ None → targets_of parts ≡ None
unfolding targets_of
none_behind parts zero is = is
none_behind [] (suc n) is = is
none_behind (part ∷ parts) (suc n) is = ap (option_and_then (read_before part)) (none_behind parts n is)

module _ (parts : List TargetPart) (n : ℕ) (d : TargetPart) (later rest : List Target) (some : 0 < n) (few : n ≤ length parts)
    (so_far : targets_of (drop n parts) ≡ Some later) (target : Option Target)
    (made : option_map (λ t. t ∷ rest) target ≡ read_before (get_or parts (n - 1) d) later) where
  next : targets_of (drop (n - 1) parts) ≡ option_map (λ t. t ∷ rest) target
  unfolding targets_of
  next =
      ap targets_of (rest_from parts (n - 1) d (omega (arith, some, few)))
      ∙ ap (option_and_then (read_before (get_or parts (n - 1) d)))
      (subst (λ k. targets_of (drop k parts) ≡ Some later) (omega (arith, some)) so_far)
      ∙ sym made

  -- the part makes a target with what it takes of those after it
  pub one_before : (t : Target) (read : List Target) → target ≡ Some t → rest ≡ reverse read
      → targets_of (drop (n - 1) parts) ≡ Some (reverse (read ++ t ∷ []))
  one_before t read is left =
      next ∙ ap (option_map (λ t. t ∷ rest)) is ∙ ap (λ ts. Some (t ∷ ts)) left ∙ sym (ap Some (reverse-append read (t ∷ [])))

  -- or it makes none
  pub none_before : target ≡ None → targets_of parts ≡ None
  none_before is = none_behind parts (n - 1) (next ∙ ap (option_map (λ t. t ∷ rest)) is)

-- ---- targets that are read from their parts

known : (m : MethodId) → m.index < 65536 → nat_lt m.index 65536 ≡ true
known m few = grind (arith, nat_tests, few)

fits : (t : Target) → nesting t ≤ max_depth → nat_le (nesting t) max_depth ≡ true
fits t few = grind (arith, nat_tests, few)

first_is : (t : Target) → IsTarget t → nesting t ≤ max_depth → (rest : List TargetPart) (later : List Target)
    → targets_of rest ≡ Some later → targets_of (parts_of t ++ rest) ≡ Some (t ∷ later)
unfolding targets_of
first_is (Method m) is few rest later so_far =
    ap (option_and_then (read_before (part 0 m.class m.index))) so_far
    ∙ ap (λ b. option_map (λ n. Method n ∷ later) (if b then Some m else None)) (known m is.1)
first_is (Guard p first fallback) is few rest later so_far =
    ap (λ parts. targets_of (part 1 p 0 ∷ parts)) (append_assoc (parts_of first) (parts_of fallback) rest)
    ∙ ap (option_and_then (read_before (part 1 p 0)))
    (first_is first is.1 (omega (arith, few)) (parts_of fallback ++ rest) (fallback ∷ later)
    (first_is fallback is.2 (omega (arith, few)) rest later so_far))
    ∙ ap (λ b. option_map (λ guard. guard ∷ later) (if b then Some (Guard p first fallback) else None)) (fits (Guard p first fallback) few)
first_is (Invoker c) is few rest later so_far = ap (option_and_then (read_before (part 2 c 0))) so_far

pub parts_are_read : (t : Target) → IsTarget t → nesting t ≤ max_depth → target_of (parts_of t) ≡ Some t
unfolding targets_of
parts_are_read t is few = ap target_of (sym (append-nil (parts_of t))) ∙ ap (option_and_then only) (first_is t is few [] [] refl)
