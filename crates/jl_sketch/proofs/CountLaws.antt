-- The count of an invokeinterface is one more than the slots of its descriptor.
use Rattle.std.proofs.Common.{◌≡◌, ℕ, ◌+◌, ◌<◌, ◌≤◌, ◌%◌, List, Option, Some, None, refl, ap, arith}
use Rattle.std.specs.Prelude.{MatchOption}
use Rattle.std.specs.Option.{option_map_or}
use Rattle.jl_names.specs.MethodTypes.{IsMethodDescriptor, TakesSlots}
use Rattle.jl_pool.specs.ForProofs.Forms.{method_slots}
use Rattle.jl_pool.proofs.FormLaws.{SlotsAre, method_slots-is, one_slots, counted}
use Rattle.jl_sketch.specs.Counts.{count_byte}

found_is : (ty : List ℕ) (found : Option ℕ) (n : ℕ) → SlotsAre ty found → TakesSlots ty n → n ≤ 254 → option_map_or (λ m. (m + 1) % 256) found 0 ≡ n + 1
found_is ty None n h takes few = absurd (h (n, omega (arith, few), takes))
found_is ty (Some m) n h takes few =
    let same : m ≡ n = one_slots ty m n h.takes takes in
    omega (arith, same, few)

pub count_is : (ty : List ℕ) (n : ℕ) → TakesSlots ty n → n ≤ 254 → count_byte ty ≡ n + 1
count_is ty n takes few = found_is ty (method_slots ty) n (method_slots-is ty) takes few

none_is : (ty : List ℕ) (found : Option ℕ) → SlotsAre ty found → ((n : ℕ) → TakesSlots ty n → 254 < n) → option_map_or (λ m. (m + 1) % 256) found 0 ≡ 0
none_is ty None h over = refl
none_is ty (Some m) h over = omega (arith, h.few, over m h.takes)

pub no_count : (ty : List ℕ) → ((n : ℕ) → TakesSlots ty n → 254 < n) → count_byte ty ≡ 0
no_count ty over = none_is ty (method_slots ty) (method_slots-is ty) over

pub counted_byte : (ty : List ℕ) (found : Option ℕ) → MatchOption found (¬ IsMethodDescriptor ty) (λ n. (n ≤ 255) × TakesSlots ty n)
    → option_map_or (λ n. (n + 1) % 256) found 0 ≡ count_byte ty
counted_byte ty found h = ap (λ (o : Option ℕ). option_map_or (λ n. (n + 1) % 256) o 0) (counted ty found h)
