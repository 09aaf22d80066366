-- Where a class name stops, by the weights of its bytes.
use Rattle.std.proofs.Common.{◌≡◌, ◌∙◌, refl, ap, arith, ℕ, ◌+◌, ◌<◌, Bool, true, false, cond, ◌||◌, ◌&&◌, map, get_or}
use Rattle.std.specs.Prelude.{nat_le}
use Rattle.std.specs.List.{range_with_len}
use Rattle.std.proofs.lemmas.List.FromFn.{get_or-map-range_with_len}
use Rattle.jl_names.specs.ForProofs.Descriptors.{weight}
use Rattle.jl_names.specs.declared.class_name.TheConstants.{WEIGHTS}

table : WEIGHTS ≡ map weight (range_with_len 0 256)
table = refl

pub weight_of : (b : ℕ) → b < 256 → get_or WEIGHTS b 0 ≡ weight b
weight_of b h = ap (λ t. get_or t b 0) table ∙ get_or-map-range_with_len weight 0 256 b b 0 h (omega arith)

-- the weight of a byte and of a part's beginning, by the tests of the byte
weighs : (dot semicolon bracket slash fresh : Bool)
    → nat_le 2 (cond (dot || (semicolon || bracket)) 2 (cond slash 1 0) + cond fresh 1 0)
    ≡ (dot || (semicolon || (bracket || (slash && fresh))))
weighs true s b l true = refl
weighs true s b l false = refl
weighs false true b l true = refl
weighs false true b l false = refl
weighs false false true l true = refl
weighs false false true l false = refl
weighs false false false true true = refl
weighs false false false true false = refl
weighs false false false false true = refl
weighs false false false false false = refl
