-- Totals of no rows.
use Rattle.std.proofs.Common.{◌≡◌, refl, ℕ, zero, suc, replicate, get_or}

pub zeros : (n k : ℕ) → get_or (replicate {A = ℕ} n 0) k 0 ≡ 0
zeros zero k = refl
zeros (suc n) zero = refl
zeros (suc n) (suc k) = zeros n k
