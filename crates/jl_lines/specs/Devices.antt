-- Counts of what readers and writers did.
use Rattle.std.specs.Prelude.{◌≡◌, ℕ, ◌+◌, ◌-◌, ◌^◌, ◌<◌, ◌≤◌, ◌⊎◌, min, MatchResult, Result}

-- a count after one more, which stays at 2^64 - 1
abbrev pub one_more : ℕ → ℕ
one_more count = min (count + 1) (2 ^ 64 - 1)

-- a call is counted if it failed, and only then
abbrev pub CountsFailure : {A E : Type 0} → ℕ → ℕ → Result A E → Type 0
CountsFailure old new result = MatchResult result (λ _. new ≡ old) (λ _. new ≡ one_more old)

-- something was counted in between, or the count is at its end
abbrev pub HasRisen : ℕ → ℕ → Type 0
HasRisen old new = (old < new) ⊎ (2 ^ 64 - 1 ≤ new)
