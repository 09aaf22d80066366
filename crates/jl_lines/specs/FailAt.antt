-- What a source or sink that fails once holds, and what its calls give.
use Rattle.std.specs.Prelude.{◌≡◌, ℕ, List, Option, Result}
use Rattle.std.specs.Result.{IsErr}
use Rattle.jl_lines.specs.Devices.{one_more, CountsFailure}
use Rattle.jl_lines.specs.declared.fail_at.FailAt.{FailAt}

-- the source or sink within
abbrev pub inner_of : {T : Type 0} → FailAt T → T
inner_of f = f.inner

-- what was left to read before the last read
abbrev pub before_of : {T : Type 0} → (T → Option (List ℕ)) → FailAt T → Option (List ℕ)
before_of remaining f = remaining f.last.value

-- the call that fails, counted from 1
abbrev pub failing_of : {T : Type 0} → FailAt T → ℕ
failing_of f = f.failing

-- how many calls there were, and how many failed
abbrev pub calls_of : {T : Type 0} → FailAt T → ℕ
calls_of f = f.calls

abbrev pub failures_of : {T : Type 0} → FailAt T → ℕ
failures_of f = f.failures

-- ---- a call

-- the next call is the one that fails
abbrev pub IsFailing : {T : Type 0} → FailAt T → Type 0
IsFailing f = one_more (calls_of f) ≡ failing_of f

-- one call more, and the same one fails
abbrev pub CountsCall : {T : Type 0} → FailAt T → FailAt T → Type 0
CountsCall old new = (calls_of new ≡ one_more (calls_of old)) × (failing_of new ≡ failing_of old)

-- the call that fails is an error, and nobody within hears of it
abbrev pub FailsThere : {T A E : Type 0} → FailAt T → FailAt T → Result A E → Type 0
FailsThere old new result = IsFailing old → IsErr result × (inner_of new ≡ inner_of old)

-- any other call is one of what is within, and fails if that does
abbrev pub FailsAsWithin : {T A E : Type 0} → (T → ℕ) → FailAt T → FailAt T → Result A E → Type 0
FailsAsWithin failures old new result =
    ¬ IsFailing old → CountsFailure (failures (inner_of old)) (failures (inner_of new)) result
