-- The rule of the queue of jobs: each job that was put is in the queue or was taken by one pass, once.
use Rattle.std.specs.Prelude.{◌≡◌, ℕ, ◌+◌, List, []}
use Rattle.std.specs.List.{sum_by}
use mathlib.Core.Option.{some}
use lib.ListN.{get_elem?}
use Rattle.jl_farm.specs.declared.job_queue.PassView.{PassView}

abbrev pub pass_view : ℕ → List ℕ → List ℕ → PassView
pass_view parts put taken = record { parts = parts; put = put; taken = taken }

-- a pass with no part of the right to know the whole has put and taken nothing
abbrev pub IdleIsEmpty : List PassView → Type 0
IdleIsEmpty views = (pass : ℕ) (v : PassView) → get_elem? views pass ≡ some v → v.parts ≡ 0 → (v.put ≡ []) × (v.taken ≡ [])

-- however jobs are weighed, what was put weighs what was taken and what waits, together
abbrev pub AreQueued : List ℕ → List PassView → Type 0
AreQueued items views =
    (sum_by (λ v. v.parts) views ≡ 1024)
    × ((weight : ℕ → ℕ) → sum_by (λ v. sum_by weight v.put) views ≡ sum_by (λ v. sum_by weight v.taken) views + sum_by weight items)
    × IdleIsEmpty views

-- what the pass with all parts knows of the jobs that wait
abbrev pub KnowsAll : PassView → List ℕ → Type 0
KnowsAll v items = v.parts ≡ 1024 → (weight : ℕ → ℕ) → sum_by weight v.put ≡ sum_by weight v.taken + sum_by weight items
