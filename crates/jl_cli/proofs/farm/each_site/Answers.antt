use Rattle.std.proofs.Common.{ℕ, List, [], ◌∷◌, ◌++◌, ap, ◌∙◌, sym, arith}
use Rattle.std.proofs.lemmas.List.FromFn.{map-range_with_len_more}
use Rattle.std.specs.List.{range_with_len}
use Rattle.jl_cli.specs.Farms.{job_of_each}
use Rattle.jl_cli.proofs.farm.each_site.Goals as goal

pub loop-number-preserved : goal.loop-number-preserved
loop-number-preserved c =
    let n = c.loop-number.number in
    record {
      jobs = c.in_ok-push.ensures.items
          ∙ (ap (λ (jobs : List (List ℕ)). jobs ++ c.in_ok-job.job ∷ []) c.loop-number.invariant.jobs
          ∙ (ap (λ (job : List ℕ). job_of_each (range_with_len 0 n) ++ job ∷ []) c.in_ok-job.ensures
          ∙ sym (map-range_with_len_more (λ (s : ℕ). s ∷ []) 0 n n (omega arith))));
      many = omega (arith, c.in_ok-push.ensures.len, c.loop-number.invariant.many);
    }
