use Rattle.std.proofs.Common.{◌≡◌, vec_len}
use Rattle.std.specs.List.{range_with_len}
use Rattle.jl_cli.specs.Farms.{job_of_each}
use Rattle.jl_cli.proofs.farm.each_site.Given as goal

-- the jobs of the sites so far
abbrev pub invariant-loop-number : goal.invariant-loop-number
invariant-loop-number l = record {
  jobs : l.jobs.items ≡ job_of_each (range_with_len 0 l.number);
  many : vec_len l.jobs ≡ l.number;
}
