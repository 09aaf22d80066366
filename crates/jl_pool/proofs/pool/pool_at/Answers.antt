use Rattle.std.proofs.Common.{◌≡◌, List, ℕ, ◌++◌, length, length-append, arith, sym, ap, subst, ◌∙◌}
use Rattle.std.proofs.lemmas.Result.{err_from_is_err_and}
use Rattle.jl_pool.specs.Numbers.{u2}
use Rattle.std.specs.List.{flat_map}
use Rattle.jl_pool.specs.Constants.{constant_text}
use Rattle.jl_pool.specs.Faults.{IsPoolFault}
use Rattle.jl_pool.specs.Pools.{places}
use Rattle.jl_pool.specs.ForProofs.Table.{pool_of}
use Rattle.jl_pool.proofs.PoolLaws.{counted_front, stands_at, cut_block}
use Rattle.jl_pool.proofs.pool.pool_at.Goals as goal

pub returns-in_err-entries-clause-fault : goal.returns-in_err-entries-clause-fault
returns-in_err-entries-clause-fault c =
    let p = err_from_is_err_and c.from_residual.result c.from_residual.ensures.1 in
    let front = counted_front c.args.bytes.now c.in-Some.count c.in-Some.rest.now (λ i. omega (arith, c.type_inv.bytes i)) c.in-Some.ensures in
    rw (p.1, p.2) (subst (λ (t : List ℕ). IsPoolFault t c.in_err-entries.field-0.0) (sym front) c.in_err-entries.ensures.fault)

pub returns-clause-ok : goal.returns-clause-ok
returns-clause-ok c =
    let front = counted_front c.args.bytes.now c.in-Some.count c.in-Some.rest.now (λ i. omega (arith, c.type_inv.bytes i)) c.in-Some.ensures in
    let o = c.in_ok-entries.ensures.ok in
    let block = c.in_ok-block.ensures ∙ cut_block c.in-Some.rest.now (flat_map constant_text o.0) c.in_ok-entries.after.now o.2 in (
      o.0,
      c.in_ok-entries.after.now,
      stands_at c.args.bytes.now (u2 c.in-Some.count ++ c.in-Some.rest.now) o.0 c.in_ok-entries.after.now front o.1,
      subst (λ (b : List ℕ). pool_of b c.in_ok-entries.entries.items ≡ places o.0) (sym block) o.3.by_number,
      omega (arith, ap length o.2, length-append (flat_map constant_text o.0) c.in_ok-entries.after.now),
      o.4,
    )
