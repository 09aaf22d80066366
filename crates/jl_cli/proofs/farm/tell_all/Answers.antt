use Rattle.std.proofs.Common.{◌<◌, length, All, take, subst, arith}
use Rattle.std.proofs.lemmas.List.{take_all, take_more_set}
use mathlib.Core.List.{IsPrefix}
use Rattle.jl_farm.proofs.Shifts.{all_pushed}
use Rattle.jl_cli.proofs.farm.tell_all.Goals as goal

pub loop-worker-preserved : goal.loop-worker-preserved
loop-worker-preserved g c =
    let xs = c.loop-worker.workers in
    let n = c.loop-worker.worker-index in
    let lt : n < length xs = omega (arith, c.loop-worker-test.true, c.loop-worker.auto.workers) in
    all_pushed (IsPrefix c.args.seen.now) (take n xs) _ c.learn.new.self (take_more_set xs n c.learn.new.self lt) c.loop-worker.invariant
    c.learn.ensures.token

pub returns : goal.returns
returns g c =
    let xs = c.loop-worker.workers in
    subst (All (IsPrefix c.args.seen.now))
    (take_all c.loop-worker.worker-index xs (omega (arith, c.loop-worker-test.false, c.loop-worker.auto.workers))) c.loop-worker.invariant
