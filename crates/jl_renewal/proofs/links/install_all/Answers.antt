use Rattle.std.specs.Prelude.{◌≡◌, ◌≤◌, length}
use Rattle.std.proofs.Common.{rules}
use Rattle.std.proofs.lemmas.Result.{err_from_is_err_and}
use Rattle.jl_renewal.proofs.InstallLaws.{installs_none, installs_turn, installs_all, still_fresh, adds_of, install_lacks, stops, front_is, after_is}
use Rattle.jl_renewal.proofs.links.install_all.Goals as goal

pub loop-left-init : goal.loop-left-init
loop-left-init g c = record { front = installs_none c.args.rows.now (g.M.EventMachine.state c.args.fresh.now); fresh = λ fresh. fresh }

pub returns-in_err-accept-clause-memory : goal.returns-in_err-accept-clause-memory
returns-in_err-accept-clause-memory g c fresh =
    let some : 1 ≤ length c.loop-left.left.now = search rules in
    let copied : c.of.result ≡ c.split_at.result.0.now = search rules in
    let batch = front_is c.loop-left.left.now c.split_at.result.0.now c.of.result c.min.result c.min.ensures c.split_at.ensures.front copied in
    let p = err_from_is_err_and c.from_residual-in_err-accept.result c.from_residual-in_err-accept.ensures.1 in
    rw (p.1, p.2)
    (install_lacks c.loop-left.left.now c.of.result (g.M.EventMachine.state c.loop-left.fresh) _ some batch (c.loop-left.invariant.fresh fresh)
    c.in_err-accept.ensures.refused)

pub returns-in_err-accept-clause-stops : goal.returns-in_err-accept-clause-stops
returns-in_err-accept-clause-stops g c =
    let some : 1 ≤ length c.loop-left.left.now = search rules in
    let copied : c.of.result ≡ c.split_at.result.0.now = search rules in
    let batch = front_is c.loop-left.left.now c.split_at.result.0.now c.of.result c.min.result c.min.ensures c.split_at.ensures.front copied in
    let p = err_from_is_err_and c.from_residual-in_err-accept.result c.from_residual-in_err-accept.ensures.1 in
    rw (p.1, p.2)
    (stops c.args.rows.now c.loop-left.left.now c.of.result _ (g.M.EventMachine.state c.loop-left.fresh) _ _ some c.in_err-accept.ensures.unchanged batch
    c.loop-left.invariant.front c.in_err-accept.ensures.refused)

pub loop-left-preserved : goal.loop-left-preserved
loop-left-preserved g c =
    let some : 1 ≤ length c.loop-left.left.now = search rules in
    let copied : c.of.result ≡ c.split_at.result.0.now = search rules in
    let batch = front_is c.loop-left.left.now c.split_at.result.0.now c.of.result c.min.result c.min.ensures c.split_at.ensures.front copied in
    let later = after_is c.loop-left.left.now c.split_at.result.1.now c.min.result c.min.ensures c.split_at.ensures.back in
    let added = adds_of _ _ (g.M.EventMachine.state c.loop-left.fresh) (g.M.EventMachine.state c.accept.new.self) c.in_ok-accept.ensures.accepted in
    record {
      front = installs_turn c.args.rows.now c.loop-left.left.now c.of.result c.split_at.result.1.now _ _ _ some batch later c.loop-left.invariant.front
          added;
      fresh = λ fresh. still_fresh c.loop-left.left.now c.of.result c.split_at.result.1.now _ _ later added (c.loop-left.invariant.fresh fresh);
    }

pub returns-clause-installs : goal.returns-clause-installs
returns-clause-installs g c =
    let none : length c.loop-left.left.now ≡ 0 = search rules in
    installs_all c.args.rows.now c.loop-left.left.now _ _ none c.loop-left.invariant.front
