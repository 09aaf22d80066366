use Rattle.std.specs.Prelude.{◌≡◌, ◌≤◌, length}
use Rattle.std.proofs.Common.{rules}
use Rattle.jl_renewal.proofs.InstallLaws.{installs_none, installs_turn, installs_all, still_fresh, adds_of, may_install, lacks, front_is, after_is}
use Rattle.jl_renewal.proofs.links.install_fresh.Goals as goal

pub loop-rest-init : goal.loop-rest-init
loop-rest-init g c = record { front = installs_none c.args.rows.now (g.M.EventMachine.state c.args.fresh.now); fresh = c.requires }

pub accept_judged-requires : goal.accept_judged-requires
accept_judged-requires g c =
    let some : 1 ≤ length c.loop-rest.rest.now = search rules in
    let copied : c.of.result ≡ c.split_at.result.0.now = search rules in
    let batch = front_is c.loop-rest.rest.now c.split_at.result.0.now c.of.result c.min.result c.min.ensures c.split_at.ensures.front copied in
    (may_install c.loop-rest.rest.now c.of.result (g.M.EventMachine.state c.loop-rest.fresh) some batch c.loop-rest.invariant.fresh).0

pub returns-in_err-accept_judged-clause-stops : goal.returns-in_err-accept_judged-clause-stops
returns-in_err-accept_judged-clause-stops g c =
    let some : 1 ≤ length c.loop-rest.rest.now = search rules in
    lacks c.args.rows.now c.loop-rest.rest.now _ (g.M.EventMachine.state c.loop-rest.fresh) _ some c.in_err-accept_judged.ensures.unchanged
    c.loop-rest.invariant.front c.from_residual-in_err-accept_judged.result

pub loop-rest-preserved : goal.loop-rest-preserved
loop-rest-preserved g c =
    let some : 1 ≤ length c.loop-rest.rest.now = search rules in
    let copied : c.of.result ≡ c.split_at.result.0.now = search rules in
    let batch = front_is c.loop-rest.rest.now c.split_at.result.0.now c.of.result c.min.result c.min.ensures c.split_at.ensures.front copied in
    let later = after_is c.loop-rest.rest.now c.split_at.result.1.now c.min.result c.min.ensures c.split_at.ensures.back in
    let before = g.M.EventMachine.state c.loop-rest.fresh in
    let added = adds_of _ _ before (g.M.EventMachine.state c.accept_judged.new.self) c.in_ok-accept_judged.ensures.accepted in
    record {
      front = installs_turn c.args.rows.now c.loop-rest.rest.now c.of.result c.split_at.result.1.now _ _ _ some batch later c.loop-rest.invariant.front
          added;
      fresh = still_fresh c.loop-rest.rest.now c.of.result c.split_at.result.1.now _ _ later added c.loop-rest.invariant.fresh;
    }

pub returns-clause-installs : goal.returns-clause-installs
returns-clause-installs g c =
    let none : length c.loop-rest.rest.now ≡ 0 = search rules in
    installs_all c.args.rows.now c.loop-rest.rest.now _ _ none c.loop-rest.invariant.front
