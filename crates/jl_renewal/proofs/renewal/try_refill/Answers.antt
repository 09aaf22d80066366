use Rattle.std.proofs.Common.{inr}
use Rattle.std.proofs.lemmas.Result.{err_from_is_err_and}
use Rattle.jl_relink.specs.contracts.world.World as world
use Rattle.jl_renewal.specs.Renewal.{logged}
use Rattle.jl_renewal.specs.Told.{told_renewal}
use Rattle.jl_renewal.proofs.RenewalLaws.{begun_by, may_renew, is_refilled}
use Rattle.jl_renewal.proofs.StopLaws.{lacks_memory}
use Rattle.jl_renewal.proofs.renewal.try_refill.Goals as goal

pub returns-in_err-add_all-clause-refused : goal.returns-in_err-add_all-clause-refused
returns-in_err-add_all-clause-refused g c past =
    let p = err_from_is_err_and c.from_residual-in_err-add_all.result c.from_residual-in_err-add_all.ensures.1 in
    rw (p.1, p.2)
    (inr (lacks_memory (told_renewal c.args.old.now c.in_ok-numbers.numbers c.args.log.now) (g.M.EventMachine.state c.args.fresh.now)
    (g.M.EventMachine.state c.add_all.new.fresh) _
    (may_renew (logged past.limits c.args.old.now c.args.log.now) c.args.released.now c.args.limits c.args.old.now c.args.log.now
    c.in_ok-numbers.numbers (g.M.EventMachine.state c.args.fresh.now)
    (begun_by c.args.old.now c.args.log.now past c.args.released.now c.args.limits (world.the_view c.old.inside) c.in_ok-numbers.numbers
    (g.M.EventMachine.state c.args.fresh.now) c.old.view_is c.count_in_order-classes.ensures.order c.in_ok-numbers.ensures.fits
    c.in_ok-numbers.ensures.numbers c.requires.empty))
    c.in_err-add_all.ensures.stops))

pub returns-clause-past : goal.returns-clause-past
returns-clause-past g c past =
    is_refilled c.args.old.now c.args.log.now past c.args.released.now c.args.limits c.in_ok-numbers.numbers
    (g.M.EventMachine.state c.args.fresh.now) (g.M.EventMachine.state c.add_all.new.fresh) c.in_ok-numbers.ensures.numbers
    (begun_by c.args.old.now c.args.log.now past c.args.released.now c.args.limits (world.the_view c.old.inside) c.in_ok-numbers.numbers
    (g.M.EventMachine.state c.args.fresh.now) c.old.view_is c.count_in_order-classes.ensures.order c.in_ok-numbers.ensures.fits
    c.in_ok-numbers.ensures.numbers c.requires.empty)
    c.in_ok-add_all.ensures.adds
