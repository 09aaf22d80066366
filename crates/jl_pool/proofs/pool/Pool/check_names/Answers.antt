use Rattle.std.proofs.Common.{◌≡◌, true, refl, subst, arith, inr}
use Rattle.jl_pool.specs.Pools.{is_linked, IsTyped}
use Rattle.jl_pool.proofs.NameLaws.{TypedBelow, all_below, tested_more, typed_more}
use Rattle.jl_pool.proofs.pool.Pool.check_names.Goals as goal

pub loop-number-preserved : goal.loop-number-preserved
loop-number-preserved c =
    let before = c.loop-number.invariant in
    let names = c.names-names.ensures in (
      tested_more (is_linked c.args.self.now) c.args.self.now c.loop-number.number c.names-names.result.linked before.0 names.linked c.if-not-names.false,
      rw (c.or-untyped.ensures, c.then_some.ensures) (typed_more c.args.self.now c.loop-number.number c.loop-number.untyped c.names-names.result.typed
          names.typed before.1),
    )

pub returns-in-Some-clause-fault : goal.returns-in-Some-clause-fault
returns-in-Some-clause-fault c =
    inr (
      all_below (λ d. is_linked c.args.self.now d ≡ true) c.args.self.now c.loop-number.number (omega arith) c.loop-number.invariant.0,
      (c.in-Some.number, refl, subst (TypedBelow c.args.self.now c.loop-number.number) c.in-Some.is c.loop-number.invariant.1),
    )

pub returns-in-None-clause-links : goal.returns-in-None-clause-links
returns-in-None-clause-links c =
    all_below (λ d. is_linked c.args.self.now d ≡ true) c.args.self.now c.loop-number.number (omega arith) c.loop-number.invariant.0

pub returns-in-None-clause-types : goal.returns-in-None-clause-types
returns-in-None-clause-types c =
    all_below (IsTyped c.args.self.now) c.args.self.now c.loop-number.number (omega arith)
    (subst (TypedBelow c.args.self.now c.loop-number.number) c.in-None.is c.loop-number.invariant.1)
