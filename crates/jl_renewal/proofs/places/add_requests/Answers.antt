use Rattle.std.proofs.Common.{ap, sym, ◌∙◌, arith}
use Rattle.std.proofs.lemmas.Result.{err_from_is_err_and}
use Rattle.jl_renewal.specs.Renewal.{request}
use Rattle.jl_renewal.proofs.AddLaws.{adds_turn, adds_whole}
use Rattle.jl_renewal.proofs.StopLaws.{stopped_turn}
use Rattle.jl_renewal.proofs.ListLaws.{stands_there}
use Rattle.jl_renewal.proofs.places.add_requests.Goals as goal

pub loop-place-preserved : goal.loop-place-preserved
loop-place-preserved g c = record {
  within = omega (arith, c.in-Some.ensures.within);
  adds =
      adds_turn _ c.args.places.now c.loop-place.number c.in-Some.place.now c.request.result _ _ _ c.in-Some.ensures.within
      (c.request.ensures ∙ ap (request c.args.numbers.now) (stands_there c.args.places.now c.loop-place.number c.in-Some.place.now (sym c.in-Some.ensures.key)))
      c.loop-place.invariant.adds c.in_ok-add_if_any.ensures.adds;
}

pub returns-in_err-add_if_any-clause-stops : goal.returns-in_err-add_if_any-clause-stops
returns-in_err-add_if_any-clause-stops g c =
    let p = err_from_is_err_and c.from_residual.result c.from_residual.ensures.1 in
    rw (p.1, p.2)
    (stopped_turn _ c.args.places.now c.loop-place.number c.in-Some.place.now c.request.result _ _ _ _ c.in-Some.ensures.within
    (c.request.ensures ∙ ap (request c.args.numbers.now) (stands_there c.args.places.now c.loop-place.number c.in-Some.place.now (sym c.in-Some.ensures.key)))
    c.loop-place.invariant.adds c.in_err-add_if_any.ensures.stops)

pub returns-clause-adds : goal.returns-clause-adds
returns-clause-adds g c =
    adds_whole (request c.args.numbers.now) c.args.places.now c.loop-place.number _ _ (sym c.in_default.ensures.key) c.loop-place.invariant.adds
