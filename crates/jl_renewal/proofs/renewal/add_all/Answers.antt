use Rattle.std.specs.Prelude.{◌++◌}
use Rattle.std.proofs.Common.{ap, ◌∙◌}
use Rattle.std.proofs.lemmas.Result.{err_from_is_err_and}
use Rattle.jl_renewal.specs.Numbers.{Numbers}
use Rattle.jl_renewal.specs.Renewal.{new_loaders, site_events}
use Rattle.jl_renewal.specs.Told.{told_events}
use Rattle.jl_renewal.proofs.AddLaws.{adds_as}
use Rattle.jl_renewal.proofs.StopLaws.{stopped_as, stopped_first, stopped_then}
use Rattle.jl_renewal.proofs.renewal.add_all.Goals as goal

pub returns-in_err-add_loaders-clause-stops : goal.returns-in_err-add_loaders-clause-stops
returns-in_err-add_loaders-clause-stops g c =
    let p = err_from_is_err_and c.from_residual.result c.from_residual.ensures.1 in
    rw (p.1, p.2)
    (stopped_first (new_loaders c.args.numbers.now.loaders)
    (told_events c.args.old.now c.args.numbers.now c.args.log.now ++ site_events c.args.old.now c.args.numbers.now) _ _ _
    (stopped_as new_loaders (c.as_slice.ensures.value ∙ ap (λ (n : Numbers). n.loaders) c.numbers.view_is) c.in_err-add_loaders.ensures.stops))

pub returns-in_err-add_classes-clause-stops : goal.returns-in_err-add_classes-clause-stops
returns-in_err-add_classes-clause-stops g c =
    let p = err_from_is_err_and c.from_residual-in_err-add_classes.result c.from_residual-in_err-add_classes.ensures.1 in
    rw (p.1, p.2)
    (stopped_then (new_loaders c.args.numbers.now.loaders)
    (told_events c.args.old.now c.args.numbers.now c.args.log.now ++ site_events c.args.old.now c.args.numbers.now) _ _ _ _
    (adds_as new_loaders (c.as_slice.ensures.value ∙ ap (λ (n : Numbers). n.loaders) c.numbers.view_is) c.in_ok-add_loaders.ensures.adds)
    (stopped_first (told_events c.args.old.now c.args.numbers.now c.args.log.now) (site_events c.args.old.now c.args.numbers.now) _ _ _
    c.in_err-add_classes.ensures.stops))

pub returns-in_err-add_sites-clause-stops : goal.returns-in_err-add_sites-clause-stops
returns-in_err-add_sites-clause-stops g c =
    let p = err_from_is_err_and c.from_residual-in_err-add_sites.result c.from_residual-in_err-add_sites.ensures.1 in
    rw (p.1, p.2)
    (stopped_then (new_loaders c.args.numbers.now.loaders)
    (told_events c.args.old.now c.args.numbers.now c.args.log.now ++ site_events c.args.old.now c.args.numbers.now) _ _ _ _
    (adds_as new_loaders (c.as_slice.ensures.value ∙ ap (λ (n : Numbers). n.loaders) c.numbers.view_is) c.in_ok-add_loaders.ensures.adds)
    (stopped_then (told_events c.args.old.now c.args.numbers.now c.args.log.now) (site_events c.args.old.now c.args.numbers.now) _ _ _ _
    c.in_ok-add_classes.ensures.adds c.in_err-add_sites.ensures.stops))
