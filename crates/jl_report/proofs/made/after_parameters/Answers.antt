use Rattle.std.proofs.Common.{◌∙◌, ◌+◌, ap, drop, get_or, sym}
use Rattle.std.proofs.lemmas.List.{take_rest}
use Rattle.std.proofs.lemmas.Option.{slice_get-get_or, slice_get_past}
use Rattle.jl_types.proofs.Lists.{left_at, none_left}
use Rattle.jl_report.specs.ForProofs.Results.{after_parameters}
use Rattle.jl_report.proofs.MadeLaws.{one_on, one_closes}
use Rattle.jl_report.proofs.made.after_parameters.Goals as goal

pub loop-place-preserved : goal.loop-place-preserved
loop-place-preserved c =
    let text = c.args.text.now in
    let i = c.loop-place.place in
    let in_name = c.loop-place.in_name in
    let b = get_or text i 0 in
    ap (λ t. after_parameters t (drop (i + 1) text)) c.still_in_name-in_name.ensures
    ∙ sym (one_on in_name b (drop (i + 1) text) (sym c.closes.ensures ∙ c.if-closes.false))
    ∙ ap (after_parameters in_name) (sym (left_at text i b (slice_get-get_or text i 0 c.loop-place-test.true)))
    ∙ c.loop-place.invariant

pub returns-then-closes : goal.returns-then-closes
returns-then-closes c =
    let text = c.args.text.now in
    let i = c.loop-place.place in
    let in_name = c.loop-place.in_name in
    let b = get_or text i 0 in
    take_rest text (i + 1)
    ∙ sym (one_closes in_name b (drop (i + 1) text) (sym c.closes.ensures ∙ c.if-closes.true))
    ∙ ap (after_parameters in_name) (sym (left_at text i b (slice_get-get_or text i 0 c.loop-place-test.true)))
    ∙ c.loop-place.invariant

pub returns : goal.returns
returns c =
    let text = c.args.text.now in
    let i = c.loop-place.place in
    sym (ap (after_parameters c.loop-place.in_name) (none_left text i (slice_get_past text i c.loop-place-test.false))) ∙ c.loop-place.invariant
