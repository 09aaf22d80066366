use Rattle.std.proofs.Common.{◌≡◌, ◌∙◌, ◌+◌, ap, arith, rules, subst, sym, length}
use Rattle.std.proofs.lemmas.Option.{slice_get_past}
use Rattle.jl_types.proofs.Lists.{rest_at, none_left}
use Rattle.jl_relink.specs.Placed.{asking}
use Rattle.jl_report.specs.Methods.{run_on}
use Rattle.jl_report.specs.ForProofs.Found.{with_run}
use Rattle.jl_report.proofs.MethodLaws.{Found, begun, one_more, enough, ended}
use Rattle.jl_report.proofs.methods.methods_on.Goals as goal

pub loop-receiver-init : goal.loop-receiver-init
loop-receiver-init c =
    subst (Found (run_on (asking c.args.classes.now c.args.place.now)) c.args.receivers.now c.args.most 0) (sym c.new-found.ensures.items)
    (begun (run_on (asking c.args.classes.now c.args.place.now)) c.args.receivers.now c.args.most)

pub loop-receiver-preserved : goal.loop-receiver-preserved
loop-receiver-preserved c =
    let f = run_on (asking c.args.classes.now c.args.place.now) in
    let xs = c.args.receivers.now in
    let i = c.loop-receiver.receiver-index in
    let x = c.receiver-item.result in
    let found = c.loop-receiver.found.items in
    let count : c.len.result ≡ length found = search rules in
    let few = c.if-len-most.false in
    subst (Found f xs c.args.most (i + 1)) (sym (c.in_ok-add_run.ensures ∙ ap (with_run found) c.run_on.ensures))
    (one_more f xs c.args.most i found x c.loop-receiver.invariant (rest_at xs i x c.loop-receiver-test.true c.receiver-item.is)
    (omega (arith, count, few)))

pub returns-then-len-most : goal.returns-then-len-most
returns-then-len-most c =
    let count : c.len.result ≡ length c.loop-receiver.found.items = search rules in
    let many = c.if-len-most.true in
    enough (run_on (asking c.args.classes.now c.args.place.now)) c.args.receivers.now c.args.most c.loop-receiver.receiver-index
    c.loop-receiver.found.items
    c.loop-receiver.invariant (omega (arith, count, many))

pub returns : goal.returns
returns c =
    let xs = c.args.receivers.now in
    let i = c.loop-receiver.receiver-index in
    ended (run_on (asking c.args.classes.now c.args.place.now)) xs c.args.most i c.loop-receiver.found.items c.loop-receiver.invariant
    (none_left xs i (slice_get_past xs i c.loop-receiver-test.false))
