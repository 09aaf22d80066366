use Rattle.std.specs.Prelude.{get_or, None}
use Rattle.std.proofs.lemmas.List.{get_or_default}
use Rattle.jl_host.specs.Renewals.{number_shown}
use Rattle.jl_host.proofs.ReadingLaws.{one_at_front}
use Rattle.jl_host.proofs.renew.write_kind.Goals as goal

pub loop-place-preserved : goal.loop-place-preserved
loop-place-preserved c =
    let here = get_or c.args.numbers.now c.loop-place.place None in
    one_at_front number_shown c.args.numbers.now c.args.out.now c.loop-place.out c.loop-place.place here c.number_shown.result c.loop-place-test.true
    c.requires (get_or_default c.args.numbers.now c.loop-place.place None here c.loop-place-test.true) c.number_shown.ensures c.loop-place.invariant
