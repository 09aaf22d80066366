use Rattle.std.proofs.Common.{◌<◌, ◌∙◌, ap, sym, length, nat_lt, arith}
use Rattle.std.proofs.lemmas.Bool.{both_ways}
use Rattle.std.proofs.lemmas.Bool.Decides.{Decides-ltb}
use Rattle.jl_types.specs.Events.History.{installed}
use Rattle.jl_core.specs.State.{events}
use Rattle.jl_host.proofs.BehindLaws.{kept_by}
use Rattle.jl_host.proofs.behind.write_site.Goals as goal

pub returns-then-not-is_within-clause-written : goal.returns-then-not-is_within-clause-written
returns-then-not-is_within-clause-written c = λ low.
    let place = c.number-place.result in
    let all = length c.args.links.now.value in
    let same = c.number-place.ensures in
    let room = c.requires in
    absurd (both_ways (nat_lt place all) (sym c.is_within.ensures ∙ c.if-not-is_within.true) ((Decides-ltb place all).1 (omega (arith, same, room, low))))

pub returns-clause-kept : goal.returns-clause-kept
returns-clause-kept c =
    let few : c.number-place.result < length c.args.links.now.value =
    (Decides-ltb c.number-place.result (length c.args.links.now.value)).0 (sym c.is_within.ensures ∙ c.if-not-is_within.false) in
    kept_by c.args.core.now c.args.links.now.value c.put.new.links.value c.number-place.result c.in_ok-slot.slot c.put.result few
    (c.in_ok-slot.ensures ∙ ap (installed (events c.args.core.now)) (sym c.number-place.ensures))
    c.put.ensures.ok c.put.ensures.err
