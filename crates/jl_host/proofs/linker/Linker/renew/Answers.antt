use Rattle.std.specs.Prelude.{◌≡◌, true}
use Rattle.std.proofs.Common.{ap, ◌∙◌, rules}
use Rattle.jl_core.specs.State.{world_of}
use Rattle.jl_host.specs.Renewals.{released_of, arrays_of, have_room, counts_of}
use Rattle.jl_host.proofs.RenewLaws.{counted}
use Rattle.jl_host.proofs.linker.Linker.renew.Goals as goal

pub write_numbers-requires : goal.write_numbers-requires
write_numbers-requires c =
    let world = world_of c.in-Some.opened.session.core in
    let arrays = arrays_of c.args.loaders.now c.args.classes.now c.args.sites.now c.args.call_sites.now c.args.switches.now in
    let fits : have_room (counts_of world) arrays ≡ true = search rules in
    ap (λ counts. have_room counts arrays)
    (counted world (released_of c.args.released_call_sites.now c.args.released_switches.now) c.in-Ok.numbers c.in-Ok.ensures.renewal.2.numbers)
    ∙ fits
