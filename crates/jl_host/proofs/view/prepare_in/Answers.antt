use Rattle.std.specs.Prelude.{length}
use Rattle.std.proofs.Common.{ap, ◌∙◌, arith}
use Rattle.std.proofs.lemmas.Slice.Zip.{AllZip-long}
use Rattle.jl_host.proofs.view.prepare_in.Goals as goal

pub write_links-requires : goal.write_links-requires
write_links-requires c =
    let all = ap length c.as_slice-in-Ok-prepare.ensures ∙ AllZip-long _ _ _ c.in-Ok-prepare.ensures.rows in
    let given = ap length c.as_slice.ensures.value ∙ ap length c.in-Ok.ensures in
    let room = c.requires in
    omega (arith, all, given, room)
