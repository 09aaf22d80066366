use Rattle.std.specs.Prelude.{◌≡◌, not, map, length}
use Rattle.std.specs.List.{range_with_len}
use Rattle.std.proofs.Common.{◌∙◌}
use Rattle.jl_types.specs.Values.World.{is_missing}
use Rattle.jl_renewal.specs.Marks.{is_wanted_point}
use Rattle.jl_renewal.proofs.HeldLaws.{those_kept}
use Rattle.jl_renewal.proofs.stays.switches_that_stay.Goals as goal

pub returns : goal.returns
returns c =
    let sites = c.args.sites.now in
    let wants = is_wanted_point sites c.args.stays.now c.args.released.now in
    let flags = c.as_slice.result.now in
    let are : flags ≡ map wants (range_with_len 0 (length sites.switches)) = c.as_slice.ensures.value ∙ c.in_ok-wanted.ensures in
    c.in_ok-kept.ensures ∙ those_kept flags wants (λ p. not (is_missing sites.switches p)) (length sites.switches) are
