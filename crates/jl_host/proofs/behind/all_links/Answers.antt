use Rattle.std.specs.Prelude.{replicate, length, Option, None}
use Rattle.std.proofs.Common.{◌∙◌, ◌==◌, ap}
use Rattle.std.specs.List.{list_any}
use Rattle.std.proofs.lemmas.List.{length-replicate}
use Rattle.jl_types.specs.declared.limits.Limits.{Limits}
use Rattle.jl_types.specs.declared.link.Link.{Link}
use Rattle.jl_host.specs.Seats.{room_for}
use Rattle.jl_host.proofs.CaughtUp.{written_anew}
use Rattle.jl_host.proofs.behind.all_links.Goals as goal

pub write_rows-requires : goal.write_rows-requires
write_rows-requires c =
    ap length c.in_ok-links.ensures.blank ∙ length-replicate (room_for c.limits.result.sites) _ ∙ ap (λ (l : Limits). room_for l.sites) c.limits.ensures.limits

pub returns-clause-now : goal.returns-clause-now
returns-clause-now c =
    let new = c.in_ok-write_rows.ensures in
    let nothing : Option Link = None in
    written_anew c.args.core.now c.in_ok-links.links.value c.write_rows.new.links.value
    (c.in_ok-links.ensures.blank ∙ ap (λ (l : Limits). replicate (room_for l.sites) nothing) c.limits.ensures.limits) new.kept
    (λ s low e. new.written s low (ap (list_any (λ row. row.0 == s)) (c.as_slice.ensures.value ∙ c.in_ok-rows.ensures) ∙ e))
