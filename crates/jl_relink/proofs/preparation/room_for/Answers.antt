use Rattle.std.specs.Prelude.{[]}
use Rattle.std.proofs.Common.{sym, ap, ◌∙◌}
use Rattle.std.proofs.lemmas.List.{map-id}
use Rattle.jl_types.specs.Events.Batches.{sites_fault}
use Rattle.jl_relink.proofs.BatchLaws.{size_and_sites}
use Rattle.jl_relink.proofs.preparation.room_for.Goals as goal

pub returns-in-Ok-clause-checked : goal.returns-in-Ok-clause-checked
returns-in-Ok-clause-checked g c =
    size_and_sites c.args.world.now c.args.sites.now (sym c.is_bad_size.ensures ∙ c.if-is_bad_size.false)
    (sym (c.sites_fault.ensures ∙ ap (sites_fault c.args.world.now []) (map-id c.args.sites.now)) ∙ c.in_default.is)
