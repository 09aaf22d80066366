use Rattle.std.proofs.Common.{ap, sym, ◌∙◌}
use Rattle.jl_types.specs.Values.Members.{recorded}
use Rattle.jl_hierarchy.proofs.Records.{recorded_is}
use Rattle.jl_hierarchy.proofs.loader.Records.get.Goals as goal

pub returns : goal.returns
returns c =
    c.copied.ensures ∙ c.get.ensures.value ∙ sym (recorded_is c.args.name.now c.self.inside.records.entries)
    ∙ ap (recorded c.args.name.now) c.self.view_is
