use Rattle.std.proofs.Common.{sym, ap, ◌∙◌}
use Rattle.jl_types.specs.Values.World.{World}
use Rattle.jl_types.specs.Linkage.Stages.{bound_to}
use Rattle.jl_relink.proofs.Bindings.{found_in_map}
use Rattle.jl_relink.proofs.world.World.bound_to.Goals as goal

pub returns : goal.returns
returns c =
    c.copied.ensures ∙ c.get.ensures.value ∙ sym (found_in_map c.args.site c.self.inside.bindings.entries)
    ∙ ap (λ (w : World). bound_to w c.args.site) c.self.view_is
