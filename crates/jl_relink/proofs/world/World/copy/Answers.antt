use Rattle.std.proofs.Common.{◌∙◌}
use Rattle.jl_relink.proofs.Bindings.{pairs_same}
use Rattle.jl_relink.proofs.world.World.copy.Goals as goal

pub returns : goal.returns
returns c =
    (λ i. record {
      classes = c.in_ok-copy.ensures i;
      places = c.in_ok-copy-2.ensures i;
      bindings = pairs_same c.self.inside.bindings.entries c.in_ok-clone.field-0.entries c.in_ok-clone.ensures.cases i;
      sites = c.in_ok-copy-3.ensures i;
    })
    ∙ c.self.view_is
