use Rattle.std.proofs.Common.{ap, ◌∙◌}
use Rattle.jl_core.specs.ForProofs.Touched.{has}
use Rattle.jl_core.proofs.slots.touched.Goals as goal

pub returns : goal.returns
returns c = record {
  rises = c.each_once.ensures.rises;
  same = λ s. c.each_once.ensures.same s ∙ ap (has s) c.in_ok-sites.ensures;
}
