use Rattle.std.proofs.Common.{◌+◌, ap, ◌∙◌}
use Rattle.std.specs.Option.{option_map_or}
use Rattle.jl_sketch.proofs.EntryLaws.{numbered}
use Rattle.jl_sketch.proofs.constants.Constants.number.Goals as goal

pub returns-in-Some : goal.returns-in-Some
returns-in-Some c = ap (λ o. option_map_or (λ i. i + 1) o 0) c.in-Some.ensures.index
    ∙ numbered c.self.inside.entries.keys c.args.self.now c.args.entry c.self.view_is

pub returns-in-None : goal.returns-in-None
returns-in-None c = ap (λ o. option_map_or (λ i. i + 1) o 0) c.in-None.ensures.index
    ∙ numbered c.self.inside.entries.keys c.args.self.now c.args.entry c.self.view_is
