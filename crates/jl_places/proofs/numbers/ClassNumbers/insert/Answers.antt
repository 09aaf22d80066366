use Rattle.std.proofs.Common.{ap, ◌∙◌, Some, if◌then◌else◌}
use Rattle.std.specs.BTreeMap.{is_at}
use Rattle.jl_places.specs.ForProofs.Parts.{OfClass, called_cmp, number_within}
use Rattle.jl_places.proofs.numbers.ClassNumbers.insert.Goals as goal

pub returns-clause-ok : goal.returns-clause-ok
returns-clause-ok c other =
    c.in_ok-insert.ensures.updates.0 other
    ∙ ap (λ (numbers : OfClass). if is_at (called_cmp c.args.called) other then Some c.args.number else number_within numbers other)
    c.self.view_is
