use Rattle.std.proofs.Common.{◌∙◌, ap, append-nil, sym, subst, List, ◌++◌, reverse}
use Rattle.jl_report.specs.declared.defining.Waiting.{Waiting}
use Rattle.jl_report.specs.ForProofs.Waiting.{AreOf, places}
use Rattle.jl_report.proofs.defining.Rounds.of.Goals as goal

pub returns-clause-places : goal.returns-clause-places
returns-clause-places c =
    let all = c.in_ok-every_file.field-0.items in
    ap places (ap (λ (xs : List Waiting). all ++ reverse xs) c.new.ensures.items ∙ append-nil all) ∙ c.in_ok-every_file.ensures.places

pub returns-clause-files : goal.returns-clause-files
returns-clause-files c =
    let all = c.in_ok-every_file.field-0.items in
    subst (AreOf c.args.files.items) (sym (ap (λ (xs : List Waiting). all ++ reverse xs) c.new.ensures.items ∙ append-nil all))
    c.in_ok-every_file.ensures.files
