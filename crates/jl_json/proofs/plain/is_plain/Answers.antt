use Rattle.std.proofs.Common.{arith, ap₂, ◌∙◌, ◌&&◌}
use Rattle.jl_json.proofs.PlainLaws.{last_window}
use Rattle.jl_json.proofs.plain.is_plain.Goals as goal

pub returns-then-name-lt16 : goal.returns-then-name-lt16
returns-then-name-lt16 c =
    ap₂ (λ a b. a && b) c.is_plain_in.ensures c.is_plain_in-then-name-lt16.ensures
    ∙ last_window _ 8 8 c.args.name.now (omega arith) (omega arith)
