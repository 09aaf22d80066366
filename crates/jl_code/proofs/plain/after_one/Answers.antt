use Rattle.std.proofs.Common.{◌∙◌, sym, arith}
use Rattle.std.proofs.lemmas.List.{take_rest}
use Rattle.jl_code.proofs.PlainLaws.{stands}
use Rattle.jl_code.proofs.plain.after_one.Goals as goal

pub returns-then-length-eq1-clause-stands : goal.returns-then-length-eq1-clause-stands
returns-then-length-eq1-clause-stands c = rw take_rest
    (stands c.args.bytes.now 1 (sym c.if-length-eq1.true ∙ c.plain_length-length.ensures) (omega arith) (omega arith))

pub returns-clause-stands : goal.returns-clause-stands
returns-clause-stands c =
    let n = c.from-length.result in
    rw (take_rest c.args.bytes.now n)
    (stands c.args.bytes.now n (c.from-length.ensures ∙ c.plain_length-length.ensures) c.if-length-eq0.false (omega arith))
