use Rattle.std.proofs.Common.{◌∙◌, sym}
use Rattle.std.proofs.lemmas.Result.{IfOk-equal}
use Rattle.jl_sketch.proofs.Cases.{code_written}
use Rattle.jl_sketch.proofs.write.push_attributes.Goals as goal

pub returns : goal.returns
returns c =
    let code = code_written c.args.constants.now c.args.method.now c.args.out.now.items c.push_u2-2.new.out.items (sym c.has_code.ensures
    ∙ c.if-not-has_code.false) c.in_ok-push_u2.ensures in
    IfOk-equal c.push_code.result _ _ _ (rw c.as_slice.ensures at c.push_code.ensures) code
