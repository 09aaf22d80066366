use Rattle.std.proofs.Common.{◌∙◌, sym}
use Rattle.jl_sketch.proofs.Cases.{with_some_members}
use Rattle.jl_sketch.proofs.constants.Constants.enter_members.Goals as goal

pub returns : goal.returns
returns c =
    let some = with_some_members c.args.self.now c.args.members.now (sym c.is_empty.ensures ∙ c.if-is_empty.false) in
    rw some (rw (sym c.in_ok-enter_text.ensures) c.enter_classes.ensures)
