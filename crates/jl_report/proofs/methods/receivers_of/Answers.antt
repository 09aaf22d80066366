use Rattle.std.proofs.Common.{sym, ◌∙◌}
use Rattle.jl_report.proofs.MethodLaws.{no_receivers}
use Rattle.jl_report.proofs.methods.receivers_of.Goals as goal

pub returns : goal.returns
returns c = sym (no_receivers c.args.classes.now c.args.class (sym c.has_class.ensures ∙ c.if-has_class.false))
