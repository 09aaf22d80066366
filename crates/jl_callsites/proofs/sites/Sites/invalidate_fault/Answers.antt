use Rattle.std.proofs.Common.{sym, ◌∙◌}
use Rattle.jl_callsites.proofs.Rows.{all_made}
use Rattle.jl_callsites.proofs.sites.Sites.invalidate_fault.Goals as goal

pub returns-else-lacks_one_of-clause-there : goal.returns-else-lacks_one_of-clause-there
returns-else-lacks_one_of-clause-there c = λ none. all_made c.args.self.now.switches c.args.points.now (sym c.lacks_one_of.ensures ∙ c.if-lacks_one_of.false)
