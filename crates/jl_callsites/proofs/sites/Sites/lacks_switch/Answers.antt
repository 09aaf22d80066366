use Rattle.std.proofs.Common.{rules}
use Rattle.jl_callsites.proofs.Rows.{made_where_there}
use Rattle.jl_callsites.proofs.sites.Sites.lacks_switch.Goals as goal

pub returns-clause-known : goal.returns-clause-known
returns-clause-known c = λ there. made_where_there c.args.self.now.switches c.args.point c.has_switch.result (search rules) there
