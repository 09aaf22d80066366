use Rattle.jl_server.proofs.MemoLaws.{row_stays}
use Rattle.jl_server.proofs.memo.Memo.get.Goals as goal

pub returns-clause-stays : goal.returns-clause-stays
returns-clause-stays g c =
    row_stays g.K.Name.limits (record { seen = c.self.inside.seen; sets = c.self.inside.rows }) c.args.self.now c.self.view_is c.self.invariant c.args.site
    c.args.class c.get.result c.get.ensures
