use Rattle.jl_server.proofs.Rules.{next_pending}
use Rattle.jl_server.proofs.publish.show.Goals as goal

pub publish_as-writer-requires : goal.publish_as-writer-requires
publish_as-writer-requires g c next is =
    next_pending _ _ c.args.writer.desk.shown.value _ c.args.change.value c.requires.pending c.requires.same c.requires.shown next is
