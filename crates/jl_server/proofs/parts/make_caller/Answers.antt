use Rattle.std.proofs.Common.{rules}
use Rattle.jl_server.proofs.Rules.{admits, forks, merges}
use Rattle.jl_server.proofs.parts.make_caller.Goals as goal

pub reader-requires : goal.reader-requires
reader-requires g c = admits

pub tell-requires : goal.tell-requires
tell-requires g c = forks _ _

pub learn-requires : goal.learn-requires
learn-requires g c = record { own = search rules; rule = merges _ _ _ _ }
