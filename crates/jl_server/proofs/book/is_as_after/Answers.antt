use Rattle.std.specs.Prelude.{◌≤◌, length}
use Rattle.std.proofs.Common.{arith}
use Rattle.jl_server.proofs.Alone.{same_world}
use Rattle.jl_server.proofs.book.is_as_after.Goals as goal

pub returns : goal.returns
returns g c _ =
    let past : c.args.since ≤ length c.args.earlier.now = omega arith in
    same_world c.args.earlier.now c.args.list.now c.args.since c.begins.ensures past c.requires
