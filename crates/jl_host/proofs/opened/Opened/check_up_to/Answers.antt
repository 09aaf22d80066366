use Rattle.std.proofs.Common.{inr}
use Rattle.jl_host.proofs.FileLaws.{unread}
use Rattle.jl_host.proofs.opened.Opened.check_up_to.Goals as goal

pub returns-in-Err : goal.returns-in-Err
returns-in-Err c =
    inr (unread c.args.newest c.args.bytes.now c.in-Err.fault c.in-Err.ensures.fault c.args.self.now c.tell_file.result c.tell_file.new.told
    c.tell_file.ensures.status c.tell_file.ensures.told)
