use Rattle.jl_host.proofs.SeatLaws.{unrefreshed}
use Rattle.jl_host.proofs.seat.Seat.refresh.Goals as goal

pub returns-in-Err : goal.returns-in-Err
returns-in-Err c = let open_is = c.in-Err.ensures.open in unrefreshed c.args.self.now c.args.linker.now open_is.0 c.seen.new.self open_is.1 c.seen.ensures.same
