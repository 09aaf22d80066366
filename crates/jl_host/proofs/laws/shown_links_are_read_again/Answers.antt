use Rattle.jl_host.proofs.ReadAgain.{read_again}
use Rattle.jl_host.proofs.laws.shown_links_are_read_again.Goals as goal

pub returns : goal.returns
returns _ = read_again
