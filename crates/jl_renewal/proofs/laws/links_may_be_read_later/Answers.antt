use Rattle.jl_renewal.proofs.MovedLater.{none_refilled, some_installed, links_carried, none_others}
use Rattle.jl_renewal.proofs.laws.links_may_be_read_later.Goals as goal

pub returns-clause-first : goal.returns-clause-first
returns-clause-first c linked w entries released n before fresh refilled k l has = none_refilled w entries released n before fresh refilled k l has

pub returns-clause-installed : goal.returns-clause-installed
returns-clause-installed c linked left fresh after n had front = some_installed linked left fresh after n had front

pub returns-clause-carried : goal.returns-clause-carried
returns-clause-carried c linked fresh after n m old e f had carries made = links_carried linked fresh after n m old e f had carries made

pub returns-clause-beside : goal.returns-clause-beside
returns-clause-beside c k old fresh n beside had = none_others k old fresh n beside had
