use Rattle.jl_farm.proofs.Installs.{one_begins, both_begin, named_begin}
use Rattle.jl_farm.proofs.farm.learn.Goals as goal

pub returns-in-Installed-clause-named : goal.returns-in-Installed-clause-named
returns-in-Installed-clause-named g c = named_begin _ _ _ c.in-Installed.is (one_begins _ _ c.learn.ensures.token)

pub returns-in-Stale-clause-named : goal.returns-in-Stale-clause-named
returns-in-Stale-clause-named g c = named_begin _ _ _ c.in-Stale.is (both_begin _ _ _ _ c.learn-in-Stale.ensures.token c.learn-in-Stale-2.ensures.own
    c.learn-in-Stale-2.ensures.token)

pub returns-in-NotReady-clause-named : goal.returns-in-NotReady-clause-named
returns-in-NotReady-clause-named g c = named_begin _ _ _ c.in-NotReady.is (one_begins _ _ c.learn-in-NotReady.ensures.token)

pub returns-in-Bad-clause-named : goal.returns-in-Bad-clause-named
returns-in-Bad-clause-named g c = named_begin _ _ _ c.in-Bad.is (one_begins _ _ c.learn-in-Bad.ensures.token)
