use Rattle.rows_server.proofs.chains.OverThen.holds.Given as goal

-- the fresh server
abbrev pub ghosts-opens : goal.ghosts-opens
ghosts-opens g a = record { book = a.fresh.book; limits = a.fresh.limits }
