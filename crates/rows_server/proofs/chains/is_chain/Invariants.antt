use Rattle.rows_server.proofs.chains.is_chain.Given as goal

-- the server that is started
abbrev pub ghosts-is_started : goal.ghosts-is_started
ghosts-is_started g a = record { book = a.parts.book; limits = a.parts.limits }
