use Rattle.rows_server.proofs.renewals.is_renewed.Given as goal

-- the server that is started
abbrev pub ghosts-is_started : goal.ghosts-is_started
ghosts-is_started g a = record { book = a.old.book; limits = a.old.limits }
