use Rattle.rows_server.proofs.renewals.is_made.Given as goal

-- the fresh server
abbrev pub ghosts-is_opened : goal.ghosts-is_opened
ghosts-is_opened g a = record { book = a.fresh.book; limits = a.fresh.limits }
