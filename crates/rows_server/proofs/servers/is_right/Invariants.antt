use Rattle.rows_server.proofs.servers.is_right.Given as goal

-- the server that is started
abbrev pub ghosts-is_so : goal.ghosts-is_so
ghosts-is_so g a = record { book = a.parts.book; limits = a.parts.limits }
