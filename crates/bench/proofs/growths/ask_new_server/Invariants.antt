use Rattle.bench.proofs.growths.ask_new_server.Given as goal

-- the server that is started
abbrev pub ghosts-ask_server : goal.ghosts-ask_server
ghosts-ask_server g a = record { book = a.parts.book; limits = a.parts.limits }
