use Rattle.bench.proofs.serve.measure.Given as goal

-- the server that is started
abbrev pub ghosts-start : goal.ghosts-start
ghosts-start g a = record { book = a.parts.book; limits = a.parts.limits }
