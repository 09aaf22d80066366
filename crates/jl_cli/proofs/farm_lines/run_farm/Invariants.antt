use Rattle.jl_cli.proofs.farm_lines.run_farm.Given as goal

-- the server that is started
abbrev pub ghosts-run_started : goal.ghosts-run_started
ghosts-run_started g a = record { book = a.parts.book; limits = a.parts.limits }
