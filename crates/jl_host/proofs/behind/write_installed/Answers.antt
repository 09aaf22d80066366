use Rattle.std.proofs.Common.{◌==◌, ◌∙◌, ap, sym}
use Rattle.std.specs.List.{list_any}
use Rattle.std.proofs.lemmas.Result.{on_ok_weaker}
use Rattle.jl_host.specs.ForProofs.Behind.{installs_at}
use Rattle.jl_host.proofs.behind.write_installed.Goals as goal

pub returns-in-Install-clause-written : goal.returns-in-Install-clause-written
returns-in-Install-clause-written c =
    on_ok_weaker c.write_rows.result
    (λ written s low e. written s low (ap (list_any (λ row. row.0 == s)) c.as_slice.ensures ∙ ap (installs_at s) (sym c.in-Install.is) ∙ e))
    c.write_rows.ensures.written
