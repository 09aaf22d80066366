use Rattle.std.proofs.Common.{◌∙◌, ap, sym, Some}
use Rattle.std.specs.Prelude.{option_map}
use Rattle.jl_host.specs.Linkers.{Opened}
use Rattle.jl_host.specs.Seats.{seen_of}
use Rattle.jl_host.proofs.linker.Linker.seen.Goals as goal

pub returns-clause-seen : goal.returns-clause-seen
returns-clause-seen c =
    ap Some c.in_ok-seen.ensures.seen
    ∙ ap (option_map (λ (opened : Opened). seen_of opened.session.core)) (sym c.in-Some.is ∙ c.self.view_is)
