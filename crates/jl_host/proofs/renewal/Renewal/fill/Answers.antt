use Rattle.std.specs.Prelude.{Option, Some}
use Rattle.std.proofs.Common.{◌∙◌, refl, sym, subst}
use Rattle.jl_host.specs.Renewing.{Renewing, IsFilled, IsFill}
use Rattle.jl_host.proofs.renewal.Renewal.fill.Goals as goal

pub returns : goal.returns
returns c =
    let status = c.fill.result in
    let told = c.fill.new.told in
    let new = c.fill.new.self in
    subst (λ (before : Option Renewing). IsFill before status told (Some new)) (sym c.in-Some.is ∙ c.self.view_is)
    (new, refl, subst (λ (old : Renewing). IsFilled old status told new) c.let_past_go.ensures c.fill.ensures)
