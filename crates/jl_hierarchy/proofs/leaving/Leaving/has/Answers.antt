use Rattle.std.specs.Prelude.{◌≡◌, ℕ, List, []}
use Rattle.std.proofs.Common.{rules, ap, ◌∙◌}
use Rattle.jl_types.specs.Events.Retirement.{is_listed}
use Rattle.jl_types.proofs.Retiring.{gone_has}
use Rattle.jl_hierarchy.proofs.leaving.Leaving.has.Goals as goal

pub returns : goal.returns
returns c =
    let found : c.contains.result ≡ is_listed c.self.inside.loaders.keys c.args.loader = search rules in
    found
    ∙ ap (λ (ls : List ℕ). is_listed ls c.args.loader) c.self.invariant
    ∙ gone_has [] c.self.inside.listed.items c.args.loader
    ∙ ap (λ (ls : List ℕ). is_listed ls c.args.loader) c.self.view_is
