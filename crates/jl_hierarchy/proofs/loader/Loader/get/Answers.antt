use Rattle.std.specs.Option.{option_or}
use Rattle.std.proofs.Common.{ap, ◌∙◌, sym, rules}
use Rattle.jl_types.specs.Values.Members.{recorded}
use Rattle.jl_hierarchy.proofs.Recents.{or_else_is, recorded_after}
use Rattle.jl_hierarchy.proofs.loader.Loader.get.Goals as goal

pub returns : goal.returns
returns c =
    let name = c.args.name.now in
    let older = c.self.inside.older.value in
    let recent = c.self.inside.recent.value in
    or_else_is c.get.result (recorded name recent) c.or_else.result c.or_else.ensures (λ w. search rules)
    ∙ ap (λ o. option_or o (recorded name recent)) (c.get.ensures ∙ ap (recorded name) c.deref.ensures)
    ∙ sym (recorded_after name older recent)
    ∙ ap (recorded name) c.self.view_is
