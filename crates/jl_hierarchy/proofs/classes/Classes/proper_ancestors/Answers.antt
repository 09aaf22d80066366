use Rattle.std.specs.Prelude.{◌≡◌, ◌<◌, length, All}
use Rattle.std.specs.List.{list_any}
use Rattle.std.proofs.Common.{ap, sym, subst, ◌∙◌, rules}
use Rattle.std.proofs.lemmas.List.Elements.{All-from_recursion}
use Rattle.jl_types.specs.Values.Ancestry.{parents, is_ancestor}
use Rattle.jl_hierarchy.proofs.Parents.{listed_next, proper_below, low, ordered}
use Rattle.jl_hierarchy.proofs.classes.Classes.proper_ancestors.Goals as goal

pub joined_ancestors-requires-clause-there : goal.joined_ancestors-requires-clause-there
joined_ancestors-requires-clause-there c =
    let found : c.deref.result.now ≡ parents c.args.row.now = search rules in
    subst (All (λ p. p < length c.args.self.now.rows)) (sym found)
    (All-from_recursion (λ p. p < length c.args.self.now.rows) (parents c.args.row.now) (low c.args.self.now c.args.row.now c.requires))

pub joined_ancestors-requires-clause-ordered : goal.joined_ancestors-requires-clause-ordered
joined_ancestors-requires-clause-ordered c = ordered c.args.self.now c.args.row.now c.requires

pub returns-clause-all : goal.returns-clause-all
returns-clause-all c =
    let found : c.deref.result.now ≡ parents c.args.row.now = search rules in
    listed_next c.args.self.now c.args.row.now c.requires c.in_ok-proper.proper.items c.in_ok-proper.ensures.rising
    (λ a. c.in_ok-proper.ensures.members a ∙ ap (list_any (λ p. is_ancestor c.args.self.now a p)) found)

pub returns-clause-there : goal.returns-clause-there
returns-clause-there c =
    let found : c.deref.result.now ≡ parents c.args.row.now = search rules in
    All-from_recursion (λ a. a < length c.args.self.now.rows) c.in_ok-proper.proper.items
    (proper_below c.args.self.now c.args.row.now c.requires c.in_ok-proper.proper.items c.in_ok-proper.ensures.rising
    (λ a. c.in_ok-proper.ensures.members a ∙ ap (list_any (λ p. is_ancestor c.args.self.now a p)) found))
