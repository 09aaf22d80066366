use Rattle.std.specs.Prelude.{◌≡◌, ℕ, ◌<◌, ◌++◌, ◌∷◌, [], length, All}
use Rattle.std.specs.List.{list_any}
use Rattle.std.proofs.Common.{ap, sym, subst, ◌∙◌, rules}
use Rattle.std.proofs.lemmas.List.Elements.{All-from_recursion}
use Rattle.jl_types.specs.Values.Ancestry.{parents, is_ancestor}
use Rattle.jl_types.specs.Events.Definitions.{class_made}
use Rattle.jl_types.proofs.Orders.{defined_good}
use Rattle.jl_hierarchy.proofs.KeptLaws.{good}
use Rattle.jl_hierarchy.proofs.Parents.{listed_next, low, ordered}
use Rattle.jl_hierarchy.proofs.classes.Classes.ancestors_if_defined.Goals as goal

pub joined_ancestors-requires-clause-there : goal.joined_ancestors-requires-clause-there
joined_ancestors-requires-clause-there c =
    let cs = c.args.self.now in
    let row = class_made cs c.args.loader c.args.file.now in
    let found : c.deref-2.result.now ≡ parents row = search rules in
    let o = (defined_good cs (good _ _ _ c.self.invariant.0 cs c.self.view_is) c.args.loader c.args.file.now).ordered in
    subst (All (λ p. p < length cs.rows)) (sym found)
    (All-from_recursion (λ p. p < length cs.rows) (parents row) (low cs row o))

pub joined_ancestors-requires-clause-ordered : goal.joined_ancestors-requires-clause-ordered
joined_ancestors-requires-clause-ordered c =
    let cs = c.args.self.now in
    let row = class_made cs c.args.loader c.args.file.now in
    ordered cs row ((defined_good cs (good _ _ _ c.self.invariant.0 cs c.self.view_is) c.args.loader c.args.file.now).ordered)

pub returns : goal.returns
returns c =
    let cs = c.args.self.now in
    let row = class_made cs c.args.loader c.args.file.now in
    let found : c.deref-2.result.now ≡ parents row = search rules in
    let o = (defined_good cs (good _ _ _ c.self.invariant.0 cs c.self.view_is) c.args.loader c.args.file.now).ordered in
    let class_is : c.new-class.result ≡ length cs.rows = search rules in
    c.in_ok-push.ensures.items
    ∙ ap (λ (n : ℕ). c.in_ok-all.all.items ++ n ∷ []) class_is
    ∙ listed_next cs row o c.in_ok-all.all.items c.in_ok-all.ensures.rising
    (λ a. c.in_ok-all.ensures.members a ∙ ap (list_any (λ p. is_ancestor cs a p)) found)
