use Rattle.std.specs.Prelude.{◌<◌, length, All, filter}
use Rattle.std.specs.List.{list_any}
use Rattle.std.proofs.Common.{ap, sym, subst, ◌∙◌}
use Rattle.jl_types.specs.Values.Members.{is_concrete}
use Rattle.jl_types.specs.Values.Ancestry.{is_ancestor}
use Rattle.jl_hierarchy.proofs.KeptLaws.{good}
use Rattle.jl_hierarchy.proofs.OwnRecords.{own_there, losing_are}
use Rattle.jl_hierarchy.proofs.classes.Classes.losing_receivers.Goals as goal

pub joined_ancestors-requires-clause-there : goal.joined_ancestors-requires-clause-there
joined_ancestors-requires-clause-there c =
    subst (All (λ p. p < length c.args.self.now.rows)) (sym c.deref-2.ensures.value)
    (own_there c.args.self.now (good _ _ _ c.self.invariant.0 c.args.self.now c.self.view_is).ordered c.args.loaders.now
    c.in_ok-own.own.items c.in_ok-concrete.concrete.items c.in_ok-own.ensures
    (c.in_ok-concrete.ensures ∙ ap (filter (is_concrete c.args.self.now)) c.deref.ensures.value))

pub joined_ancestors-requires-clause-ordered : goal.joined_ancestors-requires-clause-ordered
joined_ancestors-requires-clause-ordered c = (good _ _ _ c.self.invariant.0 c.args.self.now c.self.view_is).ordered

pub returns : goal.returns
returns c =
    losing_are c.args.self.now (good _ _ _ c.self.invariant.0 c.args.self.now c.self.view_is).ordered c.args.loaders.now
    c.in_ok-own.own.items c.in_ok-concrete.concrete.items c.in_ok-own.ensures
    (c.in_ok-concrete.ensures ∙ ap (filter (is_concrete c.args.self.now)) c.deref.ensures.value)
    c.in_ok-losing.losing.items c.in_ok-losing.ensures.rising
    (λ a. c.in_ok-losing.ensures.members a ∙ ap (list_any (λ p. is_ancestor c.args.self.now a p)) c.deref-2.ensures.value)
