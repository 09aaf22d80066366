use Rattle.std.specs.Prelude.{ℕ, Bool, if◌then◌else◌, List, [], slice_get}
use Rattle.std.specs.Option.{option_map_or}
use Rattle.std.proofs.Common.{ap, sym, ◌∙◌}
use Rattle.jl_types.specs.Values.World.{Classes}
use Rattle.jl_hierarchy.specs.Retiring.{own_recorded}
use Rattle.jl_hierarchy.proofs.KeptLaws.{own_here}
use Rattle.jl_hierarchy.proofs.OwnRecords.{none_own, own_are}
use Rattle.jl_hierarchy.proofs.Rising.{has}
use Rattle.jl_hierarchy.proofs.classes.Classes.own_classes.Goals as goal

abbrev own_if : Classes → ℕ → Bool → List ℕ
own_if cs loader is_gone = if is_gone then [] else option_map_or (own_recorded cs.rows loader) (slice_get cs.loaders loader) []

pub returns-then-is_retired-clause-members : goal.returns-then-is_retired-clause-members
returns-then-is_retired-clause-members c = λ k.
    ap (has k) c.new.ensures.items
    ∙ none_own c.args.self.now (own_here _ _ _ c.self.invariant.0 c.args.self.now c.self.view_is) c.args.loader
    (sym c.is_retired.ensures ∙ c.if-is_retired.true) k

pub returns-then-is_retired-clause-in_order : goal.returns-then-is_retired-clause-in_order
returns-then-is_retired-clause-in_order c =
    c.new.ensures.items ∙ ap (own_if c.args.self.now c.args.loader) (sym (sym c.is_retired.ensures ∙ c.if-is_retired.true))

pub returns-clause-members : goal.returns-clause-members
returns-clause-members c = λ k.
    ap (has k) c.in_ok-own.ensures
    ∙ own_are c.args.self.now (own_here _ _ _ c.self.invariant.0 c.args.self.now c.self.view_is) c.args.loader
    (sym c.is_retired.ensures ∙ c.if-is_retired.false) k

pub returns-clause-in_order : goal.returns-clause-in_order
returns-clause-in_order c =
    c.in_ok-own.ensures ∙ ap (own_if c.args.self.now c.args.loader) (sym (sym c.is_retired.ensures ∙ c.if-is_retired.false))
