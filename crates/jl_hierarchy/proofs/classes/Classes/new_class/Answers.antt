use Rattle.std.specs.Prelude.{◌<◌, ◌++◌, ◌∷◌, [], length, All}
use Rattle.std.specs.List.{list_any}
use Rattle.std.proofs.Common.{ap, sym, subst, ◌∙◌, arith, rules}
use Rattle.jl_types.specs.Values.World.{Class}
use Rattle.jl_types.specs.Values.Ancestry.{AreOrdered, parents, is_ancestor}
use Rattle.jl_hierarchy.specs.ForProofs.Kept.{Rises}
use Rattle.jl_hierarchy.specs.Redeclared.{is_above}
use Rattle.jl_hierarchy.proofs.Lines.{line_parents}
use Rattle.jl_types.proofs.Orders.{defined_good}
use Rattle.jl_hierarchy.proofs.KeptLaws.{good}
use Rattle.jl_hierarchy.proofs.NewClass.{chosen}
use Rattle.jl_hierarchy.proofs.classes.Classes.new_class.Goals as goal

pub proper_ancestors-requires : goal.proper_ancestors-requires
proper_ancestors-requires c =
    let row : Class = c.args.row in
    subst (λ (r : Class). AreOrdered (c.args.self.now.rows ++ r ∷ [])) (sym (c.class-2.ensures ∙ c.requires))
    ((defined_good c.args.self.now (good _ _ _ c.self.invariant.0 c.args.self.now c.self.view_is) row.loader row.file).ordered)

pub returns : goal.returns
returns c = record {
  row_is = search rules;
  number = search rules;
  concrete = search rules;
  all = search rules;
  there =
      chosen (All (λ a. a < length c.args.self.now.rows)) c.is_concrete-is_concrete.result c.in_ok-ancestors.ancestors.items (λ k d lt. absurd (omega arith))
      c.in_ok-ancestors.ensures.there;
  rising = chosen Rises c.is_concrete-is_concrete.result c.in_ok-ancestors.ancestors.items tt c.in_ok-ancestors.ensures.rising;
  with_itself = search rules;
  own = search rules;
  marks = search rules;
  above = λ s on.
      c.in_ok-ancestors.ensures.members s
      ∙ ap (λ (r : Class). list_any (λ p. is_ancestor c.args.self.now s p) (parents r)) c.class-2.ensures
      ∙ line_parents c.args.self.now (good _ _ _ c.self.invariant.0 c.args.self.now c.self.view_is).ordered c.args.row s on;
  line = λ known a on plain.
      ap (λ (r : Class). is_above c.args.self.now r a) (sym c.class-4.ensures)
      ∙ c.is_line-is_line.ensures known a
      (ap (λ (r : Class). list_any (λ p. is_ancestor c.args.self.now a p) (parents r)) (c.class-4.ensures ∙ sym c.class-2.ensures)
      ∙ sym (c.in_ok-ancestors.ensures.members a) ∙ on) plain;
}
