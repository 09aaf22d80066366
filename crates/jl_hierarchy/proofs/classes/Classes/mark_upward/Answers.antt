use Rattle.std.specs.Prelude.{◌++◌, ◌∷◌, [], List}
use Rattle.std.proofs.Common.{sym, inl, ap, ◌∙◌, append_assoc, append-nil}
use Rattle.jl_hierarchy.specs.declared.marks.Mark.{Mark}
use Rattle.jl_hierarchy.proofs.Lines.{passes}
use Rattle.jl_hierarchy.proofs.classes.Classes.mark_upward.Goals as goal

pub loop-left-init : goal.loop-left-init
loop-left-init c = record { added = ([], sym (append-nil c.args.marks.now.items)); passed = λ s on. inl on }

pub loop-left-preserved : goal.loop-left-preserved
loop-left-preserved c =
    let added = c.loop-left.invariant.added in
    let mark : Mark = record { class = c.loop-left.at; print = c.args.print } in
    record {
      added = (
        added.0 ++ mark ∷ [],
        c.in_ok-push.ensures.items ∙ ap (λ (xs : List Mark). xs ++ mark ∷ []) added.1 ∙ append_assoc c.args.marks.now.items added.0 (mark ∷ []),
      );
      passed = λ s on. passes c.args.self.now c.superclass.ensures.ordered c.args.print c.loop-left.at s c.loop-left.marks.items c.push.new.self.items
          c.in_ok-push.ensures.items c.in-Some.superclass (sym c.declares_print.ensures ∙ c.if-declares_print.false) (sym c.in-Some.ensures.same)
          (c.loop-left.invariant.passed s on);
    }
