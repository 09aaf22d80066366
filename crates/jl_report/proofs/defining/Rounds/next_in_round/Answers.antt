use Rattle.std.proofs.Common.{◌≡◌, ◌∙◌, sym, ap, subst, rules, []}
use Rattle.jl_types.specs.Events.Definitions.{define_fault}
use Rattle.jl_report.specs.Gathering.{most_classes}
use Rattle.jl_report.proofs.GatherLaws.{HadTurns, no_turn, one_left, one_taken, all_turned, not_some}
use Rattle.jl_report.proofs.defining.Rounds.next_in_round.Goals as goal

pub loop-one-init : goal.loop-one-init
loop-one-init c = no_turn c.args.classes.now c.args.self.now.waiting.items c.args.self.now.left.items

pub returns-then-not-is_barred : goal.returns-then-not-is_barred
returns-then-not-is_barred c =
    let cs = c.args.classes.now in
    let first = c.args.self.now.waiting.items in
    let before = c.args.self.now.left.items in
    one_taken cs first before c.pop.new.self.items c.in-Some.one c.loop-one.self.left.items
    (subst (λ waiting. HadTurns cs first before waiting c.loop-one.self.left.items) c.in-Some.ensures.items c.loop-one.invariant)
    (not_some (define_fault most_classes cs 0 c.in-Some.one.file) (sym c.is_barred.ensures ∙ c.if-not-is_barred.true))

pub loop-one-preserved : goal.loop-one-preserved
loop-one-preserved c =
    let cs = c.args.classes.now in
    let first = c.args.self.now.waiting.items in
    let before = c.args.self.now.left.items in
    subst (HadTurns cs first before c.pop.new.self.items) (sym c.in_ok-push.ensures.items)
    (one_left cs first before c.pop.new.self.items c.in-Some.one c.loop-one.self.left.items
    (subst (λ waiting. HadTurns cs first before waiting c.loop-one.self.left.items) c.in-Some.ensures.items c.loop-one.invariant)
    (sym c.is_barred.ensures ∙ c.if-not-is_barred.false))

pub returns : goal.returns
returns c =
    let none : c.loop-one.self.waiting.items ≡ [] = search rules in
    let empty : c.pop.new.self.items ≡ [] = search rules in
    let turned = all_turned c.args.classes.now c.args.self.now.waiting.items c.args.self.now.left.items c.loop-one.self.waiting.items
    c.loop-one.self.left.items c.loop-one.invariant none in (
      ap (λ v. v.items) c.swap.ensures.x_after ∙ c.reverse.ensures.items ∙ turned.0,
      ap (λ v. v.items) c.swap.ensures.y_after ∙ empty,
      turned.1,
    )
