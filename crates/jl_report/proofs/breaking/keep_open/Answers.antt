use Rattle.std.proofs.Common.{◌≡◌, ◌∙◌, sym, subst, rules, []}
use Rattle.jl_report.proofs.DropLaws.{OpenSoFar, open_begun, open_kept, open_left, open_ended}
use Rattle.jl_report.proofs.breaking.keep_open.Goals as goal

pub loop-row-init : goal.loop-row-init
loop-row-init c = open_begun c.args.classes.now c.args.rows.items c.reverse.new.self.items c.args.kept.now.items c.reverse.ensures.items

pub loop-row-preserved : goal.loop-row-preserved
loop-row-preserved c =
    let first = c.args.rows.items in
    let before = c.args.kept.now.items in
    let kept = c.loop-row.kept.items in
    open_left c.args.classes.now first c.pop.new.self.items before kept c.in-Some.row
    (subst (λ rows. OpenSoFar c.args.classes.now first rows before kept) c.in-Some.ensures.items c.loop-row.invariant)
    (sym c.is_open.ensures ∙ c.if-is_open.false)

pub loop-row-preserved-in-Continue-1 : goal.loop-row-preserved-in-Continue-1
loop-row-preserved-in-Continue-1 c =
    let first = c.args.rows.items in
    let before = c.args.kept.now.items in
    let kept = c.loop-row.kept.items in
    open_kept c.args.classes.now first c.pop.new.self.items before kept c.push.new.self.items c.in-Some.row
    (subst (λ rows. OpenSoFar c.args.classes.now first rows before kept) c.in-Some.ensures.items c.loop-row.invariant)
    (sym c.is_open.ensures ∙ c.if-is_open.true)
    c.in_ok-push.ensures.items

pub returns : goal.returns
returns c =
    let none : c.loop-row.rows.items ≡ [] = search rules in
    open_ended c.args.classes.now c.args.rows.items c.loop-row.rows.items c.args.kept.now.items c.loop-row.kept.items c.loop-row.invariant none
