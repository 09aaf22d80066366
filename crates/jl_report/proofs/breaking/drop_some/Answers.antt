use Rattle.std.proofs.Common.{◌∙◌, sym, subst, refl}
use Rattle.jl_report.proofs.DropLaws.{Parted, parted_begun, parted_left, parted_dropped}
use Rattle.jl_report.proofs.breaking.drop_some.Goals as goal

pub loop-before-init : goal.loop-before-init
loop-before-init c =
    let cs = c.args.classes.now in
    let keys = c.args.keys.now in
    let first = c.args.rows.now.items in
    let rows = c.reverse.new.self.items in
    let earlier = c.args.dropped.now.items in
    subst (λ left. Parted cs keys first rows left earlier earlier) (sym c.new-left.ensures.items)
    (parted_begun cs keys first rows earlier c.reverse.ensures.items)

pub loop-before-preserved : goal.loop-before-preserved
loop-before-preserved c =
    let cs = c.args.classes.now in
    let keys = c.args.keys.now in
    let first = c.args.rows.now.items in
    let left = c.loop-before.left.items in
    let earlier = c.args.dropped.now.items in
    let told = c.loop-before.dropped.items in
    parted_left cs keys first c.pop.new.self.items left c.in-Some.before earlier told c.push-in-None.new.self.items
    (subst (λ rows. Parted cs keys first rows left earlier told) c.in-Some.ensures.items c.loop-before.invariant)
    (sym c.changed.ensures ∙ c.in-None.is) c.in_ok-push-in-None.ensures.items

pub loop-before-preserved-in-Continue-1 : goal.loop-before-preserved-in-Continue-1
loop-before-preserved-in-Continue-1 c =
    let cs = c.args.classes.now in
    let keys = c.args.keys.now in
    let first = c.args.rows.now.items in
    let left = c.loop-before.left.items in
    let earlier = c.args.dropped.now.items in
    let told = c.loop-before.dropped.items in
    let row = c.in-Some.before in
    let after = c.in-Some-changed.after in
    parted_dropped cs keys first c.pop.new.self.items left row earlier told c.push.new.self.items (record { before = row; after = after }) after
    (subst (λ rows. Parted cs keys first rows left earlier told) c.in-Some.ensures.items c.loop-before.invariant)
    (sym c.changed.ensures ∙ c.in-Some-changed.is) refl c.in_ok-push-in-Some-changed.ensures.items
