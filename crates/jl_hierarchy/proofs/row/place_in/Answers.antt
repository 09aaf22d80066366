use Rattle.std.proofs.Common.{ap, sym, ◌∙◌}
use Rattle.std.proofs.lemmas.List.{take_rest}
use Rattle.jl_hierarchy.proofs.PrintLaws.{found, found_from_start, found_sorted, none_after}
use Rattle.jl_hierarchy.proofs.row.place_in.Goals as goal

pub loop-entry-init : goal.loop-entry-init
loop-entry-init c =
    let name = c.args.sought.now.name in
    let ty = c.args.sought.now.ty in
    let ms = c.args.methods.now in
    let prints = c.args.prints.now in
    let start = c.first_not_below-start.result in
    ap (found name ty ms) (take_rest prints start)
    ∙ found_from_start name ty ms prints start (λ k d ge lt. rw (sym c.print.ensures) (c.first_not_below-start.ensures.split.0 k d ge lt))
    ∙ found_sorted name ty ms prints c.requires

pub returns-then-entry-print : goal.returns-then-entry-print
returns-then-entry-print c =
    let prints = c.args.prints.now in
    let start = c.first_not_below-start.result in
    none_after c.args.sought.now.name c.args.sought.now.ty c.args.methods.now prints _ start c.loop-entry.entry-index _ c.requires.0
    (λ k d ge lt. rw (sym c.print.ensures) (c.first_not_below-start.ensures.split.1 k d ge lt)) (take_rest prints start) c.loop-entry-test.true
    (λ e. c.if-entry-print.true (e ∙ sym c.print-in-loop-entry.ensures))
    ∙ c.loop-entry.invariant
