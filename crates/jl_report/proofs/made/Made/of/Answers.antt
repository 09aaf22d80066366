use Rattle.std.proofs.Common.{◌≡◌, ◌∙◌, arith, drop, length, replicate, rules, subst}
use Rattle.std.specs.Prelude.{false}
use Rattle.jl_report.specs.Made.{is_above, made}
use Rattle.jl_report.specs.ForProofs.Marking.{AreMarked}
use Rattle.jl_report.proofs.MethodLaws.{take_front}
use Rattle.jl_report.proofs.MadeLaws.{all_marked}
use Rattle.jl_report.proofs.made.Made.of.Goals as goal

pub returns : goal.returns
returns c =
    let cs = c.args.classes.now in
    let old = c.in_ok-marks.marks.items in
    let new = c.mark_classes.new.marks in
    let marked = subst (λ xs. AreMarked (is_above cs) (made cs) xs new) c.as_mut_slice.ensures.value c.mark_classes.ensures in
    let none : old ≡ replicate (length cs.rows) false = search rules in
    let len : c.in_ok-marks.marks.len ≡ length old = search rules in
    let many : length new ≡ length old = marked.many in
    take_front new (drop (length new) old) c.in_ok-marks.marks.len (omega (arith, len, many)) (omega (arith, len, many))
    ∙ all_marked cs old new none marked
