use Rattle.std.proofs.Common.{◌∙◌, ◌+◌, ap, drop, subst, sym}
use Rattle.std.specs.Prelude.{slice_get}
use Rattle.std.specs.List.{flat_map}
use Rattle.jl_class.specs.Class.{ClassFile}
use Rattle.jl_types.proofs.Lists.{left_at, none_left}
use Rattle.jl_report.specs.Made.{is_above, made_in_method, made_in_class, made}
use Rattle.jl_report.specs.ForProofs.Marking.{AreMarked}
use Rattle.jl_report.proofs.MadeLaws.{Leads, led_one, led_all}
use Rattle.jl_report.proofs.made.mark_classes.Goals as goal

pub loop-row-preserved : goal.loop-row-preserved
loop-row-preserved c =
    let cs = c.args.classes.now in
    let f = made_in_class cs in
    let old = c.args.marks.now in
    let now = c.loop-row.marks in
    let row = c.in-Some.row.now in
    led_one (is_above cs) (f row) (flat_map f (drop (c.loop-row.number + 1) cs.rows)) (made cs) old now c.mark_methods.new.marks
    (subst (λ left. Leads (is_above cs) (flat_map f left) (made cs) old now)
    (left_at cs.rows c.loop-row.number row (ap (slice_get cs.rows) (sym c.new.ensures) ∙ sym c.in-Some.ensures.found)) c.loop-row.invariant)
    (subst (λ methods. AreMarked (is_above cs) (flat_map (made_in_method cs) methods) now c.mark_methods.new.marks)
    (c.methods.ensures.methods ∙ ap (λ (file : ClassFile). file.methods) c.file.ensures) c.mark_methods.ensures)

pub returns : goal.returns
returns c =
    let cs = c.args.classes.now in
    let f = made_in_class cs in
    let old = c.args.marks.now in
    let now = c.loop-row.marks in
    led_all (is_above cs) (made cs) old now
    (subst (λ left. Leads (is_above cs) (flat_map f left) (made cs) old now)
    (none_left cs.rows c.loop-row.number (ap (slice_get cs.rows) (sym c.new.ensures) ∙ sym c.in_default.ensures.found)) c.loop-row.invariant)
