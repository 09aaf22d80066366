use Rattle.std.proofs.Common.{◌+◌, drop, subst, sym}
use Rattle.std.specs.Prelude.{filter_map}
use Rattle.std.specs.List.{flat_map}
use Rattle.jl_types.proofs.Lists.{left_at, none_left}
use Rattle.jl_report.specs.Made.{is_above, made_by, made_in_method}
use Rattle.jl_report.specs.ForProofs.Marking.{AreMarked}
use Rattle.jl_report.proofs.MadeLaws.{Leads, led_one, led_all}
use Rattle.jl_report.proofs.made.mark_methods.Goals as goal

pub loop-method-preserved : goal.loop-method-preserved
loop-method-preserved c =
    let cs = c.args.classes.now in
    let f = made_in_method cs in
    let methods = c.args.methods.now in
    let old = c.args.marks.now in
    let now = c.loop-method.marks in
    led_one (is_above cs) (f c.in-Some.method) (flat_map f (drop (c.loop-method.place + 1) methods)) (flat_map f methods) old now
    c.mark_sites.new.marks
    (subst (λ left. Leads (is_above cs) (flat_map f left) (flat_map f methods) old now)
    (left_at methods c.loop-method.place c.in-Some.method (sym c.in-Some.ensures)) c.loop-method.invariant)
    (subst (λ sites. AreMarked (is_above cs) (filter_map (made_by cs) sites) now c.mark_sites.new.marks) c.sites.ensures c.mark_sites.ensures)

pub returns : goal.returns
returns c =
    let cs = c.args.classes.now in
    let f = made_in_method cs in
    let methods = c.args.methods.now in
    let old = c.args.marks.now in
    let now = c.loop-method.marks in
    led_all (is_above cs) (flat_map f methods) old now
    (subst (λ left. Leads (is_above cs) (flat_map f left) (flat_map f methods) old now) (none_left methods c.loop-method.place (sym c.in_default.ensures))
    c.loop-method.invariant)
