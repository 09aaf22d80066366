use Rattle.std.proofs.Common.{◌+◌, drop, subst, sym}
use Rattle.std.specs.Prelude.{filter_map}
use Rattle.jl_types.proofs.Lists.{left_at, none_left}
use Rattle.jl_report.specs.Made.{is_above, made_by}
use Rattle.jl_report.proofs.MadeLaws.{Leads, led_by_option, led_all}
use Rattle.jl_report.proofs.made.mark_sites.Goals as goal

pub loop-site-preserved : goal.loop-site-preserved
loop-site-preserved c =
    let cs = c.args.classes.now in
    let f = made_by cs in
    let sites = c.args.sites.now in
    let old = c.args.marks.now in
    let now = c.loop-site.marks in
    led_by_option (is_above cs) (f c.in-Some.site) (filter_map f (drop (c.loop-site.place + 1) sites)) (filter_map f sites) old now
    c.mark_site.new.marks
    (subst (λ left. Leads (is_above cs) (filter_map f left) (filter_map f sites) old now)
    (left_at sites c.loop-site.place c.in-Some.site (sym c.in-Some.ensures)) c.loop-site.invariant) c.mark_site.ensures

pub returns : goal.returns
returns c =
    let cs = c.args.classes.now in
    let f = made_by cs in
    let sites = c.args.sites.now in
    let old = c.args.marks.now in
    let now = c.loop-site.marks in
    led_all (is_above cs) (filter_map f sites) old now
    (subst (λ left. Leads (is_above cs) (filter_map f left) (filter_map f sites) old now) (none_left sites c.loop-site.place (sym c.in_default.ensures))
    c.loop-site.invariant)
