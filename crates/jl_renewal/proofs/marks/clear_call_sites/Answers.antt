use Rattle.std.specs.Prelude.{◌≡◌, false, slice_set}
use Rattle.std.proofs.Common.{rules, sym, ◌∙◌}
use Rattle.jl_renewal.proofs.MarkLaws.{clear_next, clear_end}
use Rattle.jl_renewal.proofs.marks.clear_call_sites.Goals as goal

pub loop-site-preserved : goal.loop-site-preserved
loop-site-preserved c =
    let one : c.set_flag.new.flags ≡ slice_set c.loop-site.flags c.site-item.result false = search rules in
    clear_next c.args.call_sites.now c.loop-site.site-index c.site-item.result c.loop-site.flags
    c.set_flag.new.flags c.loop-site-test.true c.site-item.is one
    ∙ c.loop-site.invariant

pub returns : goal.returns
returns c = sym (clear_end c.args.call_sites.now c.loop-site.site-index c.loop-site.flags c.loop-site-test.false) ∙ c.loop-site.invariant
