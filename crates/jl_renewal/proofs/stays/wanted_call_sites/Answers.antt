use Rattle.std.specs.Prelude.{◌≡◌, true, length, replicate}
use Rattle.std.specs.List.{list_any}
use Rattle.std.proofs.Common.{rules, ap, ◌∙◌}
use Rattle.jl_renewal.specs.Staying.{is_among}
use Rattle.jl_renewal.specs.Marks.{marked, cleared, binds_staying}
use Rattle.jl_renewal.proofs.MarkLaws.{all_but, whole_slice}
use Rattle.jl_renewal.proofs.stays.wanted_call_sites.Goals as goal

pub returns : goal.returns
returns c =
    let w = c.args.old.now in
    let released = c.args.released.now.call_sites in
    let wanted = c.in_ok-wanted.wanted in
    let flags : wanted.items ≡ replicate (length w.sites.call_sites) true = search rules in
    let clears : c.clear_call_sites.new.flags ≡ cleared (is_among released) wanted.items = search rules in
    let marks : c.mark_bound.new.held ≡ marked (λ k. list_any (binds_staying w k) w.bindings) c.clear_call_sites.new.flags = search rules in
    whole_slice wanted.len c.mark_bound.new.held _ (c.mark_bound.auto.held ∙ c.clear_call_sites.auto.flags ∙ c.as_mut_slice-flags.ensures.len)
    ∙ (marks
    ∙ (ap (marked (λ k. list_any (binds_staying w k) w.bindings)) (clears ∙ ap (cleared (is_among released)) flags)
    ∙ all_but (is_among released) (λ k. list_any (binds_staying w k) w.bindings) (length w.sites.call_sites)))
