use Rattle.std.specs.Prelude.{◌≡◌, ℕ, Bool, true, length, replicate}
use Rattle.std.specs.List.{list_any}
use Rattle.std.proofs.Common.{rules, ap, ◌∙◌}
use Rattle.jl_types.specs.Events.Retirement.{has_target}
use Rattle.jl_renewal.specs.Numbers.{staying}
use Rattle.jl_renewal.specs.Staying.{is_among, guards_by}
use Rattle.jl_renewal.specs.Marks.{marked, cleared}
use Rattle.jl_renewal.proofs.MarkLaws.{all_but, whole_slice}
use Rattle.jl_renewal.proofs.stays.wanted_switches.Goals as goal

pub returns : goal.returns
returns c =
    let sites = c.args.sites.now in
    let released = c.args.released.now.switches in
    let guarded : ℕ → Bool = λ p. list_any (has_target (guards_by p)) (staying c.args.stays.now sites.call_sites) in
    let wanted = c.in_ok-wanted.wanted in
    let flags : wanted.items ≡ replicate (length sites.switches) true = search rules in
    let clears : c.clear_switches.new.flags ≡ cleared (is_among released) wanted.items = search rules in
    whole_slice wanted.len c.keep_guards.new.kept _ (c.keep_guards.auto.kept ∙ c.clear_switches.auto.flags ∙ c.as_mut_slice-flags.ensures.len)
    ∙ (c.keep_guards.ensures
    ∙ (ap (marked guarded) (clears ∙ ap (cleared (is_among released)) flags) ∙ all_but (is_among released) guarded (length sites.switches)))
