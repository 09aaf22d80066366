use Rattle.std.specs.Prelude.{◌≡◌, true, false, slice_set}
use Rattle.std.proofs.Common.{rules, ◌∙◌}
use Rattle.jl_renewal.specs.Staying.{is_in_staying_class}
use Rattle.jl_renewal.proofs.MarkLaws.{marked_if, marked_unless}
use Rattle.jl_renewal.proofs.stays.mark_if_stays.Goals as goal

pub returns-then-is_in_staying_class : goal.returns-then-is_in_staying_class
returns-then-is_in_staying_class c =
    let is : is_in_staying_class c.args.old.now c.args.site ≡ true = search rules in
    let one : c.set_flag.new.flags ≡ slice_set c.args.held.now c.args.call_site true = search rules in
    one ∙ marked_if c.args.call_site (is_in_staying_class c.args.old.now c.args.site) c.args.held.now is

pub returns-else-is_in_staying_class : goal.returns-else-is_in_staying_class
returns-else-is_in_staying_class c =
    let is : is_in_staying_class c.args.old.now c.args.site ≡ false = search rules in
    marked_unless c.args.call_site (is_in_staying_class c.args.old.now c.args.site) c.args.held.now is
