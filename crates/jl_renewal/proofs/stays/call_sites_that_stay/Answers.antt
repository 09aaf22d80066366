use Rattle.std.specs.Prelude.{◌≡◌, ◌&&◌, List, Option, Bool, false, not, map, length, get_or}
use Rattle.std.specs.List.{range_with_len}
use Rattle.std.proofs.Common.{sym, ap, ap₂, ◌∙◌}
use Rattle.std.proofs.lemmas.List.FromFn.{length-map-range_with_len}
use Rattle.jl_types.specs.Values.World.{World, CallSite}
use Rattle.jl_renewal.specs.Staying.{is_held, staying_from}
use Rattle.jl_renewal.specs.Marks.{is_wanted}
use Rattle.jl_renewal.proofs.MarkLaws.{whole_slice}
use Rattle.jl_renewal.proofs.HeldLaws.{by_flags}
use Rattle.jl_renewal.proofs.stays.call_sites_that_stay.Goals as goal

pub keep_invoked-requires : goal.keep_invoked-requires
keep_invoked-requires c =
    let w = c.args.old.now in
    let wanted = is_wanted w c.args.released.now in
    let first = c.as_mut_slice.result.now in
    let begins : first ≡ map wanted (range_with_len 0 (length w.sites.call_sites)) = c.as_mut_slice.ensures.value ∙ c.in_ok-stays.ensures in
    ap length begins
    ∙ (length-map-range_with_len wanted 0 (length w.sites.call_sites) ∙ sym (ap (λ (w : World). length w.sites.call_sites) c.old.view_is))

pub returns : goal.returns
returns c =
    let w = c.args.old.now in
    let released = c.args.released.now in
    let wanted = is_wanted w released in
    let first = c.as_mut_slice.result.now in
    let begins : first ≡ map wanted (range_with_len 0 (length w.sites.call_sites)) = c.as_mut_slice.ensures.value ∙ c.in_ok-stays.ensures in
    let keeps : c.keep_invoked.new.stays ≡ staying_from (λ k. get_or first k false) 0 c.old.inside.sites.call_sites = c.keep_invoked.ensures in
    whole_slice c.in_ok-stays.stays.len c.keep_invoked.new.stays _ (c.keep_invoked.auto.stays ∙ c.as_mut_slice.ensures.len)
    ∙ (keeps
    ∙ (ap₂ (λ flags (sites : List (Option CallSite)). staying_from (λ k. get_or flags k false) 0 sites) begins
    (ap (λ (w : World). w.sites.call_sites) c.old.view_is)
    ∙ by_flags wanted (is_held w released) w.sites.call_sites (λ k there. sym (ap (λ (b : Bool). not b && wanted k) there))))
