use Rattle.std.specs.Prelude.{option_copied}
use Rattle.std.proofs.Common.{◌/◌, ◌%◌, slice_get, arith, sym, ap, ◌∙◌}
use Rattle.std.proofs.Math.Nat.{div-add-mod}
use Rattle.jl_slots.specs.ForProofs.Pages.{all_pages}
use Rattle.jl_slots.proofs.SlotLaws.{at_page, past_all, listed_at, unlisted_at, none_at}
use Rattle.jl_slots.proofs.slots.Slots.get.Goals as goal

pub returns-in-Some : goal.returns-in-Some
returns-in-Some g c =
    let s = c.self.inside in
    let q = c.args.place / 256 in
    let pages = s.pages.items in
    c.get.ensures
    ∙ sym (at_page (all_pages pages s.blank s.count) c.in-Some.page.now q c.args.place (c.args.place % 256) c.self.invariant
    (listed_at pages s.blank c.in-Some.page.now s.count q
    (sym (ap (λ xs. slice_get xs q) c.as_slice.ensures.value) ∙ sym c.page_at.ensures ∙ ap option_copied c.in-Some.is))
    (sym (div-add-mod c.args.place 256)) (omega arith))
    ∙ ap (λ xs. slice_get xs c.args.place) c.self.view_is

pub returns-in-None : goal.returns-in-None
returns-in-None g c =
    let s = c.self.inside in
    let q = c.args.place / 256 in
    let pages = s.pages.items in
    let few = c.if-place-self.true in
    c.get-in-None.ensures
    ∙ sym (at_page (all_pages pages s.blank s.count) s.blank q c.args.place (c.args.place % 256) c.self.invariant
    (unlisted_at pages s.blank s.count q
    (sym (ap (λ xs. slice_get xs q) c.as_slice.ensures.value) ∙ sym c.page_at.ensures ∙ ap option_copied c.in-None.is)
    (omega (arith, few)))
    (sym (div-add-mod c.args.place 256)) (omega arith))
    ∙ ap (λ xs. slice_get xs c.args.place) c.self.view_is

pub returns-in-None-2 : goal.returns-in-None-2
returns-in-None-2 g c =
    let s = c.self.inside in
    let q = c.args.place / 256 in
    let pages = s.pages.items in
    let many = c.if-place-self.false in
    sym (past_all (all_pages pages s.blank s.count) q c.args.place (c.args.place % 256) c.self.invariant
    (none_at pages s.blank s.count q
    (sym (ap (λ xs. slice_get xs q) c.as_slice.ensures.value) ∙ sym c.page_at.ensures ∙ ap option_copied c.in-None-2.is)
    (omega (arith, many)))
    (sym (div-add-mod c.args.place 256)))
    ∙ ap (λ xs. slice_get xs c.args.place) c.self.view_is
