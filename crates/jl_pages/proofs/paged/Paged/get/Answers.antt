use Rattle.std.specs.Prelude.{option_copied}
use Rattle.std.proofs.Common.{◌-◌, ◌/◌, ◌%◌, length, slice_get, arith, sym, ap, ◌∙◌, length-append}
use Rattle.std.proofs.Math.Nat.{div-add-mod}
use Rattle.jl_pages.specs.ForProofs.Pages.{elements}
use Rattle.jl_pages.specs.Listing.{Listed}
use Rattle.jl_pages.proofs.PageLaws.{at_page, after, before}
use Rattle.jl_pages.proofs.paged.Paged.get.Goals as goal

pub overflow_sub-place : goal.overflow_sub-place
overflow_sub-place g c =
    let count = c.self.invariant.1 ∙ length-append (elements c.self.inside.full.items) c.self.inside.last.items in
    let last = ap length c.as_slice-in-None.ensures.value in
    let none = sym (ap (λ xs. slice_get xs (c.args.place / 64)) c.as_slice.ensures.value) ∙ sym c.element_at.ensures ∙ ap option_copied c.in-None.is in
    let le = before c.self.inside.full.items (c.args.place / 64) c.args.place (c.args.place % 64) c.self.invariant.0 none (div-add-mod c.args.place 64) in
    omega (arith, count, last, le)

pub returns-in-Some : goal.returns-in-Some
returns-in-Some g c =
    c.element_at-in-Some.ensures
    ∙ ap (λ xs. slice_get xs (c.args.place % 64)) c.as_slice-in-Some.ensures
    ∙ sym (at_page c.self.inside.full.items c.self.inside.last.items c.in-Some.page.now (c.args.place / 64) c.args.place (c.args.place % 64) c.self.invariant.0
    (sym (ap (λ xs. slice_get xs (c.args.place / 64)) c.as_slice.ensures.value) ∙ sym c.element_at.ensures ∙ ap option_copied c.in-Some.is)
    (sym (div-add-mod c.args.place 64)) (omega arith))
    ∙ ap (λ (l : Listed _). slice_get l.items c.args.place) c.self.view_is

pub returns-in-None : goal.returns-in-None
returns-in-None g c =
    let count = c.self.invariant.1 ∙ length-append (elements c.self.inside.full.items) c.self.inside.last.items in
    let last = ap length c.as_slice-in-None.ensures.value in
    let none = sym (ap (λ xs. slice_get xs (c.args.place / 64)) c.as_slice.ensures.value) ∙ sym c.element_at.ensures ∙ ap option_copied c.in-None.is in
    let le = before c.self.inside.full.items (c.args.place / 64) c.args.place (c.args.place % 64) c.self.invariant.0 none (div-add-mod c.args.place 64) in
    c.element_at-in-None.ensures
    ∙ ap (λ xs. slice_get xs (c.args.place - (c.self.inside.count - length c.as_slice-in-None.result.now))) c.as_slice-in-None-2.ensures.value
    ∙ sym (after (elements c.self.inside.full.items) c.self.inside.last.items c.args.place
    (c.args.place - (c.self.inside.count - length c.as_slice-in-None.result.now)) (omega (arith, count, last, le)))
    ∙ ap (λ (l : Listed _). slice_get l.items c.args.place) c.self.view_is
