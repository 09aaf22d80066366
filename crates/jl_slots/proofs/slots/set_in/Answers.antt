use Rattle.std.proofs.Common.{◌/◌, ◌%◌, ◌∙◌, ap, sym, subst, arith, length, slice_set}
use Rattle.std.proofs.lemmas.Result.{on_ok_weaker}
use Rattle.std.proofs.Math.Nat.{div-add-mod}
use Rattle.jl_pages.specs.ForProofs.Pages.{elements}
use Rattle.jl_slots.specs.ForProofs.Pages.{AreWhole, all_pages}
use Rattle.jl_slots.proofs.SlotLaws.{within, listed_whole, whole_listed, as_long, written}
use Rattle.jl_slots.proofs.slots.set_in.Goals as goal

pub list_to-requires : goal.list_to-requires
list_to-requires g c = within (all_pages c.args.pages.now.items c.args.blank.now c.args.count) c.args.place c.requires.whole c.requires.within

pub set-requires : goal.set-requires
set-requires g c =
    let page = c.index_mut.result.now in
    let value = c.index_mut.ensures.value in
    let is = listed_whole c.list_to.new.pages.items c.args.blank.now page c.args.count (c.args.place / 256)
    (subst AreWhole (sym c.in_ok-list_to.ensures.same) c.requires.whole) c.in_ok-list_to.ensures.listed in
    let long = ap length value in
    omega (arith, is, long)

pub returns-clause-whole : goal.returns-clause-whole
returns-clause-whole g c =
    let page = c.index_mut.result.now in
    let whole = subst AreWhole (sym c.in_ok-list_to.ensures.same) c.requires.whole in
    whole_listed c.list_to.new.pages.items c.args.blank.now c.set.new.self c.args.count (c.args.place / 256) whole c.in_ok-list_to.ensures.listed
    (as_long page c.set.new.self (c.args.place % 256) c.args.element c.set.result c.set.ensures.ok c.set.ensures.err
    ∙ (ap length c.index_mut.ensures.value
    ∙ listed_whole c.list_to.new.pages.items c.args.blank.now page c.args.count (c.args.place / 256) whole c.in_ok-list_to.ensures.listed))

pub returns-clause-ok : goal.returns-clause-ok
returns-clause-ok g c =
    let page = c.index_mut.result.now in
    let same = c.in_ok-list_to.ensures.same in
    let listed = c.list_to.new.pages.items in
    let q = c.args.place / 256 in
    let r = c.args.place % 256 in
    on_ok_weaker c.set.result (λ is.
    ap (λ page. elements (all_pages (slice_set listed q page) c.args.blank.now c.args.count))
    (is ∙ ap (λ page. slice_set page r c.args.element) c.index_mut.ensures.value)
    ∙ (written listed c.args.blank.now c.args.count page c.args.element q c.args.place r (subst AreWhole (sym same) c.requires.whole)
    c.in_ok-list_to.ensures.listed (sym (div-add-mod c.args.place 256)) (omega arith)
    ∙ ap (λ pages. slice_set (elements pages) c.args.place c.args.element) same)) c.set.ensures.ok
