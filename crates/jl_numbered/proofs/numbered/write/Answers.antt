use Rattle.std.proofs.Common.{◌≡◌, Some, None, length, slice_get, slice_set, ap, sym, ◌∙◌, arith}
use Rattle.jl_numbered.specs.ForProofs.Placed.{placed}
use Rattle.std.proofs.lemmas.Option.{slice_get-get_or}
use Rattle.jl_numbered.proofs.PlacedLaws.{counted, no_more, slots_stay}
use Rattle.jl_numbered.proofs.numbered.write.Goals as goal

pub overflow_sub-count : goal.overflow_sub-count
overflow_sub-count g c =
    let items = c.args.slots.now.items in
    let stood : slice_get items c.args.place ≡ Some c.replace-old.result =
    slice_get-get_or items c.args.place c.index_mut.result.now c.requires.within
    ∙ ap Some (sym c.index_mut.ensures.value ∙ sym c.replace-old.ensures.value) in
    let gone = counted 0 c.args.place None c.replace-old.result items stood in
    omega (arith, gone, c.requires.count, c.one.ensures)

pub overflow_add-count : goal.overflow_add-count
overflow_add-count g c =
    let items = c.args.slots.now.items in
    let stood : slice_get items c.args.place ≡ Some c.replace-old.result =
    slice_get-get_or items c.args.place c.index_mut.result.now c.requires.within
    ∙ ap Some (sym c.index_mut.ensures.value ∙ sym c.replace-old.ensures.value) in
    let now = counted 0 c.args.place c.args.value c.replace-old.result items stood in
    let few = no_more 0 (slice_set items c.args.place c.args.value) in
    let same = slots_stay c.args.place c.args.value items in
    omega (arith, now, few, same, c.requires.count, c.one.ensures, c.one-more.ensures, c.room_of-room.ensures, c.room_of-room.type_inv)

pub returns-clause-stood : goal.returns-clause-stood
returns-clause-stood g c =
    slice_get-get_or c.args.slots.now.items c.args.place c.index_mut.result.now c.requires.within
    ∙ ap Some (sym c.index_mut.ensures.value ∙ sym c.replace-old.ensures.value)

pub returns-clause-count : goal.returns-clause-count
returns-clause-count g c =
    let items = c.args.slots.now.items in
    let stood : slice_get items c.args.place ≡ Some c.replace-old.result =
    slice_get-get_or items c.args.place c.index_mut.result.now c.requires.within
    ∙ ap Some (sym c.index_mut.ensures.value ∙ sym c.replace-old.ensures.value) in
    let now = counted 0 c.args.place c.args.value c.replace-old.result items stood in
    let gone = counted 0 c.args.place None c.replace-old.result items stood in
    let given = ap (λ x. length (placed 0 (slice_set items c.args.place x))) c.replace-old.ensures.after in
    omega (arith, now, gone, given, c.requires.count, c.one.ensures, c.one-more.ensures)
