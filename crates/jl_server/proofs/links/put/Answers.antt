use Rattle.std.proofs.Common.{◌∙◌, arith}
use Rattle.jl_server.proofs.SlotLaws.{read_place, read_none, has_room, put_again, is_put_again, put_first, is_put_first}
use Rattle.jl_server.proofs.links.put.Goals as goal

pub index_mut-requires : goal.index_mut-requires
index_mut-requires c =
    let placed = read_place c.args.places.now.items _ c.args.site _ _ c.as_slice.ensures.value c.place_of.ensures c.in-Some.is in
    let few = c.requires.placed.within c.args.site c.in-Some.place placed in
    omega (arith, few, c.args.tables.now.ok.0)

pub overflow_cast-place-in-None : goal.overflow_cast-place-in-None
overflow_cast-place-in-None c =
    let none = read_none c.args.places.now.items _ c.args.site _ c.as_slice.ensures.value c.place_of.ensures c.in-None.is in
    let few = has_room c.args.places.now.items c.args.tables.now.items c.args.site c.requires.placed c.requires.there none in
    omega (arith, few, c.args.tables.now.ok.0, c.requires.placed.few)

pub push_reserved-requires : goal.push_reserved-requires
push_reserved-requires c =
    let none = read_none c.args.places.now.items _ c.args.site _ c.as_slice.ensures.value c.place_of.ensures c.in-None.is in
    let few = has_room c.args.places.now.items c.args.tables.now.items c.args.site c.requires.placed c.requires.there none in
    omega (arith, few, c.args.tables.now.ok.0, c.requires.room)

pub overflow_add-place : goal.overflow_add-place
overflow_add-place c =
    let none = read_none c.args.places.now.items _ c.args.site _ c.as_slice.ensures.value c.place_of.ensures c.in-None.is in
    let few = has_room c.args.places.now.items c.args.tables.now.items c.args.site c.requires.placed c.requires.there none in
    omega (arith, few, c.args.tables.now.ok.0, c.requires.placed.few)

pub returns-in-Some-clause-placed : goal.returns-in-Some-clause-placed
returns-in-Some-clause-placed c =
    put_again c.args.places.now.items c.args.tables.now.items c.args.site c.in-Some.place c.args.table.now c.requires.placed
    (read_place _ _ _ _ _ c.as_slice.ensures.value c.place_of.ensures c.in-Some.is)

pub returns-in-Some-clause-put : goal.returns-in-Some-clause-put
returns-in-Some-clause-put c =
    is_put_again c.args.places.now.items c.args.tables.now.items c.args.site c.in-Some.place c.args.table.now c.requires.placed
    (read_place _ _ _ _ _ c.as_slice.ensures.value c.place_of.ensures c.in-Some.is)

pub returns-in-None-clause-placed : goal.returns-in-None-clause-placed
returns-in-None-clause-placed c =
    put_first c.args.places.now.items c.args.tables.now.items c.args.site c.args.table.now c.requires.placed c.requires.there
    (read_none _ _ _ _ c.as_slice.ensures.value c.place_of.ensures c.in-None.is) _ _ (c.len-place.ensures ∙ c.args.tables.now.ok.0)
    c.push_reserved.ensures.items

pub returns-in-None-clause-put : goal.returns-in-None-clause-put
returns-in-None-clause-put c =
    is_put_first c.args.places.now.items c.args.tables.now.items c.args.site c.args.table.now c.requires.placed c.requires.there
    (read_none _ _ _ _ c.as_slice.ensures.value c.place_of.ensures c.in-None.is) _ _ (c.len-place.ensures ∙ c.args.tables.now.ok.0)
    c.push_reserved.ensures.items
