use Rattle.std.specs.Prelude.{◌≡◌, ◌∷◌, [], ◌++◌, length}
use Rattle.std.proofs.Common.{sym, ap, ◌∙◌, arith, map-id}
use Rattle.std.proofs.lemmas.List.{append_assoc, append-nil, length_push}
use Rattle.std.proofs.lemmas.Iterator.Adapters.{YieldsList-from_vec}
use Rattle.std.proofs.lemmas.Iterator.Consumers.{YieldsList-turn, YieldsList-end}
use Rattle.jl_host.proofs.begun.push_all.Goals as goal

pub loop-item-init : goal.loop-item-init
loop-item-init g c = record { items = sym (append-nil c.args.list.now.items); room = let room = c.requires in omega (arith, room) }

pub push_reserved-requires : goal.push_reserved-requires
push_reserved-requires g c =
    let made = c.into_iter-item-iterator.ensures.into_iter_gives in
    let long : c.into_iter-item-iterator.result.rest.len ≡ length c.args.more.items = omega (arith, made.1, c.args.more.ok) in
    let turn =
    YieldsList-turn (YieldsList-from_vec {s = c.into_iter-item-iterator.result} c.args.more.items made.0 long) c.loop-item.yielded c.loop-item.item-iterator
    c.loop-item.yielded_by c.next.result c.next.new.self c.in-Some.item c.in-Some.is
    c.next.ensures.steps in
    let low = turn.0 in
    let room = c.loop-item.invariant.room in
    omega (arith, low, room)

pub loop-item-preserved : goal.loop-item-preserved
loop-item-preserved g c =
    let item = c.in-Some.item in
    let longer = length_push c.loop-item.yielded item in
    let len = c.push_reserved.ensures.len in
    let capacity = c.push_reserved.ensures.capacity in
    let room = c.loop-item.invariant.room in
    record {
      items =
          c.push_reserved.ensures.items
          ∙ ap (λ xs. xs ++ item ∷ []) c.loop-item.invariant.items
          ∙ append_assoc c.args.list.now.items c.loop-item.yielded (item ∷ []);
      room = omega (arith, longer, len, capacity, room);
    }

pub returns : goal.returns
returns g c =
    let made = c.into_iter-item-iterator.ensures.into_iter_gives in
    let long : c.into_iter-item-iterator.result.rest.len ≡ length c.args.more.items = omega (arith, made.1, c.args.more.ok) in
    let end =
    YieldsList-end (YieldsList-from_vec {s = c.into_iter-item-iterator.result} c.args.more.items made.0 long) c.loop-item.yielded c.loop-item.item-iterator
    c.loop-item.yielded_by c.next.result c.next.new.self c.in-None.is
    c.next.ensures.steps in
    c.loop-item.invariant.items ∙ ap (λ xs. c.args.list.now.items ++ xs) (sym (map-id c.loop-item.yielded) ∙ end.0)
