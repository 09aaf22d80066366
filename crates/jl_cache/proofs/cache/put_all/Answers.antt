use Rattle.std.specs.Prelude.{◌≡◌, ◌==◌, ◌<◌, ℕ, length, List, Some, if◌then◌else◌}
use Rattle.std.proofs.Common.{sym, ap, subst, ◌∙◌, arith, map-id}
use Rattle.std.proofs.lemmas.List.Elements.{All-from_recursion}
use Rattle.std.proofs.lemmas.Iterator.Adapters.{YieldsList-from_vec}
use Rattle.std.proofs.lemmas.Iterator.Consumers.{YieldsList-turn, YieldsList-end}
use Rattle.jl_types.specs.declared.link.Link.{Link}
use Rattle.jl_cache.specs.Links.{link_at, link_with}
use Rattle.jl_cache.proofs.LinkLaws.{link_more}
use Rattle.jl_cache.proofs.cache.put_all.Goals as goal

pub put_reserved-requires : goal.put_reserved-requires
put_reserved-requires c =
    let made = c.into_iter-row-iterator.ensures.into_iter_gives in
    let long : c.into_iter-row-iterator.result.rest.len ≡ length c.args.rows.items = omega (arith, made.1, c.args.rows.ok) in
    let turn =
    YieldsList-turn (YieldsList-from_vec {s = c.into_iter-row-iterator.result} c.args.rows.items made.0 long) c.loop-row.yielded c.loop-row.row-iterator
    c.loop-row.yielded_by c.next.result c.next.new.self c.in-Some.row c.in-Some.is
    c.next.ensures.steps in
    let low = subst (λ (row : ℕ × Link). row.0 < c.args.links.now.room) (sym turn.1)
    (All-from_recursion (λ (row : ℕ × Link). row.0 < c.args.links.now.room) c.args.rows.items c.requires (length c.loop-row.yielded) c.in-Some.row turn.0) in
    let room = c.loop-row.invariant.room in
    let place = c.place_of.ensures.place in
    omega (arith, low, room, place)

pub loop-row-preserved : goal.loop-row-preserved
loop-row-preserved c =
    let row = c.in-Some.row in
    record {
      room = c.put_reserved.ensures.room ∙ c.loop-row.invariant.room;
      links = λ s.
          c.put_reserved.ensures.entries s
          ∙ (λ i. if c.place_of.ensures.place i == s then Some row.1 else c.loop-row.invariant.links s i)
          ∙ sym (link_more c.loop-row.yielded row (link_at c.args.links.now.entries s) s);
    }

pub returns : goal.returns
returns c = λ s.
    let made = c.into_iter-row-iterator.ensures.into_iter_gives in
    let long : c.into_iter-row-iterator.result.rest.len ≡ length c.args.rows.items = omega (arith, made.1, c.args.rows.ok) in
    let end =
    YieldsList-end (YieldsList-from_vec {s = c.into_iter-row-iterator.result} c.args.rows.items made.0 long) c.loop-row.yielded c.loop-row.row-iterator
    c.loop-row.yielded_by c.next.result c.next.new.self c.in-None.is
    c.next.ensures.steps in
    c.loop-row.invariant.links s
    ∙ ap (λ (rows : List (ℕ × Link)). link_with rows (link_at c.args.links.now.entries s) s) (sym (map-id c.loop-row.yielded) ∙ end.0)
