use Rattle.std.proofs.Common.{arith}
use Rattle.std.proofs.lemmas.Fn.{says_at}
use Rattle.std.proofs.lemmas.List.{take_more}
use Rattle.std.proofs.lemmas.Result.{err_from_is_err_and}
use Rattle.std.proofs.lemmas.Slice.Zip.{all_zipped_more}
use Rattle.jl_types.proofs.Lists.{rest_at}
use Rattle.jl_relink.proofs.items.fill.Goals as goal

pub returns-in_err-one-clause-first : goal.returns-in_err-one-clause-first
returns-in_err-one-clause-first g c =
    let items = c.args.items.now in
    let item = c.item-item.result in
    let p = err_from_is_err_and c.from_residual.result c.from_residual.ensures.1 in
    rw (p.1, p.2) record {
      count = c.loop-item.item-index;
      made = c.loop-item.made.items;
      fine = c.loop-item.invariant.made;
      item = item;
      next = rest_at items c.loop-item.item-index item c.loop-item-test.true c.item-item.is;
      fails = says_at g.F.Fn c.make.ensures c.in_err-one.was;
    }

pub loop-item-preserved : goal.loop-item-preserved
loop-item-preserved g c =
    let items = c.args.items.now in
    let item = c.item-item.result in
    let len = c.push_reserved.ensures.len in
    let capacity = c.push_reserved.ensures.capacity in
    let room = c.loop-item.invariant.room in
    record {
      made =
          rw (c.push_reserved.ensures.items, take_more items c.loop-item.item-index item c.loop-item-test.true, ← c.item-item.is)
          (all_zipped_more _ _ _ item c.in_ok-one.one c.loop-item.invariant.made (says_at g.F.Fn c.make.ensures c.in_ok-one.was));
      room = omega arith;
    }
