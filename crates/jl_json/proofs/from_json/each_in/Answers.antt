use Rattle.std.proofs.Common.{◌∙◌, sym, arith}
use Rattle.jl_json.proofs.CommandLaws.{each_more, each_stop}
use Rattle.jl_json.proofs.from_json.each_in.Goals as goal

pub returns-in-None : goal.returns-in-None
returns-in-None g c =
    sym (each_stop g.T.FromJson.read c.args.items.now c.loop-item.item-index c.item-item.result (omega arith)
    c.item-item.is (sym (c.in_ok-one.ensures) ∙ c.in-None.is))

pub loop-item-preserved : goal.loop-item-preserved
loop-item-preserved g c =
    rw (c.in_ok-push-in-Some.ensures.items)
    (each_more g.T.FromJson.read c.args.items.now c.loop-item.item-index c.item-item.result
    c.loop-item.list.items c.in-Some.one (omega arith) c.item-item.is c.loop-item.invariant
    (sym (c.in_ok-one.ensures) ∙ c.in-Some.is))
