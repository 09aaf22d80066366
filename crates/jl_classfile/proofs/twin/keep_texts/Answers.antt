use Rattle.jl_classfile.proofs.TwinLaws.{keep_more, keep_all}
use Rattle.jl_classfile.proofs.twin.keep_texts.Goals as goal

pub loop-method-preserved : goal.loop-method-preserved
loop-method-preserved c =
    keep_more c.loop-method.texts c.keep_text.new.texts c.keep_text-in-loop-method.new.texts c.args.pool.now c.args.methods.now c.loop-method.method-index
    c.method-item.result c.loop-method-test.true c.method-item.is
    c.loop-method.invariant c.keep_text.ensures.kept c.keep_text.ensures.here c.keep_text-in-loop-method.ensures.kept c.keep_text-in-loop-method.ensures.here

pub returns-clause-kept : goal.returns-clause-kept
returns-clause-kept c = keep_all c.loop-method.texts c.args.pool.now c.args.methods.now c.loop-method.method-index c.loop-method-test.false
    c.loop-method.invariant
