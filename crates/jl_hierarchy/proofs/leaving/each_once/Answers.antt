use Rattle.std.proofs.Common.{ap, ◌∙◌}
use Rattle.std.specs.Prelude.{[]}
use Rattle.jl_hierarchy.proofs.GoneLaws.{with_one, gone_more, inserted}
use Rattle.jl_hierarchy.proofs.leaving.each_once.Goals as goal

pub loop-loader-preserved : goal.loop-loader-preserved
loop-loader-preserved c =
    c.in_ok-insert.ensures.keys
    ∙ inserted c.loop-loader.loaders.keys c.loader-item.result
    ∙ ap (λ ks. with_one ks c.loader-item.result) c.loop-loader.invariant
    ∙ gone_more [] c.args.listed.now c.loop-loader.loader-index c.loader-item.result c.loop-loader-test.true c.loader-item.is
