use Rattle.std.proofs.Common.{◌∙◌, sym}
use Rattle.std.proofs.lemmas.List.Elements.{AllWithin-more}
use Rattle.jl_classfile.specs.ForProofs.Members.{MethodTested}
use Rattle.jl_classfile.proofs.TwinLaws.{past}
use Rattle.jl_classfile.proofs.MemberLaws.{whichever}
use Rattle.jl_classfile.proofs.member.check_methods.Goals as goal

pub loop-i-preserved : goal.loop-i-preserved
loop-i-preserved c =
    let method = rw c.index-methods-i.is at c.in_ok-check_method.ensures.ok.0 in
    record {
      tested = AllWithin-more (MethodTested c.args.pool.now c.args.interface) c.args.methods.now 0 c.loop-i.i c.loop-i.invariant.tested
          (λ d. whichever (MethodTested c.args.pool.now c.args.interface) c.args.methods.now c.loop-i.i c.index-methods-i.result d c.loop-i-test.true method);
      no_twin = past c.args.twin c.loop-i.i c.loop-i.invariant.no_twin (sym c.is_at-is_twin.ensures ∙ c.in_ok-check_method.ensures.ok.1);
    }
