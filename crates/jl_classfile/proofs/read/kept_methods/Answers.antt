use Rattle.jl_classfile.proofs.ShownLaws.{as_many_kept}
use Rattle.jl_classfile.proofs.read.kept_methods.Goals as goal

pub invariant_of-result : goal.invariant_of-result
invariant_of-result c =
    let many = as_many_kept c.args.pool c.args.members.now c.in_ok-methods.sites.items c.in_ok-methods.methods c.in_ok-methods.ensures.ok in (
      rw many c.requires.few,
      c.in_ok-methods.ensures.ok.kept,
    )
