use Rattle.std.proofs.Common.{refl, subst, List, ℕ, arith}
use Rattle.std.specs.Prelude.{All}
use Rattle.jl_classfile.specs.Conditions.{IsClassNumber}
use Rattle.jl_classfile.proofs.NestLaws.{are_members, more_than_members, no_classes, cut_members}
use Rattle.jl_classfile.proofs.ReadLaws.{no_more, has_more}
use Rattle.jl_classfile.proofs.nest.members_in.Goals as goal

pub returns-in-Err-Cut-clause-fault : goal.returns-in-Err-Cut-clause-fault
returns-in-Err-Cut-clause-fault c = λ other. (refl, cut_members c.args.pool.now c.args.info.now (rw c.in-Err-Cut.field-0-is at c.in-Err-Cut.ensures))

pub returns-then-not-is_empty-clause-fault : goal.returns-then-not-is_empty-clause-fault
returns-then-not-is_empty-clause-fault c =
    λ other. (
      refl,
      more_than_members c.args.pool.now c.args.info.now c.in-Ok.read.0 c.in-Ok.read.1.now c.in-Ok.ensures
          (has_more c.in-Ok.read.1.now c.if-not-is_empty.ensures),
    )

pub returns-then-not-are_classes-clause-fault : goal.returns-then-not-are_classes-clause-fault
returns-then-not-are_classes-clause-fault c =
    λ other. (
      refl,
      no_classes c.args.pool.now c.args.info.now c.in-Ok.read.0 c.in-Ok.read.1.now c.in-Ok.ensures
          (subst (λ (l : List ℕ). ¬ All (IsClassNumber c.args.pool.now) l) c.as_slice.ensures c.if-not-are_classes.ensures),
    )

pub returns-clause-ok : goal.returns-clause-ok
returns-clause-ok c =
    are_members c.args.pool.now c.args.info.now c.in-Ok.read.0 c.in-Ok.read.1.now (λ i. omega (arith, c.type_inv.info i)) c.in-Ok.ensures
    (no_more c.in-Ok.read.1.now c.if-not-is_empty.ensures)
    (subst (λ (l : List ℕ). All (IsClassNumber c.args.pool.now) l) c.as_slice.ensures c.if-not-are_classes.ensures)
