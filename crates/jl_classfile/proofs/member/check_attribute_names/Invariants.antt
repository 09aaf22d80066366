use Rattle.std.proofs.Common.{length}
use Rattle.std.specs.List.{AllByRecursion, Contains}
use Rattle.jl_classfile.specs.declared.body.Attribute.{Attribute}
use Rattle.jl_classfile.specs.Conditions.{IsTextNumber}
use Rattle.jl_classfile.proofs.member.check_attribute_names.Given as goal

abbrev pub invariant-loop-attribute : goal.invariant-loop-attribute
invariant-loop-attribute l = record {
  all : AllByRecursion (λ a. IsTextNumber l.pool a.name) l.rest → AllByRecursion (λ a. IsTextNumber l.pool a.name) l.attributes;
  each : (a : Attribute) → Contains l.rest a → Contains l.attributes a;
}

abbrev pub decreases-loop-attribute : goal.decreases-loop-attribute
decreases-loop-attribute l = length l.rest
