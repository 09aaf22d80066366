use Rattle.std.specs.Prelude.{◌≡◌, ◌^◌, ◌<◌, ◌+◌, List, length}
use Rattle.std.proofs.Common.{rules, arith, subst}
use Rattle.jl_class.specs.declared.site.Operand.TheVariants as operand
use Rattle.jl_types.specs.declared.key.Key.{Key}
use Rattle.jl_types.specs.Values.World.{World}
use Rattle.jl_types.specs.Events.Footprints.{most_by, of_operand}
use Rattle.jl_relink.specs.Placed.{asking}
use Rattle.jl_relink.proofs.CountLaws.{few_ticks}
use Rattle.jl_relink.proofs.scratch.link_at.Goals as goal

pub reference_link-requires : goal.reference_link-requires
reference_link-requires c =
    let w : World = asking c.args.classes.now c.args.place.now in
    let rows : length c.args.classes.now.rows < 2 ^ 64 = search rules in
    let few = few_ticks w 0 (2 ^ 64) rows (omega arith) in
    let found = c.in-Ok.found in
    let some = subst (λ (ks : List Key). most_by c.args.classes.now ks < 2 ^ 64) c.in-Ok.ensures.rests_on few in
    let is : found.invocation.operand ≡ operand.Method c.in-Method.reference = search rules in
    let none = c.new-work.ensures in
    let same : found.invocation.kind ≡ c.kind.result = search rules in
    let fits =
    subst (λ o. c.new-work.result + most_by c.args.classes.now (of_operand w 0 found.caller found.invocation.kind o) < 2 ^ 64) is (omega arith) in
    record {
      fits =
          subst (λ k. c.new-work.result + most_by c.args.classes.now (of_operand w 0 found.caller k (operand.Method c.in-Method.reference)) < 2 ^ 64)
          same fits;
    }
