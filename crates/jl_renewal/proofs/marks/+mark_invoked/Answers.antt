use Rattle.std.specs.Prelude.{◌≡◌, true, slice_set}
use Rattle.std.proofs.Common.{rules, sym, subst, ◌∙◌}
use Rattle.jl_types.specs.Values.Target.{Target, Method, Guard, Invoker}
use Rattle.jl_renewal.specs.Staying.{invokes}
use Rattle.jl_renewal.specs.Marks.{marked}
use Rattle.jl_renewal.proofs.MarkLaws.{marked_one, marked_both, marked_none}
use Rattle.jl_renewal.proofs.marks.+mark_invoked.Goals as goal

pub returns-in-Method : goal.returns-in-Method
returns-in-Method t c =
    let is : Method c.in-Method.field-0 ≡ c.args.target.now = search rules in
    subst (λ (u : Target). c.args.flags.now ≡ marked (λ k. invokes k u) c.args.flags.now) is (sym (marked_none c.args.flags.now))

pub returns-in-Guard : goal.returns-in-Guard
returns-in-Guard t c =
    let first = c.in-Guard.first.value in
    let fallback = c.in-Guard.fallback.value in
    let is : Guard c.in-Guard.field-0 first fallback ≡ c.args.target.now = search rules in
    let one : c.mark_invoked.new.flags ≡ marked (λ k. invokes k first) c.args.flags.now = search rules in
    let other : c.mark_invoked-in-Guard.new.flags ≡ marked (λ k. invokes k fallback) c.mark_invoked.new.flags = search rules in
    subst (λ (u : Target). c.mark_invoked-in-Guard.new.flags ≡ marked (λ k. invokes k u) c.args.flags.now) is
    (marked_both (λ k. invokes k first) (λ k. invokes k fallback) _ _ _ one other)

pub returns-in-Invoker : goal.returns-in-Invoker
returns-in-Invoker t c =
    let is : Invoker c.in-Invoker.site ≡ c.args.target.now = search rules in
    let one : c.set_flag.new.flags ≡ slice_set c.args.flags.now c.in-Invoker.site true = search rules in
    subst (λ (u : Target). c.set_flag.new.flags ≡ marked (λ k. invokes k u) c.args.flags.now) is
    (one ∙ marked_one c.in-Invoker.site c.args.flags.now)
