use Rattle.std.specs.Prelude.{◌≡◌, ◌==◌, ◌||◌, true, slice_set}
use Rattle.std.proofs.Common.{rules, sym, subst, ◌∙◌}
use Rattle.jl_types.specs.Values.Target.{Target, Method, Guard, Invoker}
use Rattle.jl_renewal.specs.Staying.{guards_by}
use Rattle.jl_renewal.specs.Marks.{marked}
use Rattle.jl_renewal.proofs.MarkLaws.{marked_one, marked_both, marked_none}
use Rattle.jl_renewal.proofs.marks.+mark_guards.Goals as goal

pub returns-in-Method : goal.returns-in-Method
returns-in-Method t c =
    let is : Method c.in-Method.field-0 ≡ c.args.target.now = search rules in
    subst (λ (u : Target). c.args.flags.now ≡ marked (λ p. guards_by p u) c.args.flags.now) is (sym (marked_none c.args.flags.now))

pub returns-in-Guard : goal.returns-in-Guard
returns-in-Guard t c =
    let point = c.in-Guard.point in
    let first = c.in-Guard.first.value in
    let fallback = c.in-Guard.fallback.value in
    let is : Guard point first fallback ≡ c.args.target.now = search rules in
    let own : c.set_flag.new.flags ≡ slice_set c.args.flags.now point true = search rules in
    let one : c.mark_guards.new.flags ≡ marked (λ p. guards_by p first) c.set_flag.new.flags = search rules in
    let other : c.mark_guards-in-Guard.new.flags ≡ marked (λ p. guards_by p fallback) c.mark_guards.new.flags = search rules in
    subst (λ (u : Target). c.mark_guards-in-Guard.new.flags ≡ marked (λ p. guards_by p u) c.args.flags.now) is
    (marked_both (λ p. point == p) (λ p. guards_by p first || guards_by p fallback) _ _ _ (own ∙ marked_one point c.args.flags.now)
    (marked_both (λ p. guards_by p first) (λ p. guards_by p fallback) _ _ _ one other))

pub returns-in-Invoker : goal.returns-in-Invoker
returns-in-Invoker t c =
    let is : Invoker c.in-Invoker.field-0 ≡ c.args.target.now = search rules in
    subst (λ (u : Target). c.args.flags.now ≡ marked (λ p. guards_by p u) c.args.flags.now) is (sym (marked_none c.args.flags.now))
