use Rattle.std.proofs.Common.{◌≡◌, ◌∙◌, sym, subst, None, rules, arith}
use Rattle.std.specs.Prelude.{IfOk}
use Rattle.serde_json.specs.View.{view}
use Rattle.jl_json.proofs.TargetLaws.{counted, counted_as, no_count, less_deep}
use Rattle.jl_json.proofs.target.+target.Goals.{target_in-in_default-via-in-Some+in_default, target_in-in_default-via-in_default}
use Rattle.jl_json.proofs.target.+target.Goals as goal

pub target_at-target_in-requires : goal.target_at-target_in-requires
target_at-target_in-requires t c = (
  omega (arith, c.requires.1, less_deep c.args.key.now (view c.args.value.now) (view c.in-Some.part.now) c.in-Some.ensures),
  tt,
)

pub target_in-returns-in-Some-eq1 : goal.target_in-returns-in-Some-eq1
target_in-returns-in-Some-eq1 t c =
    search (rules, counted_as (view c.args.value.now) c.in-Some-eq1.field-0 1 c.in-Some-eq1.field-0-test c.in-Some-eq1.ensures)

pub target_in-returns-in-Some-eq3 : goal.target_in-returns-in-Some-eq3
target_in-returns-in-Some-eq3 t c =
    subst (λ o. IfOk c.guard_in.result (λ target. target ≡ o))
    (counted_as (view c.args.value.now) c.in-Some-eq3.field-0 3 c.in-Some-eq3.field-0-test c.in-Some-eq3.ensures)
    c.guard_in.ensures

pub target_in-returns-in_default : goal.target_in-returns-in_default
target_in-returns-in_default t c = elim c.in_default.branch [
  | target_in-in_default-via-in-Some+in_default w ↦
      let other = w.in_default.field-0-test in
      sym (no_count (view c.args.value.now) _ other.0.1 other.1)
      ∙ counted (view c.args.value.now) _ w.in_default.ensures
  | target_in-in_default-via-in_default w ↦
      counted (view c.args.value.now) None (sym w.in_default.is ∙ c.member_count.ensures)
]
