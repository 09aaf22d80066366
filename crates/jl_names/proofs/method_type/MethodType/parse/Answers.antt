use Rattle.std.proofs.Common.{sym, ◌∙◌, refl}
use Rattle.std.specs.List.{sum_by}
use Rattle.jl_names.specs.MethodTypes.{slots_of}
use Rattle.jl_names.proofs.MethodLaws.{method_trailing, too_many}
use Rattle.jl_names.proofs.method_type.MethodType.parse.Goals as goal

pub returns-then-not-is_empty-clause-fault : goal.returns-then-not-is_empty-clause-fault
returns-then-not-is_empty-clause-fault c =
    method_trailing c.args.text.now c.in-Ok.found.2.now
    (record { parameters = c.in-Ok.found.0.items; returns = c.in-Ok.found.1 }) c.in-Ok.ensures.ok
    (sym c.is_empty.ensures ∙ c.if-not-is_empty.true)

pub returns-in_default-clause-fault : goal.returns-in_default-clause-fault
returns-in_default-clause-fault c =
    too_many c.args.text.now c.in-Ok.found.2.now
    (record { parameters = c.in-Ok.found.0.items; returns = c.in-Ok.found.1 })
    (sum_by slots_of c.in-Ok.found.0.items) c.in-Ok.ensures.ok
    (sym c.is_empty.ensures ∙ c.if-not-is_empty.false)
    (let over = c.in_default.ensures.none in rw (← c.deref.ensures.value) over) refl
