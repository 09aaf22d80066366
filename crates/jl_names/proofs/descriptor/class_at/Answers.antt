use Rattle.std.proofs.Common.{arith, true, sym, ap, ◌∙◌, Err, List, ℕ, length}
use Rattle.std.proofs.lemmas.List.{take_rest, drop_all}
use Rattle.jl_names.specs.ForProofs.Descriptors.{class_at}
use Rattle.jl_names.proofs.ClassNameLaws.{class_goes, class_stuck, class_found, class_ends}
use Rattle.jl_names.proofs.descriptor.class_at.Goals as goal

pub loop-i-preserved : goal.loop-i-preserved
loop-i-preserved c = class_goes c.args.text.now c.loop-i.i c.loop-i.fresh
    (class_at true c.args.text.now) c.loop-i.invariant (omega arith) (sym c.is_stop.ensures ∙ c.if-is_stop.false)

pub returns-then-is_end : goal.returns-then-is_end
returns-then-is_end c = rw take_rest
    (class_found c.args.text.now c.loop-i.i c.loop-i.fresh (class_at true c.args.text.now) c.loop-i.invariant
    (omega arith) (sym c.is_stop.ensures ∙ c.if-is_stop.true) (sym c.is_end.ensures ∙ c.if-is_end.true))

pub returns-else-is_end : goal.returns-else-is_end
returns-else-is_end c = rw take_rest
    (class_stuck c.args.text.now c.loop-i.i c.loop-i.fresh (class_at true c.args.text.now) c.loop-i.invariant
    (omega arith) (sym c.is_stop.ensures ∙ c.if-is_stop.true) (sym c.is_end.ensures ∙ c.if-is_end.false))

pub returns : goal.returns
returns c =
    let t = c.args.text.now in
    class_ends t c.loop-i.i c.loop-i.fresh (class_at true t) c.loop-i.invariant (omega arith)
    ∙ ap (λ (left : List ℕ). Err left) (sym (take_rest t (length t) ∙ drop_all (length t) t (omega arith)))
