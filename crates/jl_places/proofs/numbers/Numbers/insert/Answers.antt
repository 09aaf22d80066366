use Rattle.std.specs.Prelude.{IsSome, [], Option, Some, if◌then◌else◌}
use Rattle.std.specs.Option.{unwrap_or}
use Rattle.std.proofs.Common.{refl, ap, sym, subst, ◌∙◌}
use Rattle.std.proofs.lemmas.Map.Steps.{set_value_same}
use Rattle.std.proofs.lemmas.Result.{on_ok_weaker, on_err_weaker}
use Rattle.jl_types.specs.Events.Verdict.{same_place}
use Rattle.jl_places.specs.ForProofs.Parts.{OfClass, ByClass, of_class, number_in}
use Rattle.jl_places.proofs.PartLaws.{place_more}
use Rattle.jl_places.proofs.numbers.Numbers.insert.Goals as goal

pub returns-in-Some-clause-ok : goal.returns-in-Some-clause-ok
returns-in-Some-clause-ok c =
    let written = c.get_mut.follows.holds c.insert.new.self in
    let new = (c.get_mut.follows.lender c.insert.new.self).entries in
    on_ok_weaker c.insert.result
    (λ within q.
    place_more c.self.inside.classes.entries new c.args.place.now c.args.number c.of.result c.in-Some.numbers.now c.insert.new.self c.of.ensures
    (ap (λ (o : Option OfClass). unwrap_or o []) c.in-Some.ensures.value) within
    (written.3 (subst IsSome c.in-Some.ensures.value refl)).0 q
    ∙ ap (λ (part : ByClass). if same_place c.args.place.now q then Some c.args.number else number_in part q) c.self.view_is)
    c.insert.ensures.ok

pub returns-in-Some-clause-err : goal.returns-in-Some-clause-err
returns-in-Some-clause-err c =
    on_err_weaker c.insert.result
    (λ same.
    (c.get_mut.follows.holds c.insert.new.self).0
    ∙ set_value_same _ c.self.inside.classes.entries c.insert.new.self (sym c.in-Some.ensures.value ∙ ap Some (sym same)) ∙ c.self.view_is)
    c.insert.ensures.err

pub returns-in_ok-insert-in-None-clause-ok : goal.returns-in_ok-insert-in-None-clause-ok
returns-in_ok-insert-in-None-clause-ok c q =
    let kept = c.get_mut.follows.holds-at-none in
    let old = (c.get_mut.follows.lender-at-none).entries in
    place_more old c.insert-in-None.new.self.entries c.args.place.now c.args.number c.of-in-None.result [] c.in_ok-numbers-in-None.numbers
    c.of-in-None.ensures
    (ap (λ (o : Option OfClass). unwrap_or o []) c.in-None.ensures.value ∙ λ i. of_class (sym kept i).entries c.args.place.now.class)
    c.in_ok-numbers-in-None.ensures c.in_ok-insert-in-None.ensures.updates.0 q
    ∙ ap (λ (part : ByClass). if same_place c.args.place.now q then Some c.args.number else number_in part q)
    ((λ i. (kept i).entries) ∙ c.self.view_is)
