use Rattle.std.proofs.Common.{sym, ◌∙◌, ap, ℕ, List, ◌++◌, ◌∷◌, [], drop, ◌+◌}
use Rattle.jl_hierarchy.specs.declared.row.Printed.{Printed}
use Rattle.jl_hierarchy.specs.Prints.{printed_from}
use Rattle.jl_hierarchy.proofs.PrintLaws.{print_added, all_printed}
use Rattle.jl_hierarchy.proofs.row.prints_of.Goals as goal

pub loop-method-preserved : goal.loop-method-preserved
loop-method-preserved c =
    let with_print : ℕ → List Printed = λ p. c.loop-method.prints.items ++ record { print = p; place = c.loop-method.place } ∷ [] in
    let rest = printed_from (c.loop-method.place + 1) (drop (c.loop-method.place + 1) c.args.methods.now) in
    ap (λ (xs : List Printed). xs ++ rest) (◌∙◌ {A = List Printed} c.in_ok-push.ensures.items (ap with_print c.print_of_method.ensures))
    ∙ sym (print_added c.loop-method.prints.items c.args.methods.now c.loop-method.place c.in-Some.method (sym c.in-Some.ensures))
    ∙ c.loop-method.invariant

pub returns : goal.returns
returns c =
    sym (all_printed c.loop-method.prints.items c.args.methods.now c.loop-method.place (sym c.in_default.ensures)) ∙ c.loop-method.invariant
