use Rattle.std.proofs.Common.{refl, sym, ltb-true}
use Rattle.std.proofs.lemmas.Option.{slice_get_read}
use Rattle.jl_hierarchy.proofs.PrintLaws.{print_there, print_nowhere}
use Rattle.jl_hierarchy.proofs.row.is_among.Goals as goal

pub returns-in-Some : goal.returns-in-Some
returns-in-Some c =
    let at = c.in-Some.ensures.lookup in
    print_there c.args.print c.args.prints.now c.requires c.first_not_below.result c.first_not_below.ensures.split.0 c.first_not_below.ensures.split.1
    c.in-Some.entry.now (slice_get_read c.args.prints.now _ _ c.in-Some.entry.now refl (ltb-true _ _ (sym at.0)) at.1)

pub returns-in-None : goal.returns-in-None
returns-in-None c =
    print_nowhere c.args.print c.args.prints.now c.requires c.first_not_below.result c.first_not_below.ensures.split.0 c.first_not_below.ensures.split.1
    c.in-None.ensures.lookup.3
