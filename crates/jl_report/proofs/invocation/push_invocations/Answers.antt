use Rattle.std.proofs.Common.{◌∙◌, sym, ap, arith, List, [], ◌∷◌, ◌++◌, ◌+◌, map, drop}
use Rattle.std.proofs.lemmas.Option.{slice_get_within}
use Rattle.jl_report.specs.declared.invocation.Invocation.{Invocation}
use Rattle.jl_report.specs.Reports.{invocation_of}
use Rattle.jl_report.proofs.InvocationLaws.{item_added, all_items}
use Rattle.jl_report.proofs.invocation.push_invocations.Goals as goal

pub loop-site-preserved : goal.loop-site-preserved
loop-site-preserved c =
    let f = invocation_of c.args.class c.args.method in
    let rest = map f (drop (c.loop-site.place + 1) c.args.sites.now) in
    let with_one : Invocation → List Invocation = λ one. c.loop-site.all.items ++ one ∷ [] in
    ap (λ (xs : List Invocation). xs ++ rest) (◌∙◌ {A = List Invocation} c.in_ok-push.ensures.items (ap with_one c.invocation_of.ensures))
    ∙ item_added f c.loop-site.all.items c.args.sites.now c.loop-site.place c.in-Some.site (sym c.in-Some.ensures)
    ∙ c.loop-site.invariant

pub loop-site-smaller : goal.loop-site-smaller
loop-site-smaller c = let lt = slice_get_within c.args.sites.now c.loop-site.place c.in-Some.site (sym c.in-Some.ensures) in omega (arith, lt)

pub returns : goal.returns
returns c =
    let f = invocation_of c.args.class c.args.method in
    sym (all_items f c.loop-site.all.items c.args.sites.now c.loop-site.place (sym c.in_default.ensures)) ∙ c.loop-site.invariant
