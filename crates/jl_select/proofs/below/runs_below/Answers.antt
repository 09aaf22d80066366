use Rattle.std.specs.Prelude.{◌≡◌, false}
use Rattle.std.proofs.Common.{sym, ◌∙◌, rules}
use Rattle.jl_select.proofs.SameBelow.{same_below}
use Rattle.jl_select.proofs.below.runs_below.Goals as goal

pub returns : goal.returns
returns c told =
    let cs = c.args.classes.now in
    let m = c.in-Some.method in
    let hidden : c.is_redeclared_below.result ≡ false = search rules in
    let may = c.may_run.ensures c.if-not-may_run.false in
    let name : c.of-sought.result.name ≡ m.name = c.of-sought.ensures.name ∙ c.as_slice.ensures ∙ c.name-name.ensures in
    let ty : c.of-sought.result.ty ≡ m.ty = c.of-sought.ensures.ty ∙ c.as_slice-2.ensures ∙ c.ty-ty.ensures in
    same_below cs may.ordered c.args.resolved.now m c.args.named c.of-sought.result.name c.of-sought.result.ty name ty (sym c.in-Some.ensures)
    (c.is_first.ensures c.if-not-is_first.false) may (c.is_redeclared_below.ensures hidden)
