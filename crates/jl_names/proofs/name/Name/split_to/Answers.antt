use Rattle.std.proofs.Common.{◌≡◌, ◌∙◌, sym, ap, length, drop, arith}
use Rattle.jl_names.proofs.Parts.{length_of_part, rest_of_part}
use Rattle.jl_names.proofs.name.Name.split_to.Goals as goal

pub returns-clause-rest : goal.returns-clause-rest
returns-clause-rest c =
    let long : length c.args.self.now ≡ c.self.inside.len =
    ap length (sym c.self.view_is) ∙ length_of_part c.self.inside.block.value.items c.self.inside.start c.self.inside.len c.self.invariant in
    rest_of_part c.self.inside.block.value.items c.self.inside.start c.self.inside.len c.args.count (omega (arith, c.requires, long))
    ∙ ap (drop c.args.count) c.self.view_is
