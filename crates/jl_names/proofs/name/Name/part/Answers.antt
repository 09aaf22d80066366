use Rattle.std.proofs.Common.{◌≡◌, ◌∙◌, sym, ap, ◌+◌, length, take, drop, ℕ, Vec, arith}
use Rattle.std.specs.declared.alloc.Global.{Global}
use Rattle.jl_names.proofs.Parts.{length_of_part, part_of_part}
use Rattle.jl_names.proofs.name.Name.part.Goals as goal

pub returns : goal.returns
returns c =
    let long : length c.args.self.now ≡ c.self.inside.len =
    ap length (sym c.self.view_is) ∙ length_of_part c.self.inside.block.value.items c.self.inside.start c.self.inside.len c.self.invariant in
    ap (λ (b : Vec ℕ Global). take c.args.len (drop (c.self.inside.start + c.args.at) b.items)) c.in_ok-try_clone.ensures
    ∙ (part_of_part c.self.inside.block.value.items c.self.inside.start c.self.inside.len c.args.at c.args.len (omega (arith, c.requires, long))
    ∙ ap (λ s. take c.args.len (drop c.args.at s)) c.self.view_is)
