use Rattle.std.specs.Prelude.{ℕ, ◌<◌, List, length, All}
use Rattle.std.proofs.Common.{sym, subst, ◌∙◌, Vec, Global}
use Rattle.jl_hierarchy.proofs.define.reserve_all.Goals as goal

pub reserve_each-requires : goal.reserve_each-requires
reserve_each-requires c =
    subst (λ (lists : List (Vec ℕ Global)). All (λ k. k < length lists) c.args.receiving.now)
    (sym (c.as_mut_slice.ensures.value ∙ c.in_ok-reserve-3.ensures.items)) c.requires
