use Rattle.std.proofs.Common.{List, ℕ, length, ap, ◌∙◌}
use Rattle.std.specs.Prelude.{Option}
use Rattle.jl_pool.specs.declared.constant.Constant.{Constant}
use Rattle.jl_pool.specs.declared.kept_constant.KeptConstant.{KeptConstant}
use Rattle.jl_pool.specs.Pools.{constant_at}
use Rattle.jl_pool.specs.ForProofs.Table.{shown, entry_at}
use Rattle.jl_pool.proofs.TableLaws.{within_at, shown_at}
use Rattle.jl_pool.proofs.pool.Pool.constant.Goals as goal

pub constant_in-requires : goal.constant_in-requires
constant_in-requires c =
    let there = c.entry_at.ensures ∙ ap (λ (xs : List KeptConstant). entry_at xs c.args.number) c.deref.ensures.value in
    rw (c.as_slice.ensures, there) (within_at (length c.self.inside.block) c.self.inside.entries.items c.args.number c.self.invariant.1)

pub returns : goal.returns
returns c =
    let there = c.entry_at.ensures ∙ ap (λ (xs : List KeptConstant). entry_at xs c.args.number) c.deref.ensures.value in
    c.constant_in.ensures ∙ ap (λ (b : List ℕ). shown b c.entry_at.result) c.as_slice.ensures ∙ ap (shown c.self.inside.block) there
    ∙ shown_at c.self.inside.block c.self.inside.entries.items c.args.number ∙ ap (λ (p : List (Option Constant)). constant_at p c.args.number) c.self.view_is
