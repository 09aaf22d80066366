use Rattle.std.proofs.Common.{List, ap, subst, ◌∙◌}
use Rattle.std.specs.Prelude.{Option}
use Rattle.jl_pool.specs.declared.constant.Constant.{Constant}
use Rattle.jl_pool.specs.declared.kept_constant.KeptConstant.{KeptConstant}
use Rattle.jl_pool.specs.Pools.{constant_at}
use Rattle.jl_pool.specs.ForProofs.Table.{Shows, entry_at}
use Rattle.jl_pool.proofs.TableLaws.{shows_at}
use Rattle.jl_pool.proofs.pool.Pool.entry.Goals as goal

pub returns : goal.returns
returns c =
    let there = c.entry_at.ensures ∙ ap (λ (xs : List KeptConstant). entry_at xs c.args.number) c.deref.ensures.value in
    subst (λ (p : List (Option Constant)). Shows c.entry_at.result (constant_at p c.args.number)) c.self.view_is
    (rw there (shows_at c.self.inside.block c.self.inside.entries.items c.args.number c.self.invariant.2))
