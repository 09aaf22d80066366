use Rattle.std.proofs.Common.{List, ap, ◌∙◌}
use Rattle.std.specs.Prelude.{Option, option_map}
use Rattle.jl_pool.specs.declared.constant.Constant.{Constant}
use Rattle.jl_pool.specs.declared.kept_constant.KeptConstant.{KeptConstant}
use Rattle.jl_pool.specs.Pools.{text_at}
use Rattle.jl_pool.specs.ForProofs.Forms.{form_of}
use Rattle.jl_pool.specs.ForProofs.Table.{form_in, entry_at}
use Rattle.jl_pool.proofs.TableLaws.{formed_at}
use Rattle.jl_pool.proofs.pool.Pool.form.Goals as goal

pub returns : goal.returns
returns c =
    let there = c.entry_at.ensures ∙ ap (λ (xs : List KeptConstant). entry_at xs c.args.number) c.deref.ensures.value in
    c.form_in.ensures ∙ ap form_in there ∙ formed_at c.self.inside.block c.self.inside.entries.items c.args.number c.self.invariant.2
    ∙ ap (λ (p : List (Option Constant)). option_map form_of (text_at p c.args.number)) c.self.view_is
