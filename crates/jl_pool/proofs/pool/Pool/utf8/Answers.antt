use Rattle.std.proofs.Common.{List, length, ap, ◌∙◌}
use Rattle.std.specs.Prelude.{Option}
use Rattle.std.specs.Option.{option_and_then}
use Rattle.jl_pool.specs.declared.constant.Constant.{Constant}
use Rattle.jl_pool.specs.declared.kept_constant.KeptConstant.{KeptConstant}
use Rattle.jl_pool.specs.Pools.{text_of, text_at}
use Rattle.jl_pool.specs.ForProofs.Table.{shown, entry_at}
use Rattle.jl_pool.proofs.TableLaws.{within_at, shown_at}
use Rattle.jl_pool.proofs.pool.Pool.utf8.Goals as goal

pub text_in-requires : goal.text_in-requires
text_in-requires c =
    let there = c.entry_at.ensures ∙ ap (λ (xs : List KeptConstant). entry_at xs c.args.number) c.deref.ensures.value in
    rw there (within_at (length c.self.inside.block) c.self.inside.entries.items c.args.number c.self.invariant.1)

pub returns : goal.returns
returns c =
    let there = c.entry_at.ensures ∙ ap (λ (xs : List KeptConstant). entry_at xs c.args.number) c.deref.ensures.value in
    c.text_in.ensures ∙ ap (λ (e : KeptConstant). option_and_then text_of (shown c.self.inside.block e)) there
    ∙ ap (option_and_then text_of) (shown_at c.self.inside.block c.self.inside.entries.items c.args.number)
    ∙ ap (λ (p : List (Option Constant)). text_at p c.args.number) c.self.view_is
