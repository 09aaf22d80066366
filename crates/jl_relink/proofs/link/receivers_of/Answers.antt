use Rattle.std.specs.Prelude.{◌<◌, ℕ, List, All, length}
use Rattle.std.proofs.Common.{sym, subst}
use Rattle.jl_relink.proofs.RowLaws.{receivers_there}
use Rattle.jl_relink.proofs.link.receivers_of.Goals as goal

pub returns-clause-there : goal.returns-clause-there
returns-clause-there c =
    subst (λ (xs : List ℕ). All (λ x. x < length c.args.classes.now.rows) xs) (sym c.receivers.ensures) (receivers_there c.args.classes.now c.args.class)
