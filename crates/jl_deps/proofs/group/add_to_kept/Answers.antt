use Rattle.std.proofs.Common.{◌∙◌, ap, sym}
use Rattle.std.proofs.lemmas.Result.{on_err_weaker}
use Rattle.jl_deps.specs.Ways.{has}
use Rattle.jl_deps.proofs.GroupLaws.{same_has}
use Rattle.jl_deps.specs.ForProofs.Grouped.{kept_sites}
use Rattle.jl_deps.proofs.group.add_to_kept.Goals as goal

pub returns-in-Many-clause-err : goal.returns-in-Many-clause-err
returns-in-Many-clause-err c =
    on_err_weaker c.add_to.result
    (λ same s.
    same_has s c.add_to.new.sites.keys ∙ same s ∙ sym (same_has s c.deref_mut.result.now.keys)
    ∙ ap (λ set. has s set.keys) c.deref_mut.ensures.value ∙ ap (λ kept. has s (kept_sites kept)) (sym c.in-Many.is))
    c.add_to.ensures.err
