use Rattle.std.specs.Prelude.{◌==◌, ◌&&◌, ℕ, not}
use Rattle.std.proofs.Common.{ap, sym, ◌∙◌}
use Rattle.std.proofs.lemmas.Bool.Decides.{Decides-eqb}
use Rattle.jl_types.specs.Events.Footprints.{has_key}
use Rattle.jl_deps.specs.declared.form.Form.{Form}
use Rattle.jl_deps.specs.Indexes.{form_eq}
use Rattle.jl_deps.specs.ForProofs.Lists.{listed}
use Rattle.jl_deps.proofs.KeyLists.{listed_anew, form_is}
use Rattle.jl_deps.proofs.lists.relist.Goals as goal

pub returns-clause-ok : goal.returns-clause-ok
returns-clause-ok c = λ k f s.
    let lists = c.args.lists.now in
    let was = c.args.was.now in
    let form = c.args.form.now in
    listed_anew (c.args.site == s) (form_eq was f) (form_eq form f) (form_eq form was) (has_key c.args.old.now k) (has_key c.args.new.now k)
    (listed c.unlist_others-2.new.lists k f s) (listed c.list_all.new.lists k f s) (listed lists k f s)
    (λ same. ap (λ (n : ℕ). listed lists k f n) (sym ((Decides-eqb c.args.site s).0 same)) ∙ c.requires k f)
    (λ is. ap (λ (g : Form). form_eq form g) (form_is was f is))
    (c.in_default.ensures.all k f s)
    (c.unlist_others-2.ensures k f s
    ∙ ap (λ b. not (((c.args.site == s) && form_eq was f) && (has_key c.args.old.now k && not b)) && listed c.list_all.new.lists k f s) (c.kept_of-2.ensures k))
