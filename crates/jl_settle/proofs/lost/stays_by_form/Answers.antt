use Rattle.std.specs.Prelude.{◌≡◌}
use Rattle.std.proofs.Common.{ap, sym, rules, ◌∙◌}
use Rattle.jl_types.specs.declared.answer.Outcome.TheVariants.{Run}
use Rattle.jl_types.specs.declared.link.Link.TheVariants.{Direct}
use Rattle.jl_types.specs.Values.World.{World}
use Rattle.jl_types.specs.Linkage.Links.{outcome, runs}
use Rattle.jl_types.specs.Linkage.Selection.{virtual_outcome}
use Rattle.jl_types.specs.Events.Footprints.{stays_with}
use Rattle.jl_deps.specs.declared.form.Form.TheVariants.{Virtual}
use Rattle.jl_deps.specs.Forms.{form_of}
use Rattle.jl_settle.proofs.TogetherLaws.{virtual_by}
use Rattle.jl_settle.proofs.lost.stays_by_form.Goals as goal

pub returns-clause-stays : goal.returns-clause-stays
returns-clause-stays c = λ i selects other.
    let cs = c.args.world.now.classes in
    let x = c.args.receiver in
    let selected = c.in-Virtual-Direct-Run.selected in
    let method = c.in-Virtual-Direct-Run.method in
    let form : c.args.form.now ≡ Virtual selected = search rules in
    let link : c.args.link.now ≡ Direct (Run method) = search rules in
    let ran : c.runs.result ≡ runs method c.select_counted.result = search rules in
    ran
    ∙ ap (runs method)
    (c.select_counted.ensures.outcome ∙ ap (λ (w : World). virtual_outcome w.classes x selected) c.world.view_is
    ∙ sym (virtual_by cs i selected x (sym form ∙ c.requires.form ∙ ap (form_of cs) selects)))
    ∙ ap (λ l. stays_with l (outcome cs i x)) (sym link)
