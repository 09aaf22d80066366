use Rattle.std.specs.Prelude.{◌≡◌, ℕ, Option, Some}
use Rattle.std.proofs.Common.{ap, rules, subst, ◌∙◌}
use Rattle.jl_types.specs.declared.link.Link.{Link}
use Rattle.jl_relink.specs.Receivers.{TellsStay}
use Rattle.jl_cache.specs.Links.{link_at}
use Rattle.jl_deps.specs.ForProofs.Lists.{form_in}
use Rattle.jl_settle.specs.Settling.{IsTold, MayBeAsked}
use Rattle.jl_settle.proofs.SettleLaws.{told_gone}
use Rattle.jl_settle.proofs.lost.is_lost.Goals as goal

pub stays_by_form-requires-clause-form : goal.stays_by_form-requires-clause-form
stays_by_form-requires-clause-form c =
    let w = c.args.world.now in
    let links = link_at c.args.links.now in
    let told : IsTold w c.in-Some-defined.receiver links c.args.index.now c.args.site =
    subst (λ (o : Option ℕ). MayBeAsked w o links c.args.index.now c.args.site) c.in-Some-defined.is c.requires.asked in
    c.form_at-form.ensures ∙ ap form_in told.rests_on

pub returns-in-Some-defined-clause-lost : goal.returns-in-Some-defined-clause-lost
returns-in-Some-defined-clause-lost c =
    let w = c.args.world.now in
    let links = link_at c.args.links.now in
    let index = c.args.index.now in
    let told : IsTold w c.in-Some-defined.receiver links index c.args.site =
    subst (λ (o : Option ℕ). MayBeAsked w o links index c.args.site) c.in-Some-defined.is c.requires.asked in
    let is : links c.args.site ≡ Some c.in-Some.kept.now = search rules in
    told_gone w c.in-Some-defined.receiver links c.args.site index c.in-Some.kept.now c.stays_by_form.result told is
    (subst (λ (l : Link). TellsStay w c.args.site l c.in-Some-defined.receiver c.stays_by_form.result) c.get-link.ensures
    c.stays_by_form.ensures.stays)
