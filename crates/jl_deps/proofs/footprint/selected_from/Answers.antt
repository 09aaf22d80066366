use Rattle.std.specs.Prelude.{map, option_to_list}
use Rattle.std.proofs.Common.{ap, sym, ◌∙◌}
use Rattle.jl_types.specs.declared.key.Key.TheVariants as key
use Rattle.jl_deps.proofs.TellingLaws.{of_named}
use Rattle.jl_deps.proofs.footprint.selected_from.Goals as goal

pub returns-then-tells_receivers : goal.returns-then-tells_receivers
returns-then-tells_receivers c =
    of_named c.args.classes.now c.args.caller c.args.reference.now c.args.link.now (sym c.tells_receivers.ensures ∙ c.if-tells_receivers.true)
    c.args.kind c.requires.selects c.requires.link
    ∙ ap (λ named. map key.Receivers (option_to_list named)) (sym c.named_class.ensures.found)
    ∙ sym c.of_class.ensures
