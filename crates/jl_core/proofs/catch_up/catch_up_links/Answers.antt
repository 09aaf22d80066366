use Rattle.std.specs.Prelude.{◌≡◌}
use Rattle.std.proofs.Common.{sym, ◌∙◌}
use Rattle.jl_types.specs.declared.event.EventOf.TheVariants as variant
use Rattle.jl_core.proofs.ReplayLaws.{definition_followed}
use Rattle.jl_core.proofs.catch_up.catch_up_links.Goals as goal

pub returns-in-Define-clause-index : goal.returns-in-Define-clause-index
returns-in-Define-clause-index c =
    let is : c.args.entry.now.event ≡ variant.Define c.in-Define.field-0 c.in-Define.field-1 =
    sym (c.get.ensures ∙ c.event-event.ensures) ∙ c.in-Define.is in
    definition_followed c.args.world.now c.args.ahead.now c.args.entry.now.event c.args.links.now c.args.links_ahead.now c.forget.new.links
    c.args.index.now c.args.index_ahead.now c.forget.new.index c.requires.further c.in-Define.field-0 c.in-Define.field-1 is
    c.dropped.result.now c.in_ok-forget-in-Define.ensures.links c.in_ok-forget-in-Define.ensures.index
