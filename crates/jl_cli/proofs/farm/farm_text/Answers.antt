use Rattle.std.proofs.Common.{◌∙◌, ap, subst, List, All}
use mathlib.Core.List.{IsPrefix}
use Rattle.jl_types.specs.Events.Entries.{Entry}
use Rattle.serde_json.specs.Written.{compact_text}
use Rattle.jl_cli.specs.Farms.{last_data}
use Rattle.jl_cli.proofs.FarmEnds.{all_back, last_line}
use Rattle.jl_cli.proofs.farm.farm_text.Goals as goal

pub returns-clause-text : goal.returns-clause-text
returns-clause-text g c =
    last_line g.K.Name.limits c.args.caller.now c.jobs.new.caller c.last_text.new.caller c.in_ok-reports.reports.items c.in_ok-jobs.jobs.items
    c.in_ok-last_text.field-0.items c.jobs.ensures.own (c.in_ok-reports.ensures.jobs ∙ c.in_ok-jobs.ensures.numbers) c.in_ok-jobs.ensures.jobs
    c.in_ok-reports.ensures.shown c.in_ok-reports.ensures.history c.last_text.ensures.own c.in_ok-last_text.ensures.legal
    (c.in_ok-last_text.ensures.text ∙ ap (λ reports. compact_text (last_data c.last_text.new.caller reports)) c.as_slice.ensures.value)
    (all_back (IsPrefix c.args.caller.now) c.tell_all.new.workers _ c.args.workers.len (c.tell_all.auto.workers ∙ c.as_mut_slice.ensures.len)
    (subst (λ (seen : List Entry). All (IsPrefix seen) c.tell_all.new.workers) c.seen.ensures c.tell_all.ensures))
