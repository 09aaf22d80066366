use Rattle.std.proofs.Common.{All, ◌∷◌, [], ◌++◌, take, ap, sym, subst, ◌∙◌}
use Rattle.std.proofs.lemmas.List.{take_more, take_all}
use mathlib.Core.List.{IsPrefix}
use Rattle.jl_farm.specs.declared.report.Report.{Report}
use Rattle.jl_farm.specs.Reports.{lists_of}
use Rattle.jl_farm.proofs.Installs.{still_begin}
use Rattle.jl_farm.proofs.Shifts.{all_pushed}
use Rattle.jl_farm.proofs.farm.learn_all.Goals as goal

pub loop-report-preserved : goal.loop-report-preserved
loop-report-preserved g c =
    let P : Report g.row.K.Denot → Type 0 = λ report. All (λ list. IsPrefix list c.learn.new.caller) (lists_of report.outcome) in
    let reports = c.args.reports.now in
    let report = c.report-item.result in
    let front = take c.loop-report.report-index reports in
    all_pushed P front _ report
    (take_more reports c.loop-report.report-index report c.loop-report-test.true ∙ ap (λ (r : Report g.row.K.Denot). front ++ r ∷ []) (sym c.report-item.is))
    (still_begin _ _ front c.learn.ensures.own c.loop-report.invariant) c.learn.ensures.named

pub returns : goal.returns
returns g c =
    let reports = c.args.reports.now in
    let caller = c.loop-report.caller in
    record {
      whole = caller;
      begins = subst (All (λ (report : Report g.row.K.Denot). All (λ list. IsPrefix list caller) (lists_of report.outcome)))
          (take_all c.loop-report.report-index reports c.loop-report-test.false) c.loop-report.invariant;
    }
