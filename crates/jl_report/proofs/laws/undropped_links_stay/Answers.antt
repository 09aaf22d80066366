use Rattle.jl_report.proofs.StayLaws.{undropped_row, untouched_row, unchanging_row, closed_row, closed_stays, remains_closed}
use Rattle.jl_report.proofs.laws.undropped_links_stay.Goals as goal

pub returns-clause-undropped : goal.returns-clause-undropped
returns-clause-undropped c = λ cs file invocation l order accepted linked none. undropped_row cs file order accepted invocation l linked none

pub returns-clause-untouched : goal.returns-clause-untouched
returns-clause-untouched c = λ cs file invocation l order accepted linked none. untouched_row cs file order accepted invocation l linked none

pub returns-clause-unchanging : goal.returns-clause-unchanging
returns-clause-unchanging c = λ cs file invocation order accepted closed. unchanging_row cs file order accepted invocation closed

pub returns-clause-closed : goal.returns-clause-closed
returns-clause-closed c = λ cs file invocation order accepted closed. closed_row cs file order accepted invocation closed

pub returns-clause-stays : goal.returns-clause-stays
returns-clause-stays c = λ cs file invocation l order accepted linked closed. closed_stays cs file order accepted invocation l linked closed

pub returns-clause-remains : goal.returns-clause-remains
returns-clause-remains c = λ cs file invocation l order accepted linked closed. remains_closed cs file order accepted invocation l linked closed
