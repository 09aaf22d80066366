use Rattle.jl_report.proofs.DerivedLaws.{still_derived}
use Rattle.jl_report.proofs.FinalRowLaws.{kept_row, same_row, still_marked}
use Rattle.jl_report.proofs.laws.final_calls_stay.Goals as goal

pub returns-clause-kept : goal.returns-clause-kept
returns-clause-kept c = λ cs file invocation order accepted derived mark. kept_row cs file order accepted derived invocation mark

pub returns-clause-stays : goal.returns-clause-stays
returns-clause-stays c = λ cs file invocation order accepted derived mark. same_row cs file order accepted derived invocation mark

pub returns-clause-remains : goal.returns-clause-remains
returns-clause-remains c = λ cs file invocation order accepted derived mark. still_marked cs file order accepted derived invocation mark

pub returns-clause-derived : goal.returns-clause-derived
returns-clause-derived c = λ cs file order derived none lines. still_derived cs file order derived none lines
