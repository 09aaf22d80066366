use Rattle.jl_types.proofs.Agreement.{fault_is_thrown, plain_is_run, null_is_thrown, direct_answers, table_answers}
use Rattle.jl_types.proofs.laws.links_give_the_answers.Goals as goal

pub returns-clause-fault : goal.returns-clause-fault
returns-clause-fault c = fault_is_thrown

pub returns-clause-plain : goal.returns-clause-plain
returns-clause-plain c = plain_is_run

pub returns-clause-null : goal.returns-clause-null
returns-clause-null c = null_is_thrown

pub returns-clause-direct : goal.returns-clause-direct
returns-clause-direct c = direct_answers

pub returns-clause-table : goal.returns-clause-table
returns-clause-table c = table_answers
