use Rattle.jl_classfile.proofs.ClassLaws.{one_class}
use Rattle.jl_classfile.proofs.FaultLaws.{no_fault}
use Rattle.jl_classfile.proofs.VersionLaws.{later, earlier, refused, only}
use Rattle.jl_classfile.proofs.read.later_versions_change_nothing.Goals as goal

pub returns-clause-later : goal.returns-clause-later
returns-clause-later c = later

pub returns-clause-earlier : goal.returns-clause-earlier
returns-clause-earlier c = earlier

pub returns-clause-refused : goal.returns-clause-refused
returns-clause-refused c = refused

pub returns-clause-only : goal.returns-clause-only
returns-clause-only c m n bytes p f lt h fault = only m n bytes p lt h f fault

pub returns-clause-one : goal.returns-clause-one
returns-clause-one c = one_class

pub returns-clause-no_fault : goal.returns-clause-no_fault
returns-clause-no_fault c = no_fault
