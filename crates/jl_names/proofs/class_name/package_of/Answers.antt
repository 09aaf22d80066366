use Rattle.std.proofs.Common.{rules, sym}
use Rattle.jl_names.proofs.ClassNameLaws.{package_of-slash, package_of-no_slash}
use Rattle.jl_names.proofs.class_name.package_of.Goals as goal

pub returns-in-Some : goal.returns-in-Some
returns-in-Some c = sym (package_of-slash c.args.name.now c.in-Some.slash (search rules) (search rules) (search rules))

pub returns-in-None : goal.returns-in-None
returns-in-None c = sym (package_of-no_slash c.args.name.now (search rules))
