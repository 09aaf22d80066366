use Rattle.jl_names.proofs.ClassNameLaws.{is_name-parts}
use Rattle.jl_names.proofs.class_name.is_class_name.Goals as goal

pub loop-byte-init : goal.loop-byte-init
loop-byte-init c = (is_name-parts c.args.name.now).0
