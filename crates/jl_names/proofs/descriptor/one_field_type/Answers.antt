use Rattle.jl_names.proofs.DescriptorLaws.{field_one}
use Rattle.jl_names.proofs.descriptor.one_field_type.Goals as goal

pub returns : goal.returns
returns c = field_one
