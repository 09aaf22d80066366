use Rattle.jl_json.proofs.TypeLaws.{call_site_typed}
use Rattle.jl_json.proofs.call_site.types_are_descriptors.Goals as goal

pub returns : goal.returns
returns c = call_site_typed
