use Rattle.std.proofs.Common.{◌∙◌, ap}
use Rattle.std.specs.Prelude.{is_some}
use Rattle.jl_pool.proofs.FormLaws.{counted}
use Rattle.jl_json.proofs.call_site.is_method_descriptor.Goals as goal

pub returns : goal.returns
returns c = c.is_some.ensures ∙ ap is_some (counted c.args.text.now c.method_slots.result c.method_slots.ensures)
