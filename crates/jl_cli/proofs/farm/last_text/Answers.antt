use Rattle.std.proofs.Common.{◌∙◌, ap}
use Rattle.serde_json.specs.Written.{has_float, compact_text}
use Rattle.jl_session.proofs.ScanLaws.{for_ok}
use Rattle.jl_cli.proofs.FloatLaws.{last_floats}
use Rattle.jl_cli.proofs.farm.last_text.Goals as goal

pub text_of-requires : goal.text_of-requires
text_of-requires g c = ap has_float c.in_ok-answer.ensures.value ∙ last_floats c.last_value.new.caller c.args.reports.now

pub returns-clause-text : goal.returns-clause-text
returns-clause-text g c = for_ok (λ text said. said ∙ ap compact_text c.in_ok-answer.ensures.value) c.text_of.result c.text_of.ensures
