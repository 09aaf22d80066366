use Rattle.std.proofs.Common.{rules, ◌∙◌, refl}
use Rattle.jl_json.specs.ForProofs.NameReading.{name_text}
use Rattle.jl_json.specs.ClassAnswers.{class_data}
use Rattle.jl_json.proofs.NameLaws.{spells}
use Rattle.jl_json.proofs.WrittenLaws.{text_after}
use Rattle.jl_json.proofs.class_answer.append_class.Goals as goal

pub returns-in-Ok-clause-ok : goal.returns-in-Ok-clause-ok
returns-in-Ok-clause-ok c =
    let before = c.in-Ok.ensures.before ∙ c.new-out.ensures.before ∙ search rules in (
      _,
      (name_text, spells, refl),
      text_after (class_data name_text c.args.file.now) _ _ c.args.text.now.items _ _ c.new-out.ensures.tokens c.in-Ok.ensures.written
          before c.into_inner.ensures.items,
    )
