use Rattle.std.proofs.Common.{◌∙◌, refl}
use Rattle.std.proofs.lemmas.Result.{on_ok_weaker}
use Rattle.jl_json.specs.Refusals.{refusal_data}
use Rattle.jl_session.specs.Scans.{IsFileAnswer}
use Rattle.jl_session.proofs.ScanLaws.{refused_text, shown_text, added_text}
use Rattle.jl_session.proofs.scan.add_file_answer.Goals as goal

pub returns-in-Ok-clause-ok : goal.returns-in-Ok-clause-ok
returns-in-Ok-clause-ok c =
    let class = c.in-Ok.ensures.ok in
    on_ok_weaker c.append_class.result (λ h. (
      h.0,
      shown_text c.args.bytes.now class.0 c.in-Ok.file h.0 class.1 class.2 h.1,
      h.2,
    )) c.append_class.ensures.ok

pub returns-in_ok-said-in-Err-clause-ok : goal.returns-in_ok-said-in-Err-clause-ok
returns-in_ok-said-in-Err-clause-ok c =
    added_text c.extend_from_slice.result (IsFileAnswer c.args.bytes.now) _ _ c.deref.result.now c.extend_from_slice.ensures.items
    (refused_text c.args.bytes.now c.in-Err.fault (refusal_data c.in-Err.fault) c.deref.result.now
    c.in-Err.ensures.fault refl (c.deref.ensures.value ∙ c.in_ok-said-in-Err.ensures))
