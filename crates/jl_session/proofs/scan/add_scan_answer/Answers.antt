use Rattle.std.proofs.Common.{◌∙◌}
use Rattle.std.proofs.lemmas.Result.{on_ok_weaker}
use Rattle.jl_session.specs.Scans.{IsScanAnswer}
use Rattle.jl_session.proofs.ScanLaws.{file_text, bad_text, added_text}
use Rattle.jl_session.proofs.scan.add_scan_answer.Goals as goal

pub returns-then-decode-clause-ok : goal.returns-then-decode-clause-ok
returns-then-decode-clause-ok c =
    on_ok_weaker c.add_file_answer.result
    (file_text c.args.line.now c.decode.result c.decode.new.bytes _ _ c.decode.ensures c.if-decode.true)
    c.add_file_answer.ensures.ok

pub returns-in_ok-said-clause-ok : goal.returns-in_ok-said-clause-ok
returns-in_ok-said-clause-ok c =
    added_text c.extend_from_slice.result (IsScanAnswer c.args.line.now) _ _ c.deref.result.now c.extend_from_slice.ensures.items
    (bad_text c.args.line.now c.decode.result c.decode.new.bytes c.deref.result.now c.decode.ensures c.if-decode.false
    (c.deref.ensures.value ∙ c.in_ok-said.ensures))
