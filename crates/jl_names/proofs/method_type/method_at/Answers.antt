use Rattle.std.proofs.Common.{sym, arith}
use Rattle.jl_names.proofs.Bytes.{opening}
use Rattle.jl_names.proofs.MethodLaws.{after_byte_is, open_stops, broken_stops, method_stands, result_stops, result_left}
use Rattle.jl_names.proofs.method_type.method_at.Goals as goal

pub returns-in_default-clause-stopped : goal.returns-in_default-clause-stopped
returns-in_default-clause-stopped c = (open_stops c.args.text.now (sym c.in_default.ensures), omega arith)

pub returns-in-Err-clause-stopped : goal.returns-in-Err-clause-stopped
returns-in-Err-clause-stopped c =
    broken_stops c.args.text.now c.in-Some.inner.now c.in-Err.broken
    (after_byte_is opening c.args.text.now c.in-Some.inner.now (sym c.in-Some.ensures)) c.in-Err.ensures.stopped

pub returns-in-Ok-return_at-clause-ok : goal.returns-in-Ok-return_at-clause-ok
returns-in-Ok-return_at-clause-ok c =
    method_stands c.args.text.now c.in-Some.inner.now c.in-Ok.found.1.now c.in-Ok-return_at.rest.now
    c.in-Ok.found.0.items c.in-Ok-return_at.returns
    (after_byte_is opening c.args.text.now c.in-Some.inner.now (sym c.in-Some.ensures)) c.in-Ok.ensures.ok
    c.in-Ok-return_at.ensures

pub returns-clause-stopped : goal.returns-clause-stopped
returns-clause-stopped c =
    let front = after_byte_is opening c.args.text.now c.in-Some.inner.now (sym c.in-Some.ensures) in (
      result_stops c.args.text.now c.in-Some.inner.now c.in-Ok.found.1.now c.in-Err-return_at.left.now
          c.in-Ok.found.0.items front c.in-Ok.ensures.ok c.in-Err-return_at.ensures,
      result_left c.args.text.now c.in-Some.inner.now c.in-Ok.found.1.now c.in-Err-return_at.left.now
          c.in-Ok.found.0.items front c.in-Ok.ensures.ok c.in-Err-return_at.ensures,
    )
