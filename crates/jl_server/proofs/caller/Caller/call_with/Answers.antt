use Rattle.std.proofs.Common.{inl, inr}
use Rattle.jl_types.specs.Events.Entries.{classes_of}
use Rattle.jl_server.proofs.MemoLaws.{with_is_dispatch}
use Rattle.jl_server.proofs.caller.Caller.call_with.Goals as goal

pub returns-clause-now : goal.returns-clause-now
returns-clause-now g c a is fits =
    let n = g.K.Name.limits in
    let done = c.call_with.ensures in
    let seen = c.call_with.new.self.seen in
    let memo = c.args.memo.now in
    elim done.answer [
      | inl at_once ↦
          with_is_dispatch memo.seen seen done.memo memo.sets c.rows-rows.ensures.right c.args.site n done.legal (classes_of seen) c.args.recv
          c.call_with.result a at_once is fits
      | inr closed ↦ absurd (cc (closed.0, is))
    ]
