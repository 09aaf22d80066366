use Rattle.std.proofs.Common.{inl, inr}
use Rattle.jl_types.specs.Events.Entries.{events_of, classes_of}
use Rattle.jl_server.proofs.FastLaws.{now_is_dispatch}
use Rattle.jl_server.proofs.caller.Caller.call.Goals as goal

pub returns-clause-now : goal.returns-clause-now
returns-clause-now g c a is fits =
    let seen = c.call.new.self.seen in
    elim c.call.ensures.answer [
      | inl at_once ↦ now_is_dispatch (events_of seen) c.args.site (classes_of seen) c.args.recv c.call.result a at_once is fits
      | inr closed ↦ absurd (cc (closed.0, is))
    ]
