use Rattle.std.proofs.Common.{List, sym, subst, inl, inr}
use Rattle.std.specs.List.{AllZip}
use Rattle.jl_types.specs.declared.answer.Fast.{Fast}
use Rattle.jl_types.specs.Events.Entries.{events_of, classes_of}
use Rattle.jl_server.specs.Calls.{AnswersCall}
use Rattle.jl_server.proofs.FastLaws.{each_answered, each_closed}
use Rattle.jl_server.proofs.caller.Caller.call_all.Goals as goal

pub returns-clause-now : goal.returns-clause-now
returns-clause-now g c =
    let seen = c.call_all.new.self.seen in
    let calls = c.args.calls.now in
    let h = events_of seen in
    elim c.call_all.ensures.answers [
      | inl at_once ↦ subst (λ (fs : List Fast). AllZip (AnswersCall h) calls fs) (sym at_once) (each_answered h (classes_of seen) calls)
      | inr closed ↦ subst (λ (fs : List Fast). AllZip (AnswersCall h) calls fs) (sym closed.0) (each_closed h calls)
    ]
