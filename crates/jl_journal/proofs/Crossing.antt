-- What is past owns nothing, so it may cross threads wherever its elements may; and so may a journal.
use denote.RattleType.{RattleType}
use denote.Param.Send.{IsSend, IsSync, part_keyless, sendable}
use Rattle.std.proofs.Crossing.{crosses as of_std}
use Rattle.jl_journal.specs.declared.element.Keep as keep
use Rattle.jl_journal.specs.contracts.past.Past as Past
use Rattle.jl_journal.specs.contracts.journal.Journal as Journal

pub past_send : (A : RattleType) → IsSend A → IsSend (Past.the_row A)
past_send A a = search sendable depth 20

keyless : (A : RattleType) → IsSend (Past.the_row A)
keyless A = record { owned = λ d vs. ((λ vss. (tt, ((λ uss. (tt, tt)), tt))), tt); leaving = λ k f vs. tt }

pub past_sync : (A : RattleType) → IsSync (Past.the_row A)
past_sync A = record { shared = λ d b o κ q. part_keyless (Past.the_row A) (keyless A) q d b o }

module _ (T : RattleType) (g : keep.Ghosts T.Denot) where
  pub journal_send : IsSend T → IsSend (Journal.the_row T g)
  journal_send t = search (past_send, sendable, of_std) depth 20

  pub journal_sync : IsSend T → IsSync T → IsSync (Journal.the_row T g)
  journal_sync t s = search (past_sync, sendable, of_std) depth 20

pub ruleset crosses = (past_send, past_sync, journal_send, journal_sync)
