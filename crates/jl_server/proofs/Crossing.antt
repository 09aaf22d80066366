-- A server may be shared by threads, and its book before that, a caller, its memo, what it has seen and what it was answered may go to one.
use denote.RattleType.{RattleType}
use denote.Struct.Declared as declared
use denote.Param.Send.{IsSend, IsSync, AllSend, view_send, recorded_send, struct_send, sendable}
use Rattle.std.proofs.Crossing.{crosses as of_std}
use Rattle.left_right.proofs.writer.Writer.TheSendSync as of_writers
use Rattle.jl_core.proofs.Crossing.{core_send}
use Rattle.jl_server.specs.declared.history.Name as name
use Rattle.jl_server.specs.contracts.book.Book as Book
use Rattle.jl_server.specs.contracts.book.Book.TheInside as Inside
use Rattle.jl_server.specs.contracts.server.LinkServer as LinkServer
use Rattle.jl_server.proofs.book.Receipt.TheSendSync as of_receipts
use Rattle.jl_server.proofs.book.Denied.TheSendSync as of_denied
use Rattle.jl_server.proofs.caller.Caller.TheSendSync as of_callers
use Rattle.jl_server.proofs.history.Head.TheSendSync as of_heads
use Rattle.jl_server.proofs.memo.Memo.TheSendSync as of_memos
use Rattle.jl_server.proofs.seen.Seen.TheSendSync as of_seen
use Rattle.jl_server.proofs.table.Change.TheSendSync as of_changes
use Rattle.jl_server.proofs.table.Table.TheSendSync as of_tables

module _ (K R : RattleType) (g : name.Ghosts K.Denot) where
  pub book_send : IsSend R → IsSend (Book.the_row K R g)
  book_send r =
      let O = Inside.the_type K R g in
      let all : AllSend (declared.fields O) = (
        search core_send depth 9,
        (
          search of_heads.the_send depth 9,
          (
            search of_seen.the_send depth 9,
            (
              search sendable depth 9,
              (
                search (of_writers.the_field_send, of_tables.the_send, of_tables.the_sync, of_changes.the_send, sendable, of_std) depth 12,
                (search sendable depth 9, tt),
              ),
            ),
          ),
        ),
      ) in
      let inside : IsSend (Inside.the_row K R g) = recorded_send _ O.D O.to O.to_one (struct_send (declared.shape O) all) in
      view_send (Inside.the_row K R g) _ _ _ _ inside

  pub server_send : IsSend R → IsSend (LinkServer.the_row K R g)
  server_send r = search (book_send, sendable, of_std) depth 20

  pub server_sync : IsSend R → IsSync (LinkServer.the_row K R g)
  server_sync r = search (book_send, sendable, of_std) depth 20

pub ruleset crosses = (
  server_send,
  server_sync,
  of_callers.the_send,
  of_memos.the_send,
  of_seen.the_send,
  of_seen.the_sync,
  of_receipts.the_send,
  of_denied.the_send,
)
