-- What moves over to a fresh server may go to a thread, and what the threads share may be shared. `search` would unfold the server's row at
-- each comparison, so most steps are named.
use denote.RattleType.{RattleType}
use denote.Ref.{NamedLft}
use denote.Struct.Declared as declared
use denote.Param.Send.{IsSend, IsSync, AllSend, AllSync, recorded_send, recorded_sync, struct_send, struct_sync, view_send, sendable}
use Rattle.std.proofs.Crossing.{crosses as of_std}
use Rattle.core.proofs.sync.Sent.{Mutex-send, Mutex-sync}
use Rattle.core.specs.contracts.option.Option as Option
use Rattle.core.specs.contracts.sync.Mutex as Mutex
use Rattle.jl_renewal.proofs.numbers.Renumbering.TheSendSync as of_numbers
use Rattle.jl_server.specs.declared.history.Name as name
use Rattle.jl_server.specs.contracts.book.Book as Book
use Rattle.jl_server.specs.contracts.server.LinkServer as LinkServer
use Rattle.jl_server.proofs.Crossing.{book_send}
use Rattle.rows_server.specs.contracts.renewals.Fresh as Fresh
use Rattle.rows_server.specs.contracts.renewals.Fresh.TheInside as Inside
use Rattle.rows_server.specs.contracts.renewals.Pair as Pair
use Rattle.rows_server.specs.contracts.renewals.Mover as Mover
use Rattle.rows_server.specs.contracts.renewals.Renewal as Renewal
use Rattle.rows_server.proofs.workers.Crossing.{shared_field}
use Rattle.rows_server.proofs.workers.Worker.TheSendSync as of_workers

module _ (L S : RattleType) (g : name.Ghosts L.Denot) where
  pub fresh_send : IsSend S → IsSend (Fresh.the_row L S g)
  fresh_send s =
      let O = Inside.the_type L S g in
      let all : AllSend (declared.fields O) = (book_send L S g s, (search sendable depth 9, tt)) in
      let inside : IsSend (Inside.the_row L S g) = recorded_send _ O.D O.to O.to_one (struct_send (declared.shape O) all) in
      view_send (Inside.the_row L S g) _ _ _ _ inside

  server_field : IsSend S → IsSend (LinkServer.the_field L S g).row
  server_field s =
      let all : AllSend (declared.fields (LinkServer.the_type L S g)) = (Mutex-send (Book.the_row L S g) (book_send L S g s), tt) in
      struct_send (declared.shape (LinkServer.the_type L S g)) all

  pair_send : IsSend S → IsSend (Pair.the_row L S g)
  pair_send s =
      let O = Pair.the_type L S g in
      let all : AllSend (declared.fields O) = (server_field s, (search of_numbers.the_send depth 9, tt)) in
      recorded_send _ O.D O.to O.to_one (struct_send (declared.shape O) all)

  maybe_pair : IsSend S → IsSend (Option.the_row (Pair.the_row L S g))
  maybe_pair s = search (pair_send, sendable, of_std) depth 12

  pub pair_sync : IsSend S → IsSync (Mutex.the_row (Option.the_row (Pair.the_row L S g)))
  pair_sync s = Mutex-sync (Option.the_row (Pair.the_row L S g)) (maybe_pair s)

  pub maybe_fresh : IsSend S → IsSend (Option.the_field (Fresh.the_row L S g)).row
  maybe_fresh s = search (fresh_send, sendable, of_std) depth 12

module _ (K L S : RattleType) (g : name.Ghosts K.Denot) (h : name.Ghosts L.Denot) where
  pub mover_send : IsSend S → IsSend (Mover.the_row K L S g h)
  mover_send s =
      let O = Mover.the_type K L S g h in
      let all : AllSend (declared.fields O) = (
        search of_workers.the_field_send depth 9,
        (search of_workers.the_field_send depth 9, (maybe_fresh L S h s, tt)),
      ) in
      recorded_send _ O.D O.to O.to_one (struct_send (declared.shape O) all)

module _ (ℓ : NamedLft) (K L R S : RattleType) (g : name.Ghosts K.Denot) (h : name.Ghosts L.Denot) where
  pub renewal_sync : IsSync R → IsSend S → IsSync (Renewal.the_row ℓ K L R S g h)
  renewal_sync r s =
      let O = Renewal.the_type ℓ K L R S g h in
      let all : AllSync (declared.fields O) = (
        shared_field ℓ K R S g r s,
        (
          pair_sync L S h s,
          (
            search (sendable, of_std) depth 12,
            (search (sendable, of_std) depth 12, (search (sendable, of_std) depth 12, tt)),
          ),
        ),
      ) in
      recorded_sync _ O.D O.to O.to_one (struct_sync (declared.shape O) all)
