-- What threads share may be shared by threads. `search` would unfold the server's row at each comparison, so most steps are named.
use denote.RattleType.{RattleType}
use denote.Ref.{NamedLft}
use denote.Struct.Declared as declared
use denote.Param.Send.{IsSend, IsSync, AllSync, recorded_sync, struct_sync, shr_sync, sendable}
use Rattle.std.proofs.Crossing.{crosses as of_std}
use Rattle.jl_server.specs.declared.history.Name as name
use Rattle.jl_server.specs.contracts.server.LinkServer as LinkServer
use Rattle.jl_server.proofs.Crossing.{server_sync}
use Rattle.jl_server.proofs.seen.Seen.TheSendSync as of_seen
use Rattle.rows_server.specs.contracts.workers.Shared as Shared

module _ (ℓ : NamedLft) (K R S : RattleType) (g : name.Ghosts K.Denot) where
  -- as a part of what else is shared
  pub shared_field : IsSync R → IsSend S → IsSync (Shared.the_field ℓ K R S g).row
  shared_field r s =
      let O = Shared.the_type ℓ K R S g in
      let all : AllSync (declared.fields O) = (
        search shr_sync depth 5,
        (
          search sendable depth 9,
          (
            shr_sync ℓ.mir ℓ.lft (LinkServer.the_row K S g) (server_sync K S g s),
            (
              search (sendable, of_std) depth 12,
              (
                search (of_seen.the_send, sendable, of_std) depth 12,
                (
                  search (sendable, of_std) depth 12,
                  (search (sendable, of_std) depth 12, (search (sendable, of_std) depth 12, tt)),
                ),
              ),
            ),
          ),
        ),
      ) in
      struct_sync (declared.shape O) all

  pub shared_sync : IsSync R → IsSend S → IsSync (Shared.the_row ℓ K R S g)
  shared_sync r s = let O = Shared.the_type ℓ K R S g in recorded_sync _ O.D O.to O.to_one (shared_field r s)
