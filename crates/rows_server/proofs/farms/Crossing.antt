-- The gate of a farm may be shared by threads.
use denote.RattleType.{RattleType}
use denote.Ref.{NamedLft}
use denote.Struct.Declared as declared
use denote.Param.Send.{IsSend, IsSync, AllSync, recorded_sync, struct_sync, shr_sync, sendable}
use Rattle.std.proofs.Crossing.{crosses as of_std}
use Rattle.jl_server.specs.declared.history.Name as name
use Rattle.rows_server.specs.contracts.workers.Shared as Shared
use Rattle.rows_server.specs.contracts.farms.Turner as Turner
use Rattle.rows_server.proofs.workers.Crossing.{shared_sync}
use Rattle.rows_server.proofs.workers.Worker.TheSendSync as of_workers
use Rattle.rows_server.proofs.farms.Farm.TheSendSync as of_farms

module _ (ℓ : NamedLft) (K R S : RattleType) (g : name.Ghosts K.Denot) where
  pub turner_sync : IsSync R → IsSend S → IsSync (Turner.the_row ℓ K R S g)
  turner_sync r s =
      let O = Turner.the_type ℓ K R S g in
      let all : AllSync (declared.fields O) = (
        shr_sync ℓ.mir ℓ.lft (Shared.the_row ℓ K R S g) (shared_sync ℓ K R S g r s),
        (
          search (of_workers.the_send, sendable, of_std) depth 12,
          (
            search (shr_sync, of_farms.the_sync, sendable, of_std) depth 12,
            (
              search (sendable, of_std) depth 12,
              (
                search (sendable, of_std) depth 12,
                (
                  search (sendable, of_std) depth 12,
                  (search (sendable, of_std) depth 12, (search (sendable, of_std) depth 12, tt)),
                ),
              ),
            ),
          ),
        ),
      ) in
      recorded_sync _ O.D O.to O.to_one (struct_sync (declared.shape O) all)
