-- What is kept once a loader is made, or records a class that another one has recorded.
use Rattle.std.specs.Prelude.{◌≡◌, ℕ, ◌<◌, ◌^◌, List, [], ◌∷◌, ◌++◌, length, Some, false}
use Rattle.std.proofs.Common.{arith, length-append}
use Rattle.jl_types.specs.Values.World.{Classes}
use Rattle.jl_types.specs.Values.Members.{is_retired, lookup}
use Rattle.jl_types.specs.Events.Definitions.{with_record}
use Rattle.jl_types.proofs.Orders.{IsGood, looked_up, recorded_below, with_loader}
use Rattle.jl_hierarchy.specs.ForProofs.Kept.{IsKept}
use Rattle.jl_hierarchy.proofs.NewClass.{as_many_loaders}
use Rattle.jl_hierarchy.proofs.Objects.{first_with_loader, first_with_record}
use Rattle.jl_hierarchy.proofs.Closed.{closed_with_loader, closed_with_record}
use Rattle.jl_hierarchy.proofs.OwnRecords.{own_with_loader, own_with_record}

module _ (cs : Classes) (above below : List (List ℕ)) (kept : IsKept cs above below) where
  good : IsGood cs
  good = record { there = kept.there; ordered = kept.ordered }

  pub kept_with_loader : length cs.loaders < 2 ^ 20 → IsKept (record cs { loaders = cs.loaders ++ [] ∷ [] }) above below
  kept_with_loader lt = record {
    there = with_loader (length cs.rows) cs.loaders kept.there;
    ordered = kept.ordered;
    extended = kept.extended;
    object = first_with_loader cs kept.object;
    closed = closed_with_loader cs kept.closed;
    own = own_with_loader cs good kept.own;
    few = kept.few;
    few_loaders = let n = length-append cs.loaders ([] ∷ []) in omega arith;
    ancestors_kept = kept.ancestors_kept;
    receivers_kept = kept.receivers_kept;
  }

  pub kept_with_record : (to loader : ℕ) (name : List ℕ) (d : ℕ) → is_retired cs to ≡ false → lookup cs to name ≡ Some d
      → IsKept (record cs { loaders = with_record cs.loaders loader name d }) above below
  kept_with_record to loader name d live found = record {
    there =
        recorded_below (length cs.rows) cs.loaders loader name d kept.there
        (looked_up cs good to name d found);
    ordered = kept.ordered;
    extended = kept.extended;
    object = first_with_record cs kept.object to loader name d found;
    closed = closed_with_record cs kept.closed loader name d (kept.closed.records to name d live found);
    own = own_with_record cs good kept.own loader name d;
    few = kept.few;
    few_loaders = let n = as_many_loaders cs.loaders loader name d in let few = kept.few_loaders in omega arith;
    ancestors_kept = kept.ancestors_kept;
    receivers_kept = kept.receivers_kept;
  }
