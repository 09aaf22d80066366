-- What stays constant through an accepted change of the classes.
use Rattle.std.specs.Prelude.{◌≡◌, ℕ, List, [], ◌∷◌, ◌++◌, None}
use Rattle.std.proofs.Common.{sym, subst}
use Rattle.jl_class.specs.Class.{ClassFile}
use Rattle.jl_types.specs.Values.World.{Classes}
use Rattle.jl_types.specs.Values.Ancestry.{AreOrdered}
use Rattle.jl_types.specs.Events.Definitions.{defined, delegate_fault, delegated}
use Rattle.jl_types.specs.Events.Retirement.{MayRetire, retired}
use Rattle.jl_types.proofs.Orders.{IsGood, defined_good}
use Rattle.jl_hierarchy.specs.Constancy.{AreInOrder, IsClosed, Stays}
use Rattle.jl_hierarchy.proofs.Constancy.{stays_retired}
use Rattle.jl_hierarchy.proofs.Closed.{closed_with_loader, closed_defined, closed_retired}
use Rattle.jl_relink.proofs.Closing.{closed_delegated, rows_delegated}
use Rattle.jl_select.specs.Constancy.{IsConstant}
use Rattle.jl_select.proofs.Constancy.{constant}

module _ (old : Classes) (order : AreInOrder old) where
  good : IsGood old
  good = record { there = order.there; ordered = order.ordered }

  module _ (new : Classes) (stays : Stays old new) where
    pub constant_defined : (loader : ℕ) (file : ClassFile) → new ≡ defined old loader file → IsConstant old new
    constant_defined loader file is =
        constant old new order stays (subst (λ (cs : Classes). AreOrdered cs.rows) (sym is) (defined_good old good loader file).ordered)
        (subst IsClosed (sym is) (closed_defined old good loader file order.closed))

    pub constant_delegated : (loader : ℕ) (name : List ℕ) (to : ℕ) → delegate_fault old loader name to ≡ None → new ≡ delegated old loader name to
        → IsConstant old new
    constant_delegated loader name to none is =
        constant old new order stays (subst (λ (cs : Classes). AreOrdered cs.rows) (sym is) (rows_delegated old order loader name to))
        (subst IsClosed (sym is) (closed_delegated old order.closed loader name to none))

    pub constant_with_loader : new ≡ record old { loaders = old.loaders ++ [] ∷ [] } → IsConstant old new
    constant_with_loader is =
        constant old new order stays (subst (λ (cs : Classes). AreOrdered cs.rows) (sym is) order.ordered)
        (subst IsClosed (sym is) (closed_with_loader old order.closed))

  pub constant_retired : (new : Classes) (loaders : List ℕ) → MayRetire old loaders → new ≡ retired old loaders → IsConstant old new
  constant_retired new loaders may is =
      subst (IsConstant old) (sym is)
      (constant old (retired old loaders) order (stays_retired old good loaders) order.ordered (closed_retired old order.ordered order.closed loaders may))
