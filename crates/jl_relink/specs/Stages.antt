-- What the code keeps of the stage of an invocation of a reference. A means of proof.
use Rattle.std.specs.Prelude.{◌≡◌, ◌<◌, ℕ, List, length, Some}
use Rattle.jl_pool.specs.declared.reference.Reference.{Reference}
use Rattle.jl_types.specs.declared.link.TableKind.{TableKind}
use Rattle.jl_types.specs.declared.link.TableKind.TheVariants.{Virtual, Interface}
use Rattle.jl_types.specs.Values.World.{Classes}
use Rattle.jl_types.specs.Linkage.Resolution.{named_class}
use Rattle.jl_types.specs.Linkage.Stages.{Selector, ByVirtual, ByInterface, BySpecial, Stage, Waits, Fails, Calls, Selects, ResolvedCall}
use Rattle.jl_relink.specs.declared.selection.Selection.{Selection}
use Rattle.jl_relink.specs.declared.stage.Stage.{Stage as Kept}
use Rattle.jl_relink.specs.declared.stage.Stage.TheVariants as kept

abbrev pub selector_of : TableKind → Selector
selector_of Virtual = ByVirtual
selector_of Interface = ByInterface

-- the selection is what is kept of the invocation
pub record IsKept (s : Selection) (i : ResolvedCall) : Type 0 where
  pub selector : i.selector ≡ selector_of s.kind
  pub named : i.named ≡ s.named
  pub method : i.method ≡ s.method

-- the invocation is an invokespecial of the reference, in the caller's class d, and its class is the one that the reference names
pub record IsSearch (cs : Classes) (d : ℕ) (ref : Reference (List ℕ)) (i : ResolvedCall) : Type 0 where
  pub selector : i.selector ≡ BySpecial
  pub caller : i.caller ≡ d
  pub names : named_class cs d ref ≡ Some i.named
  pub reference : i.ref ≡ ref

abbrev pub IsStage : Classes → ℕ → Reference (List ℕ) → Kept → Stage → Type 0
IsStage cs d ref (kept.Waits reason) stage = stage ≡ Waits reason
IsStage cs d ref (kept.Fails throwable) stage = stage ≡ Fails throwable
IsStage cs d ref (kept.Calls m) stage = stage ≡ Calls m
IsStage cs d ref (kept.Selects s) stage = (i : ResolvedCall) × (stage ≡ Selects i) × IsKept s i × (s.named < length cs.rows)
IsStage cs d ref kept.Searches stage = (i : ResolvedCall) × (stage ≡ Selects i) × IsSearch cs d ref i
