use Rattle.std.specs.Prelude.{ℕ, Vec}
use Rattle.std.specs.declared.alloc.Global.{Global}
use Rattle.std.proofs.Common.{ap, ◌∙◌}
use Rattle.jl_hierarchy.specs.ForProofs.Kept.{lists}
use Rattle.jl_hierarchy.proofs.KeptLaws.{receivers_here, below_here}
use Rattle.jl_hierarchy.proofs.classes.Classes.receivers.Goals as goal

pub bounds-as_slice-number : goal.bounds-as_slice-number
bounds-as_slice-number c =
    below_here _ _ _ c.self.invariant.0 c.args.self.now c.self.view_is c.as_slice.result.now (ap lists c.as_slice.ensures.value) c.number.result c.args.class
    c.number.ensures c.requires

pub returns : goal.returns
returns c =
    c.as_slice-2.ensures.value ∙ ap (λ (v : Vec ℕ Global). v.items) c.index-as_slice-number.is
    ∙ receivers_here _ _ _ c.self.invariant.0 c.args.self.now c.self.view_is c.as_slice.result.now (ap lists c.as_slice.ensures.value) c.number.result
    c.args.class c.number.ensures c.requires c.index-as_slice-number.result
