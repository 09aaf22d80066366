use Rattle.std.proofs.Common.{sym, subst}
use Rattle.jl_types.specs.Values.World.{World}
use Rattle.jl_hierarchy.specs.Constancy as constancy
use Rattle.jl_events.specs.Accepted.{Accepted}
use Rattle.jl_events.specs.Changes.{IsNext}
use Rattle.jl_events.proofs.NextLaws.{next_class}
use Rattle.jl_events.proofs.catch_up.catch_up_owned.Goals as goal

pub catch_up-requires : goal.catch_up-requires
catch_up-requires c =
    let next = subst (λ (a : Accepted). IsNext c.args.world.now c.args.ahead.now a) c.in-Define.is c.requires.next in
    record {
      next = subst (λ (w : World). constancy.IsNext c.world.inside.classes w.classes) (sym c.ahead.view_is)
          (subst (λ (w : World). constancy.IsNext w.classes c.args.ahead.now.classes) (sym c.world.view_is)
          (next_class c.args.world.now c.args.ahead.now c.in-Define.field-0 c.in-Define.field-1 next));
    }
