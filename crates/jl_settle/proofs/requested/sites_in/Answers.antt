use Rattle.std.specs.Prelude.{◌||◌, Some}
use Rattle.std.proofs.Common.{sym, ap, ◌∙◌}
use Rattle.std.proofs.lemmas.Option.{slice_get-get_or}
use Rattle.jl_types.specs.Values.World.{World}
use Rattle.jl_hierarchy.proofs.Rising.{has}
use Rattle.jl_settle.specs.ForProofs.Requested.{is_invoked, requested_where}
use Rattle.jl_settle.proofs.RequestedLaws.{no_class, class_listed}
use Rattle.jl_settle.proofs.requested.sites_in.Goals as goal

pub loop-class-init : goal.loop-class-init
loop-class-init c = λ s. ap (has s) c.new-sites.ensures.items ∙ no_class c.args.world.now.classes c.args.world.now.places s

pub loop-class-preserved : goal.loop-class-preserved
loop-class-preserved c = λ s.
    class_listed (has s c.loop-class.sites.items) (has s c.push_of_class.new.sites.items) c.args.world.now.classes c.args.classes.now
    c.loop-class.class-index c.class-item.result c.args.world.now.places s
    (slice_get-get_or c.args.classes.now c.loop-class.class-index c.class-item.result c.loop-class-test.true ∙ ap Some (sym c.class-item.is))
    (c.in_ok-push_of_class.ensures s
    ∙ ap (λ (w : World). has s c.loop-class.sites.items || requested_where (is_invoked w.classes c.class-item.result) w.places s) c.world.view_is)
    (c.loop-class.invariant s)
