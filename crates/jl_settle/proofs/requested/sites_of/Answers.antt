use Rattle.std.specs.Prelude.{◌&&◌, ℕ, List}
use Rattle.std.proofs.Common.{sym, ap, ◌∙◌}
use Rattle.jl_types.specs.Values.World.{World}
use Rattle.jl_types.specs.Values.Members.{is_present}
use Rattle.jl_types.specs.Events.Retirement.{is_of_any}
use Rattle.jl_settle.specs.ForProofs.Requested.{is_among, requested_where}
use Rattle.jl_settle.proofs.RequestedLaws.{only_retired, linked_listed}
use Rattle.jl_settle.proofs.requested.sites_of.Goals as goal

pub returns-clause-only : goal.returns-clause-only
returns-clause-only c = λ s listed.
    only_retired c.args.world.now c.args.loaders.now c.in_ok-own.own.items
    (λ k. c.in_ok-own.ensures k ∙ ap (λ (w : World). is_present w.classes k && is_of_any w.classes c.args.loaders.now k) c.world.view_is) s
    (sym (c.in_ok-sites.ensures s
    ∙ ap (λ (cs : List ℕ). requested_where (is_among c.args.world.now.classes cs) c.args.world.now.places s) c.as_slice.ensures.value) ∙ listed)

pub returns-clause-linked : goal.returns-clause-linked
returns-clause-linked c = λ s l scratch retired.
    c.in_ok-sites.ensures s
    ∙ ap (λ (cs : List ℕ). requested_where (is_among c.args.world.now.classes cs) c.args.world.now.places s) c.as_slice.ensures.value
    ∙ linked_listed c.args.world.now c.args.loaders.now c.in_ok-own.own.items
    (λ k. c.in_ok-own.ensures k ∙ ap (λ (w : World). is_present w.classes k && is_of_any w.classes c.args.loaders.now k) c.world.view_is) s l scratch retired
