use Rattle.std.specs.Prelude.{◌≡◌, ◌++◌, ◌+◌, drop, length}
use Rattle.std.proofs.Common.{◌∙◌, ap, rules, subst}
use Rattle.std.proofs.lemmas.List.{drop-append-le}
use Rattle.jl_types.specs.Values.World.{World}
use Rattle.jl_core.specs.State.{world_of}
use Rattle.jl_host.specs.Renewing.{Renewing, AreBrought}
use Rattle.jl_host.proofs.begun.Begun.take_these.Goals as goal

pub returns-clause-taken : goal.returns-clause-taken
returns-clause-taken c =
    let entries = c.args.entries.now in
    let new = c.bring_classes.new.defined in
    let old = c.self.inside in
    let added =
    c.push_all.ensures ∙ (λ i. c.reserve.ensures.items i ++ c.in_ok-shared.ensures i) in
    let sum : c.in-Some.taken ≡ old.taken + length entries = search rules in
    record {
      start = ap (λ (r : Renewing). r.start) c.self.view_is;
      fresh = ap (λ (r : Renewing). r.fresh) c.self.view_is;
      limits = ap (λ (r : Renewing). r.limits) c.self.view_is;
      taken = sum ∙ ap (λ (r : Renewing). r.taken + length entries) c.self.view_is;
      waiting =
          ap (drop old.carried) added
          ∙ drop-append-le old.carried old.waiting.items entries c.self.invariant.1
          ∙ ap (λ (r : Renewing). r.waiting ++ entries) c.self.view_is;
      defined =
          subst (λ (r : Renewing). AreBrought (world_of c.args.core.now).classes r.defined new) c.self.view_is
          (subst (λ (w : World). AreBrought w.classes old.defined new) c.world.ensures.world c.in_ok-bring_classes.ensures.brought);
    }
