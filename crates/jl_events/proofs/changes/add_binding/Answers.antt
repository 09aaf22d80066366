use Rattle.std.specs.Prelude.{◌≡◌, ◌==◌, ◌++◌, ◌∷◌, [], None, slice_get}
use Rattle.std.specs.Map.{lookup}
use Rattle.std.proofs.Common.{refl, ap, sym, subst, ◌∙◌}
use Rattle.indexmap.proofs.CallerLemmas.{insert_entry-new}
use Rattle.jl_types.specs.Values.World.{World}
use Rattle.jl_types.specs.Linkage.Stages.{bound_to}
use Rattle.jl_types.specs.Events.Verdict.{bind_fault}
use Rattle.jl_types.specs.declared.event.Made.TheVariants as made
use Rattle.jl_relink.proofs.Bindings.{found_in_map}
use Rattle.jl_select.specs.Constancy.{IsConstant}
use Rattle.jl_select.proofs.Constancy.{constant_itself}
use Rattle.jl_events.proofs.CallSiteLaws.{free_to_bind}
use Rattle.jl_events.proofs.ChangeLaws.{binding_free, made_so}
use Rattle.jl_events.proofs.changes.add_binding.Goals as goal

pub returns : goal.returns
returns c =
    let bindings = c.world.inside.bindings in
    let none : lookup (λ k. c.args.site == k) bindings.entries ≡ None =
    sym (found_in_map c.args.site bindings.entries)
    ∙ ap (λ (w : World). bound_to w c.args.site) c.world.view_is
    ∙ free_to_bind c.args.world.now c.args.site c.args.call_site (binding_free c.args.world.now c.args.site c.args.call_site c.requires)
    in
    let last = c.in_ok-insert.ensures.entries ∙ insert_entry-new _ bindings c.args.site c.args.call_site none in
    record {
      made_is = λ m.
          made_so (bind_fault c.args.world.now c.args.site c.args.call_site (slice_get c.args.world.now.places c.args.site)) made.Nothing made.Nothing refl;
      step =
          (λ i. record {
            classes = c.world.inside.classes;
            places = c.world.inside.places;
            bindings = last i;
            sites = c.world.inside.sites;
          })
          ∙ ap (λ (w : World). record w { bindings = w.bindings ++ (c.args.site, c.args.call_site) ∷ [] }) c.world.view_is;
      constant = subst (λ (w : World). IsConstant w.classes c.world.inside.classes) c.world.view_is (constant_itself c.world.inside.classes);
    }
