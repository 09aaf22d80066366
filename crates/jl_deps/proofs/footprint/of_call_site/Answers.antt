use Rattle.std.specs.Prelude.{◌≡◌, ◌==◌, ◌+◌, ◌++◌, List, ℕ, map, filter_map, length, Result, Ok, Err, IfOk}
use Rattle.std.specs.List.{list_any}
use Rattle.std.proofs.Common.{ap, sym, ◌∙◌}
use Rattle.jl_hierarchy.proofs.Rising.{has, one_rising, filter_rises}
use Rattle.jl_types.specs.declared.key.Key.{Key}
use Rattle.jl_types.specs.declared.key.Key.TheVariants as key
use Rattle.jl_types.specs.Events.Footprints.{call_site_in, point_in, among, path}
use Rattle.jl_relink.proofs.WayKeys.{among_call_sites, among_points}
use Rattle.jl_deps.proofs.footprint.of_call_site.Goals as goal

for_ok : {X E : Type 0} {P Q : X → Type 0} → ((x : X) → P x → Q x) → (r : Result X E) → IfOk r P → IfOk r Q
for_ok f (Ok x) h = f x h
for_ok f (Err e) h = tt

pub returns : goal.returns
returns c =
    let sites = c.args.sites.now in
    let site = c.args.call_site in
    let calls = filter_map call_site_in (path sites site) in
    let points = filter_map point_in (path sites site) in
    let of_calls : c.order_call_sites.new.call_sites.items ≡ among (site + 1) calls =
    one_rising c.order_call_sites.new.call_sites.items (among (site + 1) calls) c.order_call_sites.ensures.rises
    (filter_rises (λ d. list_any (λ q. q == d) calls) 0 (site + 1))
    (λ d.
    c.order_call_sites.ensures.same d
    ∙ ap (has d) (c.in_ok-push_path.ensures.call_sites ∙ ap (λ (xs : List ℕ). xs ++ calls) c.new-call_sites.ensures.items)
    ∙ sym (among_call_sites sites site d)) in
    let of_points : c.order_points.new.points.items ≡ among (length sites.switches) points =
    one_rising c.order_points.new.points.items (among (length sites.switches) points) c.order_points.ensures.rises
    (filter_rises (λ p. list_any (λ q. q == p) points) 0 (length sites.switches))
    (λ p.
    c.order_points.ensures.same p
    ∙ ap (has p) (c.in_ok-push_path.ensures.points ∙ ap (λ (xs : List ℕ). xs ++ points) c.new-points.ensures.items)
    ∙ sym (among_points sites site p)) in
    for_ok
    (λ kept is.
    is
    ∙ c.in_ok-push_points.ensures
    ∙ ap (λ (ks : List Key). ks ++ map key.Valid c.as_slice-2.result.now)
    (c.in_ok-push_targets.ensures ∙ ap (λ (ks : List Key). ks ++ map key.Target c.as_slice.result.now) c.new-keys.ensures.items)
    ∙ ap (λ (cs : List ℕ). map key.Target cs ++ map key.Valid c.as_slice-2.result.now) (c.as_slice.ensures.value ∙ of_calls)
    ∙ ap (λ (ps : List ℕ). map key.Target (among (site + 1) calls) ++ map key.Valid ps) (c.as_slice-2.ensures.value ∙ of_points))
    c.of.result c.of.ensures
