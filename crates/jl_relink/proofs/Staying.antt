-- A link that there is stays where resolution and selection do, call sites run what they ran, and places and bindings stay.
use Rattle.std.specs.Prelude.{◌||◌, ◌≡◌, ℕ, ◌<◌, ◌==◌, not, ◌&&◌, Bool, true, false, cond, List, [], ◌∷◌, ◌++◌, length, map, find, slice_get}
use Rattle.std.specs.Prelude.{Option, Some, None, option_map, option_and_then, Result, Ok, Err, if◌then◌else◌}
use Rattle.std.specs.List.{list_any}
use Rattle.std.specs.Option.{option_map_or}
use Rattle.std.specs.Bool.{beq}
use Rattle.std.proofs.Common.{refl, ap, subst, ◌∙◌}
use Rattle.std.proofs.lemmas.Option.{slice_get_within}
use Rattle.jl_pool.specs.declared.reference.Reference.{Reference}
use Rattle.jl_class.specs.Flags.{has_flag, PUBLIC}
use Rattle.jl_class.specs.declared.site.Kind.{Kind}
use Rattle.jl_class.specs.declared.site.Kind.TheVariants.{Virtual, Special, Static, Interface, Dynamic}
use Rattle.jl_class.specs.declared.site.Operand.{Operand}
use Rattle.jl_class.specs.declared.site.Operand.TheVariants as operand
use Rattle.jl_class.specs.Site.{Site}
use Rattle.jl_types.specs.declared.ids.MethodId.{MethodId}
use Rattle.jl_types.specs.declared.ids.Place.{Place}
use Rattle.jl_types.specs.declared.answer.ResolveAnswer.{ResolveAnswer}
use Rattle.jl_types.specs.declared.answer.ResolveAnswer.TheVariants as resolve
use Rattle.jl_types.specs.declared.answer.Throwable.TheVariants.{NoSuchMethodError, IllegalAccessError, IncompatibleClassChangeError}
use Rattle.jl_types.specs.declared.answer.Unlinked.TheVariants.{Gone}
use Rattle.jl_types.specs.declared.event.EventOf.TheVariants as event
use Rattle.jl_types.specs.declared.link.Link.{Link}
use Rattle.jl_types.specs.declared.link.Link.TheVariants.{Direct}
use Rattle.jl_types.specs.declared.link.TableKind.TheVariants as table
use Rattle.jl_types.specs.declared.target.CallSiteKind.{CallSiteKind}
use Rattle.jl_types.specs.Values.Target.{Target}
use Rattle.jl_types.specs.Values.World.{Class, Classes, CallSite, Sites, World, unreleased}
use Rattle.jl_types.specs.Values.Members.{is_retired, is_present, is_private, is_static, is_interface, share_package}
use Rattle.jl_types.specs.Values.Ancestry.{receivers}
use Rattle.jl_types.specs.Linkage.Access.{is_accessible_class}
use Rattle.jl_types.specs.Linkage.Resolution.{Resolved, resolved, resolved_at, naming, named_class, found, if_accessible}
use Rattle.jl_types.specs.Linkage.Selection.{is_init}
use Rattle.jl_types.specs.Linkage.Stages.{Selector, ByVirtual, ByInterface, BySpecial, ResolvedCall, Waits, Fails, Calls, Selects}
use Rattle.jl_types.specs.Linkage.Stages.{selecting, by_kind, by_resolution, by_method, by_binding, bound_to, invocation_at, by_operand, stage_of, stage_at}
use Rattle.jl_types.specs.Linkage.Targets.{evaluated, method_of}
use Rattle.jl_types.specs.Linkage.Links.{outcome_by, table_rows, table_or_mega, virtual_link, link_by, link_of, scratch}
use Rattle.jl_types.specs.Events.Verdict.{same_place, requested, step}
use Rattle.jl_types.proofs.Releasing.{unreleased_within}
use Rattle.jl_types.proofs.Accepting.{linked}
use Rattle.jl_types.proofs.Lists.{before_end, passes_within}
use Rattle.jl_resolve.specs.Constancy.{is_settled}
use Rattle.jl_select.specs.Constancy.{IsConstant}
use Rattle.jl_select.proofs.Constancy.{constant_itself}
use Rattle.jl_callsites.specs.Known.{RunAsBefore}
use Rattle.jl_callsites.proofs.Known.{site_runs}
use Rattle.jl_relink.specs.Laws.{LinksStay}
use Rattle.jl_relink.proofs.Loaders.{virtual_same, interface_same, loader_constant}

-- ---- what is there

pub present_there : (cs : Classes) (c : ℕ) → is_present cs c ≡ true → c < length cs.rows
present_there cs c = passes_within (λ (row : Class). not (is_retired cs row.loader)) cs.rows c

-- a class that is accessible is there
pub accessible_there : (cs : Classes) (d c : ℕ) → is_accessible_class cs d c ≡ true → c < length cs.rows
accessible_there cs d c = by_row (slice_get cs.rows c) refl
  where
    by_row : (o : Option Class) → slice_get cs.rows c ≡ o
        → (option_map_or (λ row. has_flag row.file.flags PUBLIC) o false
        || option_map_or (λ a. option_map_or (share_package a) (slice_get cs.rows d) false) o false) ≡ true
        → c < length cs.rows
    by_row None is e = cc
    by_row (Some row) is e = slice_get_within cs.rows c row is

abbrev named_or : Result Resolved ResolveAnswer → ℕ
named_or (Ok r) = r.named
named_or (Err answer) = 0

-- the class that a resolved reference names is there
pub named_there : (cs : Classes) (d : ℕ) (ref : Reference (List ℕ)) (r : Resolved) → resolved cs d ref ≡ Ok r → r.named < length cs.rows
named_there cs d ref r = by_class (named_class cs d ref)
  where
    same_named : (named : ℕ) (o : Result MethodId ResolveAnswer) → naming named o ≡ Ok r → named ≡ r.named
    same_named named (Ok m) e = ap named_or e
    same_named named (Err answer) e = cc

    by_access : (named : ℕ) (o : Result MethodId ResolveAnswer) (b : Bool) → is_accessible_class cs d named ≡ b
        → naming named (if not b then Err (resolve.Fault IllegalAccessError) else o) ≡ Ok r → r.named < length cs.rows
    by_access named o false is e = cc
    by_access named o true is e = subst (λ c. c < length cs.rows) (same_named named o e) (accessible_there cs d named is)

    by_class : (o : Option ℕ) → resolved_at cs d ref o ≡ Ok r → r.named < length cs.rows
    by_class None e = cc
    by_class (Some named) e =
        by_access named
        (if not (beq ref.itf (is_interface cs named)) then Err (resolve.Fault IncompatibleClassChangeError) else if_accessible cs d named (found cs ref named))
        (is_accessible_class cs d named) refl e

method_there : (sites : Sites) (c : ℕ) (m : MethodId) → method_of sites c ≡ Some m → c < length sites.call_sites
method_there sites c m = by_site (unreleased sites.call_sites c) refl
  where
    by_site : (o : Option CallSite) → unreleased sites.call_sites c ≡ o → option_and_then (λ site. evaluated sites c site.target) o ≡ Some m
        → c < length sites.call_sites
    by_site None is e = cc
    by_site (Some site) is e = unreleased_within sites.call_sites c site is

-- ---- invocations of methods

module _ (old : Classes) (loaders : List (List (List ℕ × ℕ))) (constant : IsConstant old (record old { loaders = loaders })) where
  abbrev new : Classes
  new = record old { loaders = loaders }

  module _ (i : ResolvedCall) (caller : i.caller < length old.rows) (there : i.named < length old.rows) where
    outcome_same : (selector : Selector) (x : ℕ) → outcome_by new i selector x ≡ outcome_by old i selector x
    outcome_same ByVirtual x = virtual_same old loaders x i.method
    outcome_same ByInterface x = interface_same old loaders x i.named i.method
    outcome_same BySpecial x = constant.outcomes.special i.caller i.named i.ref caller there

    rows_same : table_rows new i ≡ table_rows old i
    rows_same = λ j. map (λ x. (x, outcome_same i.selector x j)) (receivers old i.named)

    link_same : (selector : Selector) → link_by new i selector ≡ link_by old i selector
    link_same ByVirtual = λ j. if is_private old i.method then Direct (virtual_same old loaders i.named i.method j) else virtual_link (rows_same j)
    link_same ByInterface = ap (table_or_mega table.Interface) rows_same
    link_same BySpecial = ap Direct (constant.outcomes.special i.caller i.named i.ref caller there)

  module _ (d : ℕ) (ref : Reference (List ℕ)) (caller : d < length old.rows) (present : is_present old d ≡ true) where
    module _ (r : Resolved) (there : r.named < length old.rows) where
      abbrev invoking : Selector → ResolvedCall
      invoking selector = record { selector = selector; caller = d; named = r.named; ref = ref; method = r.method }

      selecting_same : (selector : Selector) → link_of new (selecting new selector d ref r) ≡ link_of old (selecting old selector d ref r)
      selecting_same selector = by_test (is_static old r.method)
        where
          by_test : (b : Bool) → link_of new (if b then Fails IncompatibleClassChangeError else Selects (invoking selector))
              ≡ link_of old (if b then Fails IncompatibleClassChangeError else Selects (invoking selector))
          by_test true = refl
          by_test false = ap linked (link_same (invoking selector) caller there selector)

      kind_same : (kind : Kind) → link_of new (by_kind new kind d ref r) ≡ link_of old (by_kind old kind d ref r)
      kind_same Static = by_test (is_static old r.method)
        where
          by_test : (b : Bool) → link_of new (if b then Calls r.method else Fails IncompatibleClassChangeError)
              ≡ link_of old (if b then Calls r.method else Fails IncompatibleClassChangeError)
          by_test true = refl
          by_test false = refl
      kind_same Virtual = selecting_same ByVirtual
      kind_same Interface = selecting_same ByInterface
      kind_same Special = by_test (is_init ref.name && not (r.method.class == r.named))
        where
          by_test : (b : Bool) → link_of new (if b then Fails NoSuchMethodError else selecting new BySpecial d ref r)
              ≡ link_of old (if b then Fails NoSuchMethodError else selecting old BySpecial d ref r)
          by_test true = refl
          by_test false = selecting_same BySpecial
      kind_same Dynamic = refl

    resolution_stays : (r : Result Resolved ResolveAnswer) → resolved old d ref ≡ r → is_settled r ≡ true → resolved new d ref ≡ r
    resolution_stays r is settled = constant.resolved.resolved d ref present (ap is_settled is ∙ settled) ∙ is

    method_stays : (kind : Kind) (l : Link) → link_of old (by_resolution old kind d ref (resolved old d ref)) ≡ Ok l
        → link_of new (by_resolution new kind d ref (resolved new d ref)) ≡ Ok l
    method_stays kind l = by_answer (resolved old d ref) refl
      where
        by_answer : (r : Result Resolved ResolveAnswer) → resolved old d ref ≡ r → link_of old (by_resolution old kind d ref r) ≡ Ok l
            → link_of new (by_resolution new kind d ref (resolved new d ref)) ≡ Ok l
        by_answer (Err (resolve.NotReady missing)) is e = cc
        by_answer (Err (resolve.Fault throwable)) is e =
            ap (λ (r : Result Resolved ResolveAnswer). link_of new (by_resolution new kind d ref r)) (resolution_stays (Err (resolve.Fault throwable)) is refl)
            ∙ e
        by_answer (Ok r) is e =
            ap (λ (r : Result Resolved ResolveAnswer). link_of new (by_resolution new kind d ref r)) (resolution_stays (Ok r) is refl)
            ∙ kind_same r (named_there old d ref r is) kind
            ∙ e

-- ---- sites

module _ (w : World) (loaders : List (List (List ℕ × ℕ))) (places : List Place) (bindings : List (ℕ × ℕ)) (sites : Sites) where
  abbrev after : World
  after = record { classes = record w.classes { loaders = loaders }; places = places; bindings = bindings; sites = sites }

  module _ (constant : IsConstant w.classes after.classes) (runs : RunAsBefore w.sites sites)
      (place_stays : (s : ℕ) (place : Place) → slice_get w.places s ≡ Some place → slice_get places s ≡ Some place)
      (binding_stays : (s c : ℕ) → bound_to w s ≡ Some c → bound_to after s ≡ Some c) (s : ℕ) (l : Link) where
    call_site_stays : link_of w.classes (by_binding w.sites (bound_to w s)) ≡ Ok l → link_of after.classes (by_binding sites (bound_to after s)) ≡ Ok l
    call_site_stays h = with_binding (bound_to w s) refl h
      where
        by_run : (c : ℕ) → bound_to w s ≡ Some c → (o : Option MethodId) → method_of w.sites c ≡ o → link_of w.classes (by_method o) ≡ Ok l
            → link_of after.classes (by_binding sites (bound_to after s)) ≡ Ok l
        by_run c is None run e = cc
        by_run c is (Some m) run e =
            ap (link_of after.classes)
            (ap (by_binding sites) (binding_stays s c is)
            ∙ ap by_method (runs.same c (method_there w.sites c m run) ∙ run))
            ∙ e

        with_binding : (o : Option ℕ) → bound_to w s ≡ o → link_of w.classes (by_binding w.sites o) ≡ Ok l
            → link_of after.classes (by_binding sites (bound_to after s)) ≡ Ok l
        with_binding None is e = cc
        with_binding (Some c) is e = by_run c is (method_of w.sites c) refl e

    module _ (d : ℕ) (there : d < length w.classes.rows) (present : is_present w.classes d ≡ true) where
      operand_stays : (kind : Kind) (o : Operand (List ℕ)) → link_of w.classes (by_operand w s d kind o) ≡ Ok l
          → link_of after.classes (by_operand after s d kind o) ≡ Ok l
      operand_stays kind (operand.Method ref) e = method_stays w.classes loaders constant d ref there present kind l e
      operand_stays kind (operand.CallSite specifier) e = call_site_stays e

      invocation_stays : (o : Option Site) → link_of w.classes (stage_of w s d o) ≡ Ok l → link_of after.classes (stage_of after s d o) ≡ Ok l
      invocation_stays None e = cc
      invocation_stays (Some site) e = operand_stays site.kind site.operand e

    at_place : (place : Place) → link_of w.classes (stage_at w s (Some place)) ≡ Ok l → link_of after.classes (stage_at after s (Some place)) ≡ Ok l
    at_place place = by_class (is_present w.classes place.class) refl
      where
        by_class : (b : Bool) → is_present w.classes place.class ≡ b
            → link_of w.classes (if b then stage_of w s place.class (invocation_at w.classes place) else Waits Gone) ≡ Ok l
            → link_of after.classes (if b then stage_of after s place.class (invocation_at w.classes place) else Waits Gone) ≡ Ok l
        by_class false is e = cc
        by_class true is e = invocation_stays place.class (present_there w.classes place.class is) is (invocation_at w.classes place) e

    pub link_stays : scratch w s ≡ Ok l → scratch after s ≡ Ok l
    link_stays = by_place (slice_get w.places s) refl
      where
        by_place : (o : Option Place) → slice_get w.places s ≡ o → link_of w.classes (stage_at w s o) ≡ Ok l → scratch after s ≡ Ok l
        by_place None is e = cc
        by_place (Some place) is e =
            ap (λ (o : Option Place). link_of after.classes (stage_at after s o)) (place_stays s place is) ∙ at_place place e

-- ---- events

runs_itself : (sites : Sites) → RunAsBefore sites sites
runs_itself sites = record { same = λ c lt. refl }

-- what a site is bound to stays where a binding is added
pub bound_before : (bindings : List (ℕ × ℕ)) (binding : ℕ × ℕ) (s c : ℕ) → option_map (λ b. b.1) (find (λ b. b.0 == s) bindings) ≡ Some c
    → option_map (λ b. b.1) (find (λ b. b.0 == s) (bindings ++ binding ∷ [])) ≡ Some c
bound_before [] binding s c e = cc
bound_before (first ∷ bindings) binding s c e = by_test (first.0 == s) (bound_before bindings binding s c) e
  where
    by_test : (b : Bool)
        → (option_map (λ b. b.1) (find (λ b. b.0 == s) bindings) ≡ Some c → option_map (λ b. b.1) (find (λ b. b.0 == s) (bindings ++ binding ∷ [])) ≡ Some c)
        → option_map (λ b. b.1) (cond b (Some first) (find (λ b. b.0 == s) bindings)) ≡ Some c
        → option_map (λ b. b.1) (cond b (Some first) (find (λ b. b.0 == s) (bindings ++ binding ∷ []))) ≡ Some c
    by_test true rest e = e
    by_test false rest e = rest e

pub requested_stays : (places : List Place) (place : Place) (s : ℕ) (p : Place) → slice_get places s ≡ Some p → slice_get (requested places place) s ≡ Some p
requested_stays places place s p e = by_test (list_any (same_place place) places)
  where
    by_test : (b : Bool) → slice_get (if b then places else places ++ place ∷ []) s ≡ Some p
    by_test true = e
    by_test false = before_end places place s (slice_get_within places s p e) ∙ e

-- other records of loaders
with_loaders : (w : World) (loaders : List (List (List ℕ × ℕ))) → IsConstant w.classes (record w.classes { loaders = loaders })
    → (s : ℕ) (l : Link) → scratch w s ≡ Ok l → scratch (record w { classes = record w.classes { loaders = loaders } }) s ≡ Ok l
with_loaders w loaders constant =
    link_stays w loaders w.places w.bindings w.sites constant (runs_itself w.sites) (λ s place e. e) (λ s c e. e)

-- other call sites and switch points
with_sites : (w : World) (sites : Sites) → RunAsBefore w.sites sites → (s : ℕ) (l : Link) → scratch w s ≡ Ok l → scratch (record w { sites = sites }) s ≡ Ok l
with_sites w sites runs =
    link_stays w w.classes.loaders w.places w.bindings sites (constant_itself w.classes) runs (λ s place e. e) (λ s c e. e)

pub new_loader_keeps : (w : World) → LinksStay w event.NewLoader
new_loader_keeps w = record { stays = with_loaders w (w.classes.loaders ++ [] ∷ []) (loader_constant w.classes) }

pub delegate_keeps : (w : World) (loader : ℕ) (name : List ℕ) (to : ℕ) → IsConstant w.classes (step w (event.Delegate loader name to)).classes
    → LinksStay w (event.Delegate loader name to)
delegate_keeps w loader name to constant = record { stays = with_loaders w (step w (event.Delegate loader name to)).classes.loaders constant }

pub request_keeps : (w : World) (place : Place) → LinksStay w (event.Request place)
request_keeps w place = record {
  stays =
      link_stays w w.classes.loaders (requested w.places place) w.bindings w.sites (constant_itself w.classes) (runs_itself w.sites)
      (requested_stays w.places place) (λ s c e. e);
}

pub new_call_site_keeps : (w : World) (kind : CallSiteKind) (ty : List ℕ) (t : Target) → LinksStay w (event.NewCallSite kind ty t)
new_call_site_keeps w kind ty t = record { stays = with_sites w (step w (event.NewCallSite kind ty t)).sites (site_runs w.sites kind ty t) }

pub new_switch_keeps : (w : World) → RunAsBefore w.sites (step w event.NewSwitch).sites → LinksStay w event.NewSwitch
new_switch_keeps w runs = record { stays = with_sites w (step w event.NewSwitch).sites runs }

pub bind_keeps : (w : World) (s c : ℕ) → LinksStay w (event.Bind s c)
bind_keeps w s c = record {
  stays =
      link_stays w w.classes.loaders w.places (w.bindings ++ (s, c) ∷ []) w.sites (constant_itself w.classes) (runs_itself w.sites)
      (λ n place e. e) (bound_before w.bindings (s, c));
}

pub install_keeps : (w : World) (rows : List (ℕ × Link)) → LinksStay w (event.Install rows)
install_keeps w rows = record { stays = λ s l e. e }
