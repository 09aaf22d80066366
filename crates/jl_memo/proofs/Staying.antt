-- A site that selects by its receiver goes on doing so while its class is present, by the same invocation, and what it comes to for a
-- class that is present stays, whatever events come after which what is present rests on what is present.
use Rattle.std.specs.Prelude.{◌≡◌, ℕ, ◌==◌, not, ◌&&◌, ◌||◌, Bool, true, false, List, [], ◌∷◌, ◌++◌, slice_get, Option, Some, None}
use Rattle.std.specs.Prelude.{option_and_then, if◌then◌else◌}
use Rattle.std.specs.Option.{option_map_or}
use Rattle.std.proofs.Common.{refl, ap, sym, subst, ◌∙◌}
use Rattle.std.proofs.lemmas.Bool.{or_left, and_parts, both_ways}
use Rattle.std.proofs.lemmas.Cmp.{nat_eq_equiv}
use Rattle.std.proofs.lemmas.Option.{same_Some, slice_get_within}
use Rattle.jl_class.specs.declared.site.Kind.{Kind}
use Rattle.jl_class.specs.declared.site.Operand.{Operand}
use Rattle.jl_class.specs.declared.site.Operand.TheVariants as operand
use Rattle.jl_class.specs.Site.{Site}
use Rattle.jl_types.specs.declared.ids.MethodId.{MethodId}
use Rattle.jl_types.specs.declared.ids.Place.{Place}
use Rattle.jl_types.specs.declared.answer.Recv.TheVariants.{Of}
use Rattle.jl_types.specs.declared.answer.Answer.TheVariants as answer
use Rattle.jl_types.specs.declared.answer.Unlinked.TheVariants.{Gone}
use Rattle.jl_types.specs.declared.event.EventOf.TheVariants as event
use Rattle.jl_types.specs.declared.key.Key.TheVariants as key
use Rattle.jl_types.specs.Values.World.{World, Class, Classes}
use Rattle.jl_types.specs.Values.Members.{class_test, is_retired, is_present, is_concrete, is_concrete_row, is_private}
use Rattle.jl_types.specs.Linkage.Access.{nest_host, host_by}
use Rattle.jl_types.specs.Linkage.Stages.{Selector, ByVirtual, ByInterface, BySpecial, ResolvedCall, Stage, Waits, Fails, Calls, Selects}
use Rattle.jl_types.specs.Linkage.Stages.{stage, stage_at, stage_of, by_operand, by_method, by_binding, bound_to, invocation_at}
use Rattle.jl_types.specs.Linkage.Targets.{method_of}
use Rattle.jl_types.specs.Linkage.Calls.{answered, fits_named, answer_of, dispatch}
use Rattle.jl_types.specs.Events.Event.{Event}
use Rattle.jl_types.specs.Events.Retirement.{is_listed, retired}
use Rattle.jl_types.specs.Events.Verdict.{step}
use Rattle.jl_types.specs.Events.History.{world_after}
use Rattle.jl_types.specs.Events.Footprints.{has_key, of_selector, of_stage, of_operand, of_invocation, of_place, footprint}
use Rattle.jl_types.proofs.Lists.{element_at}
use Rattle.jl_types.proofs.Orders.{IsGood, world_good}
use Rattle.jl_types.proofs.Places.{world_more}
use Rattle.jl_types.proofs.Retiring.{retired_after}
use Rattle.jl_hierarchy.specs.Constancy.{AreInOrder, IsClosed, Stays}
use Rattle.jl_resolve.proofs.Later.{step_stays}
use Rattle.jl_resolve.proofs.Unchanged.{IsThere, row_stays, ancestor_stays}
use Rattle.jl_select.proofs.Constancy.{constant}
use Rattle.jl_relink.proofs.Staying.{bound_before, requested_stays}
use Rattle.jl_relink.proofs.Untouched.{IsLater, AreThere, IsStageThere, waits, site_stays, outcome_same}
use Rattle.jl_relink.proofs.WayKeys.{rests_on_target}
use Rattle.jl_memo.specs.Answers.{selects}

-- ---- what stays from world to world

-- a class stays, with what it has, and a loader that is retired stays so
pub record StaysOn (w after : World) : Type 0 where
  pub classes : Stays w.classes after.classes
  pub alive : (loader : ℕ) → is_retired after.classes loader ≡ false → is_retired w.classes loader ≡ false
  pub places : (s : ℕ) (place : Place) → slice_get w.places s ≡ Some place → slice_get after.places s ≡ Some place
  pub bindings : (s c : ℕ) → bound_to w s ≡ Some c → bound_to after s ≡ Some c

not_retired : (b : Bool) → not b ≡ true → b ≡ false
not_retired true e = cc
not_retired false e = refl

module _ (old new : Classes) (stays : Stays old new) where
  pub still_there : (x : ℕ) → IsThere old x → IsThere new x
  still_there x there = let row = element_at old.rows x there in slice_get_within new.rows x row.0 (stays.rows x row.0 row.1)

  -- a class that was there and is present afterwards was present
  pub present_before : ((loader : ℕ) → is_retired new loader ≡ false → is_retired old loader ≡ false) → (x : ℕ) → IsThere old x
      → is_present new x ≡ true → is_present old x ≡ true
  present_before alive x there present =
      let row = element_at old.rows x there in
      let live : not (is_retired new row.0.loader) ≡ true =
      sym (ap (λ (o : Option Class). option_map_or (λ r. not (is_retired new r.loader)) o false) (stays.rows x row.0 row.1)) ∙ present in
      ap (λ (o : Option Class). option_map_or (λ r. not (is_retired old r.loader)) o false) row.1
      ∙ ap not (alive row.0.loader (not_retired (is_retired new row.0.loader) live))

  -- one whose nest host is known is there
  host_there : (x host : ℕ) → nest_host old x ≡ Some host → IsThere old x
  host_there x host = by_row (slice_get old.rows x) refl
    where
      by_row : (o : Option Class) → slice_get old.rows x ≡ o → option_and_then (λ row. host_by old x row row.file.nest_host) o ≡ Some host → IsThere old x
      by_row None is e = cc
      by_row (Some row) is e = slice_get_within old.rows x row is

classes_on : (a b c : Classes) → Stays a b → Stays b c → ((loader : ℕ) → is_retired c loader ≡ false → is_retired b loader ≡ false) → Stays a c
classes_on a b c first second alive = record {
  rows = λ x row e. second.rows x row (first.rows x row e);
  records = λ loader name x live e. second.records loader name x live (first.records loader name x (alive loader live) e);
  ancestors = λ x there. second.ancestors x (still_there a b first x there) ∙ first.ancestors x there;
  hosts = λ x host present e.
      second.hosts x host present
      (first.hosts x host (present_before b c second alive x (still_there a b first x (host_there a b first x host e)) present) e);
}

places_stay : (w : World) (e : Event) (s : ℕ) (place : Place) → slice_get w.places s ≡ Some place → slice_get (step w e).places s ≡ Some place
places_stay w event.NewLoader s place is = is
places_stay w (event.Define loader file) s place is = is
places_stay w (event.Delegate loader name to) s place is = is
places_stay w (event.Request more) s place is = requested_stays w.places more s place is
places_stay w (event.NewCallSite kind ty t) s place is = is
places_stay w (event.SetTarget c t) s place is = is
places_stay w event.NewSwitch s place is = is
places_stay w (event.Invalidate points) s place is = is
places_stay w (event.Bind n c) s place is = is
places_stay w (event.Install rows) s place is = is
places_stay w (event.Retire loader) s place is = is
places_stay w (event.RetireAll loaders) s place is = is
places_stay w (event.Release call_sites points) s place is = is

bindings_stay : (w : World) (e : Event) (s c : ℕ) → bound_to w s ≡ Some c → bound_to (step w e) s ≡ Some c
bindings_stay w event.NewLoader s c is = is
bindings_stay w (event.Define loader file) s c is = is
bindings_stay w (event.Delegate loader name to) s c is = is
bindings_stay w (event.Request more) s c is = is
bindings_stay w (event.NewCallSite kind ty t) s c is = is
bindings_stay w (event.SetTarget d t) s c is = is
bindings_stay w event.NewSwitch s c is = is
bindings_stay w (event.Invalidate points) s c is = is
bindings_stay w (event.Bind n d) s c is = bound_before w.bindings (n, d) s c is
bindings_stay w (event.Install rows) s c is = is
bindings_stay w (event.Retire loader) s c is = is
bindings_stay w (event.RetireAll loaders) s c is = is
bindings_stay w (event.Release call_sites points) s c is = is

not_gone : (w : World) (loaders : List ℕ) (loader : ℕ) → is_retired (retired w.classes loaders) loader ≡ false → is_retired w.classes loader ≡ false
not_gone w loaders loader is = first (is_retired w.classes loader) (is_listed loaders loader) (sym (retired_after w.classes loaders loader) ∙ is)
  where
    first : (a b : Bool) → (a || b) ≡ false → a ≡ false
    first true b e = cc
    first false b e = refl

alive_before : (w : World) (e : Event) (loader : ℕ) → is_retired (step w e).classes loader ≡ false → is_retired w.classes loader ≡ false
alive_before w event.NewLoader loader is = is
alive_before w (event.Define l file) loader is = is
alive_before w (event.Delegate l name to) loader is = is
alive_before w (event.Request place) loader is = is
alive_before w (event.NewCallSite kind ty t) loader is = is
alive_before w (event.SetTarget c t) loader is = is
alive_before w event.NewSwitch loader is = is
alive_before w (event.Invalidate points) loader is = is
alive_before w (event.Bind s c) loader is = is
alive_before w (event.Install rows) loader is = is
alive_before w (event.Retire l) loader is = not_gone w (l ∷ []) loader is
alive_before w (event.RetireAll loaders) loader is = not_gone w loaders loader is
alive_before w (event.Release call_sites points) loader is = is

itself : (w : World) → StaysOn w w
itself w = record {
  classes = record { rows = λ x row e. e; records = λ loader name x live e. e; ancestors = λ x there. refl; hosts = λ x host present e. e };
  alive = λ loader e. e;
  places = λ s place e. e;
  bindings = λ s c e. e;
}

one_event : (w : World) → IsGood w.classes → (e : Event) → StaysOn w (step w e)
one_event w good e = record {
  classes = step_stays w good e;
  alive = alive_before w e;
  places = places_stay w e;
  bindings = bindings_stay w e;
}

both : (a b c : World) → StaysOn a b → StaysOn b c → StaysOn a c
both a b c first second = record {
  classes = classes_on a.classes b.classes c.classes first.classes second.classes second.alive;
  alive = λ loader e. first.alive loader (second.alive loader e);
  places = λ s place e. second.places s place (first.places s place e);
  bindings = λ s d e. second.bindings s d (first.bindings s d e);
}

appended : (h : List Event) (e : Event) (more : List Event) → (h ++ e ∷ []) ++ more ≡ h ++ e ∷ more
appended [] e more = refl
appended (f ∷ h) e more = ap (λ (k : List Event). f ∷ k) (appended h e more)

pub all_events : (more h : List Event) → StaysOn (world_after h) (world_after (h ++ more))
all_events [] h = subst (λ (k : List Event). StaysOn (world_after h) (world_after k)) (nothing_after h) (itself (world_after h))
  where
    nothing_after : (k : List Event) → k ≡ k ++ []
    nothing_after [] = refl
    nothing_after (f ∷ k) = ap (λ (ks : List Event). f ∷ ks) (nothing_after k)
all_events (e ∷ more) h =
    let next : StaysOn (world_after h) (world_after (h ++ e ∷ [])) =
    subst (λ (w : World). StaysOn (world_after h) w) (sym (world_more h e)) (one_event (world_after h) (world_good h) e) in
    subst (λ (k : List Event). StaysOn (world_after h) (world_after k)) (appended h e more)
    (both (world_after h) (world_after (h ++ e ∷ [])) (world_after ((h ++ e ∷ []) ++ more)) next (all_events more (h ++ e ∷ [])))

-- ---- a site that selects by its receiver rests on no call site

no_target_of : (cs : Classes) (i : ResolvedCall) (selector : Selector) (c : ℕ) → has_key (of_selector cs i selector) (key.Target c) ≡ false
no_target_of cs i ByVirtual c = by_private (is_private cs i.method)
  where
    by_private : (b : Bool) → has_key (if b then [] else key.Receivers i.named ∷ []) (key.Target c) ≡ false
    by_private true = refl
    by_private false = refl
no_target_of cs i ByInterface c = refl
no_target_of cs i BySpecial c = refl

no_target_in : (cs : Classes) (t : Stage) (c : ℕ) → has_key (of_stage cs t) (key.Target c) ≡ false
no_target_in cs (Waits reason) c = refl
no_target_in cs (Fails throwable) c = refl
no_target_in cs (Calls m) c = refl
no_target_in cs (Selects i) c = no_target_of cs i i.selector c

module _ (w : World) (s c : ℕ) where
  no_method : (o : Option MethodId) → selects (by_method o) ≡ true → ⊥
  no_method None e = cc
  no_method (Some m) e = cc

  no_call_site : (o : Option ℕ) → selects (by_binding w.sites o) ≡ true → ⊥
  no_call_site None e = cc
  no_call_site (Some d) e = no_method (method_of w.sites d) e

  no_target_operand : (d : ℕ) (kind : Kind) (o : Operand (List ℕ)) → selects (by_operand w s d kind o) ≡ true
      → has_key (of_operand w s d kind o) (key.Target c) ≡ false
  no_target_operand d kind (operand.Method ref) e = no_target_in w.classes (by_operand w s d kind (operand.Method ref)) c
  no_target_operand d kind (operand.CallSite specifier) e = absurd (no_call_site (bound_to w s) e)

  no_target_invocation : (d : ℕ) (o : Option Site) → selects (stage_of w s d o) ≡ true → has_key (of_invocation w s d o) (key.Target c) ≡ false
  no_target_invocation d None e = cc
  no_target_invocation d (Some site) e = no_target_operand d site.kind site.operand e

  no_target_place : (o : Option Place) → selects (stage_at w s o) ≡ true → has_key (of_place w s o) (key.Target c) ≡ false
  no_target_place None e = cc
  no_target_place (Some place) e = by_present (is_present w.classes place.class) e
    where
      by_present : (b : Bool) → selects (if b then stage_of w s place.class (invocation_at w.classes place) else Waits Gone) ≡ true
          → has_key (if b then of_invocation w s place.class (invocation_at w.classes place) else []) (key.Target c) ≡ false
      by_present true e = no_target_invocation place.class (invocation_at w.classes place) e
      by_present false e = cc

  no_target : selects (stage w s) ≡ true → has_key (footprint w s) (key.Target c) ≡ false
  no_target e = no_target_place (slice_get w.places s) e

-- ---- a site that selects by its receiver

-- the one that it selects by
pub selecting : (t : Stage) → selects t ≡ true → (i : ResolvedCall) × (t ≡ Selects i)
selecting (Waits reason) e = cc
selecting (Fails throwable) e = cc
selecting (Calls m) e = cc
selecting (Selects i) e = (i, refl)

module _ (h more : List Event) (s : ℕ) (place : Place) (at : slice_get (world_after h).places s ≡ Some place) (order : AreInOrder (world_after h).classes)
    (closed : IsClosed (world_after (h ++ more)).classes) (present : is_present (world_after (h ++ more)).classes place.class ≡ true)
    (selecting_it : selects (stage (world_after h) s) ≡ true) where
  abbrev w : World
  w = world_after h

  abbrev after : World
  after = world_after (h ++ more)

  on : StaysOn w after
  on = all_events more h

  later : IsLater w after s
  later = record {
    good = world_good h;
    stays = on.classes;
    constant = constant w.classes after.classes order on.classes (world_good (h ++ more)).ordered closed;
    places = on.places s;
    present = λ other is live. ap (λ (p : Place). is_present after.classes p.class) (sym (same_Some place other (sym at ∙ is))) ∙ present;
    bindings = on.bindings s;
    runs = λ c listed m run.
        absurd (both_ways (has_key (footprint w s) (key.Target c)) (no_target w s c selecting_it)
        (listed (key.Target c) (rests_on_target w.sites c c (or_left (c == c) _ (nat_eq_equiv.refl c)))));
  }

  -- it is this invocation before and after
  module _ (i : ResolvedCall) (is : stage w s ≡ Selects i) where
    settled : waits (stage w s) ≡ false
    settled = ap waits is

    pub stage_stays : stage after s ≡ Selects i
    stage_stays = (site_stays w after s later).same settled ∙ is

    there : AreThere w.classes i
    there = subst (λ (t : Stage). IsStageThere w.classes t) is (site_stays w after s later).there

    -- the answer for a class that is present
    module _ (x : ℕ) (class : IsThere w.classes x) (before : is_concrete w.classes x ≡ true) (concrete : is_concrete after.classes x ≡ true) where
      fits_stays : (selector : Selector) → fits_named after.classes i selector x ≡ fits_named w.classes i selector x
      fits_stays ByVirtual = ancestor_stays w.classes after.classes on.classes (world_good h) i.named x class
      fits_stays ByInterface = refl
      fits_stays BySpecial = refl

      answer_stays : answer_of after.classes (Selects i) (Of x) ≡ answer_of w.classes (Selects i) (Of x)
      answer_stays =
          λ k. if (concrete ∙ sym before) k && fits_stays i.selector k then answered (outcome_same w after s later i there i.selector x class k)
          else answer.BadReceiver

      pub dispatch_stays : dispatch after s (Of x) ≡ dispatch w s (Of x)
      dispatch_stays =
          ap (λ (t : Stage). answer_of after.classes t (Of x)) stage_stays
          ∙ answer_stays
          ∙ sym (ap (λ (t : Stage). answer_of w.classes t (Of x)) is)

  pub selects_stays : selects (stage after s) ≡ true
  selects_stays = let i = selecting (stage w s) selecting_it in ap selects (stage_stays i.0 i.1)

  pub call_stays : (x : ℕ) → IsThere w.classes x → is_concrete w.classes x ≡ true → is_concrete after.classes x ≡ true
      → dispatch after s (Of x) ≡ dispatch w s (Of x)
  call_stays x class before concrete = let i = selecting (stage w s) selecting_it in dispatch_stays i.0 i.1 x class before concrete

-- a class that was there and objects may be of afterwards is one that objects could be of
pub concrete_before : (h more : List Event) (x : ℕ) → IsThere (world_after h).classes x → is_concrete (world_after (h ++ more)).classes x ≡ true
    → is_concrete (world_after h).classes x ≡ true
concrete_before h more x there concrete =
    let w = world_after h in
    let after = world_after (h ++ more) in
    let on : StaysOn w after = all_events more h in
    let parts = and_parts (is_present after.classes x) (class_test is_concrete_row after.classes x) concrete in
    let before = present_before w.classes after.classes on.classes on.alive x there parts.0 in
    let same = ap (λ (o : Option Class). option_map_or is_concrete_row o false) (row_stays w.classes after.classes on.classes (world_good h) x there) in
    λ k. before k && (sym same ∙ parts.1) k
