-- What a site that isn't gone comes to is under new numbers what it came to.
use Rattle.std.specs.Prelude.{◌≡◌, ◌==◌, ◌&&◌, ℕ, zero, suc, Bool, true, false, not, ⊤, List, [], ◌∷◌, find, slice_get}
use Rattle.std.specs.Prelude.{Option, Some, None, option_map, option_and_then, Result, Ok, Err, if◌then◌else◌}
use Rattle.std.specs.Option.{option_map_or}
use Rattle.std.proofs.Common.{refl, sym, ap, subst, ◌∙◌}
use Rattle.std.proofs.lemmas.Bool.{not-true}
use Rattle.std.proofs.lemmas.Bool.Decides.{Decides-eqb}
use Rattle.std.proofs.lemmas.Option.{same_Some}
use Rattle.jl_pool.specs.declared.reference.Reference.{Reference}
use Rattle.jl_class.specs.declared.site.Kind.{Kind}
use Rattle.jl_class.specs.declared.site.Kind.TheVariants.{Virtual, Special, Static, Interface, Dynamic}
use Rattle.jl_class.specs.declared.site.Operand.{Operand}
use Rattle.jl_class.specs.declared.site.Operand.TheVariants as operand
use Rattle.jl_class.specs.Site.{Site}
use Rattle.jl_types.specs.declared.ids.MethodId.{MethodId}
use Rattle.jl_types.specs.declared.ids.Place.{Place}
use Rattle.jl_types.specs.declared.answer.Throwable.TheVariants.{NoSuchMethodError, IncompatibleClassChangeError}
use Rattle.jl_types.specs.declared.answer.ResolveAnswer.{ResolveAnswer}
use Rattle.jl_types.specs.declared.answer.ResolveAnswer.TheVariants as resolve
use Rattle.jl_types.specs.declared.answer.Unlinked.{Unlinked}
use Rattle.jl_types.specs.declared.answer.Unlinked.TheVariants.{Gone, Unbound}
use Rattle.jl_types.specs.Values.World.{World, Classes, CallSite, is_missing}
use Rattle.jl_types.specs.Values.Members.{is_present, is_static}
use Rattle.jl_types.specs.Linkage.Resolution.{Resolved, resolved}
use Rattle.jl_types.specs.Linkage.Selection.{is_init}
use Rattle.jl_types.specs.Linkage.Targets.{evaluated, method_of}
use Rattle.jl_types.specs.Linkage.Stages.{Selector, ByVirtual, ByInterface, BySpecial, ResolvedCall, Stage, Waits, Fails, Calls, Selects}
use Rattle.jl_types.specs.Linkage.Stages.{selecting, by_kind, by_resolution, by_method, by_binding, invocation_at, by_operand, bound_to, stage_of}
use Rattle.jl_types.specs.Linkage.Stages.{stage_at, stage}
use Rattle.jl_types.proofs.Bools.{first_test, second_test}
use Rattle.jl_renewal.specs.Numbers.{Numbers, renumbered}
use Rattle.jl_renewal.specs.Staying.{is_in_staying_class, has_lost_call_site, is_alive}
use Rattle.jl_renewal.specs.Renewed.{renumbered_place, renumbered_binding, renumbered_method}
use Rattle.jl_renewal.proofs.AlikeSites.{SitesAlike}
use Rattle.jl_renewal.proofs.ReleasedRows.{missing_row}
use Rattle.jl_renewal.proofs.Fit.{IsFit}
use Rattle.jl_renewal.proofs.Alike.{AreAlike}
use Rattle.jl_renewal.proofs.AccessLaws.{static_same}
use Rattle.jl_renewal.proofs.ResolutionLaws.{renumbered_resolved, resolved_same, resolved_present}
use Rattle.jl_renewal.proofs.CallSiteLaws.{method_same, method_present}

-- the call under new numbers
abbrev pub renumbered_call : Numbers → ResolvedCall → ResolvedCall
renumbered_call n i = record i {
  caller = renumbered n.classes i.caller;
  named = renumbered n.classes i.named;
  method = renumbered_method n i.method;
}

-- the stage under new numbers
abbrev pub renumbered_stage : Numbers → Stage → Stage
renumbered_stage n (Waits reason) = Waits reason
renumbered_stage n (Fails throwable) = Fails throwable
renumbered_stage n (Calls m) = Calls (renumbered_method n m)
renumbered_stage n (Selects i) = Selects (renumbered_call n i)

-- the classes that the call names are present
pub record IsCallThere (cs : Classes) (i : ResolvedCall) : Type 0 where
  pub caller : is_present cs i.caller ≡ true
  pub named : is_present cs i.named ≡ true
  pub method : is_present cs i.method.class ≡ true

-- so are those that a site names by what it comes to
abbrev pub IsStageThere : Classes → Stage → Type 0
IsStageThere cs (Waits reason) = ⊤
IsStageThere cs (Fails throwable) = ⊤
IsStageThere cs (Calls m) = is_present cs m.class ≡ true
IsStageThere cs (Selects i) = IsCallThere cs i

-- what is found is among the elements, and passes
pub record IsFound {A : Type 0} (p : A → Bool) (xs : List A) (x : A) : Type 0 where
  pub place : ℕ
  pub at : slice_get xs place ≡ Some x
  pub passes : p x ≡ true

pub is_found : {A : Type 0} (p : A → Bool) (xs : List A) (x : A) → find p xs ≡ Some x → IsFound p xs x
is_found p [] x e = cc
is_found {A = A} p (y ∷ xs) x e = by_test (p y) refl e (is_found p xs x)
  where
    by_test : (b : Bool) → p y ≡ b → (if b then Some y else find p xs) ≡ Some x → (find p xs ≡ Some x → IsFound p xs x) → IsFound p (y ∷ xs) x
    by_test true is e rest = record { place = zero; at = e; passes = subst (λ (z : A). p z ≡ true) (same_Some y x e) is }
    by_test false is e rest = let r = rest e in record { place = suc r.place; at = r.at; passes = r.passes }

-- the site has no link
abbrev pub Waiting : Stage → Type 0
Waiting t = (reason : Unlinked) × (t ≡ Waits reason)

-- in the old world, too
module _ (w : World) (fit : IsFit w) (s : ℕ) where
  pub lost_is_gone : is_in_staying_class w s ≡ true → has_lost_call_site w s ≡ true → stage w s ≡ Waits Gone
  lost_is_gone kept lost = by_found (find (λ b. b.0 == s) w.bindings) refl lost
    where
      by_found : (o : Option (ℕ × ℕ)) → find (λ b. b.0 == s) w.bindings ≡ o
          → option_map_or (is_missing w.sites.call_sites) (option_map (λ b. b.1) o) false ≡ true → stage w s ≡ Waits Gone
      by_found None is e = cc
      by_found (Some b) is e =
          let at = is_found (λ b. b.0 == s) w.bindings b is in
          let bound = fit.bindings at.place b at.at in
          let place = ap (slice_get w.places) (sym ((Decides-eqb b.0 s).0 at.passes)) ∙ bound.requested in
          let there = sym (ap (λ (o : Option Place). option_map_or (λ place. is_present w.classes place.class) o false) place) ∙ kept in
          let row = missing_row w.sites.call_sites b.1 e in
          ap (stage_at w s) place
          ∙ ((λ i. if there i then stage_of w s bound.place.class (bound.at i) else Waits Gone)
          ∙ (ap (by_operand w s bound.place.class bound.site.kind) bound.dynamic
          ∙ (ap (λ (o : Option (ℕ × ℕ)). by_binding w.sites (option_map (λ b. b.1) o)) is
          ∙ ap (λ (o : Option CallSite). by_method (option_and_then (λ site. evaluated w.sites b.1 site.target) o)) row)))

module _ (n : Numbers) (w v : World) (stays : ℕ → Bool) (same : SitesAlike n w v stays) where
  abbrev fit : IsFit w
  fit = same.fit

  abbrev alike : AreAlike n w.classes v.classes
  alike = same.alike

  -- ---- an invokedynamic

  by_method_same : (o : Option MethodId) → by_method (option_map (renumbered_method n) o) ≡ renumbered_stage n (by_method o)
  by_method_same None = refl
  by_method_same (Some m) = refl

  -- its call site stays, and runs what it ran
  bound_same : (s : ℕ) → is_alive w s ≡ true → by_binding v.sites (bound_to v (renumbered n.sites s)) ≡ renumbered_stage n (by_binding w.sites (bound_to w s))
  bound_same s alive =
      ap (λ (o : Option (ℕ × ℕ)). by_binding v.sites (option_map (λ b. b.1) o)) (same.bindings s alive) ∙ by_found (find (λ b. b.0 == s) w.bindings) refl
    where
      by_found : (o : Option (ℕ × ℕ)) → find (λ b. b.0 == s) w.bindings ≡ o
          → by_binding v.sites (option_map (λ b. b.1) (option_map (renumbered_binding n) o))
          ≡ renumbered_stage n (by_binding w.sites (option_map (λ b. b.1) o))
      by_found None is = refl
      by_found (Some b) is =
          let at = is_found (λ b. b.0 == s) w.bindings b is in
          let kept = first_test (is_in_staying_class w s) _ alive in
          let there = sym (ap (λ (o : Option (ℕ × ℕ)). option_map_or (is_missing w.sites.call_sites) (option_map (λ b. b.1) o) false) is)
          ∙ not-true (has_lost_call_site w s) (second_test (is_in_staying_class w s) _ alive) in
          ap by_method (method_same n w v stays same b.1
          (same.bound at.place b at.at there (ap (is_in_staying_class w) ((Decides-eqb b.0 s).0 at.passes) ∙ kept)) there)
          ∙ by_method_same (method_of w.sites b.1)

  -- ---- the other instructions

  either : (t : Bool) (a b : Stage) → (if t then renumbered_stage n a else renumbered_stage n b) ≡ renumbered_stage n (if t then a else b)
  either true a b = refl
  either false a b = refl

  module _ (d : ℕ) (mine : is_present w.classes d ≡ true) (ref : Reference (List ℕ)) where
    -- what the reference resolves to is under new numbers what it was
    module _ (r : Resolved) (named : is_present w.classes r.named ≡ true) (at : is_present w.classes r.method.class ≡ true) where
      abbrev renamed : Resolved
      renamed = record { named = renumbered n.classes r.named; method = renumbered_method n r.method }

      selecting_same : (selector : Selector) → selecting v.classes selector (renumbered n.classes d) ref renamed
          ≡ renumbered_stage n (selecting w.classes selector d ref r)
      selecting_same selector =
          let call : ResolvedCall = record { selector = selector; caller = d; named = r.named; ref = ref; method = r.method } in
          (λ i. if static_same n w.classes v.classes alike r.method at i then Fails IncompatibleClassChangeError else Selects (renumbered_call n call))
          ∙ either (is_static w.classes r.method) (Fails IncompatibleClassChangeError) (Selects call)

      kind_same : (kind : Kind) → by_kind v.classes kind (renumbered n.classes d) ref renamed ≡ renumbered_stage n (by_kind w.classes kind d ref r)
      kind_same Static =
          (λ i. if static_same n w.classes v.classes alike r.method at i then Calls (renumbered_method n r.method) else Fails IncompatibleClassChangeError)
          ∙ either (is_static w.classes r.method) (Calls r.method) (Fails IncompatibleClassChangeError)
      kind_same Virtual = selecting_same ByVirtual
      kind_same Interface = selecting_same ByInterface
      kind_same Special =
          (λ i. if is_init ref.name && not (alike.same r.method.class r.named at named i) then Fails NoSuchMethodError else selecting_same BySpecial i)
          ∙ either (is_init ref.name && not (r.method.class == r.named)) (Fails NoSuchMethodError) (selecting w.classes BySpecial d ref r)
      kind_same Dynamic = refl

    resolution_same : (kind : Kind) (r : Result Resolved ResolveAnswer) → resolved w.classes d ref ≡ r
        → by_resolution v.classes kind (renumbered n.classes d) ref (renumbered_resolved n r) ≡ renumbered_stage n (by_resolution w.classes kind d ref r)
    resolution_same kind (Err (resolve.NotReady missing)) is = refl
    resolution_same kind (Err (resolve.Fault throwable)) is = refl
    resolution_same kind (Ok r) is =
        let there = resolved_present n w.classes v.classes alike d ref r mine is in
        kind_same r there.0 there.1 kind

  -- ---- a site

  operand_same : (s d : ℕ) → is_alive w s ≡ true → is_present w.classes d ≡ true → (kind : Kind) (operand : Operand (List ℕ))
      → by_operand v (renumbered n.sites s) (renumbered n.classes d) kind operand ≡ renumbered_stage n (by_operand w s d kind operand)
  operand_same s d kept mine kind (operand.Method ref) =
      ap (by_resolution v.classes kind (renumbered n.classes d) ref) (resolved_same n w.classes v.classes alike d ref mine)
      ∙ resolution_same d mine ref kind (resolved w.classes d ref) refl
  operand_same s d kept mine kind (operand.CallSite specifier) = bound_same s kept

  site_same : (s d : ℕ) → is_alive w s ≡ true → is_present w.classes d ≡ true → (o : Option Site)
      → stage_of v (renumbered n.sites s) (renumbered n.classes d) o ≡ renumbered_stage n (stage_of w s d o)
  site_same s d kept mine None = refl
  site_same s d kept mine (Some site) = operand_same s d kept mine site.kind site.operand

  -- the invocation at a place in a class that is present
  invocation_same : (place : Place) → is_present w.classes place.class ≡ true
      → invocation_at v.classes (renumbered_place n place) ≡ invocation_at w.classes place
  invocation_same place there =
      ap (option_and_then (λ method. find (λ site. site.pc == place.pc) method.sites))
      (alike.method (record { class = place.class; index = place.method }) there)

  -- a site that isn't gone comes to what it came to
  pub stage_same : (s : ℕ) → is_alive w s ≡ true → stage v (renumbered n.sites s) ≡ renumbered_stage n (stage w s)
  stage_same s kept = by_place (slice_get w.places s) refl (first_test (is_in_staying_class w s) _ kept)
    where
      is_there : Place → Bool
      is_there place = is_present w.classes place.class

      by_place : (o : Option Place) → slice_get w.places s ≡ o → option_map_or is_there o false ≡ true
          → stage v (renumbered n.sites s) ≡ renumbered_stage n (stage_at w s o)
      by_place None at e = cc
      by_place (Some place) at there =
          ap (stage_at v (renumbered n.sites s)) (same.places s place at there)
          ∙ ((λ i. if alike.present place.class there i
          then stage_of v (renumbered n.sites s) (renumbered n.classes place.class) (invocation_same place there i) else Waits Gone)
          ∙ (site_same s place.class kept there (invocation_at w.classes place)
          ∙ sym (ap (λ (b : Bool). renumbered_stage n (if b then stage_of w s place.class (invocation_at w.classes place) else Waits Gone)) there)))

  -- ---- a site whose call site is released

  -- it waits
  pub lost_waits : (s : ℕ) → is_in_staying_class w s ≡ true → has_lost_call_site w s ≡ true → Waiting (stage v (renumbered n.sites s))
  lost_waits s kept lost = by_found (find (λ b. b.0 == s) w.bindings) refl lost
    where
      waiting : (o : Option ℕ) → option_and_then (method_of v.sites) o ≡ None → Waiting (by_binding v.sites o)
      waiting None e = (Unbound, refl)
      waiting (Some c) e = (Gone, ap by_method e)

      by_found : (o : Option (ℕ × ℕ)) → find (λ b. b.0 == s) w.bindings ≡ o
          → option_map_or (is_missing w.sites.call_sites) (option_map (λ b. b.1) o) false ≡ true → Waiting (stage v (renumbered n.sites s))
      by_found None is e = cc
      by_found (Some b) is e =
          let at = is_found (λ b. b.0 == s) w.bindings b is in
          let bound = fit.bindings at.place b at.at in
          let place = ap (slice_get w.places) (sym ((Decides-eqb b.0 s).0 at.passes)) ∙ bound.requested in
          let there = sym (ap (λ (o : Option Place). option_map_or (λ place. is_present w.classes place.class) o false) place) ∙ kept in
          let t = renumbered n.sites s in
          let waits = waiting (bound_to v t) (same.lost s kept lost) in (
            waits.0,
            ap (stage_at v t) (same.places s bound.place place there)
                ∙ ((λ i. if alike.present bound.place.class there i
                then stage_of v t (renumbered n.classes bound.place.class) ((invocation_same bound.place there ∙ bound.at) i) else Waits Gone)
                ∙ (ap (by_operand v t (renumbered n.classes bound.place.class) bound.site.kind) bound.dynamic ∙ waits.1)),
          )

  -- ---- the classes that are named

  module _ (d : ℕ) (mine : is_present w.classes d ≡ true) (ref : Reference (List ℕ)) where
    selecting_there : (r : Resolved) → is_present w.classes r.named ≡ true → is_present w.classes r.method.class ≡ true → (selector : Selector)
        → IsStageThere w.classes (selecting w.classes selector d ref r)
    selecting_there r named at selector = by_test (is_static w.classes r.method)
      where
        call : ResolvedCall
        call = record { selector = selector; caller = d; named = r.named; ref = ref; method = r.method }

        by_test : (t : Bool) → IsStageThere w.classes (if t then Fails IncompatibleClassChangeError else Selects call)
        by_test true = tt
        by_test false = record { caller = mine; named = named; method = at }

    kind_there : (r : Resolved) → is_present w.classes r.named ≡ true → is_present w.classes r.method.class ≡ true → (kind : Kind)
        → IsStageThere w.classes (by_kind w.classes kind d ref r)
    kind_there r named at Static = by_test (is_static w.classes r.method)
      where
        by_test : (t : Bool) → IsStageThere w.classes (if t then Calls r.method else Fails IncompatibleClassChangeError)
        by_test true = at
        by_test false = tt
    kind_there r named at Virtual = selecting_there r named at ByVirtual
    kind_there r named at Interface = selecting_there r named at ByInterface
    kind_there r named at Special = by_test (is_init ref.name && not (r.method.class == r.named))
      where
        by_test : (t : Bool) → IsStageThere w.classes (if t then Fails NoSuchMethodError else selecting w.classes BySpecial d ref r)
        by_test true = tt
        by_test false = selecting_there r named at BySpecial
    kind_there r named at Dynamic = tt

    resolution_there : (kind : Kind) (r : Result Resolved ResolveAnswer) → resolved w.classes d ref ≡ r
        → IsStageThere w.classes (by_resolution w.classes kind d ref r)
    resolution_there kind (Err (resolve.NotReady missing)) is = tt
    resolution_there kind (Err (resolve.Fault throwable)) is = tt
    resolution_there kind (Ok r) is =
        let there = resolved_present n w.classes v.classes alike d ref r mine is in
        kind_there r there.0 there.1 kind

  -- what a call site runs
  called_there : (o : Option MethodId) → ((m : MethodId) → o ≡ Some m → is_present w.classes m.class ≡ true) → IsStageThere w.classes (by_method o)
  called_there None there = tt
  called_there (Some m) there = there m refl

  bound_there : (o : Option ℕ) → IsStageThere w.classes (by_binding w.sites o)
  bound_there None = tt
  bound_there (Some c) = called_there (method_of w.sites c) (method_present n w v stays same c)

  operand_there : (s d : ℕ) → is_present w.classes d ≡ true → (kind : Kind) (operand : Operand (List ℕ))
      → IsStageThere w.classes (by_operand w s d kind operand)
  operand_there s d mine kind (operand.Method ref) = resolution_there d mine ref kind (resolved w.classes d ref) refl
  operand_there s d mine kind (operand.CallSite specifier) = bound_there (bound_to w s)

  site_there : (s d : ℕ) → is_present w.classes d ≡ true → (o : Option Site) → IsStageThere w.classes (stage_of w s d o)
  site_there s d mine None = tt
  site_there s d mine (Some site) = operand_there s d mine site.kind site.operand

  -- all classes are present that a site names
  pub stage_there : (s : ℕ) → IsStageThere w.classes (stage w s)
  stage_there s = by_place (slice_get w.places s)
    where
      by_test : (place : Place) (t : Bool) → is_present w.classes place.class ≡ t
          → IsStageThere w.classes (if t then stage_of w s place.class (invocation_at w.classes place) else Waits Gone)
      by_test place true there = site_there s place.class there (invocation_at w.classes place)
      by_test place false there = tt

      by_place : (o : Option Place) → IsStageThere w.classes (stage_at w s o)
      by_place None = tt
      by_place (Some place) = by_test place (is_present w.classes place.class) refl
