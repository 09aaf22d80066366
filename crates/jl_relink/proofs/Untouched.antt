-- What a linked site comes to before its receiver stays through every event, and so do its link and its footprint where the event
-- changes nothing of what the link rests on.
use Rattle.std.specs.Prelude.{◌≡◌, ℕ, zero, suc, ◌+◌, ◌<◌, ◌≤◌, ◌==◌, not, ◌&&◌, ◌||◌, Bool, true, false, List, [], ◌∷◌, length, map, filter_map}
use Rattle.std.specs.Prelude.{find, slice_get}
use Rattle.std.specs.Prelude.{Option, Some, None, option_and_then, Result, Ok, Err, IfSome, if◌then◌else◌, ⊤}
use Rattle.std.specs.List.{AllByRecursion, range_with_len}
use Rattle.std.specs.Bool.{beq}
use Rattle.std.proofs.Common.{refl, ap, sym, subst, ◌∙◌, arith, inl, inr}
use Rattle.std.proofs.lemmas.Bool.{or_cases}
use Rattle.std.proofs.lemmas.Bool.Decides.{Decides-eqb}
use Rattle.std.proofs.lemmas.Cmp.{nat_eq_equiv}
use Rattle.jl_pool.specs.declared.reference.Reference.{Reference}
use Rattle.jl_class.specs.Class.{Method}
use Rattle.jl_class.specs.declared.site.Kind.{Kind}
use Rattle.jl_class.specs.declared.site.Kind.TheVariants.{Virtual, Special, Static, Interface, Dynamic}
use Rattle.jl_class.specs.declared.site.Operand.{Operand}
use Rattle.jl_class.specs.declared.site.Operand.TheVariants as operand
use Rattle.jl_class.specs.Site.{Site}
use Rattle.jl_types.specs.declared.ids.MethodId.{MethodId}
use Rattle.jl_types.specs.declared.ids.Place.{Place}
use Rattle.jl_types.specs.declared.answer.ResolveAnswer.{ResolveAnswer}
use Rattle.jl_types.specs.declared.answer.ResolveAnswer.TheVariants as resolve
use Rattle.jl_types.specs.declared.answer.Throwable.TheVariants.{NoSuchMethodError, IllegalAccessError, IncompatibleClassChangeError}
use Rattle.jl_types.specs.declared.answer.Unlinked.TheVariants.{Gone}
use Rattle.jl_types.specs.declared.link.Link.{Link}
use Rattle.jl_types.specs.declared.link.Link.TheVariants.{Direct}
use Rattle.jl_types.specs.declared.link.TableKind.TheVariants as table
use Rattle.jl_types.specs.Values.World.{Classes, Sites, World}
use Rattle.jl_types.specs.Values.Members.{is_present, is_private, is_static, is_interface, is_concrete, numbers, declared}
use Rattle.jl_types.specs.Values.Ancestry.{receivers, is_ancestor, superclasses}
use Rattle.jl_types.specs.Linkage.Access.{accessible, is_accessible_class}
use Rattle.jl_types.specs.Linkage.Resolution.{Resolved, resolved, resolved_at, by_access, if_accessible, naming, named_class, found, first_element}
use Rattle.jl_types.specs.Linkage.Resolution.{pick, only, candidates, defaults, declared_upward, declared_in_object, found_in_class}
use Rattle.jl_types.specs.Linkage.Resolution.{found_in_interface}
use Rattle.jl_types.specs.Linkage.Access.{Access, Allowed, Denied, NotKnown}
use Rattle.jl_types.specs.Linkage.Selection.{is_init, virtual_outcome}
use Rattle.jl_types.specs.Linkage.Stages.{Selector, ByVirtual, ByInterface, BySpecial, ResolvedCall, Stage, Waits, Fails, Calls, Selects}
use Rattle.jl_types.specs.Linkage.Stages.{selecting, by_kind, by_resolution, by_method, by_binding, bound_to, invocation_at, by_operand, stage_of}
use Rattle.jl_types.specs.Linkage.Stages.{stage_at, stage}
use Rattle.jl_types.specs.Linkage.Links.{outcome_by, table_rows, table_or_mega, virtual_link, link_by, link_of, scratch}
use Rattle.jl_types.proofs.Accepting.{linked}
use Rattle.jl_types.proofs.Orders.{IsGood}
use Rattle.jl_hierarchy.specs.Constancy.{Stays}
use Rattle.jl_resolve.specs.Constancy.{is_settled}
use Rattle.jl_resolve.proofs.Unchanged.{IsThere, IsOfThere, first_there, first_of_there, method_stays, static_stays, private_stays, all_filter}
use Rattle.jl_resolve.proofs.Unchanged.{declared_there, candidates_there, defaults_there, upward_there, declared_in_object_there}
use Rattle.jl_select.specs.Constancy.{IsConstant}
use Rattle.jl_types.specs.Linkage.Targets.{method_of}
use Rattle.jl_types.specs.declared.key.Key.{Key}
use Rattle.jl_types.specs.declared.key.Key.TheVariants as key
use Rattle.jl_types.specs.Events.Footprints.{same_key, has_key, meets, of_selector, of_stage, of_call_site, of_binding, of_operand, of_invocation}
use Rattle.jl_types.specs.Events.Footprints.{of_place, footprint}
use Rattle.jl_relink.proofs.WayKeys.{no_receivers_of}
use Rattle.jl_relink.proofs.Staying.{present_there, accessible_there, named_there}

-- ---- lists

pub map_same : {A B : Type 0} (P : A → Type 0) (f g : A → B) → ((x : A) → P x → f x ≡ g x) → (xs : List A) → AllByRecursion P xs → map f xs ≡ map g xs
map_same P f g h [] all = refl
map_same P f g h (x ∷ xs) all = λ i. h x all.0 i ∷ map_same P f g h xs all.1 i

all_range : (n a m : ℕ) → a + m ≤ n → AllByRecursion (λ k. k < n) (range_with_len a m)
all_range n a zero h = tt
all_range n a (suc m) h = (omega arith, all_range n (a + 1) m (omega arith))

-- ---- stages

abbrev pub waits : Stage → Bool
waits (Waits reason) = true
waits (Fails throwable) = false
waits (Calls m) = false
waits (Selects i) = false

-- the classes of the invocation are there
pub record AreThere (cs : Classes) (i : ResolvedCall) : Type 0 where
  pub caller : i.caller < length cs.rows
  pub named : i.named < length cs.rows
  pub method : i.method.class < length cs.rows

abbrev pub IsStageThere : Classes → Stage → Type 0
IsStageThere cs (Waits reason) = ⊤
IsStageThere cs (Fails throwable) = ⊤
IsStageThere cs (Calls m) = ⊤
IsStageThere cs (Selects i) = AreThere cs i

-- the stage is this one afterwards, too, unless it waits, and its classes are there
pub record StageStays (cs : Classes) (before after : Stage) : Type 0 where
  pub there : IsStageThere cs before
  pub same : waits before ≡ false → after ≡ before

-- ---- what is resolved is there

only_there : (cs : Classes) (ms : List MethodId) → AllByRecursion (IsOfThere cs) ms → IfSome (only (pick ms)) (IsOfThere cs)
only_there cs [] all = tt
only_there cs (m ∷ []) all = all.0
only_there cs (m ∷ n ∷ ms) all = tt

abbrev method_or : MethodId → Result Resolved ResolveAnswer → MethodId
method_or m (Ok r) = r.method
method_or m (Err answer) = m

module _ (old new : Classes) (stays : Stays old new) (good : IsGood old) where
  found_there : (ref : Reference (List ℕ)) (c : ℕ) → IsThere old c → IfSome (found old ref c) (IsOfThere old)
  found_there ref c there = by_kind ref.itf
    where
      by_kind : (itf : Bool) → IfSome (if itf then found_in_interface old ref.name ref.ty c else found_in_class old ref.name ref.ty c) (IsOfThere old)
      by_kind true =
          first_of_there (IsOfThere old)
          (declared old ref.name ref.ty c ∷ declared_in_object old ref.name ref.ty ∷ only (pick (defaults old ref.name ref.ty c))
          ∷ first_element (candidates old ref.name ref.ty c) ∷ []) (
            declared_there old new stays good ref.name ref.ty c there,
            (
              declared_in_object_there old new stays good ref.name ref.ty,
              (
                only_there old (defaults old ref.name ref.ty c) (defaults_there old new stays good ref.name ref.ty c there),
                (first_there (IsOfThere old) (candidates old ref.name ref.ty c) (candidates_there old new stays good ref.name ref.ty c there), tt),
              ),
            ),
          )
      by_kind false =
          first_of_there (IsOfThere old)
          (declared_upward old ref.name ref.ty c ∷ only (pick (defaults old ref.name ref.ty c)) ∷ first_element (candidates old ref.name ref.ty c) ∷ []) (
            first_there (IsOfThere old) (filter_map (declared old ref.name ref.ty) (superclasses old c))
                (upward_there old new stays good ref.name ref.ty c there),
            (
              only_there old (defaults old ref.name ref.ty c) (defaults_there old new stays good ref.name ref.ty c there),
              (first_there (IsOfThere old) (candidates old ref.name ref.ty c) (candidates_there old new stays good ref.name ref.ty c there), tt),
            ),
          )

  -- the class that declares a resolved method is there
  method_there : (d : ℕ) (ref : Reference (List ℕ)) (r : Resolved) → resolved old d ref ≡ Ok r → IsOfThere old r.method
  method_there d ref r = by_class (named_class old d ref)
    where
      of_access : (named : ℕ) (m : MethodId) (a : Access) → IsOfThere old m → naming named (by_access m a) ≡ Ok r → IsOfThere old r.method
      of_access named m Allowed at e = subst (λ (n : MethodId). IsOfThere old n) (ap (method_or m) e) at
      of_access named m Denied at e = cc
      of_access named m (NotKnown missing) at e = cc

      of_found : (named : ℕ) (o : Option MethodId) → IfSome o (IsOfThere old) → naming named (if_accessible old d named o) ≡ Ok r → IsOfThere old r.method
      of_found named None at e = cc
      of_found named (Some m) at e = of_access named m (accessible old d named m) at e

      by_kind : (named : ℕ) (b : Bool) → IsThere old named
          → naming named (if b then Err (resolve.Fault IncompatibleClassChangeError) else if_accessible old d named (found old ref named)) ≡ Ok r
          → IsOfThere old r.method
      by_kind named true there e = cc
      by_kind named false there e = of_found named (found old ref named) (found_there ref named there) e

      by_public : (named : ℕ) (b : Bool) → is_accessible_class old d named ≡ b
          → naming named (if not b then Err (resolve.Fault IllegalAccessError) else (
          if not (beq ref.itf (is_interface old named)) then Err (resolve.Fault IncompatibleClassChangeError) else if_accessible old d named
          (found old ref named))) ≡ Ok r
          → IsOfThere old r.method
      by_public named false is e = cc
      by_public named true is e = by_kind named (not (beq ref.itf (is_interface old named))) (accessible_there old d named is) e

      by_class : (o : Option ℕ) → resolved_at old d ref o ≡ Ok r → IsOfThere old r.method
      by_class None e = cc
      by_class (Some named) e = by_public named (is_accessible_class old d named) refl e

  -- ---- an invocation of a method

  module _ (d : ℕ) (ref : Reference (List ℕ)) (caller : IsThere old d) where
    module _ (r : Resolved) (there : IsThere old r.named) (at : IsOfThere old r.method) where
      abbrev invoking : Selector → ResolvedCall
      invoking selector = record { selector = selector; caller = d; named = r.named; ref = ref; method = r.method }

      selecting_stays : (selector : Selector) → StageStays old (selecting old selector d ref r) (selecting new selector d ref r)
      selecting_stays selector = record {
        there = by_test (is_static old r.method);
        same = λ settled i. if static_stays old new stays good r.method at i then Fails IncompatibleClassChangeError else Selects (invoking selector);
      }
        where
          by_test : (b : Bool) → IsStageThere old (if b then Fails IncompatibleClassChangeError else Selects (invoking selector))
          by_test true = tt
          by_test false = record { caller = caller; named = there; method = at }

      kind_stays : (kind : Kind) → StageStays old (by_kind old kind d ref r) (by_kind new kind d ref r)
      kind_stays Static = record {
        there = by_test (is_static old r.method);
        same = λ settled i. if static_stays old new stays good r.method at i then Calls r.method else Fails IncompatibleClassChangeError;
      }
        where
          by_test : (b : Bool) → IsStageThere old (if b then Calls r.method else Fails IncompatibleClassChangeError)
          by_test true = tt
          by_test false = tt
      kind_stays Virtual = selecting_stays ByVirtual
      kind_stays Interface = selecting_stays ByInterface
      kind_stays Special = by_test (is_init ref.name && not (r.method.class == r.named))
        where
          by_test : (b : Bool)
              → StageStays old (if b then Fails NoSuchMethodError else selecting old BySpecial d ref r)
              (if b then Fails NoSuchMethodError else selecting new BySpecial d ref r)
          by_test true = record { there = tt; same = λ settled. refl }
          by_test false = selecting_stays BySpecial
      kind_stays Dynamic = record { there = tt; same = λ settled. refl }

    module _ (present : is_present new d ≡ true) (constant : IsConstant old new) where
      resolution_stays : (r : Result Resolved ResolveAnswer) → resolved old d ref ≡ r → is_settled r ≡ true → resolved new d ref ≡ r
      resolution_stays r is settled = constant.resolved.resolved d ref present (ap is_settled is ∙ settled) ∙ is

      reference_stays : (kind : Kind) → StageStays old (by_resolution old kind d ref (resolved old d ref)) (by_resolution new kind d ref (resolved new d ref))
      reference_stays kind = by_answer (resolved old d ref) refl
        where
          by_answer : (r : Result Resolved ResolveAnswer) → resolved old d ref ≡ r
              → StageStays old (by_resolution old kind d ref r) (by_resolution new kind d ref (resolved new d ref))
          by_answer (Err (resolve.NotReady missing)) is = record { there = tt; same = λ settled. cc }
          by_answer (Err (resolve.Fault throwable)) is = record {
            there = tt;
            same = λ settled. ap (λ (r : Result Resolved ResolveAnswer). by_resolution new kind d ref r)
                (resolution_stays (Err (resolve.Fault throwable)) is refl);
          }
          by_answer (Ok r) is =
              let one = kind_stays r (named_there old d ref r is) (method_there d ref r is) kind in
              record {
                there = one.there;
                same = λ settled.
                    ap (λ (r : Result Resolved ResolveAnswer). by_resolution new kind d ref r) (resolution_stays (Ok r) is refl) ∙ one.same settled;
              }

-- ---- keys

or_both : (a b : Bool) → (a || b) ≡ false → (a ≡ false) × (b ≡ false)
or_both true b h = cc
or_both false b h = (refl, h)

pub same_key_is : (k j : Key) → same_key k j ≡ true → k ≡ j
same_key_is (key.Receivers c) (key.Receivers d) h = ap key.Receivers ((Decides-eqb c d).0 h)
same_key_is (key.Receivers c) (key.Target d) h = cc
same_key_is (key.Receivers c) (key.Valid d) h = cc
same_key_is (key.Target c) (key.Receivers d) h = cc
same_key_is (key.Target c) (key.Target d) h = ap key.Target ((Decides-eqb c d).0 h)
same_key_is (key.Target c) (key.Valid d) h = cc
same_key_is (key.Valid c) (key.Receivers d) h = cc
same_key_is (key.Valid c) (key.Target d) h = cc
same_key_is (key.Valid c) (key.Valid d) h = ap key.Valid ((Decides-eqb c d).0 h)

-- what is in the one is not in the other, where they don't meet
pub apart : (footprint keys : List Key) (k : Key) → meets footprint keys ≡ false → has_key footprint k ≡ true → has_key keys k ≡ false
apart [] keys k none has = cc
apart (first ∷ footprint) keys k none has =
    let parts = or_both (has_key keys first) (meets footprint keys) none in
    elim (or_cases (same_key first k) (has_key footprint k) has) [
      | inl is ↦ ap (has_key keys) (sym (same_key_is first k is)) ∙ parts.0
      | inr more ↦ apart footprint keys k parts.1 more
    ]

-- ---- a site

-- What is at a place, and to which call site an invokedynamic is bound, stays, and the site isn't retired; the call site that an
-- invokedynamic rests on runs what it ran, by the same way.
pub record IsLater (w after : World) (s : ℕ) : Type 0 where
  pub good : IsGood w.classes
  pub stays : Stays w.classes after.classes
  pub constant : IsConstant w.classes after.classes
  pub places : (place : Place) → slice_get w.places s ≡ Some place → slice_get after.places s ≡ Some place
  pub present : (place : Place) → slice_get w.places s ≡ Some place → is_present w.classes place.class ≡ true → is_present after.classes place.class ≡ true
  pub bindings : (c : ℕ) → bound_to w s ≡ Some c → bound_to after s ≡ Some c
  pub runs : (c : ℕ) → ((k : Key) → has_key (of_call_site w.sites c) k ≡ true → has_key (footprint w s) k ≡ true) → (m : MethodId)
      → method_of w.sites c ≡ Some m → (method_of after.sites c ≡ Some m) × (of_call_site after.sites c ≡ of_call_site w.sites c)

-- an invokedynamic looks at no receivers
no_receivers : (sites : Sites) (o : Option ℕ) (c : ℕ) → has_key (of_binding sites o) (key.Receivers c) ≡ true → ⊥
no_receivers sites None c h = cc
no_receivers sites (Some d) c h = absurd (no_receivers_of sites d c h)

-- The site's stage and footprint stay, unless it waits. Its footprint has what its stage rests on, and no more where it selects by
-- the receiver.
pub record SiteKeeps (w after : World) (before now : Stage) (old_keys new_keys : List Key) : Type 0 where
  pub there : IsStageThere w.classes before
  pub chosen : (i : ResolvedCall) → before ≡ Selects i → old_keys ≡ of_stage w.classes before
  pub rests : (k : Key) → has_key (of_stage w.classes before) k ≡ true → has_key old_keys k ≡ true
  pub looks : (c : ℕ) → has_key old_keys (key.Receivers c) ≡ true → has_key (of_stage w.classes before) (key.Receivers c) ≡ true
  pub same : waits before ≡ false → now ≡ before
  pub keys : waits before ≡ false → new_keys ≡ old_keys

module _ (w after : World) (s : ℕ) (later : IsLater w after s) where
  pub selector_same : (i : ResolvedCall) → AreThere w.classes i → (selector : Selector)
      → of_selector after.classes i selector ≡ of_selector w.classes i selector
  selector_same i there ByVirtual = λ j. if private_stays w.classes after.classes later.stays later.good i.method there.method j then [] else key.Receivers
      i.named ∷ []
  selector_same i there ByInterface = refl
  selector_same i there BySpecial = refl

  of_stage_same : (t : Stage) → IsStageThere w.classes t → of_stage after.classes t ≡ of_stage w.classes t
  of_stage_same (Waits reason) there = refl
  of_stage_same (Fails throwable) there = refl
  of_stage_same (Calls m) there = refl
  of_stage_same (Selects i) there = selector_same i there i.selector

  by_reference : (before now : Stage) → StageStays w.classes before now → SiteKeeps w after before now (of_stage w.classes before) (of_stage after.classes now)
  by_reference before now one = record {
    there = one.there;
    chosen = λ i e. refl;
    rests = λ k h. h;
    looks = λ c h. h;
    same = one.same;
    keys = λ settled. ap (of_stage after.classes) (one.same settled) ∙ of_stage_same before one.there;
  }

  module _ (listed : (k : Key) → has_key (of_binding w.sites (bound_to w s)) k ≡ true → has_key (footprint w s) k ≡ true) where
    by_run : (c : ℕ) → bound_to w s ≡ Some c → (o : Option MethodId) → method_of w.sites c ≡ o
        → SiteKeeps w after (by_method o) (by_binding after.sites (bound_to after s))
        (of_binding w.sites (bound_to w s)) (of_binding after.sites (bound_to after s))
    by_run c is None run = record {
      there = tt;
      chosen = λ i e. cc;
      rests = λ k h. cc;
      looks = λ d h. absurd (no_receivers w.sites (bound_to w s) d h);
      same = λ settled. cc;
      keys = λ settled. cc;
    }
    by_run c is (Some m) run =
        let bound = later.bindings c is in
        let one = later.runs c (λ k h. listed k (ap (λ (o : Option ℕ). has_key (of_binding w.sites o) k) is ∙ h)) m run in
        record {
          there = tt;
          chosen = λ i e. cc;
          rests = λ k h. cc;
          looks = λ d h. absurd (no_receivers w.sites (bound_to w s) d h);
          same = λ settled. ap (by_binding after.sites) bound ∙ ap by_method one.0;
          keys = λ settled. ap (of_binding after.sites) bound ∙ one.1 ∙ sym (ap (of_binding w.sites) is);
        }

    with_binding : (o : Option ℕ) → bound_to w s ≡ o
        → SiteKeeps w after (by_binding w.sites o) (by_binding after.sites (bound_to after s))
        (of_binding w.sites (bound_to w s)) (of_binding after.sites (bound_to after s))
    with_binding None is = record {
      there = tt;
      chosen = λ i e. cc;
      rests = λ k h. cc;
      looks = λ d h. absurd (no_receivers w.sites (bound_to w s) d h);
      same = λ settled. cc;
      keys = λ settled. cc;
    }
    with_binding (Some c) is = by_run c is (method_of w.sites c) refl

    call_site_stays : SiteKeeps w after (by_binding w.sites (bound_to w s)) (by_binding after.sites (bound_to after s))
        (of_binding w.sites (bound_to w s)) (of_binding after.sites (bound_to after s))
    call_site_stays = with_binding (bound_to w s) refl

  operand_stays : (d : ℕ) → IsThere w.classes d → is_present after.classes d ≡ true → (kind : Kind) (o : Operand (List ℕ))
      → ((k : Key) → has_key (of_operand w s d kind o) k ≡ true → has_key (footprint w s) k ≡ true)
      → SiteKeeps w after (by_operand w s d kind o) (by_operand after s d kind o) (of_operand w s d kind o) (of_operand after s d kind o)
  operand_stays d there present kind (operand.Method ref) listed =
      by_reference (by_resolution w.classes kind d ref (resolved w.classes d ref)) (by_resolution after.classes kind d ref (resolved after.classes d ref))
      (reference_stays w.classes after.classes later.stays later.good d ref there present later.constant kind)
  operand_stays d there present kind (operand.CallSite specifier) listed = call_site_stays listed

  invocation_stays : (d : ℕ) → IsThere w.classes d → is_present after.classes d ≡ true → (o : Option Site)
      → ((k : Key) → has_key (of_invocation w s d o) k ≡ true → has_key (footprint w s) k ≡ true)
      → SiteKeeps w after (stage_of w s d o) (stage_of after s d o) (of_invocation w s d o) (of_invocation after s d o)
  invocation_stays d there present None listed = record {
    there = tt;
    chosen = λ i e. cc;
    rests = λ k h. cc;
    looks = λ d h. cc;
    same = λ settled. refl;
    keys = λ settled. refl;
  }
  invocation_stays d there present (Some site) listed = operand_stays d there present site.kind site.operand listed

  place_stays : (place : Place) → slice_get w.places s ≡ Some place
      → SiteKeeps w after (stage_at w s (Some place)) (stage_at after s (Some place)) (of_place w s (Some place)) (of_place after s (Some place))
  place_stays place at = by_class (is_present w.classes place.class) refl
    where
      by_class : (b : Bool) → is_present w.classes place.class ≡ b
          → SiteKeeps w after (if b then stage_of w s place.class (invocation_at w.classes place) else Waits Gone) (stage_at after s (Some place))
          (if b then of_invocation w s place.class (invocation_at w.classes place) else []) (of_place after s (Some place))
      by_class false is = record { there = tt; chosen = λ i e. cc; rests = λ k h. cc; looks = λ d h. cc; same = λ settled. cc; keys = λ settled. cc }
      by_class true is =
          let there = present_there w.classes place.class is in
          let now = later.present place at is in
          let methods = method_stays w.classes after.classes later.stays later.good (record { class = place.class; index = place.method }) there in
          let one = invocation_stays place.class there now (invocation_at w.classes place)
          (λ k h.
          ap (λ (o : Option Place). has_key (of_place w s o) k) at
          ∙ ap (λ (b : Bool). has_key (if b then of_invocation w s place.class (invocation_at w.classes place) else []) k) is
          ∙ h) in
          record {
            there = one.there;
            chosen = one.chosen;
            rests = one.rests;
            looks = one.looks;
            same = λ settled.
                ap (λ (b : Bool). if b then stage_of after s place.class (invocation_at after.classes place) else Waits Gone) now
                ∙ ap (λ (o : Option Method). stage_of after s place.class (option_and_then (λ method. find (λ site. site.pc == place.pc) method.sites) o))
                methods
                ∙ one.same settled;
            keys = λ settled.
                ap (λ (b : Bool). if b then of_invocation after s place.class (invocation_at after.classes place) else []) now
                ∙ ap (λ (o : Option Method). of_invocation after s place.class (option_and_then (λ method. find (λ site. site.pc == place.pc) method.sites) o))
                methods
                ∙ one.keys settled;
          }

  pub site_stays : SiteKeeps w after (stage w s) (stage after s) (footprint w s) (footprint after s)
  site_stays = by_place (slice_get w.places s) refl
    where
      by_place : (o : Option Place) → slice_get w.places s ≡ o
          → SiteKeeps w after (stage_at w s o) (stage after s) (of_place w s o) (footprint after s)
      by_place None is = record { there = tt; chosen = λ i e. cc; rests = λ k h. cc; looks = λ d h. cc; same = λ settled. cc; keys = λ settled. cc }
      by_place (Some place) is =
          subst (λ (o : Option Place). SiteKeeps w after (stage_at w s (Some place)) (stage_at after s o) (of_place w s (Some place)) (of_place after s o))
          (sym (later.places place is)) (place_stays place is)

  -- ---- its link

  module _ (i : ResolvedCall) (there : AreThere w.classes i) where
    pub outcome_same : (selector : Selector) (x : ℕ) → IsThere w.classes x → outcome_by after.classes i selector x ≡ outcome_by w.classes i selector x
    outcome_same ByVirtual x at = later.constant.outcomes.virtual x i.method at there.method
    outcome_same ByInterface x at = later.constant.outcomes.interface x i.named i.method at there.method
    outcome_same BySpecial x at = later.constant.outcomes.special i.caller i.named i.ref there.caller there.named

    pub receivers_there : AllByRecursion (IsThere w.classes) (receivers w.classes i.named)
    receivers_there =
        all_filter (IsThere w.classes) (λ x. is_concrete w.classes x && is_ancestor w.classes i.named x) (numbers w.classes)
        (all_range (length w.classes.rows) 0 (length w.classes.rows) (omega arith))

    rows_same : receivers after.classes i.named ≡ receivers w.classes i.named → table_rows after.classes i ≡ table_rows w.classes i
    rows_same e =
        ap (map (λ x. (x, outcome_by after.classes i i.selector x))) e
        ∙ map_same (IsThere w.classes) (λ x. (x, outcome_by after.classes i i.selector x)) (λ x. (x, outcome_by w.classes i i.selector x))
        (λ x at. λ j. (x, outcome_same i.selector x at j)) (receivers w.classes i.named) receivers_there

    link_same : (selector : Selector)
        → (has_key (of_selector w.classes i selector) (key.Receivers i.named) ≡ true → receivers after.classes i.named ≡ receivers w.classes i.named)
        → link_by after.classes i selector ≡ link_by w.classes i selector
    link_same ByVirtual same =
        ap (λ (b : Bool). if b then Direct (virtual_outcome after.classes i.named i.method) else virtual_link (table_rows after.classes i))
        (private_stays w.classes after.classes later.stays later.good i.method there.method)
        ∙ by_flag (is_private w.classes i.method) refl
      where
        by_flag : (b : Bool) → is_private w.classes i.method ≡ b
            → (if b then Direct (virtual_outcome after.classes i.named i.method) else virtual_link (table_rows after.classes i))
            ≡ (if b then Direct (virtual_outcome w.classes i.named i.method) else virtual_link (table_rows w.classes i))
        by_flag true is = ap Direct (later.constant.outcomes.virtual i.named i.method there.named there.method)
        by_flag false is =
            ap virtual_link (rows_same (same (
            ap (λ (b : Bool). has_key (if b then [] else key.Receivers i.named ∷ []) (key.Receivers i.named)) is
            ∙ ap (λ (b : Bool). b || false) (nat_eq_equiv.refl i.named))))
    link_same ByInterface same = ap (table_or_mega table.Interface) (rows_same (same (ap (λ (b : Bool). b || false) (nat_eq_equiv.refl i.named))))
    link_same BySpecial same = ap Direct (later.constant.outcomes.special i.caller i.named i.ref there.caller there.named)

  -- the receivers stay that the link looks at
  module _ (receivers_stay : (c : ℕ) → has_key (footprint w s) (key.Receivers c) ≡ true → receivers after.classes c ≡ receivers w.classes c) where
    by_stage : (l : Link) (t : Stage) → SiteKeeps w after t (stage after s) (footprint w s) (footprint after s) → link_of w.classes t ≡ Ok l
        → (scratch after s ≡ Ok l) × (footprint after s ≡ footprint w s)
    by_stage l (Waits reason) one e = cc
    by_stage l (Fails throwable) one e = (ap (link_of after.classes) (one.same refl) ∙ e, one.keys refl)
    by_stage l (Calls m) one e = (ap (link_of after.classes) (one.same refl) ∙ e, one.keys refl)
    by_stage l (Selects i) one e = (
      ap (link_of after.classes) (one.same refl)
          ∙ ap linked (link_same i one.there i.selector (λ h. receivers_stay i.named (one.rests (key.Receivers i.named) h)))
          ∙ e,
      one.keys refl,
    )

    -- the link stays, and so does what it rests on
    pub site_keeps : (l : Link) → scratch w s ≡ Ok l → (scratch after s ≡ Ok l) × (footprint after s ≡ footprint w s)
    site_keeps l e = by_stage l (stage w s) site_stays e
