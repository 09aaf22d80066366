-- A site that a new target or an invalidation touches is an invokedynamic, whose link takes one evaluation.
use Rattle.std.specs.Prelude.{◌≡◌, ◌≢◌, ℕ, Bool, true, false, List, [], ◌∷◌, map, slice_get, Option, Some, None, if◌then◌else◌}
use Rattle.std.proofs.Common.{inl, inr}
use Rattle.std.proofs.lemmas.Bool.{or_cases, or_left, or_right}
use Rattle.std.proofs.lemmas.Cmp.{nat_eq_equiv}
use Rattle.jl_class.specs.declared.site.Kind.{Kind}
use Rattle.jl_class.specs.declared.site.Operand.{Operand}
use Rattle.jl_class.specs.declared.site.Operand.TheVariants as operand
use Rattle.jl_class.specs.Site.{Site}
use Rattle.jl_types.specs.declared.ids.Place.{Place}
use Rattle.jl_types.specs.Events.Event.{Event}
use Rattle.jl_types.specs.declared.event.EventOf.TheVariants as event
use Rattle.jl_types.specs.Values.World.{Sites, World}
use Rattle.jl_types.specs.Values.Members.{is_present, is_private}
use Rattle.jl_types.specs.Linkage.Stages.{Selector, ByVirtual, ByInterface, BySpecial, ResolvedCall, Stage, Waits, Fails, Calls, Selects}
use Rattle.jl_types.specs.Linkage.Stages.{invocation_at, bound_to, by_operand}
use Rattle.jl_types.specs.Events.Verdict.{step}
use Rattle.jl_types.specs.declared.key.Key.{Key}
use Rattle.jl_types.specs.declared.key.Key.TheVariants as key
use Rattle.jl_types.specs.Events.Footprints.{same_key, has_key, meets, of_selector, of_stage, of_operand, of_invocation, of_place, footprint}
use Rattle.jl_types.specs.Events.Footprints.{still_valid, touches, most_by, most_for}
use Rattle.jl_relink.proofs.WayKeys.{binding_takes_one}
use Rattle.jl_relink.specs.Laws.{changes_receivers}
use Rattle.jl_relink.proofs.Untouched.{same_key_is}

same_itself : (k : Key) → same_key k k ≡ true
same_itself (key.Receivers c) = nat_eq_equiv.refl c
same_itself (key.Target c) = nat_eq_equiv.refl c
same_itself (key.Valid p) = nat_eq_equiv.refl p

met_key : (fp ks : List Key) → meets fp ks ≡ true → (k : Key) × (has_key fp k ≡ true) × (has_key ks k ≡ true)
met_key [] ks h = cc
met_key (first ∷ rest) ks h = elim (or_cases (has_key ks first) (meets rest ks) h) [
  | inl here ↦ (first, or_left (same_key first first) (has_key rest first) (same_itself first), here)
  | inr more ↦ (let r = met_key rest ks more in (r.0, or_right (same_key first r.0) (has_key rest r.0) r.1, r.2))
]

-- a key that names no receivers
abbrev IsOther : Key → Type 0
IsOther k = (c : ℕ) → key.Receivers c ≢ k

module _ (w : World) (sites : Sites) (s : ℕ) (k : Key) (other : IsOther k) where
  abbrev after : World
  after = record w { sites = sites }

  one_receivers : (c : ℕ) → has_key (key.Receivers c ∷ []) k ≡ true → ⊥
  one_receivers c h = elim (or_cases (same_key (key.Receivers c) k) false h) [ inl is ↦ other c (same_key_is (key.Receivers c) k is) | inr no_more ↦ cc ]

  by_selector : (i : ResolvedCall) (selector : Selector) → has_key (of_selector w.classes i selector) k ≡ true → ⊥
  by_selector i ByVirtual h = by_flag (is_private w.classes i.method) h
    where
      by_flag : (b : Bool) → has_key (if b then [] else key.Receivers i.named ∷ []) k ≡ true → ⊥
      by_flag true h = cc
      by_flag false h = one_receivers i.named h
  by_selector i ByInterface h = one_receivers i.named h
  by_selector i BySpecial h = cc

  by_stage : (t : Stage) → has_key (of_stage w.classes t) k ≡ true → ⊥
  by_stage (Waits reason) h = cc
  by_stage (Fails throwable) h = cc
  by_stage (Calls m) h = cc
  by_stage (Selects i) h = by_selector i i.selector h

  of_kind : (d : ℕ) (kind : Kind) (o : Operand (List ℕ)) → has_key (of_operand w s d kind o) k ≡ true → most_by w.classes (of_operand after s d kind o) ≡ 1
  of_kind d kind (operand.Method ref) h = absurd (by_stage (by_operand w s d kind (operand.Method ref)) h)
  of_kind d kind (operand.CallSite specifier) h = binding_takes_one w.classes sites (bound_to w s)

  by_invocation : (d : ℕ) (o : Option Site) → has_key (of_invocation w s d o) k ≡ true → most_by w.classes (of_invocation after s d o) ≡ 1
  by_invocation d None h = cc
  by_invocation d (Some site) h = of_kind d site.kind site.operand h

  by_place : (o : Option Place) → has_key (of_place w s o) k ≡ true → most_by w.classes (of_place after s o) ≡ 1
  by_place None h = cc
  by_place (Some place) h = by_class (is_present w.classes place.class) h
    where
      by_class : (b : Bool) → has_key (if b then of_invocation w s place.class (invocation_at w.classes place) else []) k ≡ true
          → most_by w.classes (if b then of_invocation after s place.class (invocation_at w.classes place) else []) ≡ 1
      by_class true h = by_invocation place.class (invocation_at w.classes place) h
      by_class false h = cc

  takes_one : has_key (footprint w s) k ≡ true → most_for after s ≡ 1
  takes_one h = by_place (slice_get w.places s) h

no_keys : (fp : List Key) → meets fp [] ≡ true → ⊥
no_keys [] h = cc
no_keys (k ∷ fp) h = no_keys fp h

of_points : (ps : List ℕ) (k : Key) → has_key (map key.Valid ps) k ≡ true → IsOther k
of_points [] k h = cc
of_points (p ∷ ps) k h = elim (or_cases (same_key (key.Valid p) k) (has_key (map key.Valid ps) k) h) [
  | inl is ↦ (λ c e. let same = same_key_is (key.Valid p) k is in cc)
  | inr more ↦ of_points ps k more
]

of_targets : (cs : List ℕ) (k : Key) → has_key (map key.Target cs) k ≡ true → IsOther k
of_targets [] k h = cc
of_targets (c ∷ cs) k h = elim (or_cases (same_key (key.Target c) k) (has_key (map key.Target cs) k) h) [
  | inl is ↦ (λ d e. let same = same_key_is (key.Target c) k is in cc)
  | inr more ↦ of_targets cs k more
]

pub takes_one_evaluation : (w : World) (e : Event) (s : ℕ) → changes_receivers e ≡ false → touches w e s ≡ true → most_for (step w e) s ≡ 1
takes_one_evaluation w event.NewLoader s plain h = absurd (no_keys (footprint w s) h)
takes_one_evaluation w (event.Define loader file) s plain h = cc
takes_one_evaluation w (event.Delegate loader name to) s plain h = absurd (no_keys (footprint w s) h)
takes_one_evaluation w (event.Request place) s plain h = absurd (no_keys (footprint w s) h)
takes_one_evaluation w (event.NewCallSite kind ty t) s plain h = absurd (no_keys (footprint w s) h)
takes_one_evaluation w (event.SetTarget c t) s plain h =
    let r = met_key (footprint w s) (key.Target c ∷ []) h in
    takes_one w (step w (event.SetTarget c t)).sites s r.0 (is_target r.0 r.2) r.1
  where
    is_target : (k : Key) → has_key (key.Target c ∷ []) k ≡ true → IsOther k
    is_target k has = elim (or_cases (same_key (key.Target c) k) false has) [
      | inl is ↦ (λ d e. let same = same_key_is (key.Target c) k is in cc)
      | inr no_more ↦ cc
    ]
takes_one_evaluation w event.NewSwitch s plain h = absurd (no_keys (footprint w s) h)
takes_one_evaluation w (event.Invalidate points) s plain h =
    let r = met_key (footprint w s) (map key.Valid (still_valid w.sites points)) h in
    takes_one w (step w (event.Invalidate points)).sites s r.0 (of_points (still_valid w.sites points) r.0 r.2) r.1
takes_one_evaluation w (event.Bind n c) s plain h = absurd (no_keys (footprint w s) h)
takes_one_evaluation w (event.Install rows) s plain h = absurd (no_keys (footprint w s) h)
takes_one_evaluation w (event.Retire loader) s plain h = cc
takes_one_evaluation w (event.RetireAll loaders) s plain h = cc
takes_one_evaluation w (event.Release call_sites points) s plain h =
    let r = met_key (footprint w s) (map key.Target call_sites) h in
    takes_one w (step w (event.Release call_sites points)).sites s r.0 (of_targets call_sites r.0 r.2) r.1
