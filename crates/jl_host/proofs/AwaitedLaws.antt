-- A site that isn't ready waits for a class that has a name.
use Rattle.std.specs.Prelude.{◌≡◌, ◌⊎◌, ℕ, Bool, true, false, not, ◌&&◌, ◌||◌, ◌==◌, List, [], slice_get, Option, Some, None, option_and_then}
use Rattle.std.specs.Prelude.{Result, Ok, Err, if◌then◌else◌}
use Rattle.std.specs.Bool.{beq}
use Rattle.std.specs.Option.{option_map_or}
use Rattle.std.proofs.Common.{refl, ap, sym, subst, ◌∙◌, inl, inr}
use Rattle.jl_pool.specs.declared.reference.Reference.{Reference}
use Rattle.jl_class.specs.Class.{Method}
use Rattle.jl_class.specs.Site.{Site}
use Rattle.jl_class.specs.declared.site.Kind.{Kind}
use Rattle.jl_class.specs.declared.site.Kind.TheVariants.{Virtual, Special, Static, Interface, Dynamic}
use Rattle.jl_class.specs.declared.site.Operand.{Operand}
use Rattle.jl_class.specs.declared.site.Operand.TheVariants as operand
use Rattle.jl_types.specs.declared.ids.MethodId.{MethodId}
use Rattle.jl_types.specs.declared.ids.Place.{Place}
use Rattle.jl_types.specs.declared.answer.Missing.{Missing}
use Rattle.jl_types.specs.declared.answer.Missing.TheVariants.{Named, CallerHost, MethodHost}
use Rattle.jl_types.specs.declared.answer.Throwable.TheVariants.{NoSuchMethodError, IllegalAccessError, IncompatibleClassChangeError}
use Rattle.jl_types.specs.declared.answer.ResolveAnswer.{ResolveAnswer}
use Rattle.jl_types.specs.declared.answer.ResolveAnswer.TheVariants as resolve
use Rattle.jl_types.specs.declared.answer.Unlinked.TheVariants.{NotReady, Unbound, Gone}
use Rattle.jl_types.specs.Values.World.{World, Class, Classes}
use Rattle.jl_types.specs.Values.Members.{is_present, is_retired, is_private, is_static, is_interface}
use Rattle.jl_class.specs.Flags.{has_flag, PRIVATE}
use Rattle.jl_types.specs.Linkage.Access.{Access, Allowed, Denied, NotKnown, nest_host, host_by, same_nest, by_nest, accessible, is_accessible_class}
use Rattle.jl_types.specs.Linkage.Access.{by_subclass, by_package}
use Rattle.jl_types.specs.Values.Members.{is_public}
use Rattle.jl_types.specs.Linkage.Resolution.{Resolved, by_access, if_accessible, resolved_in, resolved_at, resolved, found, naming, named_class}
use Rattle.jl_types.specs.Linkage.Selection.{is_init}
use Rattle.jl_types.specs.Linkage.Stages.{Stage, Waits, Fails, Calls, Selects, Selector, ByVirtual, ByInterface, BySpecial}
use Rattle.jl_types.specs.Linkage.Stages.{stage, stage_at, stage_of, by_operand}
use Rattle.jl_types.specs.Linkage.Stages.{ResolvedCall, by_resolution, by_kind, by_method, by_binding, selecting, invocation_at, bound_to}
use Rattle.jl_types.specs.Linkage.Targets.{method_of}
use Rattle.jl_types.specs.Linkage.Links.{scratch, link_of}
use Rattle.jl_host.specs.Awaiting.{nest_host_named, missing_named, awaited_by_answer, awaited_by, awaited_at, awaited}

abbrev pub HasName : Option (List ℕ) → Type 0
HasName o = (name : List ℕ) × (o ≡ Some name)

-- ---- what is there

there_by : (test : Class → Bool) (o : Option Class) → option_map_or test o false ≡ true → (row : Class) × (o ≡ Some row)
there_by test None e = cc
there_by test (Some row) e = (row, refl)

method_there : (p : Method → Bool) (i : ℕ) (o : Option Class) → option_map_or p (slice_get (option_map_or (λ row. row.file.methods) o []) i) false ≡ true
    → (row : Class) × (o ≡ Some row)
method_there p i None e = cc
method_there p i (Some row) e = (row, refl)

-- ---- hosts

module _ (cs : Classes) where
  host_by_none : (c : ℕ) (row : Class) (host : Option (List ℕ)) → host_by cs c row host ≡ None → HasName host
  host_by_none c row None e = cc
  host_by_none c row (Some name) e = (name, refl)

  host_missing : (c : ℕ) (row : Class) → slice_get cs.rows c ≡ Some row → nest_host cs c ≡ None → HasName (nest_host_named cs c)
  host_missing c row is none =
      subst (λ (o : Option Class). HasName (option_and_then (λ r. r.file.nest_host) o)) (sym is)
      (host_by_none c row row.file.nest_host (ap (option_and_then (λ (r : Class). host_by cs c r r.file.nest_host)) (sym is) ∙ none))

  by_hosts : (missing : Missing) (h k : Option ℕ) → same_nest h k ≡ NotKnown missing
      → ((missing ≡ CallerHost) × (h ≡ None)) ⊎ ((missing ≡ MethodHost) × (k ≡ None))
  by_hosts missing None k e = inl (cc, refl)
  by_hosts missing (Some h) None e = inr (cc, refl)
  by_hosts missing (Some h) (Some k) e = by_test (h == k) e
    where
      by_test : (b : Bool) → (if b then Allowed else Denied) ≡ NotKnown missing
          → ((missing ≡ CallerHost) × (Some h ≡ None)) ⊎ ((missing ≡ MethodHost) × (Some k ≡ None))
      by_test true e = cc
      by_test false e = cc

  -- ---- access of the caller d

  module _ (d : ℕ) (row : Class) (there : slice_get cs.rows d ≡ Some row) (missing : Missing) where
    record IsHidden (m : MethodId) : Type 0 where
      private_is : is_private cs m ≡ true
      hosts : same_nest (nest_host cs d) (nest_host cs m.class) ≡ NotKnown missing

    hidden_by_nest : (m : MethodId) → by_nest cs d m ≡ NotKnown missing → IsHidden m
    hidden_by_nest m e = by_tests (is_private cs m) refl (m.class == d) e
      where
        by_tests : (p : Bool) → is_private cs m ≡ p → (q : Bool)
            → (if not p then Denied else (if q then Allowed else same_nest (nest_host cs d) (nest_host cs m.class))) ≡ NotKnown missing → IsHidden m
        by_tests false is q e = cc
        by_tests true is true e = cc
        by_tests true is false e = record { private_is = is; hosts = e }

    hidden : (named : ℕ) (m : MethodId) → accessible cs d named m ≡ NotKnown missing → IsHidden m
    hidden named m e = by_test (is_public cs m || (by_subclass cs d named m || by_package cs d m)) e
      where
        by_test : (b : Bool) → (if b then Allowed else by_nest cs d m) ≡ NotKnown missing → IsHidden m
        by_test true e = cc
        by_test false e = hidden_by_nest m e

    -- ---- the method that the reference finds

    record IsFound (ref : Reference (List ℕ)) (named : ℕ) : Type 0 where
      method : MethodId
      found_is : found cs ref named ≡ Some method
      is_hidden : IsHidden method

    by_answer : (m : MethodId) (a : Access) → by_access m a ≡ Err (resolve.NotReady missing) → a ≡ NotKnown missing
    by_answer m Allowed e = cc
    by_answer m Denied e = cc
    by_answer m (NotKnown other) e = cc

    in_found : (ref : Reference (List ℕ)) (named : ℕ) (o : Option MethodId) → found cs ref named ≡ o
        → if_accessible cs d named o ≡ Err (resolve.NotReady missing) → IsFound ref named
    in_found ref named None is e = cc
    in_found ref named (Some m) is e =
        record { method = m; found_is = is; is_hidden = hidden named m (by_answer m (accessible cs d named m) e) }

    in_class : (ref : Reference (List ℕ)) (named : ℕ) → resolved_in cs d ref named ≡ Err (resolve.NotReady missing) → IsFound ref named
    in_class ref named e = by_tests (not (is_accessible_class cs d named)) (not (beq ref.itf (is_interface cs named))) e
      where
        by_tests : (p q : Bool)
            → (if p then Err (resolve.Fault IllegalAccessError) else (if q then Err (resolve.Fault IncompatibleClassChangeError) else
            if_accessible cs d named (found cs ref named))) ≡ Err (resolve.NotReady missing) → IsFound ref named
        by_tests true q e = cc
        by_tests false true e = cc
        by_tests false false e = in_found ref named (found cs ref named) refl e

    not_named : (named : ℕ) (r : Result MethodId ResolveAnswer) → naming named r ≡ Err (resolve.NotReady missing) → r ≡ Err (resolve.NotReady missing)
    not_named named (Ok m) e = cc
    not_named named (Err answer) e = cc

    by_hidden : (ref : Reference (List ℕ)) (named : ℕ) → named_class cs d ref ≡ Some named → IsFound ref named → HasName (missing_named cs d ref missing)
    by_hidden ref named is f =
        elim (by_hosts missing (nest_host cs d) (nest_host cs f.method.class) f.is_hidden.hosts) [
          | inl h ↦ subst (λ x. HasName (missing_named cs d ref x)) (sym h.0) (host_missing d row there h.1)
          | inr h ↦
              let own = method_there (λ m. has_flag m.flags PRIVATE) f.method.index (slice_get cs.rows f.method.class) f.is_hidden.private_is in
              let m_is : option_and_then (found cs ref) (named_class cs d ref) ≡ Some f.method = ap (option_and_then (found cs ref)) is ∙ f.found_is in
              subst (λ x. HasName (missing_named cs d ref x)) (sym h.0)
              (subst (λ (o : Option MethodId). HasName (option_and_then (λ m. nest_host_named cs m.class) o)) (sym m_is)
              (host_missing f.method.class own.0 own.1 h.1))
        ]

    not_resolved : (ref : Reference (List ℕ)) (o : Option ℕ) → named_class cs d ref ≡ o → resolved_at cs d ref o ≡ Err (resolve.NotReady missing)
        → HasName (missing_named cs d ref missing)
    not_resolved ref None is e = subst (λ (x : Missing). HasName (missing_named cs d ref x)) (same_missing e) (ref.owner, refl)
      where
        same_missing : resolved_at cs d ref None ≡ Err (resolve.NotReady missing) → Named ≡ missing
        same_missing e = cc
    not_resolved ref (Some named) is e = by_hidden ref named is (in_class ref named (not_named named (resolved_in cs d ref named) e))

-- ---- the site

module _ (w : World) (s : ℕ) (missing : Missing) where
  abbrev awaits : Stage
  awaits = Waits (NotReady missing)

  no_stage : (b : Bool) (x y : Stage) → (x ≡ awaits → ⊥) → (y ≡ awaits → ⊥) → (if b then x else y) ≡ awaits → ⊥
  no_stage true x y h k e = h e
  no_stage false x y h k e = k e

  no_selection : (selector : Selector) (d : ℕ) (ref : Reference (List ℕ)) (r : Resolved) → selecting w.classes selector d ref r ≡ awaits → ⊥
  no_selection selector d ref r = no_stage (is_static w.classes r.method) _ _ (λ e. fails e) (λ e. selects e)
    where
      fails : Fails IncompatibleClassChangeError ≡ awaits → ⊥
      fails e = cc

      selects : {i : ResolvedCall} → Selects i ≡ awaits → ⊥
      selects e = cc

  no_kind : (kind : Kind) (d : ℕ) (ref : Reference (List ℕ)) (r : Resolved) → by_kind w.classes kind d ref r ≡ awaits → ⊥
  no_kind Static d ref r = no_stage (is_static w.classes r.method) (Calls r.method) (Fails IncompatibleClassChangeError) (λ e. calls e) (λ e. fails e)
    where
      calls : Calls r.method ≡ awaits → ⊥
      calls e = cc

      fails : Fails IncompatibleClassChangeError ≡ awaits → ⊥
      fails e = cc
  no_kind Virtual d ref r = no_selection ByVirtual d ref r
  no_kind Interface d ref r = no_selection ByInterface d ref r
  no_kind Special d ref r =
      no_stage (is_init ref.name && not (r.method.class == r.named)) (Fails NoSuchMethodError) (selecting w.classes BySpecial d ref r) (λ e. fails e)
      (no_selection BySpecial d ref r)
    where
      fails : Fails NoSuchMethodError ≡ awaits → ⊥
      fails e = cc
  no_kind Dynamic d ref r = unbound
    where
      unbound : Waits Unbound ≡ awaits → ⊥
      unbound e = cc

  module _ (d : ℕ) (row : Class) (there : slice_get w.classes.rows d ≡ Some row) where
    by_reference : (kind : Kind) (ref : Reference (List ℕ)) (r : Result Resolved ResolveAnswer) → resolved w.classes d ref ≡ r
        → by_resolution w.classes kind d ref r ≡ awaits → HasName (awaited_by_answer w.classes d ref r)
    by_reference kind ref (Ok r) is e = absurd (no_kind kind d ref r e)
    by_reference kind ref (Err (resolve.Fault t)) is e = cc
    by_reference kind ref (Err (resolve.NotReady other)) is e =
        not_resolved w.classes d row there other ref (named_class w.classes d ref) refl is

    by_named : (kind : Kind) (named : Operand (List ℕ)) → by_operand w s d kind named ≡ awaits → HasName (awaited_by w.classes d named)
    by_named kind (operand.Method ref) e = by_reference kind ref (resolved w.classes d ref) refl e
    by_named kind (operand.CallSite specifier) e = no_binding (bound_to w s) e
      where
        no_method : (o : Option MethodId) → by_method o ≡ awaits → HasName None
        no_method None e = cc
        no_method (Some m) e = cc

        no_binding : (o : Option ℕ) → by_binding w.sites o ≡ awaits → HasName None
        no_binding None e = cc
        no_binding (Some c) e = no_method (method_of w.sites c) e

    by_invocation : (o : Option Site) → stage_of w s d o ≡ awaits → HasName (option_and_then (λ site. awaited_by w.classes d site.operand) o)
    by_invocation None e = cc
    by_invocation (Some site) e = by_named site.kind site.operand e

  by_place : (o : Option Place) → stage_at w s o ≡ awaits → HasName (option_and_then (awaited_at w.classes) o)
  by_place None e = cc
  by_place (Some place) e = by_presence (is_present w.classes place.class) refl e
    where
      by_presence : (b : Bool) → is_present w.classes place.class ≡ b
          → (if b then stage_of w s place.class (invocation_at w.classes place) else Waits Gone) ≡ awaits
          → HasName (if b then option_and_then (λ site. awaited_by w.classes place.class site.operand) (invocation_at w.classes place) else None)
      by_presence false is e = cc
      by_presence true is e =
          let own = there_by (λ row. not (is_retired w.classes row.loader)) (slice_get w.classes.rows place.class) is in
          by_invocation place.class own.0 own.1 (invocation_at w.classes place) e

  waits : (at : Stage) → link_of w.classes at ≡ Err (NotReady missing) → at ≡ awaits
  waits (Waits reason) e = cc
  waits (Fails t) e = cc
  waits (Calls m) e = cc
  waits (Selects i) e = cc

  pub awaited_named : scratch w s ≡ Err (NotReady missing) → HasName (awaited s w)
  awaited_named e = by_place (slice_get w.places s) (waits (stage w s) e)
