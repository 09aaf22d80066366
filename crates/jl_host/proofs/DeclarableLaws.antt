-- Each method that a link from scratch runs after accepted events is among those that a class file can declare.
use Rattle.std.specs.Prelude.{◌≡◌, ℕ, zero, suc, ◌<◌, ◌==◌, ◌&&◌, ◌||◌, nat_lt, nat_le, not, Bool, true, false, ⊤, List, [], ◌∷◌, ◌++◌, map, filter}
use Rattle.std.specs.Prelude.{filter_map, fold, take, length, position, slice_get, slice_set, Option, Some, None, option_map, option_and_then, option_to_list}
use Rattle.std.specs.Prelude.{Result, Ok, Err, IfSome, IfOk, IsOk, if◌then◌else◌}
use Rattle.std.specs.Bool.{beq, then_some}
use Rattle.std.specs.List.{AllByRecursion, cons_option, list_all, list_any}
use Rattle.std.specs.Option.{option_map_or}
use Rattle.std.proofs.Common.{refl, ap, sym, ◌∙◌, arith}
use Rattle.std.proofs.lemmas.Bool.{and_from, not-false, lt-ltb, ltb-true}
use Rattle.std.proofs.lemmas.List.Quantifiers.{position-Some}
use Rattle.jl_pool.specs.declared.reference.Reference.{Reference}
use Rattle.jl_class.specs.Class.{Method as MethodRow}
use Rattle.jl_class.specs.Flags.{extends_object, object}
use Rattle.jl_class.specs.Special.{begins_special}
use Rattle.jl_class.specs.Site.{Site}
use Rattle.jl_class.specs.declared.site.Kind.{Kind}
use Rattle.jl_class.specs.declared.site.Kind.TheVariants.{Virtual, Special, Static, Interface, Dynamic}
use Rattle.jl_class.specs.declared.site.Operand.{Operand}
use Rattle.jl_class.specs.declared.site.Operand.TheVariants as operand
use Rattle.jl_types.specs.declared.ids.MethodId.{MethodId}
use Rattle.jl_types.specs.declared.ids.Place.{Place}
use Rattle.jl_types.specs.declared.answer.Chosen.{Chosen}
use Rattle.jl_types.specs.declared.answer.Chosen.TheVariants.{Method as Picked, Several, Nothing}
use Rattle.jl_types.specs.declared.answer.Outcome.{Outcome}
use Rattle.jl_types.specs.declared.answer.Outcome.TheVariants.{Run, Throws}
use Rattle.jl_types.specs.declared.answer.ResolveAnswer.{ResolveAnswer}
use Rattle.jl_types.specs.declared.answer.ResolveAnswer.TheVariants as resolve
use Rattle.jl_types.specs.declared.answer.Throwable.TheVariants.{NoSuchMethodError, IllegalAccessError, IncompatibleClassChangeError, AbstractMethodError}
use Rattle.jl_types.specs.declared.answer.Unlinked.{Unlinked}
use Rattle.jl_types.specs.declared.answer.Unlinked.TheVariants.{Gone}
use Rattle.jl_types.specs.declared.event.EventOf.TheVariants as event
use Rattle.jl_types.specs.declared.limits.Limits.{Limits}
use Rattle.jl_types.specs.declared.link.Link.{Link}
use Rattle.jl_types.specs.declared.link.Link.TheVariants.{Direct, Table, Mega}
use Rattle.jl_types.specs.declared.link.TableKind.{TableKind}
use Rattle.jl_types.specs.declared.link.TableKind.TheVariants as table
use Rattle.jl_types.specs.declared.refusal.CallSiteFault.TheVariants.{UnknownMethod, UnknownSwitch, TooDeep, Full, Constant}
use Rattle.jl_types.specs.declared.refusal.Refusal.TheVariants as refusal
use Rattle.jl_types.specs.Values.Target.{Target, Method, Guard, Invoker, depth}
use Rattle.jl_types.specs.Values.World.{World, Class, Classes, Sites, CallSite, nothing_yet, unreleased, is_missing}
use Rattle.jl_types.specs.Values.Members.{is_present, is_interface, is_private, is_public, is_static, is_abstract, is_called, lookup}
use Rattle.jl_types.specs.Values.Members.{methods_of, method_at, method_test, declared}
use Rattle.jl_types.specs.Values.Ancestry.{is_ancestor, is_proper_ancestor, superclasses, superinterfaces, receivers}
use Rattle.jl_types.specs.Linkage.Access.{Access, Allowed, Denied, NotKnown, accessible, is_accessible_class}
use Rattle.jl_types.specs.Linkage.Resolution.{first_element, pick, only, candidates, max_specific, defaults, declared_upward, declared_in_object}
use Rattle.jl_types.specs.Linkage.Resolution.{found_in_class, found_in_interface, found, Resolved, by_access, if_accessible}
use Rattle.jl_types.specs.Linkage.Resolution.{named_class, naming, resolved_at, resolved}
use Rattle.jl_types.specs.Linkage.Overriding.{can_override}
use Rattle.jl_types.specs.Linkage.Selection.{found_or, overriding, chosen_of, chosen, ending, virtual_outcome, interface_ending, special_outcome}
use Rattle.jl_types.specs.Linkage.Selection.{is_init, special_start, instance_methods, special_in_class, special_in_interface, special_found, special_choice}
use Rattle.jl_types.specs.Linkage.Stages.{Selector, ByVirtual, ByInterface, BySpecial, ResolvedCall, Stage, Waits, Fails, Calls, Selects}
use Rattle.jl_types.specs.Linkage.Stages.{selecting, by_kind, by_resolution, by_method, by_binding, bound_to, invocation_at}
use Rattle.jl_types.specs.Linkage.Stages.{by_operand, stage_of, stage_at, stage}
use Rattle.jl_types.specs.Linkage.Targets.{is_valid, run_by, run_below, method_of, parts, may_be_named, part_fault, target_fault}
use Rattle.jl_types.specs.Linkage.Links.{outcome_by, outcome, table_rows, table_or_mega, runs, virtual_link, link_by, link_of, scratch}
use Rattle.jl_types.specs.Events.Event.{Event}
use Rattle.jl_types.specs.Events.Definitions.{class_made}
use Rattle.jl_types.specs.Events.Verdict.{is_constant, new_call_site_fault, set_target_fault, retargeted, verdict, step}
use Rattle.jl_types.specs.Events.Release.{without}
use Rattle.jl_types.specs.Events.History.{world_after}
use Rattle.jl_types.proofs.Bools.{first_test, second_test}
use Rattle.jl_types.proofs.Firsts.{first_none, test_none}
use Rattle.jl_types.proofs.Lists.{passes_within, all_at, all_set}
use Rattle.jl_resolve.proofs.Unchanged.{all_filter, first_there, all_option, first_of_there}
use Rattle.jl_relink.specs.Laws.{has_read_file, AreAccepted}
use Rattle.jl_relink.proofs.Closing.{no_fault}
use Rattle.jl_host.specs.Reading.{is_declarable, runs_declarable}

-- the method is among those that a class file can declare: the first 2^16 of its class
abbrev IsDeclarable : MethodId → Type 0
IsDeclarable m = is_declarable (Run m) ≡ true

-- so is what was chosen, what was resolved, or what a site runs or selects by, if there is one
abbrev IsDeclarableChoice : Chosen → Type 0
IsDeclarableChoice (Picked m) = IsDeclarable m
IsDeclarableChoice Several = ⊤
IsDeclarableChoice Nothing = ⊤

abbrev IsDeclarableResolution : Result Resolved ResolveAnswer → Type 0
IsDeclarableResolution r = IfOk r (λ it. IsDeclarable it.method)

abbrev IsDeclarableStage : Stage → Type 0
IsDeclarableStage (Waits reason) = ⊤
IsDeclarableStage (Fails throwable) = ⊤
IsDeclarableStage (Calls m) = IsDeclarable m
IsDeclarableStage (Selects i) = IsDeclarable i.method

only_declarable : (ms : List MethodId) → AllByRecursion IsDeclarable ms → IfSome (only (pick ms)) IsDeclarable
only_declarable [] all = tt
only_declarable (m ∷ []) all = all.0
only_declarable (m ∷ n ∷ ms) all = tt

picked : (ms : List MethodId) → AllByRecursion IsDeclarable ms → IsDeclarableChoice (pick ms)
picked [] all = tt
picked (m ∷ []) all = all.0
picked (m ∷ n ∷ ms) all = tt

found_or_picked : (o : Option MethodId) (ms : List MethodId) → IfSome o IsDeclarable → AllByRecursion IsDeclarable ms → IsDeclarableChoice (found_or o ms)
found_or_picked None ms one all = picked ms all
found_or_picked (Some m) ms one all = one

-- ---- what a link runs, if each method that a class declares is declarable

module _ (cs : Classes) (each : (name ty : List ℕ) (c : ℕ) → IfSome (declared cs name ty c) IsDeclarable) where
  module _ (name ty : List ℕ) where
    -- what is found in these classes
    all_declared : (xs : List ℕ) → AllByRecursion IsDeclarable (filter_map (declared cs name ty) xs)
    all_declared [] = tt
    all_declared (c ∷ xs) = by_found (declared cs name ty c) (each name ty c) (all_declared xs)
      where
        by_found : (o : Option MethodId) → IfSome o IsDeclarable → AllByRecursion IsDeclarable (filter_map (declared cs name ty) xs)
            → AllByRecursion IsDeclarable (cons_option o (filter_map (declared cs name ty) xs))
        by_found None is rest = rest
        by_found (Some m) is rest = (is, rest)

    all_candidates : (c : ℕ) → AllByRecursion IsDeclarable (candidates cs name ty c)
    all_candidates c =
        all_filter IsDeclarable (λ m. not (is_private cs m || is_static cs m)) (filter_map (declared cs name ty) (superinterfaces cs c))
        (all_declared (superinterfaces cs c))

    all_defaults : (c : ℕ) → AllByRecursion IsDeclarable (defaults cs name ty c)
    all_defaults c =
        all_filter IsDeclarable (λ m. not (is_abstract cs m)) (max_specific cs name ty c)
        (all_filter IsDeclarable (λ m. not (list_any (λ other. is_proper_ancestor cs m.class other.class) (candidates cs name ty c)))
        (candidates cs name ty c) (all_candidates c))

    in_object : IfSome (declared_in_object cs name ty) IsDeclarable
    in_object =
        first_there IsDeclarable (filter (λ m. is_public cs m && not (is_static cs m)) (option_to_list own))
        (all_filter IsDeclarable (λ m. is_public cs m && not (is_static cs m)) (option_to_list own)
        (all_option IsDeclarable own (by_class (lookup cs 0 object))))
      where
        own : Option MethodId
        own = option_and_then (declared cs name ty) (lookup cs 0 object)

        by_class : (o : Option ℕ) → IfSome (option_and_then (declared cs name ty) o) IsDeclarable
        by_class None = tt
        by_class (Some c) = each name ty c

    in_class : (c : ℕ) → IfSome (found_in_class cs name ty c) IsDeclarable
    in_class c =
        first_of_there IsDeclarable (declared_upward cs name ty c ∷ only (pick (defaults cs name ty c)) ∷ first_element (candidates cs name ty c) ∷ []) (
          first_there IsDeclarable (filter_map (declared cs name ty) (superclasses cs c)) (all_declared (superclasses cs c)),
          (
            only_declarable (defaults cs name ty c) (all_defaults c),
            (first_there IsDeclarable (candidates cs name ty c) (all_candidates c), tt),
          ),
        )

    in_interface : (c : ℕ) → IfSome (found_in_interface cs name ty c) IsDeclarable
    in_interface c =
        first_of_there IsDeclarable
        (declared cs name ty c ∷ declared_in_object cs name ty ∷ only (pick (defaults cs name ty c)) ∷ first_element (candidates cs name ty c) ∷ []) (
          each name ty c,
          (
            in_object,
            (
              only_declarable (defaults cs name ty c) (all_defaults c),
              (first_there IsDeclarable (candidates cs name ty c) (all_candidates c), tt),
            ),
          ),
        )

    -- ---- invokespecial

    all_instance : (ms : List MethodId) → AllByRecursion IsDeclarable ms → IfSome (first_element (instance_methods cs ms)) IsDeclarable
    all_instance ms all = first_there IsDeclarable (instance_methods cs ms) (all_filter IsDeclarable (λ m. not (is_static cs m)) ms all)

    special_there : (c : ℕ) → IfSome (special_found cs name ty c) IsDeclarable
    special_there c = by_test (is_interface cs c)
      where
        by_test : (b : Bool) → IfSome (if b then special_in_interface cs name ty c else special_in_class cs name ty c) IsDeclarable
        by_test true =
            first_of_there IsDeclarable
            (first_element (instance_methods cs (option_to_list (declared cs name ty c))) ∷ declared_in_object cs name ty ∷ []) (
              all_instance (option_to_list (declared cs name ty c)) (all_option IsDeclarable (declared cs name ty c) (each name ty c)),
              (in_object, tt),
            )
        by_test false = all_instance (filter_map (declared cs name ty) (superclasses cs c)) (all_declared (superclasses cs c))

  -- ---- the outcome of a choice

  ending_declarable : (o : Chosen) → IsDeclarableChoice o → is_declarable (ending cs o) ≡ true
  ending_declarable (Picked m) is = by_test (is_abstract cs m)
    where
      by_test : (b : Bool) → is_declarable (if b then Throws AbstractMethodError else Run m) ≡ true
      by_test true = refl
      by_test false = is
  ending_declarable Several is = refl
  ending_declarable Nothing is = refl

  interface_declarable : (o : Chosen) → IsDeclarableChoice o → is_declarable (interface_ending cs o) ≡ true
  interface_declarable (Picked m) is = by_test (is_public cs m || is_private cs m)
    where
      by_test : (b : Bool) → is_declarable (if b then ending cs (Picked m) else Throws IllegalAccessError) ≡ true
      by_test true = ending_declarable (Picked m) is
      by_test false = refl
  interface_declarable Several is = refl
  interface_declarable Nothing is = refl

  -- ---- selection

  chosen_declarable : (x : ℕ) (r : MethodId) → IsDeclarable r → IsDeclarableChoice (chosen cs x r)
  chosen_declarable x r is = by_test (is_private cs r)
    where
      by_method : (o : Option MethodRow) → IsDeclarableChoice (chosen_of cs x r o)
      by_method None = tt
      by_method (Some method) =
          found_or_picked (overriding cs x r method) (defaults cs method.name method.ty x)
          (first_there IsDeclarable (filter (λ m. can_override cs m r) (filter_map (declared cs method.name method.ty) (superclasses cs x)))
          (all_filter IsDeclarable (λ m. can_override cs m r) (filter_map (declared cs method.name method.ty) (superclasses cs x))
          (all_declared method.name method.ty (superclasses cs x))))
          (all_defaults method.name method.ty x)

      by_test : (b : Bool) → IsDeclarableChoice (if b then Picked r else chosen_of cs x r (method_at cs r))
      by_test true = is
      by_test false = by_method (method_at cs r)

  special_declarable : (d named : ℕ) (ref : Reference (List ℕ)) → is_declarable (special_outcome cs d named ref) ≡ true
  special_declarable d named ref = ending_declarable (special_choice cs ref (special_start cs d named ref)) (by_class (special_start cs d named ref))
    where
      by_class : (o : Option ℕ) → IsDeclarableChoice (special_choice cs ref o)
      by_class None = tt
      by_class (Some c) =
          found_or_picked (special_found cs ref.name ref.ty c) (defaults cs ref.name ref.ty c) (special_there ref.name ref.ty c)
          (all_defaults ref.name ref.ty c)

  -- ---- resolution

  resolved_declarable : (d : ℕ) (ref : Reference (List ℕ)) → IsDeclarableResolution (resolved cs d ref)
  resolved_declarable d ref = by_class (named_class cs d ref)
    where
      of_access : (named : ℕ) (m : MethodId) (a : Access) → IsDeclarable m → IsDeclarableResolution (naming named (by_access m a))
      of_access named m Allowed is = is
      of_access named m Denied is = tt
      of_access named m (NotKnown missing) is = tt

      of_found : (named : ℕ) (o : Option MethodId) → IfSome o IsDeclarable → IsDeclarableResolution (naming named (if_accessible cs d named o))
      of_found named None is = tt
      of_found named (Some m) is = of_access named m (accessible cs d named m) is

      found_there : (named : ℕ) (itf : Bool)
          → IfSome (if itf then found_in_interface cs ref.name ref.ty named else found_in_class cs ref.name ref.ty named) IsDeclarable
      found_there named true = in_interface ref.name ref.ty named
      found_there named false = in_class ref.name ref.ty named

      by_itf : (named : ℕ) (b : Bool)
          → IsDeclarableResolution (naming named (if not b then Err (resolve.Fault IncompatibleClassChangeError) else
          if_accessible cs d named (found cs ref named)))
      by_itf named true = of_found named (found cs ref named) (found_there named ref.itf)
      by_itf named false = tt

      by_public : (named : ℕ) (b : Bool)
          → IsDeclarableResolution (naming named (if not b then Err (resolve.Fault IllegalAccessError) else (
          if not (beq ref.itf (is_interface cs named)) then Err (resolve.Fault IncompatibleClassChangeError) else
          if_accessible cs d named (found cs ref named))))
      by_public named true = by_itf named (beq ref.itf (is_interface cs named))
      by_public named false = tt

      by_class : (o : Option ℕ) → IsDeclarableResolution (resolved_at cs d ref o)
      by_class None = tt
      by_class (Some named) = by_public named (is_accessible_class cs d named)

  -- ---- stages

  selecting_declarable : (selector : Selector) (d : ℕ) (ref : Reference (List ℕ)) (r : Resolved) → IsDeclarable r.method
      → IsDeclarableStage (selecting cs selector d ref r)
  selecting_declarable selector d ref r is = by_test (is_static cs r.method)
    where
      by_test : (b : Bool)
          → IsDeclarableStage (if b then Fails IncompatibleClassChangeError else
          Selects (record { selector = selector; caller = d; named = r.named; ref = ref; method = r.method }))
      by_test true = tt
      by_test false = is

  kind_declarable : (kind : Kind) (d : ℕ) (ref : Reference (List ℕ)) (r : Resolved) → IsDeclarable r.method → IsDeclarableStage (by_kind cs kind d ref r)
  kind_declarable Static d ref r is = by_test (is_static cs r.method)
    where
      by_test : (b : Bool) → IsDeclarableStage (if b then Calls r.method else Fails IncompatibleClassChangeError)
      by_test true = is
      by_test false = tt
  kind_declarable Virtual d ref r is = selecting_declarable ByVirtual d ref r is
  kind_declarable Interface d ref r is = selecting_declarable ByInterface d ref r is
  kind_declarable Special d ref r is = by_test (is_init ref.name && not (r.method.class == r.named))
    where
      by_test : (b : Bool) → IsDeclarableStage (if b then Fails NoSuchMethodError else selecting cs BySpecial d ref r)
      by_test true = tt
      by_test false = selecting_declarable BySpecial d ref r is
  kind_declarable Dynamic d ref r is = tt

  resolution_declarable : (kind : Kind) (d : ℕ) (ref : Reference (List ℕ)) (r : Result Resolved ResolveAnswer) → IsDeclarableResolution r
      → IsDeclarableStage (by_resolution cs kind d ref r)
  resolution_declarable kind d ref (Err (resolve.NotReady missing)) is = tt
  resolution_declarable kind d ref (Err (resolve.Fault throwable)) is = tt
  resolution_declarable kind d ref (Ok r) is = kind_declarable kind d ref r is

  -- ---- links

  outcome_declarable : (i : ResolvedCall) → IsDeclarable i.method → (selector : Selector) (x : ℕ) → is_declarable (outcome_by cs i selector x) ≡ true
  outcome_declarable i is ByVirtual x = ending_declarable (chosen cs x i.method) (chosen_declarable x i.method is)
  outcome_declarable i is ByInterface x = by_test (is_ancestor cs i.named x)
    where
      by_test : (b : Bool)
          → is_declarable (if b then interface_ending cs (chosen cs x i.method) else Throws IncompatibleClassChangeError) ≡ true
      by_test true = interface_declarable (chosen cs x i.method) (chosen_declarable x i.method is)
      by_test false = refl
  outcome_declarable i is BySpecial x = special_declarable i.caller i.named i.ref

  rows_declarable : (i : ResolvedCall) → IsDeclarable i.method → (xs : List ℕ)
      → list_all is_declarable (map (λ (row : ℕ × Outcome). row.1) (map (λ x. (x, outcome cs i x)) xs)) ≡ true
  rows_declarable i is [] = refl
  rows_declarable i is (x ∷ xs) =
      and_from (is_declarable (outcome cs i x)) (list_all is_declarable (map (λ (row : ℕ × Outcome). row.1) (map (λ y. (y, outcome cs i y)) xs)))
      (outcome_declarable i is i.selector x) (rows_declarable i is xs)

  one_declarable : (o : Outcome) → is_declarable o ≡ true → runs_declarable (Direct o) ≡ true
  one_declarable o is = and_from (is_declarable o) true is refl

  table_declarable : (kind : TableKind) (rows : List (ℕ × Outcome)) → list_all is_declarable (map (λ (row : ℕ × Outcome). row.1) rows) ≡ true
      → runs_declarable (table_or_mega kind rows) ≡ true
  table_declarable kind rows all = by_test (nat_le (length rows) 8)
    where
      by_test : (b : Bool) → runs_declarable (if b then Table kind rows else Mega) ≡ true
      by_test true = all
      by_test false = refl

  virtual_declarable : (rows : List (ℕ × Outcome)) → list_all is_declarable (map (λ (row : ℕ × Outcome). row.1) rows) ≡ true
      → runs_declarable (virtual_link rows) ≡ true
  virtual_declarable [] all = refl
  virtual_declarable ((x, Throws throwable) ∷ rows) all = table_declarable table.Virtual ((x, Throws throwable) ∷ rows) all
  virtual_declarable ((x, Run m) ∷ rows) all = by_test (list_all (λ row. runs m row.1) rows)
    where
      by_test : (b : Bool) → runs_declarable (if b then Direct (Run m) else table_or_mega table.Virtual ((x, Run m) ∷ rows)) ≡ true
      by_test true = one_declarable (Run m) (first_test (is_declarable (Run m)) (list_all is_declarable (map (λ (row : ℕ × Outcome). row.1) rows)) all)
      by_test false = table_declarable table.Virtual ((x, Run m) ∷ rows) all

  selected_declarable : (i : ResolvedCall) → IsDeclarable i.method → (selector : Selector) → runs_declarable (link_by cs i selector) ≡ true
  selected_declarable i is ByVirtual = by_test (is_private cs i.method)
    where
      by_test : (b : Bool) → runs_declarable (if b then Direct (virtual_outcome cs i.named i.method) else virtual_link (table_rows cs i)) ≡ true
      by_test true = one_declarable (virtual_outcome cs i.named i.method) (outcome_declarable i is ByVirtual i.named)
      by_test false = virtual_declarable (table_rows cs i) (rows_declarable i is (receivers cs i.named))
  selected_declarable i is ByInterface = table_declarable table.Interface (table_rows cs i) (rows_declarable i is (receivers cs i.named))
  selected_declarable i is BySpecial = one_declarable (special_outcome cs i.caller i.named i.ref) (special_declarable i.caller i.named i.ref)

  link_declarable : (t : Stage) → IsDeclarableStage t → IfOk (link_of cs t) (λ link. runs_declarable link ≡ true)
  link_declarable (Waits reason) is = tt
  link_declarable (Fails throwable) is = refl
  link_declarable (Calls m) is = one_declarable (Run m) is
  link_declarable (Selects i) is = selected_declarable i is i.selector

-- ---- what call sites run, if each method that a target names is declarable

-- each method that the target names is declarable, be it on a side that isn't taken
abbrev NamesDeclarable : Target → Type 0
NamesDeclarable (Method m) = IsDeclarable m
NamesDeclarable (Guard p first fallback) = NamesDeclarable first × NamesDeclarable fallback
NamesDeclarable (Invoker c) = ⊤

abbrev IsDeclarableSite : CallSite → Type 0
IsDeclarableSite site = NamesDeclarable site.target

-- unless it is released
abbrev IsDeclarableRow : Option CallSite → Type 0
IsDeclarableRow row = IfSome row IsDeclarableSite

unreleased_declarable : (rows : List (Option CallSite)) (c : ℕ) → AllByRecursion IsDeclarableRow rows → IsDeclarableRow (unreleased rows c)
unreleased_declarable rows c all = by_row (slice_get rows c) refl
  where
    by_row : (o : Option (Option CallSite)) → slice_get rows c ≡ o → IsDeclarableRow (option_and_then (λ row. row) o)
    by_row None at = tt
    by_row (Some row) at = all_at IsDeclarableRow rows c row at all

-- what a target stands for, what call sites stand for that come before another one, and what a call site runs
module _ (sites : Sites) (all : AllByRecursion IsDeclarableRow sites.call_sites) where
  target_runs : (run : ℕ → Option MethodId) → ((c : ℕ) → IfSome (run c) IsDeclarable) → (t : Target) → NamesDeclarable t
      → IfSome (run_by sites run t) IsDeclarable
  target_runs run each (Method m) is = is
  target_runs run each (Guard p first fallback) is =
      by_test (is_valid sites p) (target_runs run each first is.0) (target_runs run each fallback is.1)
    where
      by_test : (b : Bool) → IfSome (run_by sites run first) IsDeclarable → IfSome (run_by sites run fallback) IsDeclarable
          → IfSome (if b then run_by sites run first else run_by sites run fallback) IsDeclarable
      by_test true one two = one
      by_test false one two = two
  target_runs run each (Invoker c) is = each c

  site_runs : (run : ℕ → Option MethodId) → ((c : ℕ) → IfSome (run c) IsDeclarable) → (c : ℕ)
      → IfSome (option_and_then (λ site. run_by sites run site.target) (unreleased sites.call_sites c)) IsDeclarable
  site_runs run each c = by_site (unreleased sites.call_sites c) (unreleased_declarable sites.call_sites c all)
    where
      by_site : (row : Option CallSite) → IsDeclarableRow row → IfSome (option_and_then (λ site. run_by sites run site.target) row) IsDeclarable
      by_site None is = tt
      by_site (Some site) is = target_runs run each site.target is

  below_runs : (n c : ℕ) → IfSome (run_below sites n c) IsDeclarable
  below_runs zero c = tt
  below_runs (suc n) c = by_test (n == c) (below_runs n) (site_runs (run_below sites n) (below_runs n) c)
    where
      by_test : (b : Bool) → ((d : ℕ) → IfSome (run_below sites n d) IsDeclarable)
          → IfSome (option_and_then (λ site. run_by sites (run_below sites n) site.target) (unreleased sites.call_sites c)) IsDeclarable
          → IfSome (if b then option_and_then (λ site. run_by sites (run_below sites n) site.target) (unreleased sites.call_sites c)
          else run_below sites n c) IsDeclarable
      by_test true earlier here = here
      by_test false earlier here = earlier c

  call_site_runs : (c : ℕ) → IfSome (method_of sites c) IsDeclarable
  call_site_runs c = site_runs (run_below sites c) (below_runs c) c

-- ---- a class file can declare fewer than 2^16 methods

-- the class is of a file that was read
abbrev IsFew : Class → Type 0
IsFew row = nat_lt (length row.file.methods) 65536 ≡ true

-- the place of an element lies within the list
placed_within : (test : MethodRow → Bool) (ms : List MethodRow) (i : ℕ) → position test ms ≡ Some i → i < length ms
placed_within test [] i e = cc
placed_within test (m ∷ ms) i e = (position-Some test (m ∷ ms) i m e).0

module _ (cs : Classes) (few : AllByRecursion IsFew cs.rows) where
  few_methods : (c : ℕ) → nat_lt (length (methods_of cs c)) 65536 ≡ true
  few_methods c = by_row (slice_get cs.rows c) refl
    where
      by_row : (o : Option Class) → slice_get cs.rows c ≡ o → nat_lt (length (option_map_or (λ row. row.file.methods) o [])) 65536 ≡ true
      by_row None at = refl
      by_row (Some row) at = all_at IsFew cs.rows c row at few

  -- a method that is there is declarable
  within_few : (m : MethodId) → m.index < length (methods_of cs m.class) → IsDeclarable m
  within_few m lt = let most = ltb-true (length (methods_of cs m.class)) 65536 (few_methods m.class) in lt-ltb m.index 65536 (omega (arith, lt, most))

  each_declared : (name ty : List ℕ) (c : ℕ) → IfSome (declared cs name ty c) IsDeclarable
  each_declared name ty c = by_place (position (is_called name ty) (methods_of cs c)) refl
    where
      by_place : (o : Option ℕ) → position (is_called name ty) (methods_of cs c) ≡ o
          → IfSome {T = MethodId} (option_map (λ i. record { class = c; index = i }) o) IsDeclarable
      by_place None at = tt
      by_place (Some i) at = within_few (record { class = c; index = i }) (placed_within (is_called name ty) (methods_of cs c) i at)

-- a target that nothing speaks against names methods that are there
module _ (w : World) (few : AllByRecursion IsFew w.classes.rows) where
  named_in_part : (c : ℕ) (ty : List ℕ) (t : Target) → part_fault w c ty t ≡ None → NamesDeclarable t
  named_in_part c ty (Method m) e =
      let named = first_none (then_some (not (may_be_named w.classes m)) UnknownMethod) _ e in
      let may = not-false (may_be_named w.classes m) (test_none (not (may_be_named w.classes m)) UnknownMethod named.0) in
      within_few w.classes few m (passes_within (λ method. not (begins_special method.name)) (methods_of w.classes m.class) m.index
      (second_test (is_present w.classes m.class) (method_test (λ method. not (begins_special method.name)) w.classes m) may))
  named_in_part c ty (Guard p first fallback) e =
      let guard = first_none (then_some (is_missing w.sites.switches p) UnknownSwitch) (part_fault w c ty first ∷ part_fault w c ty fallback ∷ []) e in
      let one = first_none (part_fault w c ty first) (part_fault w c ty fallback ∷ []) guard.1 in
      (named_in_part c ty first one.0, named_in_part c ty fallback (first_none (part_fault w c ty fallback) [] one.1).0)
  named_in_part c ty (Invoker d) e = tt

  named_in_target : (c : ℕ) (ty : List ℕ) (t : Target) → target_fault w c ty t ≡ None → NamesDeclarable t
  named_in_target c ty t e =
      named_in_part c ty t (first_none (part_fault w c ty t) []
      (first_none (then_some (nat_lt 64 (depth t) || nat_lt 255 (parts t)) TooDeep) (part_fault w c ty t ∷ []) e).1).0

  named_when_new : (most : ℕ) (ty : List ℕ) (t : Target) → new_call_site_fault most w ty t ≡ None → NamesDeclarable t
  named_when_new most ty t e =
      let c = length w.sites.call_sites in
      named_in_target c ty t (first_none (target_fault w c ty t) []
      (first_none (then_some (nat_le most c) Full) (target_fault w c ty t ∷ []) e).1).0

  named_when_set : (c : ℕ) (t : Target) (found : Option CallSite) → set_target_fault w c found t ≡ None → NamesDeclarable t
  named_when_set c t None e = cc
  named_when_set c t (Some site) e = by_test (is_constant site.kind) e
    where
      by_test : (b : Bool) → (if b then Some Constant else target_fault w c site.ty t) ≡ None → NamesDeclarable t
      by_test true h = cc
      by_test false h = named_in_target c site.ty t h

-- ---- events

-- what holds of each element and of the one that is added
with_last : {A : Type 0} (P : A → Type 0) (xs : List A) (x : A) → AllByRecursion P xs → P x → AllByRecursion P (xs ++ x ∷ [])
with_last P [] x all is = (is, tt)
with_last P (y ∷ xs) x all is = (all.0, with_last P xs x all.1 is)

-- so it is once a call site has a new target
all_retargeted : (rows : List (Option CallSite)) (c : ℕ) (t : Target) → AllByRecursion IsDeclarableRow rows → NamesDeclarable t
    → AllByRecursion IsDeclarableRow (retargeted rows c t)
all_retargeted rows c t all is = by_site (unreleased rows c)
  where
    by_site : (o : Option CallSite) → AllByRecursion IsDeclarableRow (option_map_or (λ site. slice_set rows c (Some (record site { target = t }))) o rows)
    by_site None = all
    by_site (Some site) = all_set IsDeclarableRow rows c (Some (record site { target = t })) is all

-- and once some are released
all_without : (rows : List (Option CallSite)) (going : List ℕ) → AllByRecursion IsDeclarableRow rows → AllByRecursion IsDeclarableRow (without rows going)
all_without rows [] all = all
all_without rows (c ∷ going) all = all_without (slice_set rows c None) going (all_set IsDeclarableRow rows c None tt all)

-- what a world's classes declare and what its call sites' targets name
abbrev AreDeclarable : World → Type 0
AreDeclarable w = AllByRecursion IsFew w.classes.rows × AllByRecursion IsDeclarableRow w.sites.call_sites

declarable_after : (limits : Limits) (w : World) → AreDeclarable w → (e : Event) → IsOk (verdict limits w e) → has_read_file e ≡ true
    → AreDeclarable (step w e)
declarable_after limits w all event.NewLoader accepted read = all
declarable_after limits w all (event.Define loader file) accepted read = (
  with_last IsFew w.classes.rows (class_made w.classes loader file) all.0
      (second_test (extends_object file.flags file.superclass) (nat_lt (length file.methods) 65536) read),
  all.1,
)
declarable_after limits w all (event.Delegate loader name to) accepted read = all
declarable_after limits w all (event.Request place) accepted read = all
declarable_after limits w all (event.NewCallSite kind ty t) accepted read = (
  all.0,
  with_last IsDeclarableRow w.sites.call_sites (Some (record { kind = kind; ty = ty; target = t })) all.1
      (named_when_new w all.0 limits.call_sites ty t (no_fault refusal.CallSite (new_call_site_fault limits.call_sites w ty t) _ accepted)),
)
declarable_after limits w all (event.SetTarget c t) accepted read = (
  all.0,
  all_retargeted w.sites.call_sites c t all.1
      (named_when_set w all.0 c t (unreleased w.sites.call_sites c)
      (no_fault refusal.CallSite (set_target_fault w c (unreleased w.sites.call_sites c) t) _ accepted)),
)
declarable_after limits w all event.NewSwitch accepted read = all
declarable_after limits w all (event.Invalidate points) accepted read = all
declarable_after limits w all (event.Bind s c) accepted read = all
declarable_after limits w all (event.Install rows) accepted read = all
declarable_after limits w all (event.Retire loader) accepted read = all
declarable_after limits w all (event.RetireAll loaders) accepted read = all
declarable_after limits w all (event.Release call_sites points) accepted read = (all.0, all_without w.sites.call_sites call_sites all.1)

from : (limits : Limits) (h : List Event) (w : World) → AreDeclarable w
    → ((n : ℕ) (e : Event) → slice_get h n ≡ Some e → IsOk (verdict limits (fold step w (take n h)) e)) → list_all has_read_file h ≡ true
    → AreDeclarable (fold step w h)
from limits [] w all each files = all
from limits (e ∷ h) w all each files =
    from limits h (step w e)
    (declarable_after limits w all e (each 0 e refl) (first_test (has_read_file e) (list_all has_read_file h) files))
    (λ n f at. each (suc n) f at) (second_test (has_read_file e) (list_all has_read_file h) files)

-- ---- a site

module _ (w : World) (all : AreDeclarable w) (s : ℕ) where
  bound_declarable : IsDeclarableStage (by_binding w.sites (bound_to w s))
  bound_declarable = by_site (bound_to w s)
    where
      of_method : (o : Option MethodId) → IfSome o IsDeclarable → IsDeclarableStage (by_method o)
      of_method None is = tt
      of_method (Some m) is = is

      by_site : (o : Option ℕ) → IsDeclarableStage (by_binding w.sites o)
      by_site None = tt
      by_site (Some c) = of_method (method_of w.sites c) (call_site_runs w.sites all.1 c)

  operand_declarable : (d : ℕ) (kind : Kind) (o : Operand (List ℕ)) → IsDeclarableStage (by_operand w s d kind o)
  operand_declarable d kind (operand.Method ref) =
      let each = each_declared w.classes all.0 in
      resolution_declarable w.classes each kind d ref (resolved w.classes d ref) (resolved_declarable w.classes each d ref)
  operand_declarable d kind (operand.CallSite specifier) = bound_declarable

  stage_declarable : IsDeclarableStage (stage w s)
  stage_declarable = by_place (slice_get w.places s)
    where
      by_invocation : (d : ℕ) (o : Option Site) → IsDeclarableStage (stage_of w s d o)
      by_invocation d None = tt
      by_invocation d (Some site) = operand_declarable d site.kind site.operand

      by_test : (place : Place) (b : Bool)
          → IsDeclarableStage (if b then stage_of w s place.class (invocation_at w.classes place) else Waits Gone)
      by_test place true = by_invocation place.class (invocation_at w.classes place)
      by_test place false = tt

      by_place : (o : Option Place) → IsDeclarableStage (stage_at w s o)
      by_place None = tt
      by_place (Some place) = by_test place (is_present w.classes place.class)

  scratch_declarable : (link : Link) → scratch w s ≡ Ok link → runs_declarable link ≡ true
  scratch_declarable link is =
      of_result (scratch w s) (link_declarable w.classes (each_declared w.classes all.0) (stage w s) stage_declarable) is
    where
      of_result : (r : Result Link Unlinked) → IfOk r (λ l. runs_declarable l ≡ true) → r ≡ Ok link → runs_declarable link ≡ true
      of_result (Err reason) h e = cc
      of_result (Ok l) h e = let same : l ≡ link = cc in ap runs_declarable (sym same) ∙ h

pub declarable_from_scratch : (limits : Limits) (h : List Event) → AreAccepted limits h → (s : ℕ) (link : Link)
    → scratch (world_after h) s ≡ Ok link → runs_declarable link ≡ true
declarable_from_scratch limits h accepted s link is =
    scratch_declarable (world_after h) (from limits h nothing_yet (tt, tt) accepted.each accepted.files) s link is
