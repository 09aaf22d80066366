-- Rows that run a FINAL method of the class that they name: no further class drops their links if none overrides a FINAL method.
use Rattle.std.specs.Prelude.{◌≡◌, ℕ, ◌==◌, nat_le, Bool, true, false, not, ◌&&◌, ◌||◌, List, [], ◌∷◌, filter, filter_map, length, map}
use Rattle.std.specs.Prelude.{slice_get, Option, Some, None, IfSome, if◌then◌else◌}
use Rattle.std.specs.Bool.{beq}
use Rattle.std.specs.List.{AllByRecursion, list_all}
use Rattle.std.specs.Option.{option_map_or}
use Rattle.std.specs.Str.{bytes_eq}
use Rattle.std.proofs.Common.{refl, ap, sym, subst, ◌∙◌, add-one}
use Rattle.std.proofs.lemmas.Bool.{and_from}
use Rattle.std.proofs.lemmas.Bool.Decides.{Decides-eqb}
use Rattle.std.proofs.lemmas.Cmp.{nat_eq_equiv}
use Rattle.std.proofs.lemmas.Slice.Eq.{bytes_eq-Decides}
use Rattle.jl_names.specs.ClassNames.{package_of}
use Rattle.jl_class.specs.Class.{Method}
use Rattle.jl_types.specs.declared.ids.MethodId.{MethodId}
use Rattle.jl_types.specs.declared.answer.Chosen.{Chosen}
use Rattle.jl_types.specs.declared.answer.Chosen.TheVariants.{Method as Picked, Several, Nothing}
use Rattle.jl_types.specs.declared.answer.Outcome.{Outcome}
use Rattle.jl_types.specs.declared.answer.Outcome.TheVariants.{Run, Throws}
use Rattle.jl_types.specs.declared.answer.Throwable.TheVariants.{AbstractMethodError}
use Rattle.jl_types.specs.declared.link.Link.{Link}
use Rattle.jl_types.specs.declared.link.Link.TheVariants.{Direct, Table, Mega}
use Rattle.jl_types.specs.declared.link.TableKind.{TableKind}
use Rattle.jl_types.specs.declared.link.TableKind.TheVariants as table
use Rattle.jl_types.specs.Values.World.{Class, Classes}
use Rattle.jl_types.specs.Values.Members.{is_interface, is_private, is_protected, is_public, is_static, is_abstract, is_called}
use Rattle.jl_types.specs.Values.Members.{method_at, method_test, declared, same_package, share_package}
use Rattle.jl_types.specs.Values.Ancestry.{superclasses}
use Rattle.jl_types.specs.Linkage.Overriding.{are_alike, is_visible, can_override}
use Rattle.jl_types.specs.Linkage.Resolution.{pick, defaults, declared_upward}
use Rattle.jl_types.specs.Linkage.Selection.{found_or, overriding, chosen_of, chosen, ending, virtual_outcome}
use Rattle.jl_types.specs.Linkage.Links.{runs, table_or_mega, virtual_link}
use Rattle.jl_types.specs.Linkage.Stages.{ResolvedCall}
use Rattle.jl_types.proofs.Bools.{first_test, second_test}
use Rattle.jl_resolve.proofs.Unchanged.{all_filter, first_there}
use Rattle.jl_report.specs.Finals.{is_final_method, is_final_in, inherits}
use Rattle.jl_report.specs.Methods.{run_by_link}
use Rattle.jl_report.proofs.ResolvedLaws.{IsCalled, IsResolved, upward_found, all_called, defaults_called, found_called}

no_flag : (b : Bool) → not b ≡ true → b ≡ false
no_flag true h = cc
no_flag false h = refl

-- ---- what the mark says

pub record IsFinalIn (cs : Classes) (c : ℕ) (m : MethodId) : Type 0 where
  pub plain : is_interface cs c ≡ false
  pub final : is_final_method cs m ≡ true
  pub in_class : is_interface cs m.class ≡ false
  pub own : Method
  pub at : method_at cs m ≡ Some own
  pub first : declared_upward cs own.name own.ty c ≡ Some m

same_method : (m n : MethodId) → runs m (Run n) ≡ true → n ≡ m
same_method m n h =
    let class = (Decides-eqb m.class n.class).0 (first_test (m.class == n.class) (m.index == n.index) h) in
    let index = (Decides-eqb m.index n.index).0 (second_test (m.class == n.class) (m.index == n.index) h) in
    λ i. record { class = sym class i; index = sym index i }

runs_itself : (m : MethodId) → runs m (Run m) ≡ true
runs_itself m = λ i. nat_eq_equiv.refl m.class i && nat_eq_equiv.refl m.index i

module _ (cs : Classes) (c : ℕ) (m : MethodId) where
  abbrev is_first : Method → Bool
  is_first method = option_map_or (λ n. runs m (Run n)) (declared_upward cs method.name method.ty c) false

  pub final_in : is_final_in cs c m ≡ true → IsFinalIn cs c m
  final_in h =
      let rest = second_test (not (is_interface cs c)) (is_final_method cs m && inherits cs c m) h in
      let inherited = second_test (is_final_method cs m) (inherits cs c m) rest in
      by_method (no_flag (is_interface cs c) (first_test (not (is_interface cs c)) (is_final_method cs m && inherits cs c m) h))
      (first_test (is_final_method cs m) (inherits cs c m) rest)
      (no_flag (is_interface cs m.class) (first_test (not (is_interface cs m.class)) (method_test is_first cs m) inherited))
      (method_at cs m) refl (second_test (not (is_interface cs m.class)) (method_test is_first cs m) inherited)
    where
      by_first : (own : Method) (o : Option MethodId) → declared_upward cs own.name own.ty c ≡ o → option_map_or (λ n. runs m (Run n)) o false ≡ true
          → declared_upward cs own.name own.ty c ≡ Some m
      by_first own None is h = cc
      by_first own (Some n) is h = is ∙ ap Some (same_method m n h)

      by_method : is_interface cs c ≡ false → is_final_method cs m ≡ true → is_interface cs m.class ≡ false
          → (o : Option Method) → method_at cs m ≡ o → option_map_or is_first o false ≡ true → IsFinalIn cs c m
      by_method plain final in_class None at h = cc
      by_method plain final in_class (Some own) at h = record {
        plain = plain;
        final = final;
        in_class = in_class;
        own = own;
        at = at;
        first = by_first own (declared_upward cs own.name own.ty c) refl h;
      }

  pub final_mark : IsFinalIn cs c m → is_final_in cs c m ≡ true
  final_mark it =
      and_from (not (is_interface cs c)) (is_final_method cs m && inherits cs c m) (ap not it.plain)
      (and_from (is_final_method cs m) (inherits cs c m) it.final
      (and_from (not (is_interface cs m.class)) (method_test is_first cs m) (ap not it.in_class)
      (ap (λ (o : Option Method). option_map_or is_first o false) it.at
      ∙ ap (λ (o : Option MethodId). option_map_or (λ n. runs m (Run n)) o false) it.first
      ∙ runs_itself m)))

-- ---- an instance method that isn't private can override itself

module _ (cs : Classes) (m : MethodId) (own : Method) (at : method_at cs m ≡ Some own) (row : Class) (there : slice_get cs.rows m.class ≡ Some row)
    (instance : is_static cs m ≡ false) (shared : is_private cs m ≡ false) where
  same_text : (text : List ℕ) → bytes_eq text text ≡ true
  same_text text = (bytes_eq-Decides text text).1 refl

  alike_itself : are_alike cs m m ≡ true
  alike_itself =
      (λ i. (not (instance i) && (not (instance i) && not (shared i)))
      && option_map_or (λ k. option_map_or (is_called k.name k.ty) (at i) false) (at i) false)
      ∙ (λ i. same_text own.name i && same_text own.ty i)

  package_itself : same_package cs m.class m.class ≡ true
  package_itself =
      (λ i. option_map_or (λ a. option_map_or (share_package a) (there i) false) (there i) false)
      ∙ (λ i. nat_eq_equiv.refl row.loader i && same_text (package_of row.file.name) i)

  visible_itself : is_visible cs m m ≡ true
  visible_itself =
      (λ i. is_public cs m || (is_protected cs m
      || ((not (is_public cs m) && (not (is_protected cs m) && not (shared i))) && package_itself i)))
      ∙ by_flags (is_public cs m) (is_protected cs m)
    where
      by_flags : (a b : Bool) → (a || (b || ((not a && (not b && true)) && true))) ≡ true
      by_flags true b = refl
      by_flags false true = refl
      by_flags false false = refl

  pub overrides_itself : can_override cs m m ≡ true
  overrides_itself = rw (add-one m.class, alike_itself, visible_itself) refl

-- ---- what a receiver runs is called as what was resolved

called_own : (cs : Classes) (name ty : List ℕ) (m : MethodId) → IsCalled cs name ty m
    → (own : Method) → method_at cs m ≡ Some own → (own.name ≡ name) × (own.ty ≡ ty)
called_own cs name ty m is own at =
    let called : (bytes_eq own.name name && bytes_eq own.ty ty) ≡ true =
    ap (λ (o : Option Method). option_map_or (is_called name ty) o false) (sym at) ∙ is
    in (
      (bytes_eq-Decides own.name name).0 (first_test (bytes_eq own.name name) (bytes_eq own.ty ty) called),
      (bytes_eq-Decides own.ty ty).0 (second_test (bytes_eq own.name name) (bytes_eq own.ty ty) called),
    )

called_there : (cs : Classes) (name ty : List ℕ) (m : MethodId) → IsCalled cs name ty m → (own : Method) × (method_at cs m ≡ Some own)
called_there cs name ty m is = by_method (method_at cs m) refl is
  where
    by_method : (o : Option Method) → method_at cs m ≡ o → option_map_or (is_called name ty) o false ≡ true → (own : Method) × (method_at cs m ≡ Some own)
    by_method None at h = cc
    by_method (Some own) at h = (own, at)

module _ (cs : Classes) (y : ℕ) (r m : MethodId) where
  -- the choice is m, which isn't abstract
  picked : (choice : Chosen) → ending cs choice ≡ Run m → (choice ≡ Picked m) × (is_abstract cs m ≡ false)
  picked (Picked k) e = by_flag (is_abstract cs k) refl e
    where
      by_flag : (b : Bool) → is_abstract cs k ≡ b → (if b then Throws AbstractMethodError else Run k) ≡ Run m
          → (Picked k ≡ Picked m) × (is_abstract cs m ≡ false)
      by_flag true is e = cc
      by_flag false is e = let same : k ≡ m = cc in (ap Picked same, ap (is_abstract cs) (sym same) ∙ is)
  picked Several e = cc
  picked Nothing e = cc

  module _ (method : Method) (at : method_at cs r ≡ Some method) (shared : is_private cs r ≡ false) where
    abbrev declarations : List MethodId
    declarations = filter_map (declared cs method.name method.ty) (superclasses cs y)

    from_defaults : (ms : List MethodId) → AllByRecursion (IsCalled cs method.name method.ty) ms → pick ms ≡ Picked m → IsCalled cs method.name method.ty m
    from_defaults [] all e = cc
    from_defaults (k ∷ []) all e = let same : k ≡ m = cc in subst (IsCalled cs method.name method.ty) same all.0
    from_defaults (k ∷ j ∷ ms) all e = cc

    from_choice : (o : Option MethodId) → IfSome o (IsCalled cs method.name method.ty) → found_or o (defaults cs method.name method.ty y) ≡ Picked m
        → IsCalled cs method.name method.ty m
    from_choice None is e = from_defaults (defaults cs method.name method.ty y) (defaults_called cs method.name method.ty y) e
    from_choice (Some k) is e = let same : k ≡ m = cc in subst (IsCalled cs method.name method.ty) same is

    run_called : chosen cs y r ≡ Picked m → IsCalled cs method.name method.ty m
    run_called e =
        from_choice (overriding cs y r method)
        (first_there (IsCalled cs method.name method.ty) (filter (λ k. can_override cs k r) declarations)
        (all_filter (IsCalled cs method.name method.ty) (λ k. can_override cs k r) declarations
        (all_called cs method.name method.ty (superclasses cs y))))
        (sym (ap (λ (b : Bool). if b then Picked r else chosen_of cs y r (method_at cs r)) shared ∙ ap (chosen_of cs y r) at) ∙ e)

-- ---- the method that a receiver runs is the resolved one

-- what was resolved, and that it isn't abstract
pub record IsSettled (cs : Classes) (i : ResolvedCall) (m : MethodId) : Type 0 where
  pub same : m ≡ i.method
  pub whole : is_abstract cs m ≡ false
  pub instance : is_static cs m ≡ false
  pub shared : is_private cs m ≡ false

not_interface : (itf interface : Bool) → beq itf interface ≡ true → interface ≡ false → itf ≡ false
not_interface true true e plain = cc
not_interface true false e plain = cc
not_interface false interface e plain = refl

pub settled : (cs : Classes) (i : ResolvedCall) (m : MethodId) (y : ℕ) → IsResolved cs i → IsFinalIn cs i.named m → is_private cs i.method ≡ false
    → virtual_outcome cs y i.method ≡ Run m → IsSettled cs i m
settled cs i m y resolved it shared run =
    let one = picked cs y i.method m (chosen cs y i.method) run in
    let class = not_interface i.ref.itf (is_interface cs i.named) resolved.kind it.plain in
    let called = found_called cs i.ref i.named i.method class resolved.found in
    let method = called_there cs i.ref.name i.ref.ty i.method called in
    let names = called_own cs i.ref.name i.ref.ty i.method called method.0 method.1 in
    let own = called_own cs method.0.name method.0.ty m (run_called cs y i.method m method.0 method.1 shared one.0) it.own it.at in
    let first : declared_upward cs i.ref.name i.ref.ty i.named ≡ Some m =
    (λ j. declared_upward cs (sym (own.0 ∙ names.0) j) (sym (own.1 ∙ names.1) j) i.named) ∙ it.first
    in
    let same = upward_found cs i.ref i.named m i.method class first resolved.found in
    record {
      same = same;
      whole = one.1;
      instance = ap (is_static cs) same ∙ resolved.instance;
      shared = ap (is_private cs) same ∙ shared;
    }

-- ---- a link to one method comes of a first receiver that runs it

pub no_run : (kind : TableKind) (rows : List (ℕ × Outcome)) → run_by_link (table_or_mega kind rows) ≡ None
no_run kind rows = by_size (nat_le (length rows) 8)
  where
    by_size : (few : Bool) → run_by_link (if few then Table kind rows else Mega) ≡ None
    by_size true = refl
    by_size false = refl

pub record RunsFirst (outcome_of : ℕ → Outcome) (l : Link) (m : MethodId) : Type 0 where
  pub receiver : ℕ
  pub run : outcome_of receiver ≡ Run m
  pub direct : l ≡ Direct (Run m)

pub runs_first : (outcome_of : ℕ → Outcome) (m : MethodId) (ys : List ℕ) → run_by_link (virtual_link (map (λ x. (x, outcome_of x)) ys)) ≡ Some m
    → RunsFirst outcome_of (virtual_link (map (λ x. (x, outcome_of x)) ys)) m
runs_first outcome_of m [] e = cc
runs_first outcome_of m (y ∷ ys) e = by_outcome (outcome_of y) refl (map (λ x. (x, outcome_of x)) ys) e
  where
    none : {A : Type 0} (rows : List (ℕ × Outcome)) → run_by_link (table_or_mega table.Virtual rows) ≡ Some m → A
    none rows e = let other : None ≡ Some m = sym (no_run table.Virtual rows) ∙ e in cc

    by_all : (b : Bool) (k : MethodId) (rows : List (ℕ × Outcome)) → outcome_of y ≡ Run k
        → run_by_link (if b then Direct (Run k) else table_or_mega table.Virtual ((y, Run k) ∷ rows)) ≡ Some m
        → RunsFirst outcome_of (if b then Direct (Run k) else table_or_mega table.Virtual ((y, Run k) ∷ rows)) m
    by_all true k rows is e =
        let same : k ≡ m = cc in record { receiver = y; run = is ∙ ap Run same; direct = ap (λ (n : MethodId). Direct (Run n)) same }
    by_all false k rows is e = none ((y, Run k) ∷ rows) e

    by_outcome : (o : Outcome) → outcome_of y ≡ o → (rows : List (ℕ × Outcome)) → run_by_link (virtual_link ((y, outcome_of y) ∷ rows)) ≡ Some m
        → RunsFirst outcome_of (virtual_link ((y, outcome_of y) ∷ rows)) m
    by_outcome (Throws throwable) is rows e =
        none ((y, Throws throwable) ∷ rows) (ap (λ (o : Outcome). run_by_link (virtual_link ((y, o) ∷ rows))) (sym is) ∙ e)
    by_outcome (Run k) is rows e =
        subst (λ (o : Outcome). RunsFirst outcome_of (virtual_link ((y, o) ∷ rows)) m) (sym is)
        (by_all (list_all (λ row. runs k row.1) rows) k rows is (ap (λ (o : Outcome). run_by_link (virtual_link ((y, o) ∷ rows))) (sym is) ∙ e))
