-- What is accessible to whom, and nests, are under new numbers what they were, for classes that are present.
use Rattle.std.specs.Prelude.{◌≡◌, ℕ, ◌==◌, Bool, true, false, not, ◌&&◌, ◌||◌, List, slice_get, Option, Some, None, option_map, option_and_then}
use Rattle.std.specs.Prelude.{if◌then◌else◌}
use Rattle.std.specs.Option.{option_map_or}
use Rattle.std.specs.List.{list_any}
use Rattle.std.specs.Str.{bytes_eq}
use Rattle.std.proofs.Common.{refl, ap, sym, subst, ◌∙◌}
use Rattle.std.proofs.lemmas.Option.{same_Some}
use Rattle.jl_class.specs.Class.{Method}
use Rattle.jl_class.specs.Flags.{has_flag, PUBLIC, PRIVATE, PROTECTED, STATIC, ABSTRACT}
use Rattle.jl_types.specs.declared.ids.MethodId.{MethodId}
use Rattle.jl_types.specs.Values.World.{Class, Classes}
use Rattle.jl_types.specs.Values.Members.{is_present, is_retired, lookup, method_test, same_package}
use Rattle.jl_types.specs.Values.Members.{is_public, is_private, is_protected, is_static, is_abstract, is_package_private}
use Rattle.jl_types.specs.Linkage.Access.{Access, Allowed, Denied, is_accessible_class, lists_member, host_if_listed, host_if_recorded, host_by, nest_host}
use Rattle.jl_types.specs.Linkage.Access.{same_nest, by_subclass, by_package, by_nest, accessible}
use Rattle.jl_types.proofs.Lists.{passes_within, element_at}
use Rattle.jl_renewal.specs.Numbers.{Numbers, renumbered}
use Rattle.jl_renewal.specs.Renewed.{renumbered_class, renumbered_method}
use Rattle.jl_renewal.proofs.Alike.{AreAlike}

-- a class that is present is there
pub row_of : (cs : Classes) (c : ℕ) → is_present cs c ≡ true → (row : Class) × (slice_get cs.rows c ≡ Some row)
row_of cs c present = element_at cs.rows c (passes_within (λ (row : Class). not (is_retired cs row.loader)) cs.rows c present)

module _ (n : Numbers) (cs ds : Classes) (alike : AreAlike n cs ds) where
  abbrev ren : ℕ → ℕ
  ren = renumbered n.classes

  -- ---- methods

  pub method_tests : (test : Method → Bool) (m : MethodId) → is_present cs m.class ≡ true
      → method_test test ds (renumbered_method n m) ≡ method_test test cs m
  method_tests test m present = ap (λ (o : Option Method). option_map_or test o false) (alike.method m present)

  module _ (m : MethodId) (present : is_present cs m.class ≡ true) where
    pub public_same : is_public ds (renumbered_method n m) ≡ is_public cs m
    public_same = method_tests (λ method. has_flag method.flags PUBLIC) m present

    pub private_same : is_private ds (renumbered_method n m) ≡ is_private cs m
    private_same = method_tests (λ method. has_flag method.flags PRIVATE) m present

    pub protected_same : is_protected ds (renumbered_method n m) ≡ is_protected cs m
    protected_same = method_tests (λ method. has_flag method.flags PROTECTED) m present

    pub static_same : is_static ds (renumbered_method n m) ≡ is_static cs m
    static_same = method_tests (λ method. has_flag method.flags STATIC) m present

    pub abstract_same : is_abstract ds (renumbered_method n m) ≡ is_abstract cs m
    abstract_same = method_tests (λ method. has_flag method.flags ABSTRACT) m present

    pub package_private_same : is_package_private ds (renumbered_method n m) ≡ is_package_private cs m
    package_private_same = λ i. not (public_same i) && (not (protected_same i) && not (private_same i))

  -- ---- classes

  pub accessible_class_same : (d c : ℕ) → is_present cs d ≡ true → is_present cs c ≡ true
      → is_accessible_class ds (ren d) (ren c) ≡ is_accessible_class cs d c
  accessible_class_same d c mine present = λ i.
      alike.tests (λ row. has_flag row.file.flags PUBLIC) (λ row. has_flag row.file.flags PUBLIC) (λ row. refl) c present i
      || alike.packages c d present mine i

  -- ---- nests

  members_same : (h : ℕ) (name : List ℕ) → is_present cs h ≡ true → lists_member ds (ren h) name ≡ lists_member cs h name
  members_same h name present =
      alike.tests (λ row. list_any (bytes_eq name) row.file.nest_members) (λ row. list_any (bytes_eq name) row.file.nest_members) (λ row. refl) h present

  either : (b : Bool) (h c : ℕ) → (if b then ren h else ren c) ≡ ren (if b then h else c)
  either true h c = refl
  either false h c = refl

  module _ (c : ℕ) (row : Class) (present : is_present cs c ≡ true) (at : slice_get cs.rows c ≡ Some row) where
    listed_same : (h : ℕ) → is_present cs h ≡ true → host_if_listed ds (ren c) (renumbered_class n row) (ren h) ≡ ren (host_if_listed cs c row h)
    listed_same h there =
        (λ i. if alike.packages c h present there i && members_same h row.file.name there i then ren h else ren c)
        ∙ either (same_package cs c h && lists_member cs h row.file.name) h c

    recorded_same : (name : List ℕ) (o : Option ℕ) → lookup cs row.loader name ≡ o
        → host_if_recorded ds (ren c) (renumbered_class n row) (option_map ren o) ≡ option_map ren (host_if_recorded cs c row o)
    recorded_same name None is = refl
    recorded_same name (Some h) is = ap Some (listed_same h (alike.found c row name h present at is))

    host_same : (o : Option (List ℕ)) → host_by ds (ren c) (renumbered_class n row) o ≡ option_map ren (host_by cs c row o)
    host_same None = refl
    host_same (Some name) =
        ap (host_if_recorded ds (ren c) (renumbered_class n row)) (alike.embeds.lookups c row name present at)
        ∙ recorded_same name (lookup cs row.loader name) refl

    listed_present : (b : Bool) (h host : ℕ) → is_present cs h ≡ true → (if b then h else c) ≡ host → is_present cs host ≡ true
    listed_present true h host there is = subst (λ k. is_present cs k ≡ true) is there
    listed_present false h host there is = subst (λ k. is_present cs k ≡ true) is present

    recorded_present : (name : List ℕ) (o : Option ℕ) (host : ℕ) → lookup cs row.loader name ≡ o → host_if_recorded cs c row o ≡ Some host
        → is_present cs host ≡ true
    recorded_present name None host is e = cc
    recorded_present name (Some h) host is e =
        listed_present (same_package cs c h && lists_member cs h row.file.name) h host (alike.found c row name h present at is)
        (same_Some (host_if_listed cs c row h) host e)

    host_present : (o : Option (List ℕ)) (host : ℕ) → host_by cs c row o ≡ Some host → is_present cs host ≡ true
    host_present None host e = subst (λ k. is_present cs k ≡ true) (same_Some c host e) present
    host_present (Some name) host e = recorded_present name (lookup cs row.loader name) host refl e

  -- the nest host of a present class, and that it is present
  pub nest_host_same : (c : ℕ) → is_present cs c ≡ true → nest_host ds (ren c) ≡ option_map ren (nest_host cs c)
  nest_host_same c present =
      let row = row_of cs c present in
      ap (λ (o : Option Class). option_and_then (λ row. host_by ds (ren c) row row.file.nest_host) o) (alike.embeds.rows c row.0 present row.1)
      ∙ (host_same c row.0 present row.1 row.0.file.nest_host
      ∙ sym (ap (λ (o : Option Class). option_map ren (option_and_then (λ row. host_by cs c row row.file.nest_host) o)) row.1))

  pub nest_host_present : (c host : ℕ) → is_present cs c ≡ true → nest_host cs c ≡ Some host → is_present cs host ≡ true
  nest_host_present c host present is =
      let row = row_of cs c present in
      host_present c row.0 present row.1 row.0.file.nest_host host
      (sym (ap (λ (o : Option Class). option_and_then (λ row. host_by cs c row row.file.nest_host) o) row.1) ∙ is)

  -- ---- access

  nests_same : (h k : Option ℕ) → ((x : ℕ) → h ≡ Some x → is_present cs x ≡ true) → ((x : ℕ) → k ≡ Some x → is_present cs x ≡ true)
      → same_nest (option_map ren h) (option_map ren k) ≡ same_nest h k
  nests_same None k first second = refl
  nests_same (Some h) None first second = refl
  nests_same (Some h) (Some k) first second = λ i. if alike.same h k (first h refl) (second k refl) i then Allowed else Denied

  module _ (d : ℕ) (m : MethodId) (mine : is_present cs d ≡ true) (present : is_present cs m.class ≡ true) where
    by_subclass_same : (named : ℕ) → is_present cs named ≡ true → by_subclass ds (ren d) (ren named) (renumbered_method n m) ≡ by_subclass cs d named m
    by_subclass_same named there = λ i.
        protected_same m present i && (alike.subclasses d m.class mine present i && (static_same m present i
        || (alike.subclasses named d there mine i || alike.subclasses d named mine there i)))

    by_package_same : by_package ds (ren d) (renumbered_method n m) ≡ by_package cs d m
    by_package_same = λ i. (protected_same m present i || package_private_same m present i) && alike.packages m.class d present mine i

    by_nest_same : by_nest ds (ren d) (renumbered_method n m) ≡ by_nest cs d m
    by_nest_same =
        (λ i. if not (private_same m present i) then Denied else (
        if alike.same m.class d present mine i then Allowed else same_nest (nest_host_same d mine i) (nest_host_same m.class present i)))
        ∙ ap (λ (access : Access). if not (is_private cs m) then Denied else (if m.class == d then Allowed else access))
        (nests_same (nest_host cs d) (nest_host cs m.class) (λ x is. nest_host_present d x mine is) (λ x is. nest_host_present m.class x present is))

  pub accessible_same : (d named : ℕ) (m : MethodId) → is_present cs d ≡ true → is_present cs named ≡ true → is_present cs m.class ≡ true
      → accessible ds (ren d) (ren named) (renumbered_method n m) ≡ accessible cs d named m
  accessible_same d named m mine there present = λ i.
      if public_same m present i || (by_subclass_same d m mine present named there i || by_package_same d m mine present i)
      then Allowed else by_nest_same d m mine present i
