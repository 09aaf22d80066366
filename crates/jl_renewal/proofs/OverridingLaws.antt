-- Whether a method can override another one is the same under new numbers.
use Rattle.std.specs.Prelude.{◌≡◌, ℕ, ◌==◌, true, false, not, ◌&&◌, ◌||◌, List, [], ◌∷◌, map}
use Rattle.std.specs.List.{AllByRecursion, list_any}
use Rattle.std.specs.Option.{option_map_or}
use Rattle.std.proofs.Common.{refl, sym, ap, subst, ◌∙◌, inl, inr}
use Rattle.std.proofs.lemmas.Bool.{or_cases, and_parts}
use Rattle.std.proofs.lemmas.Bool.Decides.{Decides-eqb, same_from_decides}
use Rattle.std.proofs.lemmas.List.Elements.{recursion_from_All}
use Rattle.jl_types.specs.declared.ids.MethodId.{MethodId}
use Rattle.jl_types.specs.Values.World.{Classes}
use Rattle.jl_types.specs.Values.Members.{is_present, is_called}
use Rattle.jl_types.specs.Values.Members.{is_package_private}
use Rattle.jl_types.specs.Values.Ancestry.{superclasses, is_subclass, is_proper_subclass}
use Rattle.jl_types.specs.Linkage.Overriding.{are_alike, is_visible, CanOverride, directly, through, can_override}
use Rattle.jl_types.proofs.Overrides.{can_override_decides}
use Rattle.jl_renewal.specs.Numbers.{Numbers, renumbered}
use Rattle.jl_renewal.specs.Renewed.{renumbered_method}
use Rattle.jl_renewal.proofs.Alike.{AreAlike}
use Rattle.jl_renewal.proofs.AlikeAbove.{fresh_ordered}
use Rattle.jl_renewal.proofs.AccessLaws.{public_same, private_same, protected_same, static_same, package_private_same}

-- what all have has the one that is found
of_found : (P : ℕ → Type 0) (xs : List ℕ) (y : ℕ) → AllByRecursion P xs → list_any (λ x. x == y) xs ≡ true → P y
of_found P [] y all is = cc
of_found P (x ∷ xs) y all is = elim (or_cases (x == y) (list_any (λ x. x == y) xs) is) [
  | inl here ↦ subst P ((Decides-eqb x y).0 here) all.0
  | inr later ↦ of_found P xs y all.1 later
]

module _ (n : Numbers) (cs ds : Classes) (alike : AreAlike n cs ds) where
  -- the parts of overriding
  module _ (c a : MethodId) (lower : is_present cs c.class ≡ true) (upper : is_present cs a.class ≡ true) where
    are_alike_same : are_alike ds (renumbered_method n c) (renumbered_method n a) ≡ are_alike cs c a
    are_alike_same =
        λ i. (not (static_same n cs ds alike c lower i) && (not (static_same n cs ds alike a upper i) && not (private_same n cs ds alike c lower i)))
        && option_map_or (λ m. option_map_or (is_called m.name m.ty) (alike.method a upper i) false) (alike.method c lower i) false

    is_visible_same : is_visible ds (renumbered_method n c) (renumbered_method n a) ≡ is_visible cs c a
    is_visible_same =
        λ i. public_same n cs ds alike a upper i || (protected_same n cs ds alike a upper i
        || (package_private_same n cs ds alike a upper i && alike.packages a.class c.class upper lower i))

  -- ---- the relation, from old to new

  -- a class between the two is present
  between_present : (c b : ℕ) → is_present cs c ≡ true → is_proper_subclass cs c b ≡ true → is_present cs b ≡ true
  between_present c b present below =
      of_found (λ d. is_present cs d ≡ true) (superclasses cs c) b
      (recursion_from_All (λ d. is_present cs d ≡ true) (superclasses cs c) (alike.upward_present c present))
      (and_parts (not (c == b)) (is_subclass cs c b) below).1

  -- what overrides among the old ones does so among the new ones
  kept : {c a : MethodId} → is_present cs c.class ≡ true → is_present cs a.class ≡ true → CanOverride cs c a
      → CanOverride ds (renumbered_method n c) (renumbered_method n a)
  kept {c = c} {a = a} lower upper (directly named visible) =
      directly (are_alike_same c a lower upper ∙ named) (is_visible_same c a lower upper ∙ visible)
  kept {c = c} {a = a} lower upper (through named flagless b below above r s) =
      let present = between_present c.class b.class lower below in
      through (are_alike_same c a lower upper ∙ named) (package_private_same n cs ds alike a upper ∙ flagless) (renumbered_method n b)
      (alike.proper_subclasses c.class b.class lower present ∙ below) (alike.proper_subclasses b.class a.class present upper ∙ above)
      (kept lower present r) (kept present upper s)

  -- ---- from new to old

  -- a method of this new number was one of a class that is present
  record IsOld (b : MethodId) : Type 0 where
    old : MethodId
    present : is_present cs old.class ≡ true
    is : renumbered_method n old ≡ b

  -- a number among those of classes that are present
  old_among : (b : ℕ) (xs : List ℕ) → AllByRecursion (λ d. is_present cs d ≡ true) xs → list_any (λ c. c == b) (map (renumbered n.classes) xs) ≡ true
      → (d : ℕ) × (is_present cs d ≡ true) × (renumbered n.classes d ≡ b)
  old_among b [] all is = cc
  old_among b (x ∷ xs) all is = elim (or_cases (renumbered n.classes x == b) (list_any (λ c. c == b) (map (renumbered n.classes) xs)) is) [
    | inl here ↦ (x, all.0, (Decides-eqb (renumbered n.classes x) b).0 here)
    | inr later ↦ old_among b xs all.1 later
  ]

  -- each method number of a class above one that is present is such
  old_of : (b : MethodId) (c : ℕ) → is_present cs c ≡ true → is_proper_subclass ds (renumbered n.classes c) b.class ≡ true → IsOld b
  old_of b c present below =
      let r = old_among b.class (superclasses cs c)
      (recursion_from_All (λ d. is_present cs d ≡ true) (superclasses cs c) (alike.upward_present c present))
      (sym (ap (list_any (λ k. k == b.class)) (alike.upward c present))
      ∙ (and_parts (not (renumbered n.classes c == b.class)) (is_subclass ds (renumbered n.classes c) b.class) below).1) in
      record { old = record { class = r.0; index = b.index }; present = r.1; is = λ i. record { class = r.2 i; index = b.index } }

  -- what overrides among the new ones did so among the old ones
  back : {x y : MethodId} (c a : MethodId) → is_present cs c.class ≡ true → is_present cs a.class ≡ true → renumbered_method n c ≡ x
      → renumbered_method n a ≡ y → CanOverride ds x y → CanOverride cs c a
  back c a lower upper e f (directly named visible) =
      directly (sym (are_alike_same c a lower upper) ∙ (λ i. are_alike ds (e i) (f i)) ∙ named)
      (sym (is_visible_same c a lower upper) ∙ (λ i. is_visible ds (e i) (f i)) ∙ visible)
  back {x = x} {y = y} c a lower upper e f (through named flagless b below above r s) =
      let same : renumbered n.classes c.class ≡ x.class = ap (λ (m : MethodId). m.class) e in
      let o = old_of b c.class lower (subst (λ (k : ℕ). is_proper_subclass ds k b.class ≡ true) (sym same) below) in
      through (sym (are_alike_same c a lower upper) ∙ (λ i. are_alike ds (e i) (f i)) ∙ named)
      (sym (package_private_same n cs ds alike a upper) ∙ ap (is_package_private ds) f ∙ flagless) o.old
      (sym (alike.proper_subclasses c.class o.old.class lower o.present) ∙ (λ i. is_proper_subclass ds (e i).class (o.is i).class) ∙ below)
      (sym (alike.proper_subclasses o.old.class a.class o.present upper) ∙ (λ i. is_proper_subclass ds (o.is i).class (f i).class) ∙ above)
      (back c o.old lower o.present e o.is r) (back o.old a o.present upper o.is f s)

  -- whether c can override a is the same
  pub can_override_same : (c a : MethodId) → is_present cs c.class ≡ true → is_present cs a.class ≡ true
      → can_override ds (renumbered_method n c) (renumbered_method n a) ≡ can_override cs c a
  can_override_same c a lower upper =
      let new = can_override_decides ds (fresh_ordered n cs ds alike.embeds) (renumbered_method n c) (renumbered_method n a) in
      let old = can_override_decides cs alike.embeds.ordered c a in
      same_from_decides (can_override ds (renumbered_method n c) (renumbered_method n a)) (can_override cs c a) new
      (λ h. kept lower upper (old.0 h), λ r. old.1 (back c a lower upper refl refl r))
