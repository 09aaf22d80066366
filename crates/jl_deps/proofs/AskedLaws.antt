-- Sites that are asked, and those that are together with them.
use Rattle.std.specs.Prelude.{◌≡◌, ℕ, zero, suc, ◌+◌, ◌==◌, ◌&&◌, ◌||◌, Bool, true, false, cond, List, [], ◌∷◌, ◌++◌, take, drop}
use Rattle.std.specs.Prelude.{slice_get, get_or, length, ◌≤◌, Option, Some, None}
use Rattle.std.specs.List.{list_any}
use Rattle.std.specs.Option.{option_map_or}
use Rattle.std.specs.Map.{lookup}
use Rattle.std.proofs.Common.{refl, ap, sym, ◌∙◌, arith, inl, inr}
use Rattle.std.proofs.lemmas.Bool.{or_cases, or_left, or_right, and_from, and_parts}
use Rattle.std.proofs.lemmas.Bool.Decides.{Decides-eqb}
use Rattle.std.proofs.lemmas.Option.{same_Some, slice_get_within, get_or_from_slice_get}
use Rattle.std.proofs.lemmas.List.{take_more}
use Rattle.std.proofs.lemmas.List.Folds.{list_any-append}
use Rattle.indexmap.specs.IndexMap.{IndexMap, get}
use Rattle.jl_hierarchy.proofs.Rising.{has}
use Rattle.jl_types.specs.declared.key.Key.{Key}
use Rattle.jl_types.specs.declared.key.Key.TheVariants as key
use Rattle.jl_types.specs.Events.Footprints.{same_key, has_key, meets}
use Rattle.jl_deps.specs.declared.form.Form.{Form}
use Rattle.jl_deps.specs.declared.form.Rests.{Rests}
use Rattle.jl_deps.specs.Forms.{selects}
use Rattle.jl_deps.specs.Indexes.{rests_at, form_eq, are_together, is_asked}
use Rattle.jl_deps.specs.ForProofs.Lists.{AreListed, key_eq, listed_in, listed, rests, stands_for}
use Rattle.jl_deps.proofs.KeyLists.{form_is, form_same}
use Rattle.jl_relink.proofs.Untouched.{same_key_is}
use Rattle.jl_deps.proofs.GroupLaws.{in_group}

-- ---- one of a list

-- one that is in the list, and passes
pub record Passing (p : ℕ → Bool) (xs : List ℕ) : Type 0 where
  pub item : ℕ
  pub there : has item xs ≡ true
  pub passes : p item ≡ true

pub passing_one : (p : ℕ → Bool) (xs : List ℕ) → list_any p xs ≡ true → Passing p xs
passing_one p [] h = cc
passing_one p (x ∷ xs) h = elim (or_cases (p x) (list_any p xs) h) [
  | inl here ↦ record { item = x; there = or_left (x == x) (has x xs) ((Decides-eqb x x).1 refl); passes = here }
  | inr more ↦ (let r = passing_one p xs more in record { item = r.item; there = or_right (x == r.item) (has r.item xs) r.there; passes = r.passes })
]

pub any_there : (p : ℕ → Bool) (x : ℕ) (xs : List ℕ) → has x xs ≡ true → p x ≡ true → list_any p xs ≡ true
any_there p x [] h is = cc
any_there p x (y ∷ xs) h is = elim (or_cases (y == x) (has x xs) h) [
  | inl here ↦ or_left (p y) (list_any p xs) (ap p ((Decides-eqb y x).0 here) ∙ is)
  | inr more ↦ or_right (p y) (list_any p xs) (any_there p x xs more is)
]

-- in a longer list, and for a weaker test
pub any_wider : (p q : ℕ → Bool) (xs ys : List ℕ) → ((t : ℕ) → has t xs ≡ true → has t ys ≡ true) → ((t : ℕ) → p t ≡ true → q t ≡ true)
    → list_any p xs ≡ true → list_any q ys ≡ true
any_wider p q xs ys wider weaker h =
    let r = passing_one p xs h in
    any_there q r.item ys (wider r.item r.there) (weaker r.item r.passes)

-- the site itself stands for it
pub itself : (q : ℕ → Bool) (s : ℕ) (xs : List ℕ) → has s xs ≡ true → list_any (λ t. (t == s) || q t) xs ≡ true
itself q s xs h = any_there (λ t. (t == s) || q t) s xs h (or_left (s == s) (q s) ((Decides-eqb s s).1 refl))

-- the first one is there
pub first_there : (x : ℕ) (xs : List ℕ) → 1 ≤ length xs → x ≡ get_or xs 0 x → has x xs ≡ true
first_there x [] lt e = absurd (omega arith)
first_there x (y ∷ xs) lt e = or_left (y == x) (has x xs) ((Decides-eqb y x).1 (sym e))

-- one site more
pub first_touched : (old listed : List ℕ) (x s : ℕ) → has x listed ≡ true → has s (old ++ x ∷ []) ≡ true → (has s old || has s listed) ≡ true
first_touched old listed x s there h =
    elim (or_cases (has s old) ((x == s) || false) (sym (list_any-append (λ t. t == s) old (x ∷ [])) ∙ h)) [
      | inl before ↦ or_left (has s old) (has s listed) before
      | inr last ↦ or_right (has s old) (has s listed) (ap (λ t. has t listed) (sym ((Decides-eqb x s).0 (alone (x == s) last))) ∙ there)
    ]
  where
    alone : (b : Bool) → (b || false) ≡ true → b ≡ true
    alone true h = refl
    alone false h = h

-- the sites in another order, or more of them
pub still_asked : (index : List (ℕ × Rests)) (xs ys : List ℕ) → ((t : ℕ) → has t xs ≡ true → has t ys ≡ true) → (s : ℕ)
    → is_asked index xs s ≡ true → is_asked index ys s ≡ true
still_asked index xs ys wider s =
    any_wider (λ t. (t == s) || are_together index s t) (λ t. (t == s) || are_together index s t) xs ys wider (λ t p. p)

-- ---- one group more is asked

pub split_at : {A : Type 0} (xs : List A) (n : ℕ) (x : A) → slice_get xs n ≡ Some x → xs ≡ take n xs ++ x ∷ drop (suc n) xs
split_at [] n x e = cc
split_at (y ∷ xs) zero x e = ap (λ z. z ∷ xs) (same_Some y x e)
split_at (y ∷ xs) (suc n) x e = ap (λ zs. y ∷ zs) (split_at xs n x e)

pub one_taken : {A : Type 0} (xs : List A) (n : ℕ) (x : A) → slice_get xs n ≡ Some x → take (n + 1) xs ≡ take n xs ++ x ∷ []
one_taken xs n x e = take_more xs n x (slice_get_within xs n x e) ∙ ap (λ y. take n xs ++ y ∷ []) (get_or_from_slice_get xs n x x e)

pub all_taken : {A : Type 0} (xs : List A) (n : ℕ) → slice_get xs n ≡ None → take n xs ≡ xs
all_taken [] zero e = refl
all_taken [] (suc n) e = refl
all_taken (x ∷ xs) zero e = cc
all_taken (x ∷ xs) (suc n) e = ap (λ ys. x ∷ ys) (all_taken xs n e)

module _ (entries : List (Form × List ℕ)) where
  abbrev stands : List ℕ → Form → ℕ → Bool
  stands asked f s = list_any (λ t. (t == s) || (selects f && in_group entries f t)) asked

  found_front : (f : Form) (front more : List (Form × List ℕ)) (x : List ℕ) → lookup (form_eq f) front ≡ Some x
      → lookup (form_eq f) (front ++ more) ≡ Some x
  found_front f [] more x e = cc
  found_front f (y ∷ front) more x e = by_test (form_eq f y.0) e (found_front f front more x)
    where
      by_test : (b : Bool) → cond b (Some y.1) (lookup (form_eq f) front) ≡ Some x
          → (lookup (form_eq f) front ≡ Some x → lookup (form_eq f) (front ++ more) ≡ Some x)
          → cond b (Some y.1) (lookup (form_eq f) (front ++ more)) ≡ Some x
      by_test true e rest = e
      by_test false e rest = rest e

  none_front : (f : Form) (front more : List (Form × List ℕ)) → lookup (form_eq f) front ≡ None
      → lookup (form_eq f) (front ++ more) ≡ lookup (form_eq f) more
  none_front f [] more e = refl
  none_front f (y ∷ front) more e = by_test (form_eq f y.0) e (none_front f front more)
    where
      by_test : (b : Bool) → cond b (Some y.1) (lookup (form_eq f) front) ≡ None
          → (lookup (form_eq f) front ≡ None → lookup (form_eq f) (front ++ more) ≡ lookup (form_eq f) more)
          → cond b (Some y.1) (lookup (form_eq f) (front ++ more)) ≡ lookup (form_eq f) more
      by_test true e rest = cc
      by_test false e rest = rest e

  abbrev in_these : Option (List ℕ) → ℕ → Bool
  in_these o s = option_map_or (λ (sites : List ℕ). has s sites) o false

  module _ (front back : List (Form × List ℕ)) (e : Form × List ℕ) (is : entries ≡ front ++ e ∷ back) (old new : List ℕ)
      (wider : (t : ℕ) → has t old ≡ true → has t new ≡ true)
      (here : (s : ℕ) → has s e.1 ≡ true → list_any (λ t. (t == s) || (selects e.0 && has t e.1)) new ≡ true) where
    in_last : (f : Form) → form_eq f e.0 ≡ true → lookup (form_eq f) front ≡ None → (t : ℕ) → in_group entries f t ≡ has t e.1
    in_last f same none t =
        ap (λ es. in_group es f t) is ∙ ap (λ o. in_these o t) (none_front f front (e ∷ back) none ∙ ap (λ b. cond b (Some e.1) (lookup (form_eq f) back)) same)

    pub one_group_more : (f : Form) (s : ℕ) → ((f : Form) (s : ℕ) → in_group front f s ≡ true → stands old f s ≡ true)
        → in_group (front ++ e ∷ []) f s ≡ true → stands new f s ≡ true
    one_group_more f s before h = by_front (lookup (form_eq f) front) refl
      where
        by_front : (o : Option (List ℕ)) → lookup (form_eq f) front ≡ o → stands new f s ≡ true
        by_front (Some x) found =
            any_wider (λ t. (t == s) || (selects f && in_group entries f t)) (λ t. (t == s) || (selects f && in_group entries f t)) old new wider (λ t p. p)
            (before f s (ap (λ o. in_these o s) found ∙ sym (ap (λ o. in_these o s) (found_front f front (e ∷ []) x found)) ∙ h))
        by_front None found = by_test (form_eq f e.0) refl
          where
            looked : (b : Bool) → form_eq f e.0 ≡ b → in_these (cond b (Some e.1) None) s ≡ true
            looked b same = ap (λ b. in_these (cond b (Some e.1) None) s) (sym same) ∙ ap (λ o. in_these o s) (sym (none_front f front (e ∷ []) found)) ∙ h

            by_test : (b : Bool) → form_eq f e.0 ≡ b → stands new f s ≡ true
            by_test true same =
                any_wider (λ t. (t == s) || (selects e.0 && has t e.1)) (λ t. (t == s) || (selects f && in_group entries f t)) new new (λ t p. p)
                (λ t p. (λ i. (t == s) || (selects (form_is f e.0 same i) && in_last f same found t i)) ∙ p)
                (here s (looked true same))
            by_test false same = absurd (let never : false ≡ true = looked false same in cc)

-- ---- what is asked under one key

module _ {S T : Type 0} (sites : List (ℕ × Rests)) (lists : IndexMap Key (IndexMap Form (List ℕ) S) T) (are : AreListed sites lists) (k : Key) where
  same_key_itself : (j : Key) → same_key j j ≡ true
  same_key_itself (key.Receivers c) = (Decides-eqb c c).1 refl
  same_key_itself (key.Target c) = (Decides-eqb c c).1 refl
  same_key_itself (key.Valid c) = (Decides-eqb c c).1 refl

  has_same : (ks : List Key) → has_key ks k ≡ true → (other : List Key) → has_key other k ≡ true → meets ks other ≡ true
  has_same [] h other there = cc
  has_same (j ∷ ks) h other there = elim (or_cases (same_key j k) (has_key ks k) h) [
    | inl here ↦ or_left (has_key other j) (meets ks other) (ap (has_key other) (same_key_is j k here) ∙ there)
    | inr more ↦ or_right (has_key other j) (meets ks other) (has_same ks more other there)
  ]

  -- two sites of one selecting form under the key are together
  pub are_alike : (f : Form) (s t : ℕ) → selects f ≡ true → rests sites s k f ≡ true → rests sites t k f ≡ true → are_together sites s t ≡ true
  are_alike f s t by at_s at_t = by_rests (rests_at sites t) (rests_at sites s) at_t at_s
    where
      by_rests : (o p : Option Rests)
          → option_map_or (λ r. form_eq r.form f && has_key r.footprint k) o false ≡ true
          → option_map_or (λ r. form_eq r.form f && has_key r.footprint k) p false ≡ true
          → option_map_or (λ r. selects r.form && option_map_or (λ q. form_eq q.form r.form && meets r.footprint q.footprint) p false) o false ≡ true
      by_rests None p a b = cc
      by_rests (Some r) None a b = cc
      by_rests (Some r) (Some q) a b =
          let of_r = and_parts (form_eq r.form f) (has_key r.footprint k) a in
          let of_q = and_parts (form_eq q.form f) (has_key q.footprint k) b in
          and_from (selects r.form) (form_eq q.form r.form && meets r.footprint q.footprint)
          (ap selects (form_is r.form f of_r.0) ∙ by)
          (and_from (form_eq q.form r.form) (meets r.footprint q.footprint)
          (ap (form_eq q.form) (form_is r.form f of_r.0) ∙ of_q.0)
          (has_same r.footprint of_r.1 q.footprint of_q.1))

  -- a touched site is asked where its group is
  pub asked_under : (groups : IndexMap Form (List ℕ) S) → get key_eq lists k ≡ Some groups → (asked : List ℕ)
      → ((f : Form) (s : ℕ) → listed_in groups f s ≡ true → stands_for groups asked f s ≡ true)
      → (s : ℕ) → option_map_or (λ (r : Rests). has_key r.footprint k) (rests_at sites s) false ≡ true → is_asked sites asked s ≡ true
  asked_under groups at asked all s h = by_rests (rests_at sites s) refl h
    where
      listed_so : (f : Form) (t : ℕ) → listed_in groups f t ≡ rests sites t k f
      listed_so f t = ap (λ o. option_map_or (λ groups. listed_in groups f t) o false) (sym at) ∙ are t k f

      weaker : (f : Form) → rests sites s k f ≡ true → (t : ℕ) → ((t == s) || (selects f && listed_in groups f t)) ≡ true
          → ((t == s) || are_together sites s t) ≡ true
      weaker f at_s t p = elim (or_cases (t == s) (selects f && listed_in groups f t) p) [
        | inl same ↦ or_left (t == s) (are_together sites s t) same
        | inr alike ↦ (let r = and_parts (selects f) (listed_in groups f t) alike in
            or_right (t == s) (are_together sites s t) (are_alike f s t r.0 at_s (sym (listed_so f t) ∙ r.1)))
      ]

      by_rests : (o : Option Rests) → rests_at sites s ≡ o → option_map_or (λ (r : Rests). has_key r.footprint k) o false ≡ true → is_asked sites asked s ≡ true
      by_rests None is h = cc
      by_rests (Some r) is h =
          let at_s : rests sites s k r.form ≡ true =
          ap (λ o. option_map_or (λ q. form_eq q.form r.form && has_key q.footprint k) o false) is
          ∙ and_from (form_eq r.form r.form) (has_key r.footprint k) (form_same r.form) h in
          any_wider (λ t. (t == s) || (selects r.form && listed_in groups r.form t)) (λ t. (t == s) || are_together sites s t) asked asked (λ t p. p)
          (weaker r.form at_s) (all r.form s (listed_so r.form s ∙ at_s))
