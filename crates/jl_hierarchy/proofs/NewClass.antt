-- What is kept once a class is defined.
use Rattle.std.specs.Prelude.{◌≡◌, ℕ, zero, suc, ◌+◌, ◌<◌, ◌^◌, ◌==◌, ◌||◌, ◌&&◌, Bool, true, false, cond, if◌then◌else◌, not}
use Rattle.std.specs.Prelude.{List, [], ◌∷◌, ◌++◌, length, get_or, map, filter, slice_get, slice_set, Option, Some, None}
use Rattle.std.specs.List.{range_with_len}
use Rattle.std.specs.Option.{option_map_or}
use Rattle.std.proofs.Common.{refl, ap, sym, subst, ◌∙◌, arith, length-append}
use Rattle.std.proofs.lemmas.Bool.Decides.{Decides-eqb}
use Rattle.std.proofs.lemmas.Cmp.{nat_eq_equiv}
use Rattle.std.proofs.lemmas.List.{ext_get_or, length-set, append-nil}
use Rattle.std.proofs.lemmas.List.Folds.{list_any-append}
use Rattle.std.proofs.lemmas.List.FromFn.{get_or-map-range_with_len, length-map-range_with_len, map-range_with_len_more}
use Rattle.jl_class.specs.Class.{ClassFile}
use Rattle.jl_types.specs.Values.World.{Class, Classes}
use Rattle.jl_types.specs.Values.Members.{numbers, is_retired, is_concrete, is_concrete_row}
use Rattle.jl_types.specs.Values.Ancestry.{is_ancestor, ancestors, receivers}
use Rattle.jl_types.specs.Events.Definitions.{class_made, defined, with_record}
use Rattle.jl_types.proofs.Ancestors.{ancestor_decides}
use Rattle.jl_types.proofs.Grown.{above, among_ancestors, old_ancestors, receivers_after}
use Rattle.jl_types.proofs.Lists.{at_end}
use Rattle.jl_types.proofs.Orders.{IsGood, defined_good}
use Rattle.jl_hierarchy.specs.Constancy.{ObjectComesFirst, MayDefine}
use Rattle.jl_hierarchy.specs.ForProofs.Kept.{IsKept, IsAppended}
use Rattle.jl_hierarchy.proofs.Closed.{closed_defined, live_loader}
use Rattle.jl_hierarchy.proofs.OwnRecords.{own_defined}
use Rattle.jl_hierarchy.proofs.Finals.{still_extended}
use Rattle.jl_hierarchy.proofs.Rising.{has}

map_range : {A : Type 0} (f g : ℕ → A) (a n : ℕ) → ((c : ℕ) → c < a + n → f c ≡ g c) → map f (range_with_len a n) ≡ map g (range_with_len a n)
map_range f g a zero h = refl
map_range f g a (suc n) h = λ i. h a (omega arith) i ∷ map_range f g (a + 1) n (λ c lt. h c (omega arith)) i

none_pass : (p : ℕ → Bool) (a n : ℕ) → ((c : ℕ) → c < a + n → p c ≡ false) → filter p (range_with_len a n) ≡ []
none_pass p a zero h = refl
none_pass p a (suc n) h =
    ap (λ (b : Bool). cond b (a ∷ filter p (range_with_len (a + 1) n)) (filter p (range_with_len (a + 1) n))) (h a (omega arith))
    ∙ none_pass p (a + 1) n (λ c lt. h c (omega arith))

pub as_many_loaders : (loaders : List (List (List ℕ × ℕ))) (loader : ℕ) (name : List ℕ) (c : ℕ) → length (with_record loaders loader name c) ≡ length loaders
as_many_loaders loaders loader name c = by_loader (slice_get loaders loader)
  where
    by_loader : (o : Option (List (List ℕ × ℕ)))
        → length (option_map_or (λ records. slice_set loaders loader (records ++ (name, c) ∷ [])) o loaders) ≡ length loaders
    by_loader None = refl
    by_loader (Some records) = length-set loaders loader (records ++ (name, c) ∷ [])

has_chosen : (b : Bool) (i : ℕ) (xs : List ℕ) → has i (if b then xs else []) ≡ (b && has i xs)
has_chosen true i xs = refl
has_chosen false i xs = refl

module _ (cs : Classes) (over under : List (List ℕ)) (kept : IsKept cs over under) (loader : ℕ) (file : ClassFile)
    (none : MayDefine cs loader file) (room : length cs.rows < 2 ^ 20) where
  abbrev n : ℕ
  n = length cs.rows

  abbrev row : Class
  row = class_made cs loader file

  abbrev new : Classes
  new = defined cs loader file

  good : IsGood cs
  good = record { there = kept.there; ordered = kept.ordered }

  live : is_retired cs loader ≡ false
  live = live_loader cs loader file none

  pub new_good : IsGood new
  new_good = defined_good cs good loader file

  one_more : numbers new ≡ range_with_len 0 (n + 1)
  one_more = ap (range_with_len 0) (length-append cs.rows (row ∷ []))

  row_there : slice_get new.rows n ≡ Some row
  row_there = at_end cs.rows row

  concrete : is_retired cs loader ≡ false → is_concrete new n ≡ is_concrete_row row
  concrete live =
      ap (λ (r : Option Class). option_map_or (λ row. not (is_retired cs row.loader)) r false && option_map_or is_concrete_row r false) row_there
      ∙ ap (λ (b : Bool). not b && is_concrete_row row) live

  module _ (proper : List ℕ) (listed : proper ++ n ∷ [] ≡ ancestors new.rows n) where
    ancestors_now : over ++ (proper ++ n ∷ []) ∷ [] ≡ map (ancestors new.rows) (numbers new)
    ancestors_now =
        (λ i. kept.ancestors_kept i ++ listed i ∷ [])
        ∙ ap (λ (ls : List (List ℕ)). ls ++ ancestors new.rows n ∷ [])
        (sym (map_range (ancestors new.rows) (ancestors cs.rows) 0 n (λ c lt. old_ancestors cs.rows kept.ordered row c (omega arith))))
        ∙ sym (map-range_with_len_more (ancestors new.rows) 0 n n (omega arith))
        ∙ ap (map (ancestors new.rows)) (sym one_more)

    is_below : (i : ℕ) → i < n → is_ancestor new i n ≡ has i proper
    is_below i lt =
        among_ancestors new new_good.ordered i n
        ∙ ap (has i) (sym listed)
        ∙ list_any-append (λ k. k == i) proper (n ∷ [])
        ∙ ap (λ (b : Bool). has i proper || (b || false)) (above_number n i lt)
        ∙ or_nothing (has i proper)
      where
        above_number : (n i : ℕ) → i < n → (n == i) ≡ false
        above_number n i lt = by_test (n == i) refl
          where
            by_test : (b : Bool) → (n == i) ≡ b → b ≡ false
            by_test true e = absurd (let same = (Decides-eqb n i).0 e in omega arith)
            by_test false e = refl

        or_nothing : (b : Bool) → (b || (false || false)) ≡ b
        or_nothing true = refl
        or_nothing false = refl

    itself : is_ancestor new n n ≡ true
    itself =
        among_ancestors new new_good.ordered n n
        ∙ ap (has n) (sym listed)
        ∙ list_any-append (λ k. k == n) proper (n ∷ [])
        ∙ ap (λ (b : Bool). has n proper || (b || false)) (nat_eq_equiv.refl n)
        ∙ or_all (has n proper)
      where
        or_all : (b : Bool) → (b || (true || false)) ≡ true
        or_all true = refl
        or_all false = refl

    none_yet : receivers cs n ≡ []
    none_yet = none_pass (λ x. is_concrete cs x && is_ancestor cs n x) 0 n (λ c lt. by_test (is_ancestor cs n c) refl (is_concrete cs c) (omega arith))
      where
        by_test : {c : ℕ} (b : Bool) → is_ancestor cs n c ≡ b → (k : Bool) → c < n → (k && b) ≡ false
        by_test {c = c} true e k lt = absurd (let le = above cs.rows kept.ordered n ((ancestor_decides cs kept.ordered n c).0 e) in omega arith)
        by_test false e true lt = refl
        by_test false e false lt = refl

    module _ (lists' : List (List ℕ)) (appended : IsAppended (if is_concrete_row row then proper else []) n under lists') where
      one_list : (i : ℕ) → i < n → get_or lists' i [] ≡ receivers new i
      one_list i lt =
          appended.each i
          ∙ (λ j. if (has_chosen (is_concrete_row row) i proper ∙ (λ k. sym (concrete live) k && sym (is_below i lt) k)) j then old j ++ n ∷ [] else old j)
          ∙ by_test (is_concrete new n && is_ancestor new i n)
          ∙ sym (receivers_after cs kept.ordered loader file i)
        where
          old : get_or under i [] ≡ receivers cs i
          old = ap (λ (ls : List (List ℕ)). get_or ls i []) kept.receivers_kept ∙ get_or-map-range_with_len (receivers cs) 0 n i i [] lt (omega arith)

          by_test : (b : Bool) → (if b then receivers cs i ++ n ∷ [] else receivers cs i) ≡ receivers cs i ++ cond b (n ∷ []) []
          by_test true = refl
          by_test false = sym (append-nil (receivers cs i))

      as_many : length lists' ≡ n
      as_many = appended.many ∙ ap length kept.receivers_kept ∙ length-map-range_with_len (receivers cs) 0 n

      lists_are : lists' ≡ map (receivers new) (range_with_len 0 n)
      lists_are =
          ext_get_or [] lists' (map (receivers new) (range_with_len 0 n)) (as_many ∙ sym (length-map-range_with_len (receivers new) 0 n))
          (λ i lt. one_list i (let m = as_many in omega arith) ∙ sym (get_or-map-range_with_len (receivers new) 0 n i i [] (let m = as_many in omega arith)
          (omega arith)))

      own_is : (if is_concrete_row row then n ∷ [] else []) ≡ receivers new n
      own_is =
          by_test (is_concrete_row row)
          ∙ (λ j. cond (sym (concrete live) j && sym itself j) (n ∷ []) [])
          ∙ ap (λ (xs : List ℕ). xs ++ cond (is_concrete new n && is_ancestor new n n) (n ∷ []) []) (sym none_yet)
          ∙ sym (receivers_after cs kept.ordered loader file n)
        where
          by_test : (b : Bool) → (if b then n ∷ [] else []) ≡ cond (b && true) (n ∷ []) []
          by_test true = refl
          by_test false = refl

      receivers_now : lists' ++ (if is_concrete_row row then n ∷ [] else []) ∷ [] ≡ map (receivers new) (numbers new)
      receivers_now =
          (λ i. lists_are i ++ own_is i ∷ [])
          ∙ sym (map-range_with_len_more (receivers new) 0 n n (omega arith))
          ∙ ap (map (receivers new)) (sym one_more)

      pub kept_now : ObjectComesFirst new → IsKept new (over ++ (proper ++ n ∷ []) ∷ []) (lists' ++ (if is_concrete_row row then n ∷ [] else []) ∷ [])
      kept_now object = record {
        there = new_good.there;
        ordered = new_good.ordered;
        extended = still_extended cs good kept.extended loader file none;
        object = object;
        closed = closed_defined cs good loader file kept.closed;
        own = own_defined cs good kept.own loader file none;
        few = let m = length-append cs.rows (row ∷ []) in omega (arith, room, m);
        few_loaders = let m = as_many_loaders cs.loaders loader file.name n in let few = kept.few_loaders in omega arith;
        ancestors_kept = ancestors_now;
        receivers_kept = receivers_now;
      }

-- the classes with what is kept, by way of equal parts
pub kept_as : (cs cs' : Classes) (over over' under under' : List (List ℕ)) → cs ≡ cs' → over ≡ over' → under ≡ under' → IsKept cs' over' under'
    → IsKept cs over under
kept_as cs cs' over over' under under' e f g kept =
    subst (λ (k : Classes). IsKept k over under) (sym e) (subst (λ o. IsKept cs' o under) (sym f) (subst (λ u. IsKept cs' over' u) (sym g) kept))

-- what holds of all ancestors, and of none, holds of those that get the class as a receiver
pub chosen : (P : List ℕ → Type 0) (concrete : Bool) (xs : List ℕ) → P [] → P xs → P (if concrete then xs else [])
chosen P true xs none all = all
chosen P false xs none all = none
