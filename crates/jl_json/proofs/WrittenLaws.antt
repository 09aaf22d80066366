-- What is written for a value, as text.
use Rattle.std.proofs.Common.{◌≡◌, ◌∙◌, sym, ap, subst, arith, ℕ, zero, suc, ◌+◌, ◌≤◌, Some, None, List, [], ◌∷◌, ◌++◌, length, map, drop, Result}
use Rattle.std.proofs.Common.{OnOk, append_assoc}
use Rattle.std.specs.Prelude.{slice_get}
use Rattle.std.proofs.lemmas.List.{drop_all}
use Rattle.jl_types.proofs.Lists.{left_at}
use Rattle.std.proofs.lemmas.Result.{on_ok_weaker}
use Rattle.json.specs.Token as token
use Rattle.json.specs.Token.{Token}
use Rattle.json.specs.Print.{print}
use Rattle.json.specs.Tree.{json_tokens, items_tokens, members_tokens}
use Rattle.serde_json.specs.Data.{Data, null, boolean, number, string, array, object}
use Rattle.serde_json.specs.Data.{Items, no_items, item, Members, no_members, member}
use Rattle.serde_json.specs.Written.{outline, items_outline, members_outline, compact_text}
use Rattle.serde_json.specs.View.{items_of}
use Rattle.serde_json.proofs.Texts.{print-outline}
use Rattle.jl_json.specs.ForProofs.Written.{Puts, PutsValue, PutsItems, PutsMembers}

-- tokens after a first one
then_tokens : (old first new : List Token) (t : Token) (ts : List Token) → Puts old first t → new ≡ first ++ ts → new ≡ old ++ t ∷ ts
then_tokens old first new t ts h e = e ∙ ap (λ (xs : List Token). xs ++ ts) h ∙ append_assoc old (t ∷ []) ts

-- tokens after others
then_more : (old mid new ts us : List Token) → mid ≡ old ++ ts → new ≡ mid ++ us → new ≡ old ++ (ts ++ us)
then_more old mid new ts us h e = e ∙ ap (λ (xs : List Token). xs ++ us) h ∙ append_assoc old ts us

mutual
  value_tokens : (d : Data) (old new : List Token) → PutsValue d old new → new ≡ old ++ json_tokens (outline d)
  value_tokens null old new h = h
  value_tokens (boolean b) old new h = h
  value_tokens (number n) old new h = h
  value_tokens (string s) old new h = h
  value_tokens (array ds) old new h =
      then_tokens old h.0 new token.begin_array (items_tokens (items_outline ds)) h.1 (all_tokens ds h.0 new h.2)
  value_tokens (object ms) old new h =
      then_tokens old h.0 new token.begin_object (members_tokens (members_outline ms)) h.1 (each_tokens ms h.0 new h.2)

  all_tokens : (ds : Items) (old new : List Token) → PutsItems ds old new → new ≡ old ++ items_tokens (items_outline ds)
  all_tokens no_items old new h = h
  all_tokens (item d ds) old new h =
      then_more old h.0 new (json_tokens (outline d)) (items_tokens (items_outline ds)) (value_tokens d old h.0 h.1)
      (all_tokens ds h.0 new h.2)

  each_tokens : (ms : Members) (old new : List Token) → PutsMembers ms old new → new ≡ old ++ members_tokens (members_outline ms)
  each_tokens no_members old new h = h
  each_tokens (member k d ms) old new h =
      then_tokens old h.0 new (token.key k) (json_tokens (outline d) ++ members_tokens (members_outline ms)) h.2
      (then_more h.0 h.1 new (json_tokens (outline d)) (members_tokens (members_outline ms)) (value_tokens d h.0 h.1 h.3)
      (each_tokens ms h.1 new h.4))

-- what is written for a value from nothing on has its text
text_of_tokens : (d : Data) (written : List Token) → PutsValue d [] written → print written ≡ compact_text d
text_of_tokens d written h = ap print (value_tokens d [] written h) ∙ print-outline d

-- if nothing stands at a place, the list has ended
pub no_more : {X : Type 0} (xs : List X) (n : ℕ) → None ≡ slice_get xs n → length xs ≤ n
no_more [] n e = omega arith
no_more (x ∷ xs) zero e = cc
no_more (x ∷ xs) (suc n) e = let less = no_more xs n e in omega arith

-- one item more is written: whatever ends the list well after that item ends it well from the start
pub one_written : {X : Type 0} (f : X → Data) (xs : List X) (n : ℕ) (x : X) (first old new : List Token) → Some x ≡ slice_get xs n → PutsValue (f x) old new
    → ((end : List Token) → PutsItems (items_of (map f (drop n xs))) old end → PutsItems (items_of (map f xs)) first end)
    → (end : List Token) → PutsItems (items_of (map f (drop (n + 1) xs))) new end → PutsItems (items_of (map f xs)) first end
one_written {X = X} f xs n x first old new e put items end rest =
    items end (subst (λ (ys : List X). PutsItems (items_of (map f ys)) old end) (sym (left_at xs n x (sym e))) (new, put, rest))

-- a list is written where its items were, one by one, between its begin and its end
pub written_list : {X A E : Type 0} (f : X → Data) (xs : List X) (r : Result A E) (n : ℕ) (old first last end : List Token)
    → Puts old first token.begin_array → length xs ≤ n
    → ((other : List Token) → PutsItems (items_of (map f (drop n xs))) last other → PutsItems (items_of (map f xs)) first other)
    → OnOk r (Puts last end token.end_array)
    → OnOk r (PutsValue (array (items_of (map f xs))) old end)
written_list f xs r n old first last end begun past items ended =
    on_ok_weaker r (λ e. (
      first,
      begun,
      items end (subst (λ ys. PutsItems (items_of (map f ys)) last end) (sym (drop_all n xs past)) e),
    )) ended

-- what is written for a value after a text
pub text_after : (d : Data) (first written : List Token) (before kept items : List ℕ) → first ≡ [] → PutsValue d first written
    → kept ≡ before → items ≡ kept ++ print written → items ≡ before ++ compact_text d
text_after d first written before kept items none put is said =
    said ∙ ap (λ (xs : List ℕ). xs ++ print written) is
    ∙ ap (λ (xs : List ℕ). before ++ xs) (text_of_tokens d written (subst (λ ts. PutsValue d ts written) none put))
