-- What lists of events add, one after another.
use Rattle.std.specs.Prelude.{◌≡◌, ℕ, ◌+◌, ◌<◌, List, [], ◌∷◌, ◌++◌, filter_map, take, length, Option, Some, None, option_to_list, get_or, slice_get}
use Rattle.std.specs.List.{cons_option, range_with_len}
use Rattle.std.proofs.Common.{refl, sym, ap, subst, ◌∙◌, append_assoc}
use Rattle.std.proofs.lemmas.List.{take_more, append-nil}
use Rattle.std.proofs.lemmas.List.Elements.{filter_map-append}
use Rattle.jl_types.specs.Events.Event.{Event}
use Rattle.jl_core.specs.State.{State, events}
use Rattle.jl_renewal.specs.Adds.{Adds}
use Rattle.jl_renewal.proofs.ListLaws.{one_given_more, all_taken}

pub adds_none : (core : State) → Adds [] core core
adds_none core = record { events = sym (append-nil (events core)); limit = refl }

pub adds_both : (es fs : List Event) (a b c : State) → Adds es a b → Adds fs b c → Adds (es ++ fs) a c
adds_both es fs a b c first second = record {
  events = second.events ∙ (ap (λ (h : List Event). h ++ fs) first.events ∙ append_assoc (events a) es fs);
  limit = second.limit ∙ first.limit;
}

-- what a list adds that is made of a value, it adds made of an equal one
pub adds_as : {X : Type 0} {x y : X} {a b : State} (f : X → List Event) → x ≡ y → Adds (f x) a b → Adds (f y) a b
adds_as {X = X} {a = a} {b = b} f = subst (λ (x : X). Adds (f x) a b)

-- a list with one more is what it gave, and what that gives
pub filter_map-take_more : {X Y : Type 0} (f : X → Option Y) (xs : List X) (i : ℕ) (d : X) → i < length xs
    → filter_map f (take (i + 1) xs) ≡ filter_map f (take i xs) ++ option_to_list (f (get_or xs i d))
filter_map-take_more f xs i d h =
    ap (filter_map f) (take_more xs i d h)
    ∙ (filter_map-append f (take i xs) (get_or xs i d ∷ [])
    ∙ ap (λ ys. filter_map f (take i xs) ++ ys) (one (f (get_or xs i d))))
  where
    one : {Y : Type 0} (o : Option Y) → cons_option o [] ≡ option_to_list o
    one None = refl
    one (Some y) = refl

-- one turn of a loop that adds what each element gives, if it gives anything
pub adds_next : {X : Type 0} (f : X → Option Event) (xs : List X) (i : ℕ) (d : X) (a b c : State) → i < length xs
    → Adds (filter_map f (take i xs)) a b → Adds (option_to_list (f (get_or xs i d))) b c → Adds (filter_map f (take (i + 1) xs)) a c
adds_next f xs i d a b c h before one =
    subst (λ (es : List Event). Adds es a c) (sym (filter_map-take_more f xs i d h)) (adds_both _ _ a b c before one)

-- one element more, where the code has made what the element gives
pub adds_turn : {X : Type 0} (f : X → Option Event) (xs : List X) (i : ℕ) (d : X) (o : Option Event) (a b c : State) → i < length xs
    → o ≡ f (get_or xs i d) → Adds (filter_map f (take i xs)) a b → Adds (option_to_list o) b c → Adds (filter_map f (take (i + 1) xs)) a c
adds_turn f xs i d o a b c h made before one =
    adds_next f xs i d a b c h before (subst (λ (x : Option Event). Adds (option_to_list x) b c) made one)

-- the end of a loop over places
pub adds_whole : {X : Type 0} (f : X → Option Event) (xs : List X) (i : ℕ) (a b : State) → slice_get xs i ≡ None → Adds (filter_map f (take i xs)) a b
    → Adds (filter_map f xs) a b
adds_whole {X = X} f xs i a b e = subst (λ (ys : List X). Adds (filter_map f ys) a b) (all_taken xs i e)

-- one turn of a loop that pushes what each element gives, if it gives anything
pub pushes_turn : {X Y : Type 0} (f : X → Option Y) (xs : List X) (i : ℕ) (d : X) (o : Option Y) (made more : List Y) → i < length xs
    → o ≡ f (get_or xs i d) → made ≡ filter_map f (take i xs) → more ≡ made ++ option_to_list o → more ≡ filter_map f (take (i + 1) xs)
pushes_turn f xs i d o made more h is before one =
    one ∙ (ap (λ ys. ys ++ option_to_list o) before
    ∙ (ap (λ x. filter_map f (take i xs) ++ option_to_list x) is ∙ sym (filter_map-take_more f xs i d h)))

-- one turn of a loop over numbers that adds what each gives, if it gives anything
pub adds_turn_number : (f : ℕ → Option Event) (i : ℕ) (o : Option Event) (a b c : State) → o ≡ f i → Adds (filter_map f (range_with_len 0 i)) a b
    → Adds (option_to_list o) b c → Adds (filter_map f (range_with_len 0 (i + 1))) a c
adds_turn_number f i o a b c made before one =
    subst (λ (es : List Event). Adds es a c)
    (one_given_more f i (filter_map f (range_with_len 0 i)) (filter_map f (range_with_len 0 i) ++ option_to_list o) refl
    (ap (λ (x : Option Event). filter_map f (range_with_len 0 i) ++ option_to_list x) made))
    (adds_both (filter_map f (range_with_len 0 i)) (option_to_list o) a b c before one)
