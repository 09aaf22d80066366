-- What a refusal leaves, where events are added one after another.
use Rattle.std.specs.Prelude.{◌≡◌, ℕ, zero, suc, ◌+◌, ◌<◌, List, [], ◌∷◌, ◌++◌, filter_map, take, length, get_or, Option, Some, None, option_to_list}
use Rattle.std.specs.Prelude.{Err, Ok, Result, IsOk}
use Rattle.std.specs.List.{cons_option, range_with_len}
use Rattle.std.proofs.Common.{refl, sym, ap, subst, ◌∙◌, arith, append_assoc, inl, inr}
use Rattle.jl_types.specs.declared.event.Made.{Made}
use Rattle.jl_types.specs.declared.refusal.Refusal.{Refusal}
use Rattle.jl_types.specs.declared.refusal.Refusal.TheVariants.{Memory}
use Rattle.jl_types.specs.Values.World.{World}
use Rattle.jl_types.specs.Events.Event.{Event}
use Rattle.jl_types.specs.Events.Verdict.{verdict}
use Rattle.jl_core.specs.State.{State, world_of, IsRefused}
use Rattle.jl_renewal.specs.Numbers.{Numbers}
use Rattle.jl_renewal.specs.Renewal.{new_switches, invalidation, invalid_points, new_call_sites, request, binding, site_events}
use Rattle.jl_renewal.specs.Carries.{IsRefusedIn}
use Rattle.jl_renewal.specs.Adds.{MayAdd, Adds, IsRefusedNext, IsStoppedAt}
use Rattle.jl_renewal.proofs.AddLaws.{adds_none, adds_both}
use Rattle.jl_renewal.proofs.FollowLaws.{may_then}

-- there may be no memory at any of them
memory_lacks : (left : List Event) (core : State) → IsRefusedNext left core Memory
memory_lacks [] core = refl
memory_lacks (e ∷ left) core = inl refl

-- those that come after don't matter
still_next : (left fs : List Event) (core : State) (r : Refusal) → IsRefusedNext left core r → IsRefusedNext (left ++ fs) core r
still_next [] fs core r memory = subst (λ (r : Refusal). IsRefusedNext fs core r) (sym memory) (memory_lacks fs core)
still_next (e ∷ left) fs core r refused = refused

-- ---- one event, and none

-- it is refused
pub stopped_one : (e : Event) (a b : State) (r : Refusal) → b ≡ a → IsRefused (verdict a.limits (world_of a) e) r → IsStoppedAt (e ∷ []) a b r
stopped_one e a b r same refused = record {
  done = [];
  left = e ∷ [];
  are = refl;
  adds = subst (λ (core : State). Adds [] a core) (sym same) (adds_none a);
  refused = subst (λ (core : State). IsRefusedIn core e r) (sym same) (elim refused [ inl is ↦ inr is | inr lacks ↦ inl lacks.0 ]);
}

-- there is no memory before all of them
pub stopped_before : (es : List Event) (a : State) (r : Refusal) → r ≡ Memory → IsStoppedAt es a a r
stopped_before es a r memory = record {
  done = [];
  left = es;
  are = refl;
  adds = adds_none a;
  refused = subst (λ (r : Refusal). IsRefusedNext es a r) (sym memory) (memory_lacks es a);
}

-- ---- the first of two lists, and the second

pub stopped_first : (es fs : List Event) (a b : State) (r : Refusal) → IsStoppedAt es a b r → IsStoppedAt (es ++ fs) a b r
stopped_first es fs a b r stopped = record {
  done = stopped.done;
  left = stopped.left ++ fs;
  are = ap (λ (xs : List Event). xs ++ fs) stopped.are ∙ append_assoc stopped.done stopped.left fs;
  adds = stopped.adds;
  refused = still_next stopped.left fs b r stopped.refused;
}

pub stopped_then : (es fs : List Event) (a b c : State) (r : Refusal) → Adds es a b → IsStoppedAt fs b c r → IsStoppedAt (es ++ fs) a c r
stopped_then es fs a b c r adds stopped = record {
  done = es ++ stopped.done;
  left = stopped.left;
  are = ap (λ (xs : List Event). es ++ xs) stopped.are ∙ sym (append_assoc es stopped.done stopped.left);
  adds = adds_both es stopped.done a b c adds stopped.adds;
  refused = stopped.refused;
}

-- what stops a list that is made of a value stops it made of an equal one
pub stopped_as : {X : Type 0} {x y : X} {a b : State} {r : Refusal} (f : X → List Event) → x ≡ y → IsStoppedAt (f x) a b r → IsStoppedAt (f y) a b r
stopped_as {X = X} {a = a} {b = b} {r = r} f = subst (λ (x : X). IsStoppedAt (f x) a b r)

-- ---- the events for what isn't a class: each part of them may be refused

module _ (w : World) (n : Numbers) (a : State) (r : Refusal) where
  abbrev points : List Event
  points = invalidation (invalid_points w.sites n)

  abbrev requests : List Event
  requests = filter_map (request n) w.places

  abbrev bindings : List Event
  bindings = filter_map (binding n) w.bindings

  pub at_switches : (b : State) → IsStoppedAt (new_switches n.switches) a b r → IsStoppedAt (site_events w n) a b r
  at_switches b = stopped_first (new_switches n.switches) (points ++ (new_call_sites w.sites n ++ (requests ++ bindings))) a b r

  module _ (b : State) (switches : Adds (new_switches n.switches) a b) where
    after_switches : (end : State) → IsStoppedAt (points ++ (new_call_sites w.sites n ++ (requests ++ bindings))) b end r
        → IsStoppedAt (site_events w n) a end r
    after_switches end = stopped_then (new_switches n.switches) (points ++ (new_call_sites w.sites n ++ (requests ++ bindings))) a b end r switches

    pub at_points : (c : State) → IsStoppedAt points b c r → IsStoppedAt (site_events w n) a c r
    at_points c stopped = after_switches c (stopped_first points (new_call_sites w.sites n ++ (requests ++ bindings)) b c r stopped)

    module _ (c : State) (invalid : Adds points b c) where
      after_points : (end : State) → IsStoppedAt (new_call_sites w.sites n ++ (requests ++ bindings)) c end r → IsStoppedAt (site_events w n) a end r
      after_points end stopped =
          after_switches end (stopped_then points (new_call_sites w.sites n ++ (requests ++ bindings)) b c end r invalid stopped)

      pub at_call_sites : (d : State) → IsStoppedAt (new_call_sites w.sites n) c d r → IsStoppedAt (site_events w n) a d r
      at_call_sites d stopped = after_points d (stopped_first (new_call_sites w.sites n) (requests ++ bindings) c d r stopped)

      module _ (d : State) (call_sites : Adds (new_call_sites w.sites n) c d) where
        after_call_sites : (end : State) → IsStoppedAt (requests ++ bindings) d end r → IsStoppedAt (site_events w n) a end r
        after_call_sites end stopped = after_points end (stopped_then (new_call_sites w.sites n) (requests ++ bindings) c d end r call_sites stopped)

        pub at_requests : (e : State) → IsStoppedAt requests d e r → IsStoppedAt (site_events w n) a e r
        at_requests e stopped = after_call_sites e (stopped_first requests bindings d e r stopped)

        pub at_bindings : (e end : State) → Adds requests d e → IsStoppedAt bindings e end r → IsStoppedAt (site_events w n) a end r
        at_bindings e end requested stopped = after_call_sites end (stopped_then requests bindings d e end r requested stopped)

-- ---- where none of them is refused

pub not_both : (v : Result Made Refusal) (r : Refusal) → v ≡ Err r → IsOk v → ⊥
not_both (Ok m) r is ok = cc
not_both (Err s) r is ok = cc

none_refused : (left : List Event) (core : State) (r : Refusal) → MayAdd left core → IsRefusedNext left core r → r ≡ Memory
none_refused [] core r may memory = memory
none_refused (e ∷ left) core r may (inl memory) = memory
none_refused (e ∷ left) core r may (inr is) = absurd (not_both (verdict core.limits (world_of core) e) r is may.0)

-- there is no memory then
pub lacks_memory : (es : List Event) (a b : State) (r : Refusal) → MayAdd es a → IsStoppedAt es a b r → r ≡ Memory
lacks_memory es a b r may stopped =
    none_refused stopped.left b r (may_then stopped.done stopped.left a b (subst (λ (xs : List Event). MayAdd xs a) stopped.are may) stopped.adds)
    stopped.refused

-- ---- a loop that adds what each element gives, if it gives anything

one_given : {Y : Type 0} (o : Option Y) (rest : List Y) → cons_option o rest ≡ option_to_list o ++ rest
one_given None rest = refl
one_given (Some y) rest = refl

moved : (o : Option Event) (es fs : List Event) → cons_option o (es ++ fs) ≡ cons_option o es ++ fs
moved None es fs = refl
moved (Some e) es fs = refl

split_at : {X : Type 0} (f : X → Option Event) (xs : List X) (i : ℕ) (d : X) → i < length xs
    → (rest : List Event) × (filter_map f xs ≡ filter_map f (take i xs) ++ (option_to_list (f (get_or xs i d)) ++ rest))
split_at f [] i d lt = absurd (omega (arith, lt))
split_at f (x ∷ xs) zero d lt = (filter_map f xs, one_given (f x) (filter_map f xs))
split_at f (x ∷ xs) (suc i) d lt =
    let later = split_at f xs i d (omega (arith, lt)) in
    (later.0, ap (cons_option (f x)) later.1 ∙ moved (f x) (filter_map f (take i xs)) _)

-- what the next element gives is refused
pub stopped_turn : {X : Type 0} (f : X → Option Event) (xs : List X) (i : ℕ) (d : X) (o : Option Event) (a b c : State) (r : Refusal) → i < length xs
    → o ≡ f (get_or xs i d) → Adds (filter_map f (take i xs)) a b → IsStoppedAt (option_to_list o) b c r → IsStoppedAt (filter_map f xs) a c r
stopped_turn f xs i d o a b c r lt made adds stopped =
    let split = split_at f xs i d lt in
    subst (λ (es : List Event). IsStoppedAt es a c r) (sym split.1)
    (stopped_then (filter_map f (take i xs)) (option_to_list (f (get_or xs i d)) ++ split.0) a b c r adds
    (stopped_first (option_to_list (f (get_or xs i d))) split.0 b c r
    (subst (λ (x : Option Event). IsStoppedAt (option_to_list x) b c r) made stopped)))

-- there is no memory for what it gives
pub stopped_at : {X : Type 0} (f : X → Option Event) (xs : List X) (i : ℕ) (d : X) (a b : State) (r : Refusal) → i < length xs
    → Adds (filter_map f (take i xs)) a b → r ≡ Memory → IsStoppedAt (filter_map f xs) a b r
stopped_at f xs i d a b r lt adds memory =
    stopped_turn f xs i d (f (get_or xs i d)) a b b r lt refl adds (stopped_before (option_to_list (f (get_or xs i d))) b r memory)

-- the same of a loop over numbers
range_split : (f : ℕ → Option Event) (a n i j : ℕ) → i < n → a + i ≡ j
    → (rest : List Event) × (filter_map f (range_with_len a n) ≡ filter_map f (range_with_len a i) ++ (option_to_list (f j) ++ rest))
range_split f a zero i j lt is = absurd (omega (arith, lt))
range_split f a (suc n) zero j lt is =
    let same : a ≡ j = omega (arith, is) in (
      filter_map f (range_with_len (a + 1) n),
      one_given (f a) (filter_map f (range_with_len (a + 1) n))
          ∙ ap (λ (k : ℕ). option_to_list (f k) ++ filter_map f (range_with_len (a + 1) n)) same,
    )
range_split f a (suc n) (suc i) j lt is =
    let later = range_split f (a + 1) n i j (omega (arith, lt)) (omega (arith, is)) in
    (later.0, ap (cons_option (f a)) later.1 ∙ moved (f a) (filter_map f (range_with_len (a + 1) i)) _)

pub stopped_turn_number : (f : ℕ → Option Event) (n i : ℕ) (o : Option Event) (a b c : State) (r : Refusal) → i < n → o ≡ f i
    → Adds (filter_map f (range_with_len 0 i)) a b → IsStoppedAt (option_to_list o) b c r → IsStoppedAt (filter_map f (range_with_len 0 n)) a c r
stopped_turn_number f n i o a b c r lt made adds stopped =
    let split = range_split f 0 n i i lt (omega arith) in
    subst (λ (es : List Event). IsStoppedAt es a c r) (sym split.1)
    (stopped_then (filter_map f (range_with_len 0 i)) (option_to_list (f i) ++ split.0) a b c r adds
    (stopped_first (option_to_list (f i)) split.0 b c r (subst (λ (x : Option Event). IsStoppedAt (option_to_list x) b c r) made stopped)))

pub stopped_at_number : (f : ℕ → Option Event) (n i : ℕ) (a b : State) (r : Refusal) → i < n → Adds (filter_map f (range_with_len 0 i)) a b → r ≡ Memory
    → IsStoppedAt (filter_map f (range_with_len 0 n)) a b r
stopped_at_number f n i a b r lt adds memory =
    stopped_turn_number f n i (f i) a b b r lt refl adds (stopped_before (option_to_list (f i)) b r memory)
