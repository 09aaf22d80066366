-- Lists of entries, and what they tell as the core goes on.
use Rattle.std.specs.Prelude.{◌≡◌, ◌&&◌, true, List, [], ◌∷◌, ◌++◌, length, slice_get, Option, Some, None}
use Rattle.std.specs.Prelude.{option_map, is_some}
use Rattle.std.specs.List.{cons_option}
use Rattle.std.proofs.Common.{refl, sym, ap, subst, ◌∙◌, arith, append_assoc}
use Rattle.std.proofs.lemmas.Bool.{and_parts}
use Rattle.std.proofs.lemmas.List.{append-nil, map-append}
use Rattle.std.proofs.lemmas.List.Elements.{filter_map-append}
use Rattle.std.proofs.lemmas.List.Folds.{list_all-append}
use Rattle.jl_types.specs.declared.event.Reply.{Reply}
use Rattle.jl_types.specs.Values.World.{Class}
use Rattle.jl_types.specs.Events.Event.{Event}
use Rattle.jl_types.specs.Events.Verdict.{step}
use Rattle.jl_types.specs.Events.History.{world_after}
use Rattle.jl_types.proofs.Places.{world_more}
use Rattle.jl_events.proofs.AcceptedLaws.{rows_stay}
use Rattle.jl_relink.specs.Laws.{has_read_file}
use Rattle.jl_core.specs.State.{State, events, world_of, IsAccepted}
use Rattle.jl_core.specs.Logs.{Entry, told, are_told, shown}
use Rattle.jl_host.specs.UnderWay.{HasAccepted, AreAmong}

-- ---- lists

-- two fronts of one list that are equally long are the same, and so are the rests
pub same_fronts : {A : Type 0} (xs ys more others : List A) → length xs ≡ length ys → xs ++ more ≡ ys ++ others → (xs ≡ ys) × (more ≡ others)
same_fronts [] [] more others e is = (refl, is)
same_fronts [] (y ∷ ys) more others e is = absurd (omega (arith, e))
same_fronts (x ∷ xs) [] more others e is = absurd (omega (arith, e))
same_fronts (x ∷ xs) (y ∷ ys) more others e is =
    let first : x ≡ y = cc in
    let later : xs ++ more ≡ ys ++ others = cc in
    let rest = same_fronts xs ys more others (omega (arith, e)) later in
    (λ i. first i ∷ rest.0 i, rest.1)

-- nothing stands after all of it
pub none_behind : {A : Type 0} (xs : List A) → length xs ≡ 0 → xs ≡ []
none_behind [] e = refl
none_behind (x ∷ xs) e = absurd (omega (arith, e))

-- ---- what entries tell

pub some_of : {A B : Type 0} (f : A → B) (o : Option A) → is_some (option_map f o) ≡ true → is_some o ≡ true
some_of f None e = cc
some_of f (Some x) e = refl

pub some_value : {A : Type 0} (o : Option A) → is_some o ≡ true → (x : A) × (o ≡ Some x)
some_value None e = cc
some_value (Some x) e = (x, refl)

module _ (rows : List Class) where
  pub both_told : (xs ys : List Entry) → are_told rows (xs ++ ys) ≡ true → (are_told rows xs ≡ true) × (are_told rows ys ≡ true)
  both_told xs ys e =
      and_parts (are_told rows xs) (are_told rows ys) (sym (list_all-append (λ (entry : Entry). is_some (told rows entry)) xs ys) ∙ e)

  pub told_both : (xs ys : List Entry) → are_told rows xs ≡ true → are_told rows ys ≡ true → are_told rows (xs ++ ys) ≡ true
  told_both xs ys a b = list_all-append (λ (entry : Entry). is_some (told rows entry)) xs ys ∙ (λ i. a i && b i)

  pub first_told : (entry : Entry) (entries : List Entry) → are_told rows (entry ∷ entries) ≡ true
      → (is_some (told rows entry) ≡ true) × (are_told rows entries ≡ true)
  first_told entry entries e = and_parts (is_some (told rows entry)) (are_told rows entries) e

  pub shown_both : (xs ys : List Entry) → shown rows (xs ++ ys) ≡ shown rows xs ++ shown rows ys
  shown_both xs ys = filter_map-append (told rows) xs ys

  pub shown_first : (entry : Entry) (entries : List Entry) (x : Event × Reply) → told rows entry ≡ Some x
      → shown rows (entry ∷ entries) ≡ x ∷ shown rows entries
  shown_first entry entries x is = ap (λ (o : Option (Event × Reply)). cons_option o (shown rows entries)) is

-- ---- what a core accepts

pub log_grows : (xs : List (Event × Reply)) (old new : State) → HasAccepted old xs new → new.log ≡ old.log ++ xs
log_grows [] old new is = ap (λ (core : State). core.log) is ∙ sym (append-nil old.log)
log_grows (x ∷ xs) old new is =
    log_grows xs is.0 new is.3
    ∙ (ap (λ (core : State). core.log ++ xs) is.1.logged ∙ append_assoc old.log (x ∷ []) xs)

pub accepted_more : (xs : List (Event × Reply)) (old core after : State) (e : Event) (reply : Reply) → HasAccepted old xs core
    → IsAccepted core after e reply → has_read_file e ≡ true → HasAccepted old (xs ++ (e, reply) ∷ []) after
accepted_more [] old core after e reply is accepted read = (after, subst (λ (s : State). IsAccepted s after e reply) is accepted, read, refl)
accepted_more (x ∷ xs) old core after e reply is accepted read = (is.0, is.1, is.2, accepted_more xs is.0 core after e reply is.3 accepted read)

pub world_next : (old new : State) (e : Event) (reply : Reply) → IsAccepted old new e reply → world_of new ≡ step (world_of old) e
world_next old new e reply accepted =
    ap (λ (core : State). world_of core) accepted.logged
    ∙ (ap world_after (map-append (λ (entry : Event × Reply). entry.0) old.log ((e, reply) ∷ [])) ∙ world_more (events old) e)

pub classes_next : (old new : State) (e : Event) (reply : Reply) → IsAccepted old new e reply
    → AreAmong (world_of old).classes.rows (world_of new).classes.rows
classes_next old new e reply accepted c row at =
    ap (λ w. slice_get w.classes.rows c) (world_next old new e reply accepted) ∙ rows_stay (world_of old) e c row at
