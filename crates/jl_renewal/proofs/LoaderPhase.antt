-- The loaders of the fresh core.
use Rattle.std.specs.Prelude.{◌≡◌, ℕ, zero, suc, ◌+◌, ◌<◌, ◌≤◌, nat_le, Bool, true, false, List, [], ◌∷◌, map, filter_map, length, replicate}
use Rattle.std.specs.Prelude.{slice_get, Some, option_map, IsOk, not}
use Rattle.std.specs.Bool.{then_some}
use Rattle.std.specs.List.{range_with_len}
use Rattle.std.proofs.Common.{refl, sym, ap, subst, ◌∙◌, arith}
use Rattle.std.proofs.lemmas.Bool.Decides.{nat_tests}
use Rattle.std.proofs.lemmas.List.{length-map, length-replicate, replicate_more}
use Rattle.std.proofs.lemmas.List.FromFn.{length-range_with_len}
use Rattle.jl_types.specs.declared.limits.Limits.{Limits}
use Rattle.jl_types.specs.declared.event.EventOf.TheVariants as event
use Rattle.jl_types.specs.declared.event.Made.{Made}
use Rattle.jl_types.specs.declared.refusal.Refusal.{Refusal}
use Rattle.jl_types.specs.Values.World.{World, nothing_yet}
use Rattle.jl_types.specs.Values.Members.{is_retired}
use Rattle.jl_types.specs.Events.Verdict.{unless}
use Rattle.jl_renewal.specs.declared.released.Released.{Released}
use Rattle.jl_renewal.specs.Numbers.{numbered, numbered_from, staying, how_many}
use Rattle.jl_renewal.specs.Staying.{numbers_of, staying_loaders, staying_classes}
use Rattle.jl_renewal.specs.Renewal.{new_loaders}
use Rattle.jl_renewal.specs.Renewed.{renumbered_record, renumbered_class}
use Rattle.jl_renewal.proofs.Phases.{OneStep, Leads, leads_nowhere, leads_first}
use Rattle.jl_renewal.proofs.ClassLaws.{fresh_of, padded, loader_stays}
use Rattle.jl_renewal.proofs.ClassPhase.{of_classes}

abbrev Records : Type 0
Records = List (List ℕ × ℕ)

-- so many loaders that have found nothing
abbrev F : ℕ → World
F j = of_classes (record { loaders = replicate j []; rows = []; retired = [] })

no_fault : (b : Bool) (r : Refusal) (m : Made) → b ≡ false → IsOk (unless (then_some b r) m)
no_fault true r m e = cc
no_fault false r m e = refl

one_more : (limits : Limits) (j : ℕ) → j < limits.loaders → OneStep limits (F j) (Some event.NewLoader) (F (j + 1))
one_more limits j lt = (
  no_fault (nat_le limits.loaders (length (replicate {A = Records} j []))) _ _
      (ap (nat_le limits.loaders) (length-replicate j []) ∙ less limits.loaders j lt),
  ap (λ (loaders : List Records). of_classes (record { loaders = loaders; rows = []; retired = [] })) (replicate_more j []),
)
  where
    less : (a b : ℕ) → b < a → nat_le a b ≡ false
    less a b lt = grind (arith, nat_tests, lt)

each : (limits : Limits) (m j : ℕ) (stays : List Bool) → j + how_many stays ≤ limits.loaders
    → Leads limits (F j) (filter_map (option_map (λ (number : ℕ). event.NewLoader)) (numbered_from m stays)) (F (j + how_many stays))
each limits m j [] le = subst (λ (i : ℕ). Leads limits (F j) [] (F i)) (omega arith) (leads_nowhere limits (F j))
each limits m j (true ∷ stays) le =
    subst (λ (i : ℕ). Leads limits (F j) (filter_map (option_map (λ (number : ℕ). event.NewLoader)) (numbered_from m (true ∷ stays))) (F i)) (omega arith)
    (leads_first limits (F j) (F (j + 1)) (F (j + 1 + how_many stays)) (Some event.NewLoader) _ (one_more limits j (omega (arith, le)))
    (each limits (m + 1) (j + 1) stays (omega (arith, le))))
each limits m j (false ∷ stays) le = each limits m j stays le

staying_alike : (stays : List Bool) (x : Records) → staying stays (replicate (length stays) x) ≡ replicate (how_many stays) x
staying_alike [] x = refl
staying_alike (true ∷ stays) x = ap (λ (xs : List Records). x ∷ xs) (staying_alike stays x)
staying_alike (false ∷ stays) x = staying_alike stays x

map_empty : (f : List ℕ × ℕ → List ℕ × ℕ) (k : ℕ) → map (map f) (replicate k []) ≡ replicate k []
map_empty f zero = refl
map_empty f (suc k) = ap (λ (xs : List Records). [] ∷ xs) (map_empty f k)

none_stays : {A : Type 0} (stays : List Bool) → staying {A = A} stays [] ≡ []
none_stays [] = refl
none_stays (b ∷ stays) = refl

-- the loaders that stay, the first of them among them, are new ones
pub loaders_lead : (limits : Limits) (w : World) (released : Released) → is_retired w.classes 0 ≡ false → zero < length w.classes.loaders
    → how_many (staying_loaders w.classes) ≤ limits.loaders
    → Leads limits nothing_yet (new_loaders (numbers_of w released).loaders) (of_classes (fresh_of w released nothing_yet.classes))
loaders_lead limits w released live some few =
    by_first (staying_loaders w.classes) refl (loader_stays w.classes 0 some live) as_many few
  where
    as_many : length (staying_loaders w.classes) ≡ length w.classes.loaders
    as_many = length-map (range_with_len 0 (length w.classes.loaders)) (λ l. not (is_retired w.classes l)) ∙ length-range_with_len 0 (length w.classes.loaders)

    all_padded : (n : ℕ) → zero < n → padded n ([] ∷ []) ≡ replicate n []
    all_padded zero lt = absurd (omega (arith, lt))
    all_padded (suc n) lt = ap (λ (k : ℕ). [] ∷ replicate {A = Records} k []) (omega arith)

    by_first : (stays : List Bool) → staying_loaders w.classes ≡ stays → slice_get stays 0 ≡ Some true → length stays ≡ length w.classes.loaders
        → how_many stays ≤ limits.loaders
        → Leads limits nothing_yet (new_loaders (numbered stays)) (of_classes (fresh_of w released nothing_yet.classes))
    by_first [] is first many within = cc
    by_first (false ∷ stays) is first many within = cc
    by_first (true ∷ stays) is first many within =
        subst (λ (v : World). Leads limits nothing_yet (new_loaders (numbered (true ∷ stays))) v) (sym last)
        (each limits 1 1 stays (omega (arith, within)))
      where
        up : how_many (true ∷ stays) ≡ 1 + how_many stays
        up = omega arith

        last : of_classes (fresh_of w released nothing_yet.classes) ≡ F (1 + how_many stays)
        last = λ i. of_classes (record {
          loaders = (ap (λ (xs : List Records). map (map (renumbered_record (numbers_of w released))) (staying (staying_loaders w.classes) xs))
              (all_padded (length w.classes.loaders) some)
              ∙ (ap (λ (s : List Bool). map (map (renumbered_record (numbers_of w released))) (staying s (replicate (length w.classes.loaders) []))) is
              ∙ (ap (λ (k : ℕ). map (map (renumbered_record (numbers_of w released))) (staying (true ∷ stays) (replicate k []))) (sym many)
              ∙ (ap (map (map (renumbered_record (numbers_of w released)))) (staying_alike (true ∷ stays) [])
              ∙ (map_empty (renumbered_record (numbers_of w released)) (how_many (true ∷ stays))
              ∙ ap (λ (k : ℕ). replicate {A = Records} k []) up))))) i;
          rows = ap (map (renumbered_class (numbers_of w released))) (none_stays (staying_classes w.classes)) i;
          retired = [];
        })
