-- What a part has of each place once one place more has a number.
use Rattle.std.specs.Prelude.{◌≡◌, ℕ, ◌==◌, ◌&&◌, Bool, true, false, [], Option, Some, if◌then◌else◌}
use Rattle.std.specs.Option.{unwrap_or}
use Rattle.std.specs.Map.{lookup}
use Rattle.std.specs.BTreeMap.{is_at}
use Rattle.std.specs.Ordering.{is_eq, nat_cmp}
use Rattle.std.specs.Cmp.{tied_then}
use Rattle.std.proofs.Common.{refl, ap, sym, ◌∙◌, arith}
use Rattle.std.proofs.lemmas.Bool.Decides.{Decides-eqb, nat_tests}
use Rattle.jl_types.specs.declared.ids.Place.{Place}
use Rattle.jl_types.specs.Events.Verdict.{same_place}
use Rattle.jl_places.specs.declared.numbers.Called.{Called}
use Rattle.jl_places.specs.ForProofs.Parts.{OfClass, ByClass, called, called_cmp, number_within, of_class, number_in}

-- ---- one class

same_number : (m n : ℕ) → is_eq (nat_cmp m n) ≡ (m == n)
same_number m n = grind (arith, nat_tests)

same_called : (p q : Place) → is_at (called_cmp (called p)) (called q) ≡ ((p.method == q.method) && (p.pc == q.pc))
same_called p q =
    sym (tied_then (nat_cmp p.method q.method) (nat_cmp p.pc q.pc))
    ∙ ap (λ (b : Bool). b && is_eq (nat_cmp p.pc q.pc)) (same_number p.method q.method)
    ∙ ap (λ (b : Bool). (p.method == q.method) && b) (same_number p.pc q.pc)

-- ---- all classes

pub place_more : (old new : ByClass) (p : Place) (number : ℕ) (key : Called) (before after : OfClass) → key ≡ called p
    → before ≡ of_class old p.class
    → ((c : Called) → number_within after c ≡ (if is_at (called_cmp key) c then Some number else number_within before c))
    → ((class : ℕ) → lookup (λ c. class == c) new ≡ (if p.class == class then Some after else lookup (λ c. class == c) old))
    → (q : Place) → number_in new q ≡ (if same_place p q then Some number else number_in old q)
place_more old new p number key before after is was within classes q =
    ap (λ (o : Option OfClass). number_within (unwrap_or o []) (called q)) (classes q.class) ∙ by_class (p.class == q.class) refl
  where
    by_class : (b : Bool) → (p.class == q.class) ≡ b
        → number_within (unwrap_or (if b then Some after else lookup (λ c. q.class == c) old) []) (called q)
        ≡ (if b && ((p.method == q.method) && (p.pc == q.pc)) then Some number else number_in old q)
    by_class true e =
        within (called q)
        ∙ ap (λ (b : Bool). if b then Some number else number_within before (called q))
        (ap (λ (k : Called). is_at (called_cmp k) (called q)) is ∙ same_called p q)
        ∙ ap (λ (numbers : OfClass). if (p.method == q.method) && (p.pc == q.pc) then Some number else number_within numbers (called q))
        (was ∙ ap (of_class old) ((Decides-eqb p.class q.class).0 e))
    by_class false e = refl
