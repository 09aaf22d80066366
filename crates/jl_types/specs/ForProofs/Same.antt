-- The derived `==` of outcomes, and that of tables, hold exactly of equal values.
use Rattle.std.specs.Prelude.{◌≡◌, ℕ, Bool, true, List, nat_eq, ◌==◌, ◌&&◌}
use Rattle.std.proofs.Common.{ap, subst, sym, ◌∙◌, rules, refl, Decides}
use Rattle.std.proofs.lemmas.Bool.Decides.{Decides-eqb, Decides-and, Decides-like}
use Rattle.std.specs.Cmp.{IsPartialEquivalence}
use Rattle.std.specs.Bool.{one_answer}
use Rattle.std.specs.Cmp.Lexicographic.{pointwise, pointwise_decides}
use denote.Enum.Bare.{same_true}
use Rattle.jl_types.specs.declared.ids.MethodId.{MethodId}
use Rattle.jl_types.specs.declared.answer.Outcome.{Outcome}
use Rattle.jl_types.specs.declared.answer.Outcome.TheVariants.{Run, Throws}
use Rattle.jl_types.specs.declared.answer.Throwable.{Throwable}
use Rattle.jl_types.specs.declared.answer.Throwable.TheVariants.{NoSuchMethodError, IllegalAccessError, IncompatibleClassChangeError}
use Rattle.jl_types.specs.declared.answer.Throwable.TheVariants.{AbstractMethodError, NullPointerException}
use Rattle.jl_types.specs.contracts.answer.OutcomePartialEq.TheImpl as outcome
use Rattle.jl_types.specs.contracts.answer.ThrowablePartialEq.TheImpl as throwable
use Rattle.jl_types.specs.contracts.ids.MethodIdPartialEq.TheImpl as method
use Rattle.jl_types.specs.contracts.answer.Throwable.{the_type}

-- a test that holds of each value and itself, and of equal values alone
pub decided : {X : Type 0} (E : X → X → Bool) → ((x y : X) → E x y ≡ true → x ≡ y) → ((x : X) → E x x ≡ true) → (x y : X) → Decides (E x y) (x ≡ y)
decided E sound same x y = (sound x y, λ e. subst (λ z. E x z ≡ true) e (same x))

throwable_same : (x : Throwable) → (throwable.ghosts).eq x x ≡ true
throwable_same NoSuchMethodError = refl
throwable_same IllegalAccessError = refl
throwable_same IncompatibleClassChangeError = refl
throwable_same AbstractMethodError = refl
throwable_same NullPointerException = refl

pub throwable_decides : (x y : Throwable) → Decides ((throwable.ghosts).eq x y) (x ≡ y)
throwable_decides = decided (throwable.ghosts).eq (λ x y h. same_true the_type (search rules) x y h) throwable_same

pub method_decides : (x y : MethodId) → Decides ((method.ghosts).eq x y) (x ≡ y)
method_decides x y = Decides-like (nat_eq x.class y.class && nat_eq x.index y.index) (λ h i. record { class = h.0 i; index = h.1 i })
    (λ e. (λ i. (e i).class, λ i. (e i).index)) (Decides-and (nat_eq x.class y.class) (nat_eq x.index y.index) (Decides-eqb x.class y.class)
    (Decides-eqb x.index y.index))

outcome_sound : (x y : Outcome) → (outcome.ghosts).eq x y ≡ true → x ≡ y
outcome_sound (Run m) (Run n) h = ap Run ((method_decides m n).0 h)
outcome_sound (Throws a) (Throws b) h = ap Throws ((throwable_decides a b).0 h)
outcome_sound _ _ h = cc

outcome_same : (x : Outcome) → (outcome.ghosts).eq x x ≡ true
outcome_same (Run m) = (method_decides m m).1 refl
outcome_same (Throws a) = throwable_same a

pub outcome_decides : (x y : Outcome) → Decides ((outcome.ghosts).eq x y) (x ≡ y)
outcome_decides = decided (outcome.ghosts).eq outcome_sound outcome_same

abbrev pub same_row : ℕ × Outcome → ℕ × Outcome → Bool
same_row x y = (x.0 == y.0) && (outcome.ghosts).eq x.1 y.1

pub row_decides : (x y : ℕ × Outcome) → Decides (same_row x y) (x ≡ y)
row_decides x y = Decides-like (same_row x y) (λ h i. (h.0 i, h.1 i)) (λ e. (λ i. (e i).0, λ i. (e i).1))
    (Decides-and (x.0 == y.0) ((outcome.ghosts).eq x.1 y.1) (Decides-eqb x.0 y.0) (outcome_decides x.1 y.1))

pub table_decides : (x y : List (ℕ × Outcome)) → Decides (pointwise same_row x y) (x ≡ y)
table_decides = pointwise_decides row_decides

pub per_from_decides : {X : Type 0} (E : X → X → Bool) → ((x y : X) → Decides (E x y) (x ≡ y)) → IsPartialEquivalence E
per_from_decides E d = record {
  symm = λ x y. one_answer (E x y) (E y x) (d x y) (Decides-like (E y x) sym sym (d y x));
  trans = λ x y z h k. (d x z).1 ((d x y).0 h ∙ (d y z).0 k);
}

pub tables_per : IsPartialEquivalence (pointwise same_row)
tables_per = per_from_decides (pointwise same_row) table_decides
