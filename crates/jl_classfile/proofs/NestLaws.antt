-- A NestMembers holds what is read of it.
use Rattle.std.proofs.Common.{◌≡◌, ◌≢◌, ℕ, ◌<◌, ◌^◌, List, [], ◌∷◌, ◌++◌, Some, None, sym, ap, subst, ◌∙◌}
use Rattle.std.specs.Prelude.{All}
use Rattle.std.specs.List.{AllByRecursion}
use Rattle.std.proofs.lemmas.List.{append-nil}
use Rattle.std.proofs.lemmas.List.Elements.{recursion_from_All, All-from_recursion}
use Rattle.jl_pool.specs.Numbers.{u2, counted}
use Rattle.jl_pool.specs.Pools.{Pool}
use Rattle.jl_pool.specs.ForProofs.Fields.{number_at}
use Rattle.jl_pool.proofs.Fields.{IsBytes, some_is, u2_takes, u2_again}
use Rattle.jl_classfile.specs.Conditions.{IsClassNumber, AreMembers}
use Rattle.jl_classfile.specs.ForProofs.Bodies.{counted_at}
use Rattle.jl_classfile.proofs.ListLaws.{counted-takes, counted-again}

both : (P Q : ℕ → Type 0) (ns : List ℕ) → AllByRecursion P ns → AllByRecursion Q ns → AllByRecursion (λ n. P n × Q n) ns
both P Q [] h k = tt
both P Q (n ∷ ns) h k = ((h.0, k.0), both P Q ns h.1 k.1)

first : (P Q : ℕ → Type 0) (ns : List ℕ) → AllByRecursion (λ n. P n × Q n) ns → AllByRecursion P ns
first P Q [] h = tt
first P Q (n ∷ ns) h = (h.0.0, first P Q ns h.1)

second : (P Q : ℕ → Type 0) (ns : List ℕ) → AllByRecursion (λ n. P n × Q n) ns → AllByRecursion Q ns
second P Q [] h = tt
second P Q (n ∷ ns) h = (h.0.1, second P Q ns h.1)

pub are_members : (p : Pool) (info ns rest : List ℕ) → IsBytes info → counted_at (number_at 2) info ≡ Some (ns, rest) → rest ≡ [] → All (IsClassNumber p) ns
    → AreMembers p info ns
are_members p info ns rest fits e none classes =
    let t = counted-takes (number_at 2) u2 (λ n. n < 2 ^ 16) u2_takes info (ns, rest) fits e in (
      t.0.parts ∙ ap (λ (r : List ℕ). counted u2 ns ++ r) none ∙ append-nil (counted u2 ns),
      t.1.count,
      both (λ n. n < 2 ^ 16) (IsClassNumber p) ns t.1.each (recursion_from_All (IsClassNumber p) ns classes),
    )

-- they are read again
read_again : (p : Pool) (info ms : List ℕ) → AreMembers p info ms → counted_at (number_at 2) info ≡ Some (ms, [])
read_again p info ms h =
    ap (λ (t : List ℕ). counted_at (number_at 2) t) (h.0 ∙ sym (append-nil (counted u2 ms)))
    ∙ counted-again (number_at 2) u2 (λ n. n < 2 ^ 16) u2_again ms [] (record { count = h.1; each = first (λ n. n < 2 ^ 16) (IsClassNumber p) ms h.2 })

same_read : (p : Pool) (info ns rest ms : List ℕ) → counted_at (number_at 2) info ≡ Some (ns, rest) → AreMembers p info ms
    → ◌≡◌ {A = List ℕ × List ℕ} (ns, rest) (ms, [])
same_read p info ns rest ms e h = some_is (ns, rest) (ms, []) (sym e ∙ read_again p info ms h)

pub more_than_members : (p : Pool) (info ns rest : List ℕ) → counted_at (number_at 2) info ≡ Some (ns, rest) → rest ≢ [] → (ms : List ℕ)
    → ¬ AreMembers p info ms
more_than_members p info ns rest e some ms = λ h. some (ap (λ (x : List ℕ × List ℕ). x.1) (same_read p info ns rest ms e h))

pub no_classes : (p : Pool) (info ns rest : List ℕ) → counted_at (number_at 2) info ≡ Some (ns, rest) → ¬ All (IsClassNumber p) ns → (ms : List ℕ)
    → ¬ AreMembers p info ms
no_classes p info ns rest e none ms = λ h.
    let same : ns ≡ ms = ap (λ (x : List ℕ × List ℕ). x.0) (same_read p info ns rest ms e h) in
    none (subst (λ (l : List ℕ). All (IsClassNumber p) l) (sym same) (All-from_recursion (IsClassNumber p) ms
    (second (λ n. n < 2 ^ 16) (IsClassNumber p) ms h.2)))

pub cut_members : (p : Pool) (info : List ℕ) → counted_at (number_at 2) info ≡ None → (ms : List ℕ) → ¬ AreMembers p info ms
cut_members p info e ms = λ h. absurd (let clash = sym e ∙ read_again p info ms h in cc)
