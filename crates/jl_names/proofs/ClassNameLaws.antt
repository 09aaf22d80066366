-- Names: what is read up to the semicolon is a class name, and the two tests for class names are one.
use Rattle.std.proofs.Common.{◌≡◌, ◌≢◌, ℕ, ◌+◌, ◌-◌, ◌<◌, ◌≤◌, Bool, true, false, cond, eqb, ◌&&◌, not, List, [], ◌∷◌, ◌++◌}
use Rattle.std.proofs.Common.{length, get_or, take, drop, Result, Ok, Err, refl, sym, ap, subst, ◌∙◌, append_assoc, arith, inl, inr}
use Rattle.std.specs.Prelude.{◌⊎◌}
use Rattle.std.specs.List.{list_all, slice_split, onto_first, suffix_len}
use Rattle.std.proofs.lemmas.List.{append-nil, drop_more, take_more, drop_all}
use Rattle.std.proofs.lemmas.List.Sums.{suffix_len_is}
use Rattle.std.proofs.lemmas.Bool.{eqb-true, ne_eqb}
use Rattle.std.proofs.lemmas.Bool.Decides.{nat_tests}
use Rattle.jl_names.specs.ClassNames.{is_class_name, is_reserved, is_unqualified, package_of}
use Rattle.jl_names.specs.ForProofs.Descriptors.{is_stop, is_end, longer, class_at}
use Rattle.jl_names.specs.ForProofs.Steps.{◌>>=◌}
use Rattle.jl_names.proofs.Bytes.{slash, semicolon, letter_a, chosen, bind_ok, ok_is, err_is}

-- with a name's beginning in front
abbrev pub prefixed : List ℕ → Result (List ℕ × List ℕ) (List ℕ) → Result (List ℕ × List ℕ) (List ℕ)
prefixed front read = read >>= λ x. Ok (front ++ x.0, x.1)

prefixed-longer : (front : List ℕ) (b : ℕ) (read : Result (List ℕ × List ℕ) (List ℕ))
    → prefixed front (longer b read) ≡ prefixed (front ++ b ∷ []) read
prefixed-longer front b (Ok x) = ap (λ (name : List ℕ). Ok (name, x.1)) (sym (append_assoc front (b ∷ []) x.0))
prefixed-longer front b (Err e) = refl

module _ (text : List ℕ) (i : ℕ) (fresh : Bool) (total : Result (List ℕ × List ℕ) (List ℕ))
    (so_far : prefixed (take i text) (class_at fresh (drop i text)) ≡ total) where
  -- the byte there, and the bytes after it
  abbrev here : ℕ
  here = get_or text i 0

  pub class_goes : i < length text → is_stop fresh here ≡ false
      → prefixed (take (i + 1) text) (class_at (eqb here slash) (drop (i + 1) text)) ≡ total
  unfolding class_at
  class_goes lt on =
      let split : drop i text ≡ here ∷ drop (i + 1) text = drop_more text i 0 lt in
      let one : prefixed (take i text) (class_at fresh (here ∷ drop (i + 1) text))
      ≡ prefixed (take i text ++ here ∷ []) (class_at (eqb here slash) (drop (i + 1) text)) =
      rw on (prefixed-longer (take i text) here (class_at (eqb here slash) (drop (i + 1) text))) in
      rw (take_more text i 0 lt) (sym one
      ∙ ap (λ (t : List ℕ). prefixed (take i text) (class_at fresh t)) (sym split) ∙ so_far)

  pub class_stuck : i < length text → is_stop fresh here ≡ true → is_end fresh here ≡ false → total ≡ Err (drop i text)
  unfolding class_at
  class_stuck lt stops on =
      let split : drop i text ≡ here ∷ drop (i + 1) text = drop_more text i 0 lt in
      let one : prefixed (take i text) (class_at fresh (here ∷ drop (i + 1) text))
      ≡ Err (here ∷ drop (i + 1) text) = rw (stops, on) refl in
      sym so_far ∙ rw split one

  pub class_found : i < length text → is_stop fresh here ≡ true → is_end fresh here ≡ true
      → total ≡ Ok (take i text, drop (i + 1) text)
  unfolding class_at
  class_found lt stops ends =
      let split : drop i text ≡ here ∷ drop (i + 1) text = drop_more text i 0 lt in
      let one : prefixed (take i text) (class_at fresh (here ∷ drop (i + 1) text))
      ≡ Ok (take i text, drop (i + 1) text) =
      rw (stops, ends) (ap (λ (name : List ℕ). Ok (name, drop (i + 1) text)) (append-nil (take i text))) in
      sym so_far ∙ rw split one

  pub class_ends : length text ≤ i → total ≡ Err []
  unfolding class_at
  class_ends le = sym so_far ∙ rw (drop_all i text le) refl

-- ---- class names

-- The test of a class name, byte by byte. `fresh`: a part begins here.
abbrev pub is_name : Bool → List ℕ → Bool
is_name fresh [] = not fresh
is_name fresh (b ∷ bs) = not (is_stop fresh b) && is_name (eqb b slash) bs

pub class_again : (fresh : Bool) (name rest : List ℕ) → is_name fresh name ≡ true
    → class_at fresh (name ++ semicolon ∷ rest) ≡ Ok (name, rest)
unfolding class_at
class_again true [] rest e = absurd cc
class_again false [] rest e = refl
class_again fresh (b ∷ bs) rest e =
    let s : is_stop fresh b ≡ false = grind (arith, nat_tests) in
    let more : is_name (eqb b slash) bs ≡ true = grind (arith, nat_tests) in
    rw (s, class_again (eqb b slash) bs rest more) refl

pub class_takes : (fresh : Bool) (text : List ℕ) (x : List ℕ × List ℕ) → class_at fresh text ≡ Ok x
    → (text ≡ x.0 ++ semicolon ∷ x.1) × (is_name fresh x.0 ≡ true)
unfolding class_at
class_takes fresh [] x e = absurd cc
class_takes fresh (b ∷ bs) x e =
    elim (chosen (is_stop fresh b) (cond (is_end fresh b) (Ok ([], bs)) (Err (b ∷ bs)))
    (longer b (class_at (eqb b slash) bs)) (Ok x) e) [
      | inl p ↦ elim (chosen (is_end fresh b) (Ok ([], bs)) (Err (b ∷ bs)) (Ok x) p.1) [
        | inl q ↦ subst (λ (y : List ℕ × List ℕ). (b ∷ bs ≡ y.0 ++ semicolon ∷ y.1) × (is_name fresh y.0 ≡ true))
            (ok_is {E = List ℕ} ([], bs) x q.1) (grind (arith, nat_tests), grind (arith, nat_tests))
        | inr q ↦ absurd cc
      ]
      | inr p ↦
          let r = bind_ok (class_at (eqb b slash) bs) (λ y. Ok (b ∷ y.0, y.1)) x p.1 in
          let t = class_takes (eqb b slash) bs r.0 r.1 in
          subst (λ (y : List ℕ × List ℕ). (b ∷ bs ≡ y.0 ++ semicolon ∷ y.1) × (is_name fresh y.0 ≡ true))
          (ok_is {E = List ℕ} (b ∷ r.0.0, r.0.1) x r.2) (ap (λ (t : List ℕ). b ∷ t) t.0, rw p.0 t.1)
    ]

pub record ClassStops (fresh : Bool) (text left : List ℕ) : Type 0 where
  pub front : List ℕ
  pub whole : text ≡ front ++ left
  pub alive : is_name fresh (front ++ letter_a ∷ []) ≡ true
  pub dead : (b : ℕ) (old more : List ℕ) → left ≡ b ∷ old → class_at fresh (front ++ b ∷ more) ≡ Err (b ∷ more)

err_of : (b : ℕ) (read : Result (List ℕ × List ℕ) (List ℕ)) (left : List ℕ) → longer b read ≡ Err left → read ≡ Err left
err_of b (Ok x) left e = absurd cc
err_of b (Err d) left e = cc

pub class_stops : (fresh : Bool) (text left : List ℕ) → class_at fresh text ≡ Err left → ClassStops fresh text left
unfolding class_at
class_stops true [] left e = record {
  front = [];
  whole = err_is {A = List ℕ × List ℕ} [] left e;
  alive = refl;
  dead = λ b old more h. absurd cc;
}
class_stops false [] left e = record {
  front = [];
  whole = err_is {A = List ℕ × List ℕ} [] left e;
  alive = refl;
  dead = λ b old more h. absurd cc;
}
class_stops fresh (b ∷ bs) left e =
    elim (chosen (is_stop fresh b) (cond (is_end fresh b) (Ok ([], bs)) (Err (b ∷ bs)))
    (longer b (class_at (eqb b slash) bs)) (Err left) e) [
      | inl p ↦ elim (chosen (is_end fresh b) (Ok ([], bs)) (Err (b ∷ bs)) (Err left) p.1) [
        | inl q ↦ absurd cc
        | inr q ↦
            let at : b ∷ bs ≡ left = err_is {A = List ℕ × List ℕ} (b ∷ bs) left q.1 in
            record {
              front = [];
              whole = at;
              alive = elim fresh as (λ f. is_name f (letter_a ∷ []) ≡ true) [ true ↦ refl | false ↦ refl ];
              dead = λ c old more h. let same : b ≡ c = cc in rw (← same) (rw (p.0, q.0) refl);
            }
      ]
      | inr p ↦
          let r : class_at (eqb b slash) bs ≡ Err left = err_of b (class_at (eqb b slash) bs) left p.1 in
          let t = class_stops (eqb b slash) bs left r in
          record {
            front = b ∷ t.front;
            whole = ap (λ (x : List ℕ). b ∷ x) t.whole;
            alive = rw p.0 t.alive;
            dead = λ c old more h. rw (p.0, t.dead c old more h) refl;
          }
    ]

-- ---- the two tests

-- the first of the texts goes on a part that began before
abbrev goes_on : List (List ℕ) → Bool
goes_on [] = true
goes_on (p ∷ ps) = list_all (λ b. not (is_reserved b)) p && list_all is_unqualified ps

one_more : (b : ℕ) (ps : List (List ℕ)) → ps ≢ [] → is_reserved b ≡ false
    → (list_all is_unqualified (onto_first b ps) ≡ goes_on ps) × (goes_on (onto_first b ps) ≡ goes_on ps)
one_more b [] some e = absurd (some refl)
one_more b (p ∷ ps) some e = (rw e refl, rw e refl)

one_bad : (b : ℕ) (ps : List (List ℕ)) → is_reserved b ≡ true
    → (list_all is_unqualified (onto_first b ps) ≡ false) × (goes_on (onto_first b ps) ≡ false)
one_bad b [] e = (rw e refl, rw e refl)
one_bad b (p ∷ ps) e = (rw e refl, rw e refl)

text_some : (b : ℕ) (ps : List (List ℕ)) → onto_first b ps ≢ []
text_some b [] = λ h. absurd cc
text_some b (p ∷ ps) = λ h. absurd cc

abbrev parts : List ℕ → List (List ℕ)
parts name = slice_split (λ b. eqb b slash) name

parts_some : (bs : List ℕ) → parts bs ≢ []
parts_some [] = λ h. absurd cc
parts_some (b ∷ bs) = λ h.
    elim (chosen (eqb b slash) ([] ∷ parts bs) (onto_first b (parts bs)) [] h)
    [ inl p ↦ absurd cc | inr p ↦ absurd (text_some b (parts bs) p.1) ]

cases_bool : (b : Bool) → (b ≡ true) ⊎ (b ≡ false)
cases_bool true = inl refl
cases_bool false = inr refl

stop_is : (fresh : Bool) (b : ℕ) → eqb b slash ≡ false → is_stop fresh b ≡ is_reserved b
stop_is fresh b e = rw e refl

-- the two tests for a class name are one
pub is_name-parts : (bs : List ℕ) → (is_name true bs ≡ is_class_name bs) × (is_name false bs ≡ goes_on (parts bs))
is_name-parts [] = (refl, refl)
is_name-parts (b ∷ bs) =
    elim (cases_bool (eqb b slash)) [
      | inl is_slash ↦ subst (λ (x : ℕ). (is_name true (x ∷ bs) ≡ is_class_name (x ∷ bs))
          × (is_name false (x ∷ bs) ≡ goes_on (parts (x ∷ bs)))) (sym (eqb-true b slash is_slash))
          (refl, (is_name-parts bs).0)
      | inr other ↦ elim (cases_bool (is_reserved b)) [
        | inl bad ↦ (
          rw (stop_is true b other ∙ bad, other, (one_bad b (parts bs) bad).0) refl,
          rw (stop_is false b other ∙ bad, other, (one_bad b (parts bs) bad).1) refl,
        )
        | inr good ↦
            let more = one_more b (parts bs) (parts_some bs) good in (
              rw (stop_is true b other ∙ good, other, more.0) (is_name-parts bs).1,
              rw (stop_is false b other ∙ good, other, more.1) (is_name-parts bs).1,
            )
      ]
    ]

-- ---- packages

-- the bytes after a package's name: a slash, and none after it
pub package_of-slash : (name : List ℕ) (i : ℕ) → i < length name → get_or name i 0 ≡ slash
    → ((k : ℕ) → i + 1 ≤ k → k < length name → get_or name k 0 ≢ slash) → package_of name ≡ take i name
package_of-slash name i within here after =
    let last : i + 1 - 1 ≡ i = omega arith in
    let after : suffix_len (λ b. not (eqb b slash)) name ≡ length name - (i + 1) =
    suffix_len_is _ name (i + 1) 0 (omega arith) (λ k above below. rw (ne_eqb _ _ (after k above below)) refl)
    (λ _. rw (last, here) refl) in
    ap (λ (n : ℕ). take n name) (omega (arith, after))

pub package_of-no_slash : (name : List ℕ) → ((k : ℕ) → k < length name → get_or name k 0 ≢ slash) → package_of name ≡ []
package_of-no_slash name none =
    let after : suffix_len (λ b. not (eqb b slash)) name ≡ length name - 0 =
    suffix_len_is _ name 0 0 (omega arith) (λ k above below. rw (ne_eqb _ _ (none k below)) refl)
    (λ some. absurd (omega arith)) in
    let front : length name - suffix_len (λ b. not (eqb b slash)) name - 1 ≡ 0 = omega (arith, after) in
    ap (λ (n : ℕ). take n name) front
