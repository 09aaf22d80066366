-- What is read is a type's text, a type's text is read, and where reading stops the text can't go on.
use Rattle.std.proofs.Common.{Option, Some, None, ◌≡◌, ℕ, zero, suc, ◌+◌, ◌-◌, ◌<◌, ◌≤◌, true, false, eqb, List, [], ◌∷◌, ◌++◌}
use Rattle.std.proofs.Common.{length, take, drop, replicate, Result, Ok, Err, refl, sym, ap, subst, ◌∙◌, append_assoc, length-append, arith, inl, inr}
use Rattle.std.specs.Prelude.{codes}
use Rattle.std.proofs.lemmas.List.{append-nil, take_at, drop_at, length-replicate, nil_from_length}
use Rattle.std.proofs.Math.Numerals.{one-add}
use Rattle.std.proofs.lemmas.Bool.{eqb-true}
use Rattle.std.proofs.lemmas.Bool.Decides.{nat_tests}
use Rattle.jl_names.specs.declared.descriptor.Element.{Element}
use Rattle.jl_names.specs.declared.descriptor.Element.TheVariants.{Byte, Char, Double, Float, Int, Long, Short, Boolean, Class}
use Rattle.jl_names.specs.declared.descriptor.FieldType.{FieldType}
use Rattle.jl_names.specs.Descriptors.{element_text, field_text, IsElement, IsFieldType, IsFieldDescriptor, CanGoOn, StopsAt}
use Rattle.jl_names.specs.ForProofs.Steps.{◌>>=◌}
use Rattle.jl_names.proofs.ClassNameLaws.{class_again, class_takes, class_stops, is_name-parts}
use Rattle.jl_names.proofs.Bytes.{semicolon, bracket, letter_l, letter_a, chosen, bind_ok, bind_err, ok_is, err_is}
use Rattle.jl_names.specs.ForProofs.Descriptors.{class_at, letter, element_after, element_at, brackets_within, brackets, as_array, field_at}

-- ---- brackets

within-cut : (most n : ℕ) (rest : List ℕ) → n ≤ most
    → brackets_within most (replicate n bracket ++ rest) ≡ n + brackets_within (most - n) rest
within-cut most zero rest le = let e : most - 0 ≡ most = omega arith in rw e (omega arith)
within-cut zero (suc n) rest le = absurd (omega arith)
within-cut (suc most) (suc n) rest le = let e : suc most - suc n ≡ most - n = omega arith in
    rw e (omega (arith, within-cut most n rest (omega arith)))

within-front : (most : ℕ) (text : List ℕ)
    → text ≡ replicate (brackets_within most text) bracket ++ drop (brackets_within most text) text
within-front zero text = refl
within-front (suc most) [] = refl
within-front (suc most) (b ∷ bs) =
    elim (chosen (eqb b bracket) (1 + brackets_within most bs) 0 (brackets_within (suc most) (b ∷ bs)) refl) [
      | inl p ↦ let same : b ≡ bracket = eqb-true b bracket p.0 in rw (p.0, one-add) (cc (same, within-front most bs))
      | inr p ↦ rw p.0 refl
    ]

within-le : (most : ℕ) (text : List ℕ) → (brackets_within most text ≤ most) × (brackets_within most text ≤ length text)
within-le zero text = (omega arith, omega arith)
within-le (suc most) [] = (omega arith, omega arith)
within-le (suc most) (b ∷ bs) =
    (grind (arith, nat_tests, within-le most bs), grind (arith, nat_tests, within-le most bs))

pub brackets_few : (text : List ℕ) → (brackets text ≤ 255) × (brackets text ≤ length text)
brackets_few text = within-le 255 text

-- after the brackets no bracket stands, or the most are there
within-rest : (most : ℕ) (text : List ℕ)
    → brackets_within (most - brackets_within most text) (drop (brackets_within most text) text) ≡ 0
within-rest zero text = refl
within-rest (suc most) [] = let e : suc most - 0 ≡ suc most = omega arith in rw e refl
within-rest (suc most) (b ∷ bs) =
    elim (chosen (eqb b bracket) (1 + brackets_within most bs) 0 (brackets_within (suc most) (b ∷ bs)) refl) [
      | inl p ↦ let less : suc most - suc (brackets_within most bs) ≡ most - brackets_within most bs =
          omega arith in rw (p.0, one-add, less) (within-rest most bs)
      | inr p ↦ let e : suc most - 0 ≡ suc most = omega arith in rw (p.0, e, p.0) refl
    ]

-- only the first byte counts
within-none : (most b : ℕ) (old more : List ℕ) → brackets_within most (b ∷ old) ≡ 0
    → brackets_within most (b ∷ more) ≡ 0
within-none zero b old more e = refl
within-none (suc most) b old more e =
    elim (chosen (eqb b bracket) (1 + brackets_within most old) 0 0 e)
    [ inl p ↦ absurd (omega (arith, p.1)) | inr p ↦ rw p.0 refl ]

-- ---- elements

element_brackets : (most : ℕ) (e : Element) (rest : List ℕ) → brackets_within most (element_text e ++ rest) ≡ 0
element_brackets zero e rest = refl
element_brackets (suc most) Byte rest = refl
element_brackets (suc most) Char rest = refl
element_brackets (suc most) Double rest = refl
element_brackets (suc most) Float rest = refl
element_brackets (suc most) Int rest = refl
element_brackets (suc most) Long rest = refl
element_brackets (suc most) Short rest = refl
element_brackets (suc most) Boolean rest = refl
element_brackets (suc most) (Class name) rest = refl

element_again : (e : Element) (rest : List ℕ) → IsElement e → element_at (element_text e ++ rest) ≡ Ok (e, rest)
unfolding element_at
element_again Byte rest h = refl
element_again Char rest h = refl
element_again Double rest h = refl
element_again Float rest h = refl
element_again Int rest h = refl
element_again Long rest h = refl
element_again Short rest h = refl
element_again Boolean rest h = refl
element_again (Class name) rest h =
    rw (append_assoc name (semicolon ∷ []) rest, class_again true name rest ((is_name-parts name).0 ∙ h)) refl

letter_takes : (b : ℕ) (e : Element) → letter b ≡ Some e → (element_text e ≡ b ∷ []) × IsElement e
letter_takes b e h = grind (arith, nat_tests)

after_takes : (o : Option Element) (b : ℕ) (bs : List ℕ) (x : Element × List ℕ) → letter b ≡ o
    → element_after o b bs ≡ Ok x → (b ∷ bs ≡ element_text x.0 ++ x.1) × IsElement x.0
after_takes (Some t) b bs x l e =
    let t-is = letter_takes b t l in
    subst (λ (y : Element × List ℕ). (b ∷ bs ≡ element_text y.0 ++ y.1) × IsElement y.0)
    (ok_is {E = List ℕ} (t, bs) x e) (rw t-is.0 refl, t-is.1)
after_takes None b bs x l e =
    elim (chosen (eqb b letter_l) (class_at true bs >>= λ y. Ok (Class y.0, y.1)) (Err (b ∷ bs)) (Ok x) e) [
      | inl p ↦
          let r = bind_ok (class_at true bs) (λ y. Ok (Class y.0, y.1)) x p.1 in
          let t = class_takes true bs r.0 r.1 in
          subst (λ (y : Element × List ℕ). (b ∷ bs ≡ element_text y.0 ++ y.1) × IsElement y.0)
          (ok_is {E = List ℕ} (Class r.0.0, r.0.1) x r.2) (
            cc (eqb-true b letter_l p.0, t.0, append_assoc r.0.0 (semicolon ∷ []) r.0.1),
            sym (is_name-parts r.0.0).0
                ∙ t.1,
          )
      | inr p ↦ absurd cc
    ]

element_takes : (text : List ℕ) (x : Element × List ℕ) → element_at text ≡ Ok x
    → (text ≡ element_text x.0 ++ x.1) × IsElement x.0
unfolding element_at
element_takes [] x e = absurd cc
element_takes (b ∷ bs) x e = after_takes (letter b) b bs x refl e

record ElementStops (text left : List ℕ) : Type 0 where
  front : List ℕ
  whole : text ≡ front ++ left
  alive : (more : List ℕ) × (e : Element) × IsElement e × (front ++ more ≡ element_text e)
  dead : (b : ℕ) (old more : List ℕ) → left ≡ b ∷ old → element_at (front ++ b ∷ more) ≡ Err (b ∷ more)

after_stops : (o : Option Element) (b : ℕ) (bs left : List ℕ) → letter b ≡ o → element_after o b bs ≡ Err left
    → ElementStops (b ∷ bs) left
unfolding element_at
after_stops (Some t) b bs left l e = absurd cc
after_stops None b bs left l e =
    elim (chosen (eqb b letter_l) (class_at true bs >>= λ y. Ok (Class y.0, y.1)) (Err (b ∷ bs)) (Err left) e) [
      | inl p ↦
          elim (bind_err (class_at true bs) (λ y. Ok (Class y.0, y.1)) left p.1) [
            | inl q ↦
                let t = class_stops true bs left q in
                let same : b ≡ letter_l = eqb-true b letter_l p.0 in
                record {
                  front = b ∷ t.front;
                  whole = ap (λ (x : List ℕ). b ∷ x) t.whole;
                  alive = (
                    letter_a ∷ semicolon ∷ [],
                    Class (t.front ++ letter_a ∷ []),
                    sym (is_name-parts (t.front ++ letter_a ∷ [])).0
                        ∙ t.alive,
                    cc (same, append_assoc t.front (letter_a ∷ []) (semicolon ∷ [])),
                  );
                  dead = λ c old more h. rw (l, p.0, t.dead c old more h) refl;
                }
            | inr q ↦ absurd (let h = q.2 in cc)
          ]
      | inr p ↦
          let at : b ∷ bs ≡ left = err_is {A = Element × List ℕ} (b ∷ bs) left p.1 in
          record {
            front = [];
            whole = at;
            alive = (codes "B", Byte, tt, refl);
            dead = λ c old more h. let same : b ≡ c = cc in rw (← same) (rw (l, p.0) refl);
          }
    ]

element_stops : (text left : List ℕ) → element_at text ≡ Err left → ElementStops text left
unfolding element_at
element_stops [] left e = record {
  front = [];
  whole = err_is {A = Element × List ℕ} [] left e;
  alive = (codes "B", Byte, tt, refl);
  dead = λ b old more h. absurd cc;
}
element_stops (b ∷ bs) left e = after_stops (letter b) b bs left refl e

-- ---- types

pub field_again : (ty : FieldType) (rest : List ℕ) → IsFieldType ty → field_at (field_text ty ++ rest) ≡ Ok (ty, rest)
unfolding field_at
field_again ty rest fits =
    let whole : field_text ty ++ rest ≡ replicate ty.dimensions bracket ++ (element_text ty.element ++ rest) =
    append_assoc (replicate ty.dimensions bracket) (element_text ty.element) rest in
    let count : brackets (replicate ty.dimensions bracket ++ (element_text ty.element ++ rest)) ≡ ty.dimensions =
    omega (
      arith,
      within-cut 255 ty.dimensions (element_text ty.element ++ rest) fits.dimensions,
      element_brackets (255 - ty.dimensions) ty.element rest,
    ) in
    let back : drop ty.dimensions (replicate ty.dimensions bracket ++ (element_text ty.element ++ rest))
    ≡ element_text ty.element ++ rest =
    drop_at (replicate ty.dimensions bracket) (element_text ty.element ++ rest) ty.dimensions
    (length-replicate ty.dimensions bracket) in
    ap field_at whole ∙ rw (count, back, element_again ty.element rest fits.element) refl

pub field_takes : (text : List ℕ) (x : FieldType × List ℕ) → field_at text ≡ Ok x
    → (text ≡ field_text x.0 ++ x.1) × IsFieldType x.0
unfolding field_at
field_takes text x e =
    let n = brackets text in
    let r = bind_ok (element_at (drop n text)) (λ y. Ok (as_array n y)) x e in
    let t = element_takes (drop n text) r.0 r.1 in
    subst (λ (y : FieldType × List ℕ). (text ≡ field_text y.0 ++ y.1) × IsFieldType y.0)
    (ok_is {E = List ℕ} (as_array n r.0) x r.2) (
      within-front 255 text ∙ ap (λ (z : List ℕ). replicate n bracket ++ z) t.0
          ∙ sym (append_assoc (replicate n bracket) (element_text r.0.0) r.0.1),
      record { dimensions = (within-le 255 text).0; element = t.1 },
    )

pub record FieldStops (text left : List ℕ) : Type 0 where
  pub front : List ℕ
  pub whole : text ≡ front ++ left
  pub alive : CanGoOn IsFieldDescriptor front
  pub dead : (b : ℕ) (old more : List ℕ) → left ≡ b ∷ old → field_at (front ++ b ∷ more) ≡ Err (b ∷ more)

still_none : (most b : ℕ) (front old more : List ℕ) → brackets_within most (front ++ b ∷ old) ≡ 0
    → brackets_within most (front ++ b ∷ more) ≡ 0
still_none most b [] old more e = within-none most b old more e
still_none most b (c ∷ front) old more e = within-none most c (front ++ b ∷ old) (front ++ b ∷ more) e

pub field_stops : (text left : List ℕ) → field_at text ≡ Err left → FieldStops text left
unfolding field_at
field_stops text left e =
    let n = brackets text in
    elim (bind_err (element_at (drop n text)) (λ y. Ok (as_array n y)) left e) [
      | inl q ↦
          let t = element_stops (drop n text) left q in
          let few : n ≤ 255 = (within-le 255 text).0 in
          record {
            front = replicate n bracket ++ t.front;
            whole = within-front 255 text ∙ ap (λ (z : List ℕ). replicate n bracket ++ z) t.whole
                ∙ sym (append_assoc (replicate n bracket) t.front left);
            alive = (
              t.alive.0,
              (
                record { dimensions = n; element = t.alive.1 },
                record { dimensions = few; element = t.alive.2 },
                append_assoc (replicate n bracket) t.front t.alive.0
                    ∙ ap (λ (z : List ℕ). replicate n bracket ++ z) t.alive.3,
              ),
            );
            dead = λ b old more h.
                let rest : List ℕ = t.front ++ b ∷ more in
                let none : brackets_within (255 - n) (t.front ++ b ∷ old) ≡ 0 =
                rw (← h, ← t.whole) (within-rest 255 text) in
                let count : brackets (replicate n bracket ++ rest) ≡ n =
                omega (arith, within-cut 255 n rest few, still_none (255 - n) b t.front old more none) in
                let back : drop n (replicate n bracket ++ rest) ≡ rest =
                drop_at (replicate n bracket) rest n (length-replicate n bracket) in
                ap field_at (append_assoc (replicate n bracket) t.front (b ∷ more))
                ∙ rw (count, back, t.dead b old more h) refl;
          }
      | inr q ↦ absurd (let h = q.2 in cc)
    ]

pub not_empty : (left : List ℕ) → [] ≡ left → eqb (length left) 0 ≡ false → ⊥
not_empty [] h e = cc
not_empty (b ∷ bs) h e = cc

abbrev nothing : List ℕ
nothing = []

-- where the beginnings that go on end
stops_after : (IsKind : List ℕ → Type 0) (front left : List ℕ) → CanGoOn IsKind front
    → ((b : ℕ) (old more : List ℕ) → left ≡ b ∷ old → ¬ IsKind (front ++ b ∷ more)) → ¬ IsKind (front ++ left)
    → StopsAt IsKind (front ++ left) (length front)
stops_after IsKind front [] alive dead none = record {
  within = omega (arith, length-append front nothing);
  before = rw (take_at front [] (length front) refl) alive;
  here = λ lt. absurd (omega (arith, length-append front nothing));
  none = none;
}
stops_after IsKind front (b ∷ old) alive dead none =
    let regrouped : front ++ b ∷ old ≡ (front ++ b ∷ []) ++ old = sym (append_assoc front (b ∷ []) old) in
    let more : take (length front + 1) (front ++ b ∷ old) ≡ front ++ b ∷ [] =
    rw regrouped (take_at (front ++ b ∷ []) old (length front + 1) (length-append front (b ∷ []))) in
    record {
      within = omega (arith, length-append front (b ∷ old));
      before = rw (take_at front (b ∷ old) (length front) refl) alive;
      here = λ lt can. dead b old can.0 refl
          (subst IsKind (ap (λ (t : List ℕ). t ++ can.0) more ∙ append_assoc front (b ∷ []) can.0) can.1);
      none = none;
    }

pub stops_at : (IsKind : List ℕ → Type 0) (text front left : List ℕ) → text ≡ front ++ left → CanGoOn IsKind front
    → ((b : ℕ) (old more : List ℕ) → left ≡ b ∷ old → ¬ IsKind (front ++ b ∷ more)) → ¬ IsKind text
    → StopsAt IsKind text (length text - length left)
stops_at IsKind text front left whole alive dead none =
    let at : length front ≡ length text - length left = omega (arith, ap length whole, length-append front left) in
    subst (λ (n : ℕ). StopsAt IsKind text n) at
    (subst (λ (t : List ℕ). StopsAt IsKind t (length front)) (sym whole)
    (stops_after IsKind front left alive dead (subst (λ (t : List ℕ). ¬ IsKind t) whole none)))

abbrev read : FieldType × List ℕ → Result (FieldType × List ℕ) (List ℕ)
read x = Ok x

rest_is : (x y : FieldType) (s t : List ℕ) → read (x, s) ≡ read (y, t) → s ≡ t
rest_is x y s t e = ap (λ (p : FieldType × List ℕ). p.1) (ok_is {E = List ℕ} (x, s) (y, t) e)

whole_read : (text : List ℕ) → IsFieldDescriptor text → (ty : FieldType) × (field_at text ≡ Ok (ty, []))
whole_read text h = (h.0, ap field_at (h.2 ∙ sym (append-nil (field_text h.0))) ∙ field_again h.0 [] h.1)

pub field_fault : (text left : List ℕ) → field_at text ≡ Err left
    → StopsAt IsFieldDescriptor text (length text - length left)
field_fault text left e =
    let t = field_stops text left e in
    stops_at IsFieldDescriptor text t.front left t.whole t.alive
    (λ b old more h is.
    let whole = whole_read (t.front ++ b ∷ more) is in
    absurd (let clash : read (whole.0, []) ≡ Err (b ∷ more) = sym whole.1 ∙ t.dead b old more h in cc))
    (λ is. let whole = whole_read text is in absurd (let clash : read (whole.0, []) ≡ Err left = sym whole.1 ∙ e in cc))

pub field_trailing : (text left : List ℕ) (ty : FieldType) → field_at text ≡ Ok (ty, left)
    → eqb (length left) 0 ≡ false → StopsAt IsFieldDescriptor text (length text - length left)
field_trailing text left ty e some =
    let t = field_takes text (ty, left) e in
    stops_at IsFieldDescriptor text (field_text ty) left t.0 ([], (ty, t.1, append-nil (field_text ty)))
    (λ b old more h is.
    let whole = whole_read (field_text ty ++ b ∷ more) is in
    let clash : [] ≡ b ∷ more = rest_is whole.0 ty [] (b ∷ more) (sym whole.1 ∙ field_again ty (b ∷ more) t.1) in
    absurd cc)
    (λ is. let whole = whole_read text is in not_empty left (rest_is whole.0 ty [] left (sym whole.1 ∙ e)) some)

pub field_whole : (text left : List ℕ) (ty : FieldType) → field_at text ≡ Ok (ty, left) → eqb (length left) 0 ≡ true
    → IsFieldType ty × (text ≡ field_text ty)
field_whole text left ty e none =
    let t = field_takes text (ty, left) e in (
      t.1,
      t.0 ∙ ap (λ (z : List ℕ). field_text ty ++ z) (nil_from_length left (eqb-true _ _ none))
          ∙ append-nil (field_text ty),
    )

pub field_shorter : (text left : List ℕ) (ty : FieldType) → field_at text ≡ Ok (ty, left) → length left ≤ length text
field_shorter text left ty e = omega
    (arith, ap length (field_takes text (ty, left) e).0, length-append (field_text ty) left)

element_some : (e : Element) → 1 ≤ length (element_text e)
element_some Byte = omega arith
element_some Char = omega arith
element_some Double = omega arith
element_some Float = omega arith
element_some Int = omega arith
element_some Long = omega arith
element_some Short = omega arith
element_some Boolean = omega arith
element_some (Class name) = omega arith

pub field_less : (text left : List ℕ) (ty : FieldType) → field_at text ≡ Ok (ty, left) → length left < length text
field_less text left ty e = omega (
  arith,
  ap length (field_takes text (ty, left) e).0,
  length-append (field_text ty) left,
  length-append (replicate ty.dimensions bracket) (element_text ty.element),
  element_some ty.element,
)

pub field_left : (text left : List ℕ) → field_at text ≡ Err left → length left ≤ length text
field_left text left e = let t = field_stops text left e in omega (arith, ap length t.whole, length-append t.front left)

pub field_one : (a b : FieldType) → IsFieldType a → IsFieldType b → field_text a ≡ field_text b → a ≡ b
field_one a b ha hb e =
    let both : read (a, []) ≡ read (b, []) =
    sym (field_again a [] ha) ∙ ap (λ (x : List ℕ). field_at (x ++ [])) e ∙ field_again b [] hb in
    ap (λ (p : FieldType × List ℕ). p.0) (ok_is {E = List ℕ} (a, []) (b, []) both)
