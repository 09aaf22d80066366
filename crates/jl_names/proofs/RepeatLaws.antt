-- Numbers that tell texts apart, and what pairs of them say of pairs of texts.
use Rattle.std.proofs.Common.{◌≡◌, ℕ, ◌+◌, ◌<◌, ◌≤◌, suc, zero, Bool, true, false, cond, ◌&&◌, nat_eq, not, get_or, List, [], ◌∷◌}
use Rattle.std.proofs.Common.{◌++◌, length, Option, Some, None, Result, Ok, Err, IfOk, MatchOption, refl, sym, ap, ◌∙◌, inl, inr, ◌⊎◌, arith}
use Rattle.std.proofs.Common.{length-append}
use Rattle.std.proofs.lemmas.Bool.{cases_lt, eqb-true, eq-eqb, and_parts}
use Rattle.std.proofs.lemmas.Option.{option_and_then_some, slice_get_within, slice_get-get_or}
use Rattle.std.specs.Borrow.{Bor}
use Rattle.std.specs.Cmp.Lexicographic.{pointwise, bytes_decides}
use Rattle.std.specs.List.{slice_get}
use Rattle.std.specs.Option.{option_and_then, option_map, unwrap_or}
use Rattle.jl_names.specs.Repeats.{text_at, NameOneText, IsRepeat, NoRepeat, IsFirstRepeat}
use Rattle.jl_names.specs.ForProofs.Repeats.{number_at, Numbers, numbers_of, numbers_at, IsAgain, NoneAgain, IsFirstAgain}

abbrev Texts : Type 0
Texts = List (Option (Bor (List ℕ)))

-- ---- a number more

number_kept : (ns : List (Option ℕ)) (r : Option ℕ) (k n : ℕ) → number_at ns k ≡ Some n
    → number_at (ns ++ r ∷ []) k ≡ Some n
number_kept [] r k n e = absurd cc
number_kept (m ∷ ns) r zero n e = e
number_kept (m ∷ ns) r (suc k) n e = number_kept ns r k n e

number_last : (ns : List (Option ℕ)) (r : Option ℕ) (i : ℕ) → length ns ≡ i → number_at (ns ++ r ∷ []) i ≡ r
number_last [] r zero e = refl
number_last [] r (suc i) e = absurd (omega arith)
number_last (m ∷ ns) r zero e = absurd (omega arith)
number_last (m ∷ ns) r (suc i) e = number_last ns r i (omega arith)

number_cases : (ns : List (Option ℕ)) (r : Option ℕ) (k n : ℕ) → number_at (ns ++ r ∷ []) k ≡ Some n
    → (number_at ns k ≡ Some n) ⊎ ((k ≡ length ns) × (r ≡ Some n))
number_cases [] r zero n e = inr (refl, e)
number_cases [] r (suc k) n e = absurd cc
number_cases (m ∷ ns) r zero n e = inl e
number_cases (m ∷ ns) r (suc k) n e = elim (number_cases ns r k n e) [ inl h ↦ inl h | inr h ↦ inr (ap suc h.0, h.1) ]

text_within : (texts : Texts) (k : ℕ) (t : List ℕ) → text_at texts k ≡ Some t → k < length texts
text_within texts k t e = option_and_then_some _ _ _ e (λ x h q. slice_get_within texts k x h)

before_or_last : (k i : ℕ) → k < i + 1 → (k < i) ⊎ (k ≡ i)
before_or_last k i h = elim (cases_lt k i) [ inl lt ↦ inl lt | inr le ↦ inr (omega arith) ]

-- the text of this turn
pub text_here : (texts : Texts) (i : ℕ) (o : Option (Bor (List ℕ))) → i < length texts → get_or texts i None ≡ o
    → text_at texts i ≡ option_map (λ text. text.now) o
text_here texts i o lt e = ap (option_and_then (option_map (λ text. text.now))) (slice_get-get_or texts i None lt
    ∙ ap (λ (x : Option (Bor (List ℕ))). Some x) e)

-- ---- texts numbered

-- the first i texts have these numbers, and `has` says which text has which
pub record Numbered (texts : List (Option (Bor (List ℕ)))) (i : ℕ) (numbers : List (Option ℕ)) (has : List ℕ → Option ℕ) : Type 0 where
  pub same_length : length numbers ≡ i
  pub kept : (k : ℕ) (t : List ℕ) → k < i → text_at texts k ≡ Some t
      → (n : ℕ) × (number_at numbers k ≡ Some n) × (has t ≡ Some n)
  pub source : (k n : ℕ) → number_at numbers k ≡ Some n
      → (t : List ℕ) × (text_at texts k ≡ Some t) × (text_at texts n ≡ Some t)
  pub first : (t : List ℕ) (n : ℕ) → has t ≡ Some n → text_at texts n ≡ Some t

pub Numbered-skip : (texts : Texts) (i : ℕ) (numbers : List (Option ℕ)) (has : List ℕ → Option ℕ)
    → Numbered texts i numbers has → text_at texts i ≡ None → Numbered texts (i + 1) (numbers ++ None ∷ []) has
Numbered-skip texts i numbers has s here = record {
  same_length = simp length-append (omega (arith, s.same_length));
  kept = λ k t lt e. elim (before_or_last k i lt) [
    | inl before ↦ (let old = s.kept k t before e in (old.0, number_kept numbers None k old.0 old.1, old.2))
    | inr last ↦ (let clash = sym (ap (text_at texts) last ∙ here) ∙ e in absurd cc)
  ];
  source = λ k n e. elim (number_cases numbers None k n e) [ inl old ↦ s.source k n old | inr new ↦ absurd (let clash = new.1 in cc) ];
  first = s.first;
}

-- from now on the text has this number, and others have what they had
abbrev pub Given : (List ℕ → Option ℕ) → (List ℕ → Option ℕ) → List ℕ → ℕ → Type 0
Given has new text n = (x : List ℕ) → new x ≡ cond (pointwise nat_eq text x) (Some n) (has x)

given_here : (has new : List ℕ → Option ℕ) (text : List ℕ) (n : ℕ) → Given has new text n → new text ≡ Some n
given_here has new text n g =
    g text ∙ ap (λ (b : Bool). cond b (Some n) (has text)) ((bytes_decides text text).1 refl)

given_told : (text x : List ℕ) (after before : Option ℕ) (n : ℕ) (b : Bool) → pointwise nat_eq text x ≡ b
    → after ≡ cond b (Some n) before → ((text ≡ x) × (after ≡ Some n)) ⊎ (after ≡ before)
given_told text x after before n true e h = inl ((bytes_decides text x).0 e, h)
given_told text x after before n false e h = inr h

given_cases : (has new : List ℕ → Option ℕ) (text : List ℕ) (n : ℕ) → Given has new text n → (x : List ℕ)
    → ((text ≡ x) × (new x ≡ Some n)) ⊎ (new x ≡ has x)
given_cases has new text n g x = given_told text x (new x) (has x) n (pointwise nat_eq text x) refl (g x)

-- the number's own text is this text
given_text : (texts : Texts) (i : ℕ) (has : List ℕ → Option ℕ) (text : List ℕ) (n : ℕ)
    → ((t : List ℕ) (m : ℕ) → has t ≡ Some m → text_at texts m ≡ Some t) → text_at texts i ≡ Some text
    → (o : Option ℕ) → has text ≡ o → n ≡ unwrap_or o i → text_at texts n ≡ Some text
given_text texts i has text n first here None h e = ap (text_at texts) e ∙ here
given_text texts i has text n first here (Some m) h e = ap (text_at texts) e ∙ first text m h

pub Numbered-more : (texts : Texts) (i n : ℕ) (numbers : List (Option ℕ)) (has new : List ℕ → Option ℕ) (text : List ℕ)
    → Numbered texts i numbers has → text_at texts i ≡ Some text → n ≡ unwrap_or (has text) i → Given has new text n
    → Numbered texts (i + 1) (numbers ++ Some n ∷ []) new
Numbered-more texts i n numbers has new text s here number g =
    let own = given_text texts i has text n s.first here (has text) refl number in
    record {
      same_length = simp length-append (omega (arith, s.same_length));
      kept = λ k t lt e. elim (before_or_last k i lt) [
        | inl before ↦ (
            let old = s.kept k t before e in
            elim (given_cases has new text n g t) [
              | inl same ↦ (
                  let had : has text ≡ Some old.0 = ap has same.0 ∙ old.2 in
                  let is : n ≡ old.0 = number ∙ ap (λ (o : Option ℕ). unwrap_or o i) had in
                  (old.0, number_kept numbers (Some n) k old.0 old.1, same.1 ∙ ap (λ (m : ℕ). Some m) is)
                  )
              | inr other ↦ (old.0, number_kept numbers (Some n) k old.0 old.1, other ∙ old.2)
            ]
            )
        | inr last ↦ (
            let at_i : text_at texts i ≡ Some t = ap (text_at texts) (sym last) ∙ e in
            let one : text ≡ t = cc in (
              n,
              ap (number_at (numbers ++ Some n ∷ [])) last ∙ number_last numbers (Some n) i s.same_length,
              ap new (sym one) ∙ given_here has new text n g,
            )
            )
      ];
      source = λ k m e. elim (number_cases numbers (Some n) k m e) [
        | inl old ↦ s.source k m old
        | inr last ↦ (
            let is : n ≡ m = let some = last.1 in cc in
            (text, ap (text_at texts) (last.0 ∙ s.same_length) ∙ here, ap (text_at texts) (sym is) ∙ own)
            )
      ];
      first = λ t m e. elim (given_cases has new text n g t) [
        | inl same ↦ (
            let is : n ≡ m = let some = same.1 in cc in
            ap (text_at texts) (sym is) ∙ own ∙ ap (λ (x : List ℕ). Some x) same.0
            )
        | inr other ↦ s.first t m (sym other ∙ e)
      ];
    }

pub Numbered-all : (texts : Texts) (i : ℕ) (numbers : List (Option ℕ)) (has : List ℕ → Option ℕ)
    → Numbered texts i numbers has → length texts ≤ i → Numbers texts numbers
Numbered-all texts n numbers has s all = record {
  named = λ i n e. s.source i n e;
  equal = λ i j t e f.
      let a = s.kept i t (omega (arith, text_within texts i t e)) e in
      let b = s.kept j t (omega (arith, text_within texts j t f)) f in
      let some = sym b.2 ∙ a.2 in
      let is : b.0 ≡ a.0 = cc in
      (a.0, a.1, b.1 ∙ ap (λ (m : ℕ). Some m) is);
}

-- ---- pairs of numbers met

-- `met` has the numbers of the first i pairs, and no two of them are the same
pub record Met (numbers : List (Option ℕ)) (pairs : List (ℕ × ℕ)) (i : ℕ) (met : ℕ × ℕ → Bool) : Type 0 where
  pub kept : (k : ℕ) (b : ℕ × ℕ) → k < i → numbers_at numbers pairs k ≡ Some b → met b ≡ true
  pub source : (b : ℕ × ℕ) → met b ≡ true → (k : ℕ) × (k < i) × (numbers_at numbers pairs k ≡ Some b)
  pub none : (k : ℕ) → k < i → ¬ IsAgain numbers pairs k

pub Met-skip : (numbers : List (Option ℕ)) (pairs : List (ℕ × ℕ)) (i : ℕ) (met : ℕ × ℕ → Bool)
    → Met numbers pairs i met → numbers_at numbers pairs i ≡ None → Met numbers pairs (i + 1) met
Met-skip numbers pairs i met s here = record {
  kept = λ k b lt e. elim (before_or_last k i lt) [
    | inl before ↦ s.kept k b before e
    | inr last ↦ (let clash = sym (ap (numbers_at numbers pairs) last ∙ here) ∙ e in absurd cc)
  ];
  source = λ b e. let old = s.source b e in (old.0, omega (arith, old.1), old.2);
  none = λ k lt again. elim (before_or_last k i lt) [
    | inl before ↦ s.none k before again
    | inr last ↦ (let clash = sym (ap (numbers_at numbers pairs) last ∙ here) ∙ again.again in absurd cc)
  ];
}

-- `==` of two pairs
abbrev same_pair : ℕ × ℕ → ℕ × ℕ → Bool
same_pair x y = nat_eq x.0 y.0 && nat_eq x.1 y.1

pair_itself : (x : ℕ × ℕ) → same_pair x x ≡ true
pair_itself x = rw (eq-eqb x.0 x.0 refl, eq-eqb x.1 x.1 refl) refl

pair_same : (x y : ℕ × ℕ) → same_pair x y ≡ true → x ≡ y
pair_same x y e =
    let one : x.0 ≡ y.0 = eqb-true x.0 y.0 (and_parts (nat_eq x.0 y.0) (nat_eq x.1 y.1) e).0 in
    let other : x.1 ≡ y.1 = eqb-true x.1 y.1 (and_parts (nat_eq x.0 y.0) (nat_eq x.1 y.1) e).1 in
    ap (λ (a : ℕ). (a, x.1)) one ∙ ap (λ (b : ℕ). (y.0, b)) other

met_kept : (after before b : Bool) → after ≡ cond b true before → before ≡ true → after ≡ true
met_kept after before true h e = h
met_kept after before false h e = h ∙ e

met_told : (x y : ℕ × ℕ) (after before b : Bool) → same_pair x y ≡ b → after ≡ cond b true before → after ≡ true
    → (x ≡ y) ⊎ (before ≡ true)
met_told x y after before true e h t = inl (pair_same x y e)
met_told x y after before false e h t = inr (sym h ∙ t)

pub Met-more : (numbers : List (Option ℕ)) (pairs : List (ℕ × ℕ)) (i : ℕ) (both : ℕ × ℕ) (met new : ℕ × ℕ → Bool)
    → Met numbers pairs i met → numbers_at numbers pairs i ≡ Some both → met both ≡ false
    → ((b : ℕ × ℕ) → new b ≡ cond (same_pair both b) true (met b)) → Met numbers pairs (i + 1) new
Met-more numbers pairs i both met new s here absent g = record {
  kept = λ k b lt e. elim (before_or_last k i lt) [
    | inl before ↦ met_kept (new b) (met b) (same_pair both b) (g b) (s.kept k b before e)
    | inr last ↦ (
        let some = sym (ap (numbers_at numbers pairs) last ∙ here) ∙ e in
        let is : both ≡ b = cc in
        g b ∙ ap (λ (t : Bool). cond t true (met b)) (ap (same_pair both) (sym is) ∙ pair_itself both)
        )
  ];
  source = λ b e. elim (met_told both b (new b) (met b) (same_pair both b) refl (g b) e) [
    | inl is ↦ (i, omega arith, here ∙ ap (λ (x : ℕ × ℕ). Some x) is)
    | inr old ↦ (let once = s.source b old in (once.0, omega (arith, once.1), once.2))
  ];
  none = λ k lt again. elim (before_or_last k i lt) [
    | inl before ↦ s.none k before again
    | inr last ↦ (
        let some = sym (ap (numbers_at numbers pairs) last ∙ here) ∙ again.again in
        let is : both ≡ again.both = cc in
        let was = ap met is ∙ s.kept again.earlier again.both (omega (arith, again.before)) again.once in
        absurd cc
        )
  ];
}

-- the pair of this turn
pub numbers_here : (numbers : List (Option ℕ)) (pairs : List (ℕ × ℕ)) (i : ℕ) (o : Option (ℕ × ℕ)) → i < length pairs
    → o ≡ numbers_of numbers (get_or pairs i (0, 0)) → numbers_at numbers pairs i ≡ o
numbers_here numbers pairs i o lt e =
    ap (option_and_then (numbers_of numbers)) (slice_get-get_or pairs i (0, 0) lt) ∙ sym e

pub known : (added had : Bool) → added ≡ not had → added ≡ false → had ≡ true
known added true e f = refl
known added false e f = absurd (let clash = sym e ∙ f in cc)

pub fresh : (added had : Bool) → added ≡ not had → added ≡ true → had ≡ false
fresh added false e f = refl
fresh added true e f = absurd (let clash = sym e ∙ f in cc)

pub Met-found : (numbers : List (Option ℕ)) (pairs : List (ℕ × ℕ)) (i : ℕ) (both : ℕ × ℕ) (met : ℕ × ℕ → Bool)
    → Met numbers pairs i met → numbers_at numbers pairs i ≡ Some both → met both ≡ true
    → IsFirstAgain numbers pairs i
Met-found numbers pairs i both met s here old =
    let once = s.source both old in
    record {
      again = record { earlier = once.0; before = once.1; both = both; once = once.2; again = here };
      first = s.none;
    }

pub Met-all : (numbers : List (Option ℕ)) (pairs : List (ℕ × ℕ)) (n : ℕ) (met : ℕ × ℕ → Bool)
    → Met numbers pairs n met → length pairs ≤ n → NoneAgain numbers pairs
Met-all numbers pairs n met s all = λ i h.
    let within : i < length pairs = option_and_then_some _ _ _ h.again (λ x e q. slice_get_within pairs i x e) in
    s.none i (omega arith) h

-- ---- a pair of numbers for a pair of texts

stand_both : (numbers : List (Option ℕ)) (pairs : List (ℕ × ℕ)) (k : ℕ) (p : ℕ × ℕ) (m n : ℕ)
    → slice_get pairs k ≡ Some p → number_at numbers p.0 ≡ Some m → number_at numbers p.1 ≡ Some n
    → numbers_at numbers pairs k ≡ Some (m, n)
stand_both numbers pairs k p m n e a b = rw (e, a, b) refl

record Both (numbers : List (Option ℕ)) (pairs : List (ℕ × ℕ)) (k : ℕ) (both : ℕ × ℕ) : Type 0 where
  pair : ℕ × ℕ
  stands : slice_get pairs k ≡ Some pair
  first : number_at numbers pair.0 ≡ Some both.0
  second : number_at numbers pair.1 ≡ Some both.1

both_stand : (numbers : List (Option ℕ)) (pairs : List (ℕ × ℕ)) (k : ℕ) (both : ℕ × ℕ)
    → numbers_at numbers pairs k ≡ Some both → Both numbers pairs k both
both_stand numbers pairs k both e =
    option_and_then_some _ _ _ e (λ p stands f.
    option_and_then_some _ _ _ f (λ m first g.
    option_and_then_some _ _ _ g (λ n second h.
    record {
      pair = p;
      stands = stands;
      first = first ∙ ap (λ (x : ℕ). Some x) (let whole : (m, n) ≡ both = cc in ap (λ (x : ℕ × ℕ). x.0) whole);
      second = second ∙ ap (λ (x : ℕ). Some x) (let whole : (m, n) ≡ both = cc in ap (λ (x : ℕ × ℕ). x.1) whole);
    })))

pub again_of : (texts : Texts) (numbers : List (Option ℕ)) (pairs : List (ℕ × ℕ)) (i : ℕ) → Numbers texts numbers
    → IsRepeat texts pairs i → IsAgain numbers pairs i
again_of texts numbers pairs i s r =
    let m = s.equal _ _ r.same.first.text r.same.first.one r.same.first.other in
    let n = s.equal _ _ r.same.second.text r.same.second.one r.same.second.other in
    record {
      earlier = r.earlier;
      before = r.before;
      both = (m.0, n.0);
      once = stand_both numbers pairs r.earlier r.pair m.0 n.0 r.pair_stands m.1 n.1;
      again = stand_both numbers pairs i r.again m.0 n.0 r.again_stands m.2 n.2;
    }

one_text : (texts : Texts) (numbers : List (Option ℕ)) (j k n : ℕ) → Numbers texts numbers
    → number_at numbers j ≡ Some n → number_at numbers k ≡ Some n → NameOneText texts j k
one_text texts numbers j k n s a b =
    let x = s.named j n a in
    let y = s.named k n b in
    let texts_are = sym y.2 ∙ x.2 in
    let is : y.0 ≡ x.0 = cc in
    record { text = x.0; one = x.1; other = y.1 ∙ ap (λ (t : List ℕ). Some t) is }

pub repeat_of : (texts : Texts) (numbers : List (Option ℕ)) (pairs : List (ℕ × ℕ)) (i : ℕ) → Numbers texts numbers
    → IsAgain numbers pairs i → IsRepeat texts pairs i
repeat_of texts numbers pairs i s r =
    let a = both_stand numbers pairs r.earlier r.both r.once in
    let b = both_stand numbers pairs i r.both r.again in
    record {
      earlier = r.earlier;
      before = r.before;
      pair = a.pair;
      again = b.pair;
      pair_stands = a.stands;
      again_stands = b.stands;
      same = record {
        first = one_text texts numbers a.pair.0 b.pair.0 r.both.0 s a.first b.first;
        second = one_text texts numbers a.pair.1 b.pair.1 r.both.1 s a.second b.second;
      };
    }

pub no_repeat : (texts : Texts) (numbers : List (Option ℕ)) (pairs : List (ℕ × ℕ)) → Numbers texts numbers
    → NoneAgain numbers pairs → NoRepeat texts pairs
no_repeat texts numbers pairs s none = λ i r. none i (again_of texts numbers pairs i s r)

pub first_repeat_of : (texts : Texts) (numbers : List (Option ℕ)) (pairs : List (ℕ × ℕ)) (i : ℕ) → Numbers texts numbers
    → IsFirstAgain numbers pairs i → IsFirstRepeat texts pairs i
first_repeat_of texts numbers pairs i s r = record {
  repeat = repeat_of texts numbers pairs i s r.again;
  first = λ k lt h. r.first k lt (again_of texts numbers pairs k s h);
}

pub found_of : {E : Type 0} (texts : Texts) (numbers : List (Option ℕ)) (pairs : List (ℕ × ℕ)) → Numbers texts numbers
    → (r : Result (Option ℕ) E) → IfOk r (λ found. MatchOption found (NoneAgain numbers pairs) (IsFirstAgain numbers pairs))
    → IfOk r (λ found. MatchOption found (NoRepeat texts pairs) (IsFirstRepeat texts pairs))
found_of texts numbers pairs s (Ok None) h = no_repeat texts numbers pairs s h
found_of texts numbers pairs s (Ok (Some i)) h = first_repeat_of texts numbers pairs i s h
found_of texts numbers pairs s (Err e) h = tt
