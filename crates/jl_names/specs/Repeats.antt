-- Pairs of texts by their numbers. No two are to be the same: a class has no two fields, and no two methods, of
-- the same name and descriptor (JVMS SE 17 §4.5, §4.6).
use Rattle.std.specs.Prelude.{◌≡◌, ℕ, ◌<◌, List, Option, Some}
use Rattle.std.specs.List.{slice_get}
use Rattle.std.specs.Option.{option_and_then, option_map}
use Rattle.std.specs.Borrow.{Bor}

-- the bytes of the text of this number, if it names one
abbrev pub text_at : List (Option (Bor (List ℕ))) → ℕ → Option (List ℕ)
text_at texts n = option_and_then (option_map (λ text. text.now)) (slice_get texts n)

-- both numbers name a text, and the two are the same bytes
pub record NameOneText (texts : List (Option (Bor (List ℕ)))) (m n : ℕ) : Type 0 where
  pub text : List ℕ
  pub one : text_at texts m ≡ Some text
  pub other : text_at texts n ≡ Some text

-- the first texts of the two pairs are the same, and so are the second ones
pub record SameTexts (texts : List (Option (Bor (List ℕ)))) (p q : ℕ × ℕ) : Type 0 where
  pub first : NameOneText texts p.0 q.0
  pub second : NameOneText texts p.1 q.1

-- the pair at place i has the same texts as a pair at an earlier place
pub record IsRepeat (texts : List (Option (Bor (List ℕ)))) (pairs : List (ℕ × ℕ)) (i : ℕ) : Type 0 where
  pub earlier : ℕ
  pub before : earlier < i
  pub pair : ℕ × ℕ
  pub again : ℕ × ℕ
  pub pair_stands : slice_get pairs earlier ≡ Some pair
  pub again_stands : slice_get pairs i ≡ Some again
  pub same : SameTexts texts pair again

abbrev pub NoRepeat : List (Option (Bor (List ℕ))) → List (ℕ × ℕ) → Type 0
NoRepeat texts pairs = (i : ℕ) → ¬ IsRepeat texts pairs i

pub record IsFirstRepeat (texts : List (Option (Bor (List ℕ)))) (pairs : List (ℕ × ℕ)) (i : ℕ) : Type 0 where
  pub repeat : IsRepeat texts pairs i
  pub first : (k : ℕ) → k < i → ¬ IsRepeat texts pairs k
