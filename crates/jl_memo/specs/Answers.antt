-- Answers by a link, or by what is remembered if the link is megamorphic; and what is right to remember.
use Rattle.std.specs.Prelude.{◌≡◌, ℕ, Bool, true, false, List, slice_get, Option, Some, None, if◌then◌else◌}
use Rattle.std.specs.Option.{option_map_or}
use Rattle.jl_types.specs.declared.answer.Outcome.{Outcome}
use Rattle.jl_types.specs.declared.answer.Outcome.TheVariants as outcome_is
use Rattle.jl_types.specs.declared.answer.Answer.{Answer}
use Rattle.jl_types.specs.declared.answer.Answer.TheVariants as answer
use Rattle.jl_types.specs.declared.answer.Throwable.TheVariants.{NullPointerException}
use Rattle.jl_types.specs.declared.answer.Recv.{Recv}
use Rattle.jl_types.specs.declared.answer.Recv.TheVariants.{Null, Of}
use Rattle.jl_types.specs.declared.answer.Fast.{Fast}
use Rattle.jl_types.specs.declared.answer.Fast.TheVariants.{Now, Miss}
use Rattle.jl_types.specs.declared.link.Link.{Link}
use Rattle.jl_types.specs.Values.World.{World, Classes}
use Rattle.jl_types.specs.Values.Members.{has_class, is_present, is_concrete}
use Rattle.jl_types.specs.Linkage.Stages.{Stage, Waits, Fails, Calls, Selects, stage}
use Rattle.jl_types.specs.Linkage.Calls.{answered, dispatch}
use Rattle.jl_types.specs.Events.Fast.{fast_answer}
use Rattle.jl_hierarchy.specs.Constancy.{AreInOrder}
pub use Rattle.jl_cache.specs.Links.{is_mega}
use Rattle.jl_memo.specs.declared.set.Set.{Set}
use Rattle.jl_memo.specs.Memos.{remembered, put}

-- ---- answers

abbrev pub outcome_answer : Option Outcome → Fast
outcome_answer None = Miss
outcome_answer (Some outcome) = Now (answered outcome)

abbrev pub remembered_answer : List Set → ℕ → Recv → Fast
remembered_answer sets s Null = Now (answer.Throws NullPointerException)
remembered_answer sets s (Of x) = outcome_answer (remembered sets s x)

-- the answer by what is remembered alone, whatever the link is
abbrev pub recalled : List Set → ℕ → Recv → Fast
recalled sets s Null = Miss
recalled sets s (Of x) = outcome_answer (remembered sets s x)

-- the answer at once to a call of site s by its link, for a caller that knows of n classes; by what is remembered if that is megamorphic
abbrev pub answer_with : List Set → Option Link → ℕ → ℕ → Recv → Fast
answer_with sets link n s recv = if is_mega link then remembered_answer sets s recv else fast_answer link n recv

-- ---- what is remembered of an answer

abbrev pub outcome_of : Answer → Option Outcome
outcome_of (answer.Run m) = Some (outcome_is.Run m)
outcome_of (answer.Throws throwable) = Some (outcome_is.Throws throwable)
outcome_of answer.BadReceiver = None
outcome_of (answer.Unlinked reason) = None

abbrev pub noted_of : List Set → ℕ → ℕ → Option Outcome → List Set
noted_of sets s x None = sets
noted_of sets s x (Some outcome) = put sets (record { site = s; class = x; outcome = outcome })

abbrev pub noted : List Set → ℕ → Recv → Option Outcome → List Set
noted sets s Null outcome = sets
noted sets s (Of x) outcome = noted_of sets s x outcome

-- the sets once a call of site s was answered so, which remember that if its link is megamorphic
abbrev pub told : List Set → Option Link → ℕ → Recv → Answer → List Set
told sets link s recv a = if is_mega link then noted sets s recv (outcome_of a) else sets

-- ---- which rows are right

-- the test of the class in which site s stands, and no if there is no such site
abbrev pub site_test : (Classes → ℕ → Bool) → World → ℕ → Bool
site_test test w s = option_map_or (λ place. test w.classes place.class) (slice_get w.places s) false

-- the class in which site s stands was defined
abbrev pub has_site : World → ℕ → Bool
has_site w s = site_test has_class w s

-- its defining loader isn't retired, either
abbrev pub is_site_present : World → ℕ → Bool
is_site_present w s = site_test is_present w s

-- the site selects by the receiver
abbrev pub selects : Stage → Bool
selects (Waits reason) = false
selects (Fails throwable) = false
selects (Calls m) = false
selects (Selects i) = true

-- The row is right in the world: classes came in order, and the site and the receiver's class x are known. While the site is present it
-- selects by the receiver, and its calls on objects of class x have this outcome, while objects may be of that.
pub record IsRight (w : World) (s x : ℕ) (o : Outcome) : Type 0 where
  pub order : AreInOrder w.classes
  pub site : has_site w s ≡ true
  pub class : has_class w.classes x ≡ true
  pub selects : is_site_present w s ≡ true → selects (stage w s) ≡ true
  pub answer : is_site_present w s ≡ true → is_concrete w.classes x ≡ true → dispatch w s (Of x) ≡ answered o

-- null, or an object of a class that objects may be of
abbrev pub IsObject : Classes → Recv → Type 0
IsObject cs Null = Unit {0}
IsObject cs (Of x) = is_concrete cs x ≡ true

-- all that is remembered is right
abbrev pub AreRight : World → List Set → Type 0
AreRight w sets = (s x : ℕ) (o : Outcome) → remembered sets s x ≡ Some o → IsRight w s x o
