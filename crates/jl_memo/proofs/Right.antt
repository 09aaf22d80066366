-- What is right to remember stays right, and answers by it are those of the calls.
use Rattle.std.specs.Prelude.{◌≡◌, ℕ, ◌<◌, not, ◌&&◌, Bool, true, false, List, ◌++◌, length, slice_get, Option, Some, None, Ok, is_some}
use Rattle.std.specs.Prelude.{if◌then◌else◌}
use Rattle.std.specs.Option.{option_map_or}
use Rattle.std.proofs.Common.{refl, ap, sym, subst, ◌∙◌, inl, inr}
use Rattle.std.proofs.lemmas.Bool.{and_parts}
use Rattle.std.proofs.lemmas.Option.{slice_get_within}
use Rattle.jl_types.specs.declared.ids.Place.{Place}
use Rattle.jl_types.specs.declared.answer.Outcome.{Outcome}
use Rattle.jl_types.specs.declared.answer.Outcome.TheVariants as outcome_is
use Rattle.jl_types.specs.declared.answer.Answer.{Answer}
use Rattle.jl_types.specs.declared.answer.Answer.TheVariants as answer
use Rattle.jl_types.specs.declared.answer.Throwable.TheVariants.{NullPointerException}
use Rattle.jl_types.specs.declared.answer.Unlinked.TheVariants.{Gone}
use Rattle.jl_types.specs.declared.answer.Recv.{Recv}
use Rattle.jl_types.specs.declared.answer.Recv.TheVariants.{Null, Of}
use Rattle.jl_types.specs.declared.answer.Fast.TheVariants.{Now}
use Rattle.jl_types.specs.declared.link.Link.{Link}
use Rattle.jl_types.specs.declared.link.Link.TheVariants.{Fault, Plain, Direct, Table, Mega}
use Rattle.jl_types.specs.Events.Event.{Event}
use Rattle.jl_types.specs.Values.World.{World, Class, Classes}
use Rattle.jl_types.specs.Values.Members.{class_test, has_class, is_retired, is_present, is_concrete, is_concrete_row}
use Rattle.jl_types.specs.Linkage.Stages.{Stage, Waits, Fails, Calls, Selects, stage, stage_at, stage_of, invocation_at}
use Rattle.jl_types.specs.Linkage.Links.{outcome, link_of}
use Rattle.jl_types.specs.Linkage.Calls.{answered, fits_named, answer_of, dispatch}
use Rattle.jl_types.specs.Events.History.{world_after, installed}
use Rattle.jl_types.proofs.Agreement.{null_is_thrown}
use Rattle.jl_types.proofs.Installed.{installed_to, settled_now}
use Rattle.jl_types.proofs.Lists.{element_at}
use Rattle.jl_hierarchy.specs.Constancy.{AreInOrder, IsClosed}
use Rattle.jl_memo.specs.declared.set.Row.{Row}
use Rattle.jl_memo.specs.declared.set.Set.{Set}
use Rattle.jl_memo.specs.Memos.{remembered, put}
use Rattle.jl_memo.specs.Answers.{is_mega, outcome_answer, remembered_answer, outcome_of, noted, told, selects}
use Rattle.jl_memo.specs.Answers.{has_site, is_site_present, IsRight, IsObject, AreRight}
use Rattle.jl_memo.proofs.Staying.{StaysOn, all_events, still_there, present_before, concrete_before, selecting, selects_stays, call_stays}
use Rattle.jl_memo.proofs.Rows.{others_were_there}

-- ---- megamorphic sites

pub mega_is : (link : Option Link) → is_mega link ≡ true → link ≡ Some Mega
mega_is None e = cc
mega_is (Some (Fault throwable)) e = cc
mega_is (Some (Plain m)) e = cc
mega_is (Some (Direct o)) e = cc
mega_is (Some (Table kind rows)) e = cc
mega_is (Some Mega) e = refl

mega_stage : (cs : Classes) (t : Stage) → link_of cs t ≡ Ok Mega → selects t ≡ true
mega_stage cs (Waits reason) e = cc
mega_stage cs (Fails throwable) e = cc
mega_stage cs (Calls m) e = cc
mega_stage cs (Selects i) e = refl

-- a site with a megamorphic link selects by the receiver
pub mega_selects : (h : List Event) (s : ℕ) (link : Option Link) → link ≡ installed h s → is_mega link ≡ true → selects (stage (world_after h) s) ≡ true
mega_selects h s link linked mega =
    mega_stage (world_after h).classes (stage (world_after h) s) (settled_now h s Mega (installed_to h s Mega (sym linked ∙ mega_is link mega)))

-- ---- one row

no_outcome : (o : Outcome) → answer.BadReceiver ≡ answered o → ⊥
no_outcome (outcome_is.Run m) e = cc
no_outcome (outcome_is.Throws throwable) e = cc

concrete_receiver : (b c : Bool) (a o : Outcome) → (if b && c then answered a else answer.BadReceiver) ≡ answered o → b ≡ true
concrete_receiver true c a o e = refl
concrete_receiver false c a o e = absurd (no_outcome o e)

-- a call that has an outcome is on an object of a class that is present
concrete_there : (w : World) (s x : ℕ) (o : Outcome) → selects (stage w s) ≡ true → dispatch w s (Of x) ≡ answered o → is_concrete w.classes x ≡ true
concrete_there w s x o selecting_it is =
    let i = selecting (stage w s) selecting_it in
    let selected = sym (ap (λ (t : Stage). answer_of w.classes t (Of x)) i.1) ∙ is in
    concrete_receiver (is_concrete w.classes x) (fits_named w.classes i.0 i.0.selector x) (outcome w.classes i.0 x) o selected

-- a site that selects is present
pub selects_present : (w : World) (s : ℕ) → selects (stage w s) ≡ true → is_site_present w s ≡ true
selects_present w s = at_place (slice_get w.places s)
  where
    at_place : (o : Option Place) → selects (stage_at w s o) ≡ true → option_map_or (λ place. is_present w.classes place.class) o false ≡ true
    at_place None e = cc
    at_place (Some place) e = by_class (is_present w.classes place.class) e
      where
        by_class : (b : Bool) → selects (if b then stage_of w s place.class (invocation_at w.classes place) else Waits Gone) ≡ true → b ≡ true
        by_class true e = refl
        by_class false e = cc

-- a class that is present is known
present_known : (cs : Classes) (c : ℕ) → is_present cs c ≡ true → has_class cs c ≡ true
present_known cs c = by_row (slice_get cs.rows c)
  where
    by_row : (o : Option Class) → option_map_or (λ row. not (is_retired cs row.loader)) o false ≡ true → is_some o ≡ true
    by_row None e = cc
    by_row (Some row) e = refl

site_known : (w : World) (s : ℕ) → is_site_present w s ≡ true → has_site w s ≡ true
site_known w s = at_place (slice_get w.places s)
  where
    at_place : (o : Option Place) → option_map_or (λ place. is_present w.classes place.class) o false ≡ true
        → option_map_or (λ place. has_class w.classes place.class) o false ≡ true
    at_place None e = cc
    at_place (Some place) e = present_known w.classes place.class e

known_there : (cs : Classes) (c : ℕ) → has_class cs c ≡ true → c < length cs.rows
known_there cs c = by_row (slice_get cs.rows c) refl
  where
    by_row : (o : Option Class) → slice_get cs.rows c ≡ o → is_some o ≡ true → c < length cs.rows
    by_row None is e = cc
    by_row (Some row) is e = slice_get_within cs.rows c row is

-- what a call on an object came to is right
pub right_now : (w : World) (s x : ℕ) (o : Outcome) → AreInOrder w.classes → selects (stage w s) ≡ true → dispatch w s (Of x) ≡ answered o → IsRight w s x o
right_now w s x o order selecting_it is = record {
  order = order;
  site = site_known w s (selects_present w s selecting_it);
  class =
      present_known w.classes x
      (and_parts (is_present w.classes x) (class_test is_concrete_row w.classes x) (concrete_there w s x o selecting_it is)).0;
  selects = λ present. selecting_it;
  answer = λ present concrete. is;
}

there_known : (cs : Classes) (c : ℕ) → c < length cs.rows → has_class cs c ≡ true
there_known cs c there = ap is_some (element_at cs.rows c there).1

-- the place of a site that is known
record HasPlace (w : World) (s : ℕ) : Type 0 where
  place : Place
  at : slice_get w.places s ≡ Some place
  there : place.class < length w.classes.rows

placed : (w : World) (s : ℕ) → has_site w s ≡ true → HasPlace w s
placed w s = by_place (slice_get w.places s) refl
  where
    by_place : (o : Option Place) → slice_get w.places s ≡ o → option_map_or (λ place. has_class w.classes place.class) o false ≡ true → HasPlace w s
    by_place None is e = cc
    by_place (Some place) is e = record { place = place; at = is; there = known_there w.classes place.class e }

module _ (h more : List Event) (s x : ℕ) (o : Outcome) (right : IsRight (world_after h) s x o) where
  abbrev w : World
  w = world_after h

  abbrev later : World
  later = world_after (h ++ more)

  stays : StaysOn w later
  stays = all_events more h

  own : HasPlace w s
  own = placed w s right.site

  there : x < length w.classes.rows
  there = known_there w.classes x right.class

  abbrev place_test : (Classes → ℕ → Bool) → World → Option Place → Bool
  place_test test v o = option_map_or (λ place. test v.classes place.class) o false

  module _ (closed : IsClosed later.classes) (present : is_site_present later s ≡ true) where
    class_present : is_present later.classes own.place.class ≡ true
    class_present = sym (ap (place_test is_present later) (stays.places s own.place own.at)) ∙ present

    present_at_first : is_site_present w s ≡ true
    present_at_first =
        ap (place_test is_present w) own.at
        ∙ present_before w.classes later.classes stays.classes stays.alive own.place.class own.there class_present

    selecting_first : selects (stage w s) ≡ true
    selecting_first = right.selects present_at_first

    row_selects : selects (stage later s) ≡ true
    row_selects = selects_stays h more s own.place own.at right.order closed class_present selecting_first

    pub row_answers : is_concrete later.classes x ≡ true → dispatch later s (Of x) ≡ answered o
    row_answers concrete =
        let before = concrete_before h more x there concrete in
        call_stays h more s own.place own.at right.order closed class_present selecting_first x there before concrete ∙ right.answer present_at_first before

  pub row_later : AreInOrder later.classes → IsRight later s x o
  row_later order = record {
    order = order;
    site =
        ap (place_test has_class later) (stays.places s own.place own.at)
        ∙ there_known later.classes own.place.class (still_there w.classes later.classes stays.classes own.place.class own.there);
    class = there_known later.classes x (still_there w.classes later.classes stays.classes x there);
    selects = row_selects order.closed;
    answer = row_answers order.closed;
  }

-- ---- all rows

module _ (h more : List Event) (sets : List Set) (right : AreRight (world_after h) sets) where
  abbrev after : World
  after = world_after (h ++ more)

  module _ (order : AreInOrder (world_after (h ++ more)).classes) where
    all_later : AreRight after sets
    all_later s x o is = row_later h more s x o (right s x o is) order

    put_right : (row : Row) → IsRight after row.site row.class row.outcome → AreRight after (put sets row)
    put_right row one s x o is = elim (others_were_there sets row s x o is) [
      | inl before ↦ all_later s x o before
      | inr same ↦
          subst (λ (k : ℕ). IsRight after k x o) (sym same.0)
          (subst (λ (k : ℕ). IsRight after row.site k o) (sym same.1)
          (subst (λ (p : Outcome). IsRight after row.site row.class p) (sym same.2) one))
    ]

    noted_right : (s : ℕ) (recv : Recv) (a : Answer) → selects (stage after s) ≡ true → dispatch after s recv ≡ a
        → AreRight after (noted sets s recv (outcome_of a))
    noted_right s Null a selecting_it is = all_later
    noted_right s (Of x) (answer.Run m) selecting_it is =
        put_right (record { site = s; class = x; outcome = outcome_is.Run m }) (right_now after s x (outcome_is.Run m) order selecting_it is)
    noted_right s (Of x) (answer.Throws throwable) selecting_it is =
        put_right (record { site = s; class = x; outcome = outcome_is.Throws throwable })
        (right_now after s x (outcome_is.Throws throwable) order selecting_it is)
    noted_right s (Of x) answer.BadReceiver selecting_it is = all_later
    noted_right s (Of x) (answer.Unlinked reason) selecting_it is = all_later

    -- with what a call came to later
    pub told_right : (link : Option Link) (s : ℕ) (recv : Recv) (a : Answer) → link ≡ installed (h ++ more) s → dispatch after s recv ≡ a
        → AreRight after (told sets link s recv a)
    told_right link s recv a linked is = by_mega (is_mega link) refl
      where
        by_mega : (b : Bool) → is_mega link ≡ b → AreRight after (if b then noted sets s recv (outcome_of a) else sets)
        by_mega true mega = noted_right s recv a (mega_selects (h ++ more) s link linked mega) is
        by_mega false mega = all_later

  -- ---- answers

  now_same : (a b : Answer) → Now a ≡ Now b → a ≡ b
  now_same a b e = cc

  -- what is remembered is the answer later
  pub remembered_is_dispatch : (s : ℕ) (recv : Recv) (a : Answer) → IsClosed after.classes → selects (stage after s) ≡ true → IsObject after.classes recv
      → remembered_answer sets s recv ≡ Now a → dispatch after s recv ≡ a
  remembered_is_dispatch s Null a closed selecting_it object now =
      let i = selecting (stage after s) selecting_it in
      null_is_thrown after s i.0 i.1 ∙ now_same (answer.Throws NullPointerException) a now
  remembered_is_dispatch s (Of x) a closed selecting_it object now = by_row (remembered sets s x) refl now
    where
      by_row : (row : Option Outcome) → remembered sets s x ≡ row → outcome_answer row ≡ Now a → dispatch after s (Of x) ≡ a
      by_row None is now = cc
      by_row (Some o) is now =
          row_answers h more s x o (right s x o is) closed (selects_present after s selecting_it) object ∙ now_same (answered o) a now
