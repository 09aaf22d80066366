-- Answers by what is remembered are the calls', after each legal list that goes on the one after which they were given.
use Rattle.std.specs.Prelude.{◌≡◌, ℕ, Bool, true, false, List, ◌++◌, Option, Some, None, IfSome, get_or, if◌then◌else◌}
use Rattle.std.proofs.Common.{refl, ap, sym, subst, ◌∙◌}
use Rattle.std.proofs.lemmas.List.{map-append}
use mathlib.Core.List.{IsPrefix}
use Rattle.jl_types.specs.declared.limits.Limits.{Limits}
use Rattle.jl_types.specs.declared.answer.Outcome.{Outcome}
use Rattle.jl_types.specs.declared.answer.Recv.{Recv}
use Rattle.jl_types.specs.declared.answer.Recv.TheVariants.{Of}
use Rattle.jl_types.specs.declared.answer.Answer.{Answer}
use Rattle.jl_types.specs.declared.answer.Fast.{Fast}
use Rattle.jl_types.specs.declared.answer.Fast.TheVariants.{Now}
use Rattle.jl_types.specs.declared.link.Link.{Link}
use Rattle.jl_types.specs.Values.Members.{is_concrete}
use Rattle.jl_types.specs.Linkage.Calls.{answered, dispatch}
use Rattle.jl_types.specs.Events.Event.{Event}
use Rattle.jl_types.specs.Events.Fast.{fast_answer}
use Rattle.jl_types.specs.Events.History.{world_after, installed}
use Rattle.jl_types.specs.Events.Entries.{Entry, IsLegal, events_of, classes_of}
use Rattle.jl_types.proofs.Written.{legal_shows}
use Rattle.jl_hierarchy.specs.Constancy.{AreInOrder, IsClosed}
use Rattle.jl_memo.specs.declared.set.Set.{Set}
use Rattle.jl_memo.specs.Memos.{remembered}
use Rattle.jl_memo.specs.Answers.{is_mega, is_site_present, remembered_answer, answer_with, told, IsObject, AreRight}
use Rattle.jl_memo.proofs.Closing.{legal_closed}
use Rattle.jl_memo.proofs.Right.{mega_is, mega_selects, row_answers, remembered_is_dispatch, told_right}
use Rattle.jl_server.specs.declared.table.Table.{Table}
use Rattle.jl_server.specs.Receivers.{FitsMemo}
use Rattle.jl_server.specs.Remembering.{Remembering, HoldsFrom}
use Rattle.jl_server.specs.ForProofs.Shown.{content, IsShown}
use Rattle.jl_server.proofs.FastLaws.{now_is_dispatch}

module _ (before after : List Entry) (p : IsPrefix before after) where
  abbrev h : List Event
  h = events_of before

  abbrev more : List Event
  more = events_of p.0

  on : events_of after ≡ h ++ more
  on = ap events_of (sym p.1) ∙ map-append (λ (entry : Entry). entry.event) before p.0

  module _ (sets : List Set) (right : AreRight (world_after h) sets) (s : ℕ) where
    module _ (limits : Limits) (legal : IsLegal limits after) where
      closed : IsClosed (world_after (h ++ more)).classes
      closed = subst (λ (k : List Event). IsClosed (world_after k).classes) on (legal_closed limits after legal)

      -- one that is remembered
      pub row_after : (x : ℕ) (o : Outcome) → remembered sets s x ≡ Some o → is_site_present (world_after (events_of after)) s ≡ true
          → is_concrete (world_after (events_of after)).classes x ≡ true → dispatch (world_after (events_of after)) s (Of x) ≡ answered o
      row_after x o is present concrete =
          ap (λ (k : List Event). dispatch (world_after k) s (Of x)) on
          ∙ row_answers h more s x o (right s x o is) closed (sym (ap (λ (k : List Event). is_site_present (world_after k) s) on) ∙ present)
          (sym (ap (λ (k : List Event). is_concrete (world_after k).classes x) on) ∙ concrete)

      -- an answer at once
      pub with_is_dispatch : (n : ℕ) (recv : Recv) (f : Fast) (a : Answer) → f ≡ answer_with sets (installed (events_of after) s) n s recv → f ≡ Now a
          → FitsMemo (events_of after) s recv → dispatch (world_after (events_of after)) s recv ≡ a
      with_is_dispatch n recv f a is now fits = by_mega (is_mega link) refl (sym is ∙ now)
        where
          link : Option Link
          link = installed (events_of after) s

          by_mega : (b : Bool) → is_mega link ≡ b → (if b then remembered_answer sets s recv else fast_answer link n recv) ≡ Now a
              → dispatch (world_after (events_of after)) s recv ≡ a
          by_mega true mega e =
              ap (λ (k : List Event). dispatch (world_after k) s recv) on
              ∙ remembered_is_dispatch h more sets right s recv a closed
              (mega_selects (h ++ more) s link (ap (λ (k : List Event). installed k s) on) mega)
              (subst (λ (k : List Event). IsObject (world_after k).classes recv) on (fits.1 (mega_is link mega))) e
          by_mega false mega e = now_is_dispatch (events_of after) s n recv (fast_answer link n recv) a refl e fits.0

    -- with what a call came to
    pub told_after : (link : Option Link) (recv : Recv) (a : Answer) → AreInOrder (world_after (events_of after)).classes → link ≡ installed (events_of after) s
        → dispatch (world_after (events_of after)) s recv ≡ a → AreRight (world_after (events_of after)) (told sets link s recv a)
    told_after link recv a order linked is =
        subst (λ (k : List Event). AreRight (world_after k) (told sets link s recv a)) (sym on)
        (told_right h more sets right
        (subst (λ (k : List Event). AreInOrder (world_after k).classes) on order)
        link s recv a
        (linked ∙ ap (λ (k : List Event). installed k s) on)
        (sym (ap (λ (k : List Event). dispatch (world_after k) s recv) on) ∙ is))

-- what a memo remembers is so after each legal list that goes on its own
pub row_stays : (limits : Limits) (m n : Remembering) → m ≡ n → AreRight (world_after (events_of m.seen)) m.sets → (s x : ℕ) (found : Option Outcome)
    → found ≡ remembered m.sets s x → IfSome found (HoldsFrom limits n.seen s x)
row_stays limits m n same right s x None is = tt
row_stays limits m n same right s x (Some o) is = λ later p legal present concrete.
    row_after n.seen later p n.sets (subst (λ (r : Remembering). AreRight (world_after (events_of r.seen)) r.sets) same right) s limits legal x o
    (ap (λ (r : Remembering). remembered r.sets s x) (sym same) ∙ sym is) present concrete

-- what is found in the published table
pub with_shown : (y : Table) (sets : List Set) (s : ℕ) (recv : Recv) (zs : List Entry) (f : Fast) → IsShown (content y) → zs ≡ y.list.reached.log
    → f ≡ answer_with sets (get_or y.links s None) y.classes s recv → f ≡ answer_with sets (installed (events_of zs) s) (classes_of zs) s recv
with_shown y sets s recv zs f shown same is =
    is ∙ (ap (λ (l : Option Link). answer_with sets l y.classes s recv)
    (ap (λ (ls : List (Option Link)). get_or ls s None) shown.links ∙ legal_shows y.limits y.list.reached.log shown.legal s)
    ∙ (ap (λ (k : ℕ). answer_with sets (installed (events_of y.list.reached.log) s) k s recv) shown.classes
    ∙ ap (λ (ws : List Entry). answer_with sets (installed (events_of ws) s) (classes_of ws) s recv) (sym same)))
