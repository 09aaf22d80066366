use Rattle.std.proofs.Common.{◌≡◌, ◌==◌, true, List, sym, ◌∙◌, ap, subst, arith, length, length-append, ◌++◌, ◌∷◌, []}
use Rattle.std.proofs.lemmas.Bool.Decides.{nat_tests}
use Rattle.jl_types.specs.Events.Entries.{Entry}
use Rattle.jl_types.specs.Events.Entries.{IsEntry, IsLegal, events_of}
use Rattle.jl_server.specs.History.{planned_entry}
use Rattle.jl_server.proofs.Adding.{adds_moves}
use Rattle.jl_types.proofs.Legal.{legal_more}
use Rattle.jl_server.proofs.seen.Seen.add.Goals as goal

pub compare_exchange-found-requires : goal.compare_exchange-found-requires
compare_exchange-found-requires g c =
    let h = c.head.invariant.0 in
    let again = c.again-reached.ensures in
    let offer = c.plain-offer.ensures in
    let pen = c.no_pen-pen.ensures in
    let book = ap (λ s. s.book) again ∙ c.self.invariant.1 in (
      ap (λ w. w.tracked) h,
      book ∙ sym (ap (λ w. w.book) h),
      pen.0 ∙ (book ∙ sym (ap (λ w. w.book) h)),
      offer.0,
      rw (ap (λ w. w.key) h, pen.1, offer.1, offer.3)
          (adds_moves c.again-reached.result.log (planned_entry c.args.planned.now) c.self.inside.serial c.in-Some.next (ap (λ s. length s.log) again
          ∙ sym c.self.invariant.0) (omega (arith, c.in-Some.ensures))),
    )

pub invariant_of-self : goal.invariant_of-self
invariant_of-self g c =
    let again = c.again-reached.ensures in
    let log = c.self.inside.reached.log in
    let e = planned_entry c.args.planned.now in
    let same : (c.compare_exchange-found.result == c.self.inside.serial) ≡ true = grind (arith, nat_tests, c.if-found-serial.false) in
    let grown : c.compare_exchange-found.new.seen.log ≡ log ++ e ∷ [] =
    c.compare_exchange-found.ensures.7 same ∙ (ap (λ s. s.log ++ c.plain-offer.result.ask ∷ []) again
    ∙ ap (λ (x : Entry). log ++ x ∷ []) c.plain-offer.ensures.1) in
    let entry : IsEntry g.K.Name.limits (events_of log) e = subst (λ (l : List Entry). IsEntry g.K.Name.limits (events_of l) e)
    (sym c.self.view_is) c.requires in (
      rw grown (omega (arith, length-append log (e ∷ []), c.self.invariant.0, c.in-Some.ensures)),
      c.compare_exchange-found.ensures.0 ∙ (ap (λ s. s.book) again ∙ c.self.invariant.1),
      subst (λ (l : List Entry). IsLegal g.K.Name.limits l) (sym grown) (legal_more g.K.Name.limits log e c.self.invariant.2 entry),
    )
