use Rattle.std.specs.Prelude.{◌≡◌, ◌==◌, Some, true, false}
use Rattle.std.proofs.Common.{◌∙◌, refl, sym, subst, arith}
use Rattle.std.proofs.lemmas.Bool.Decides.{nat_tests}
use Rattle.jl_host.specs.Numbers.{done}
use Rattle.jl_host.specs.Renewals.{arrays_of}
use Rattle.jl_host.specs.Renewing.{IsHandedOver}
use Rattle.jl_host.proofs.EndLaws.{ends}
use Rattle.jl_host.proofs.renewal.Renewal.finish.Goals as goal

pub returns-then-status-ne-DONE : goal.returns-then-status-ne-DONE
returns-then-status-ne-DONE c =
    let filling = c.fill_all-status.result in
    let filled = c.fill_all-status.new.self in
    let arrays = arrays_of c.args.loaders.now c.args.classes.now c.args.sites.now c.args.call_sites.now c.args.switches.now in
    let other = c.if-status-ne-DONE.true in
    let test : (filling == done) ≡ false = grind (arith, nat_tests) in (
      ends c.in-Some.begun c.in-Some-opened.opened.now arrays filling c.fill_all-status.new.told (Some filled) c.args.fresh.now arrays c.args.self.now
          c.args.from.now c.args.fresh.now c.core.result.now c.counts.result c.fit.result (sym c.self.view_is ∙ c.in-Some.is) c.in-Some-opened.ensures
          (sym c.is_open.ensures ∙ c.if-is_open.false) c.core.ensures c.counts.ensures c.fit.ensures c.if-not-fit.false
          (λ none. (filled, filling, c.fill_all-status.ensures, rw test (refl, refl, none, refl))),
      refl,
    )

pub returns : goal.returns
returns c =
    let filling = c.fill_all-status.result in
    let filled = c.fill_all-status.new.self in
    let arrays = arrays_of c.args.loaders.now c.args.classes.now c.args.sites.now c.args.call_sites.now c.args.switches.now in
    let new = c.hand_over.new in
    let after = arrays_of new.loaders new.classes new.sites new.call_sites new.switches in
    let same = c.if-status-ne-DONE.false in
    let test : (filling == done) ≡ true = grind (arith, nat_tests) in (
      ends c.in-Some.begun c.in-Some-opened.opened.now arrays c.hand_over.result c.fill_all-status.new.told new.renewal new.linker after c.args.self.now
          c.args.from.now c.args.fresh.now c.core.result.now c.counts.result c.fit.result (sym c.self.view_is ∙ c.in-Some.is) c.in-Some-opened.ensures
          (sym c.is_open.ensures ∙ c.if-is_open.false) c.core.ensures c.counts.ensures c.fit.ensures c.if-not-fit.false
          (λ none. (
            filled,
            filling,
            c.fill_all-status.ensures,
            rw test (subst (λ f. IsHandedOver (Some filled) f arrays c.hand_over.result new.renewal new.linker after) none c.hand_over.ensures),
          )),
      refl,
    )
