use Rattle.std.specs.Prelude.{[], Some, drop}
use Rattle.std.proofs.Common.{◌∙◌, refl, sym, ap, subst, inl, inr}
use Rattle.std.proofs.lemmas.Result.{err_from_is_err_and}
use Rattle.jl_types.specs.declared.refusal.Refusal.TheVariants.{Memory}
use Rattle.jl_renewal.specs.declared.entries.CarryFault.TheVariants.{Refused}
use Rattle.jl_host.specs.Renewing.{Renewing, Fresh, AreCarried, AreAllCarried, StopsBefore}
use Rattle.jl_host.proofs.RenewingLaws.{all_in, all_are, on_ok, if_fault}
use Rattle.jl_host.proofs.begun.Begun.carry_all.Goals as goal

pub returns-in_err-carry_all-clause-stopped : goal.returns-in_err-carry_all-clause-stopped
returns-in_err-carry_all-clause-stopped c =
    let inside = c.self.inside in
    let fresh = c.in-Some.fresh in
    let after = c.carry_all.new.self in
    let to = c.carry_all.new.carried in
    let left = drop to inside.waiting.items in
    let fault = c.in_err-carry_all.field-0.0 in
    let p = err_from_is_err_and c.from_residual.result c.from_residual.ensures.1 in
    rw (p.1, p.2) (
      fresh,
      after,
      left,
      ap (λ (r : Renewing). r.fresh) (sym c.self.view_is) ∙ c.in-Some.is,
      inl (subst (λ (r : Renewing). StopsBefore r.defined r.waiting left fresh fault after) c.self.view_is
          (subst (λ entries. StopsBefore inside.defined (drop inside.carried entries) (drop to entries) fresh fault after) c.as_slice.ensures.value
          c.in_err-carry_all.ensures.uncarried)),
      λ i. record (c.self.view_is i) { fresh = Some after; waiting = left },
    )

pub returns-clause-carried : goal.returns-clause-carried
returns-clause-carried c =
    let inside = c.self.inside in
    let fresh = c.in-Some.fresh in
    let after = c.catch_up.new.self in
    let waiting = c.new.result.items in
    let old : Renewing = record {
      start = inside.start;
      fresh = inside.fresh;
      limits = inside.limits;
      taken = inside.taken;
      waiting = drop inside.carried inside.waiting.items;
      defined = inside.defined;
    }
    in
    let new : Renewing = record old { fresh = Some after; waiting = waiting } in
    let carried =
    subst (λ (f : Fresh). AreCarried inside.defined old.waiting fresh f) (sym c.catch_up.ensures.same)
    (all_in inside.defined c.as_slice.result.now inside.waiting.items inside.carried c.carry_all.new.carried fresh c.carry_all.new.self
    c.as_slice.ensures.value c.in_ok-carry_all.ensures.all c.in_ok-carry_all.ensures.carried)
    in
    on_ok c.catch_up.result _
    (subst (λ (before : Renewing). AreAllCarried before new) c.self.view_is
    (all_are old fresh after waiting c.in-Some.is carried c.new.ensures.items))

pub returns-clause-stopped : goal.returns-clause-stopped
returns-clause-stopped c =
    let inside = c.self.inside in
    let fresh = c.in-Some.fresh in
    let after = c.catch_up.new.self in
    let carried =
    subst (λ (f : Fresh). AreCarried inside.defined (drop inside.carried inside.waiting.items) fresh f) (sym c.catch_up.ensures.same)
    (all_in inside.defined c.as_slice.result.now inside.waiting.items inside.carried c.carry_all.new.carried fresh c.carry_all.new.self
    c.as_slice.ensures.value c.in_ok-carry_all.ensures.all c.in_ok-carry_all.ensures.carried)
    in
    if_fault c.catch_up.result _ (Refused Memory) c.catch_up.ensures.lacks (
      fresh,
      after,
      [],
      ap (λ (r : Renewing). r.fresh) (sym c.self.view_is) ∙ c.in-Some.is,
      inr (refl, refl, subst (λ (r : Renewing). AreCarried r.defined r.waiting fresh after) c.self.view_is carried),
      λ i. record (c.self.view_is i) { fresh = Some after; waiting = c.new.ensures.items i },
    )
