-- Why an accepted event isn't carried over to a fresh core beside the old one.
use Rattle.std.specs.Prelude.{◌≡◌, Bool, true, false, Option, Some, None, option_and_then, is_some, Result, Ok, Err, IsOk, IfErr}
use Rattle.std.proofs.Common.{refl, sym, ap, subst, ◌∙◌, inl, inr}
use Rattle.jl_types.specs.Values.World.{World}
use Rattle.jl_types.specs.Events.Event.{Event}
use Rattle.jl_types.specs.Events.Verdict.{verdict}
use Rattle.jl_events.specs.Accepted.{event_of}
use Rattle.jl_core.specs.State.{State, world_of}
use Rattle.jl_core.specs.Logs.{Entry}
use Rattle.jl_renewal.specs.declared.entries.CarryFault.{CarryFault}
use Rattle.jl_renewal.specs.declared.entries.CarryFault.TheVariants.{Gone, Refused}
use Rattle.jl_renewal.specs.Numbers.{Numbers}
use Rattle.jl_renewal.specs.Carries.{carried, carried_event, IsUncarried}
use Rattle.jl_renewal.specs.Moved.{Flags, IsBeside, may_be_gone, IsFaultBeside}
use Rattle.jl_renewal.proofs.StopLaws.{not_both}
use Rattle.jl_renewal.proofs.MovedGone.{is_there}
use Rattle.jl_renewal.proofs.MovedBeside.{taken}

module _ (k : Flags) (before fresh : State) (n : Numbers) (beside : IsBeside k before fresh n) (w : World) (entry : Entry) (e : Event)
    (named : event_of w.classes.rows entry.event ≡ Some e) (ok : IsOk (verdict before.limits (world_of before) e)) where
  carries : (o : Option Event) → carried_event w n entry ≡ o → carried n e ≡ o
  carries o is = sym (ap (option_and_then (carried n)) named) ∙ is

  gone_named : carried_event w n entry ≡ None → (b : Bool) → may_be_gone e ≡ b → may_be_gone e ≡ true
  gone_named gone true is = is
  gone_named gone false is =
      let there = subst (λ (m : Numbers). is_some (carried m e) ≡ true) (sym beside.numbers)
      (is_there k (world_of before) beside.rests before.limits e ok is) in
      absurd (apart (sym (ap (λ (o : Option Event). is_some o) (carries None gone)) ∙ there))
    where
      apart : false ≡ true → ⊥
      apart e = cc

  pub fault_beside : (fault : CarryFault) → IsUncarried w entry n fresh fault → IsFaultBeside e fault
  fault_beside Gone gone = gone_named gone (may_be_gone e) refl
  fault_beside (Refused r) (inl memory) = memory
  fault_beside (Refused r) (inr is) =
      absurd (not_both (verdict fresh.limits (world_of fresh) is.0) r is.2 (taken k before fresh n beside e is.0 (carries (Some is.0) is.1) ok))

  pub faults_beside : {X : Type 0} (result : Result X CarryFault) → IfErr result (IsUncarried w entry n fresh) → IfErr result (IsFaultBeside e)
  faults_beside (Ok x) fault = tt
  faults_beside (Err fault) is = fault_beside fault is
