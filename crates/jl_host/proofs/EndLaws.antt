-- The end of a renewal in steps.
use Rattle.std.specs.Prelude.{◌≡◌, ℕ, Bool, true, false, Option, Some, None, is_some, MatchBool}
use Rattle.std.proofs.Common.{refl, sym, ap, ◌∙◌, subst}
use Rattle.jl_core.specs.State.{State, world_of}
use Rattle.jl_host.specs.declared.renew.Counts.{Counts}
use Rattle.jl_host.specs.declared.told.Told.{Told}
use Rattle.jl_host.specs.Numbers.{too_short}
use Rattle.jl_host.specs.Linkers.{Opened}
use Rattle.jl_host.specs.Renewals.{Arrays, have_room, counts_of}
use Rattle.jl_host.specs.Renewing.{Renewing, IsFinished, IsUnfinished, IsEnd}

-- if the renewal has begun, the linker is open, the other one isn't, and the arrays have room
module _ (old : Renewing) (opened : Opened) (before : Arrays) (status : ℕ) (told : Told) (new : Option Renewing) (new_fresh : Option Opened)
    (after : Arrays) where
  abbrev Ends : Option Renewing → Option Opened → Option Opened → Type 0
  Ends renewal from fresh = IsEnd renewal from fresh before status told new new_fresh after

  abbrev IsSoFinished : State → Type 0
  IsSoFinished core = IsFinished core old before status told new new_fresh after

  pub ends : (renewal : Option Renewing) (from fresh : Option Opened) (core : State) (counts : Counts) (room : Bool) → renewal ≡ Some old
      → Some opened ≡ from → is_some fresh ≡ false → core ≡ opened.session.core → counts ≡ counts_of (world_of opened.session.core)
      → room ≡ have_room counts before → room ≡ true → (fresh ≡ None → IsSoFinished core) → Ends renewal from fresh
  ends renewal from None core counts room begun opens shut core_is are test fits finished =
      subst (λ r. Ends r from None) (sym begun)
      (subst (λ f. Ends (Some old) f None) opens
      (subst (λ b. MatchBool b (IsSoFinished opened.session.core) (IsUnfinished too_short (Some old) None before status told new new_fresh after))
      (sym fits ∙ test ∙ ap (λ c. have_room c before) are)
      (subst (λ core. IsSoFinished core) core_is (finished refl))))
  ends renewal from (Some other) core counts room begun opens shut core_is are test fits finished = cc
