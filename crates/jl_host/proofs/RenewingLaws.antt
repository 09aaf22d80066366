-- Entries that are carried over one after another.
use Rattle.std.specs.Prelude.{◌≡◌, ◌⊎◌, ◌+◌, ◌<◌, ℕ, List, [], ◌∷◌, ◌++◌, drop, length, Option, Some, None}
use Rattle.std.specs.Prelude.{true, Result, Ok, Err, OnOk, OnErr, IfErr}
use Rattle.std.proofs.Common.{refl, sym, ap, ◌∙◌, subst, arith, inl, inr}
use Rattle.std.proofs.lemmas.List.{append_assoc, append-nil, drop_all}
use Rattle.jl_types.specs.Values.World.{World}
use Rattle.jl_types.specs.declared.link.Link.{Link}
use Rattle.jl_types.specs.declared.event.EventOf.TheVariants as event
use Rattle.jl_events.specs.Accepted.{Accepted}
use Rattle.jl_core.specs.State.{State}
use Rattle.jl_core.specs.Logs.{Entry}
use Rattle.jl_renewal.specs.declared.entries.CarryFault.{CarryFault}
use Rattle.jl_renewal.specs.Numbers.{Numbers}
use Rattle.jl_renewal.specs.Carries.{is_install, IsCarried, IsUncarried, IsAdded, AreLeft}
use Rattle.jl_host.specs.ForProofs.Behind.{IsBehind}
use Rattle.jl_host.specs.Renewing.{Start, Fresh, Renewing, IsOther, IsMade, IsReady}
use Rattle.jl_host.specs.Renewing.{IsCarriedOn, IsUncarriedOn, AreCarried, AreAllCarried, HasCarried, installs_of}
use Rattle.jl_host.proofs.CaughtUp.{accepted_behind}

then_carried : (w : World) (front : List Entry) (entry : Entry) (old between new : Fresh) → AreCarried w front old between
    → IsCarriedOn w entry between new → AreCarried w (front ++ entry ∷ []) old new
then_carried w [] entry old between new same one = (new, subst (λ m. IsCarriedOn w entry m new) same one, refl)
then_carried w (first ∷ front) entry old between new carried one =
    (carried.0, carried.1, then_carried w front entry carried.0 between new carried.2 one)

pub one_carried : (w : World) (entries : List Entry) (entry : Entry) (left : List Entry) (old between new : Fresh)
    → HasCarried w entries (entry ∷ left) old between → IsCarriedOn w entry between new → HasCarried w entries left old new
one_carried w entries entry left old between new so_far one =
    (so_far.0 ++ entry ∷ [], so_far.1 ∙ sym (append_assoc so_far.0 (entry ∷ []) left), then_carried w so_far.0 entry old between new so_far.2 one)

-- all were
pub all_carried : (w : World) (entries : List Entry) (old new : Fresh) → HasCarried w entries [] old new → AreCarried w entries old new
all_carried w entries old new carried =
    subst (λ front. AreCarried w front old new) (sym (carried.1 ∙ append-nil carried.0)) carried.2

-- ---- one of them

none_installed : (a : Accepted) → installs_of a ≡ None → is_install a ≡ true → ⊥
none_installed event.NewLoader none e = cc
none_installed (event.Define l c) none e = cc
none_installed (event.Delegate l name to) none e = cc
none_installed (event.Request place) none e = cc
none_installed (event.NewCallSite kind ty t) none e = cc
none_installed (event.SetTarget c t) none e = cc
none_installed event.NewSwitch none e = cc
none_installed (event.Invalidate points) none e = cc
none_installed (event.Bind s c) none e = cc
none_installed (event.Install rows) none e = cc
none_installed (event.Retire l) none e = cc
none_installed (event.RetireAll ls) none e = cc
none_installed (event.Release cs ps) none e = cc

module _ (w : World) (entry : Entry) (old new : Fresh) (none : installs_of entry.event ≡ None) where
  added : IsCarried w entry old.numbers new.numbers old.core new.core → IsAdded w entry old.numbers new.numbers old.core new.core
  added (inl install) = absurd (none_installed entry.event none install.0)
  added (inr is) = is

  pub carries_on : (r : Result (Unit {0}) CarryFault) → OnOk r (IsCarried w entry old.numbers new.numbers old.core new.core)
      → OnOk r (IsCarriedOn w entry old new)
  carries_on (Ok u) carried = rw none (added carried)
  carries_on (Err f) carried = carried

  pub uncarries_on : (r : Result (Unit {0}) CarryFault) → IfErr r (IsUncarried w entry old.numbers old.core)
      → IfErr r (AreLeft entry.reply.made old.numbers new.numbers) → OnErr r (new.core ≡ old.core) → IfErr r (λ fault. IsUncarriedOn w entry old fault new)
  uncarries_on (Ok u) why numbers core = why
  uncarries_on (Err f) why numbers core = record { why = rw none why; core = core; numbers = numbers }

pub carried_behind : (links : List (Option Link)) (k : ℕ) (old new : State) (w : World) (entry : Entry) (n m : Numbers) (r : Result (Unit {0}) CarryFault)
    → IsBehind links k old → OnOk r (IsCarried w entry n m old new) → OnErr r (new ≡ old) → IsBehind links k new
carried_behind links k old new w entry n m (Ok u) is (inl install) same = subst (IsBehind links k) (sym install.1.1) is
carried_behind links k old new w entry n m (Ok u) is (inr is_added) same =
    accepted_behind links k old new is_added.event is_added.made.reply is is_added.made.accepted
carried_behind links k old new w entry n m (Err f) is carried same = subst (IsBehind links k) (sym same) is

-- ---- a core that shows to be another one

pub is_other : (core : State) (old : Renewing) (all place : ℕ) → all ≡ length core.log → place ≡ old.taken → (all < place) ⊎ (place + 1 < all)
    → IsOther core old
is_other core old all place same at (inl few) = inl (omega (arith, few, same, at))
is_other core old all place same at (inr past) = inr (omega (arith, past, same, at))

-- ---- the fresh core is made

pub ready_from : (old : Renewing) (start : Start) (made : Fresh) → old.start ≡ Some start → IsMade start old.limits made
    → IsReady old (record old { start = None; fresh = Some made })
ready_from old start made is is_made = rw is (made, is_made, refl)

-- ---- how it ends

pub on_ok : {A E : Type 0} (r : Result A E) (P : Type 0) → P → OnOk r P
on_ok (Ok a) P p = p
on_ok (Err e) P p = tt

pub if_fault : {A E : Type 0} (r : Result A E) (P : E → Type 0) (e : E) → IfErr r (λ fault. fault ≡ e) → P e → IfErr r P
if_fault (Ok a) P e is p = tt
if_fault (Err f) P e is p = subst P (sym is) p

-- all that wait were carried over
pub all_in : (w : World) (xs ys : List Entry) (from to : ℕ) (old new : Fresh) → xs ≡ ys → to ≡ length xs
    → HasCarried w (drop from xs) (drop to xs) old new → AreCarried w (drop from ys) old new
all_in w xs ys from to old new same all carried =
    subst (λ entries. AreCarried w (drop from entries) old new) same
    (all_carried w (drop from xs) old new
    (subst (λ left. HasCarried w (drop from xs) left old new) (ap (λ n. drop n xs) all ∙ drop_all (length xs) xs (omega arith)) carried))

pub all_are : (old : Renewing) (fresh after : Fresh) (waiting : List Entry) → old.fresh ≡ Some fresh → AreCarried old.defined old.waiting fresh after
    → waiting ≡ [] → AreAllCarried old (record old { fresh = Some after; waiting = waiting })
all_are old fresh after waiting is carried none = rw is (after, carried, λ i. record old { fresh = Some after; waiting = none i })
