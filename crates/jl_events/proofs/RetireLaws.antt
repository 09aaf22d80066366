-- What the walks over classes and call sites say of a retirement of several loaders.
use Rattle.std.specs.Prelude.{◌≡◌, ℕ, Bool, true, false, not, List, [], ◌∷◌, map, Option, Some, None, option_map}
use Rattle.std.specs.List.{list_any}
use Rattle.std.proofs.Common.{refl, ap, sym}
use Rattle.jl_types.specs.declared.refusal.Refusal.{Refusal}
use Rattle.jl_types.specs.declared.refusal.Refusal.TheVariants as refusal
use Rattle.jl_types.specs.declared.refusal.RetireFault.{RetireFault}
use Rattle.jl_types.specs.declared.refusal.RetireFault.TheVariants.{Targeted}
use Rattle.jl_types.specs.Values.World.{World}
use Rattle.jl_types.specs.Linkage.Resolution.{first_of}
use Rattle.jl_types.specs.Events.Retirement.{MayRetire, has_target, retire_fault}
use Rattle.jl_types.specs.Events.Verdict.{retire_all_fault}
use Rattle.jl_types.proofs.Retiring.{free_all}
use Rattle.jl_callsites.specs.Targeted.{names_any}
use Rattle.jl_callsites.proofs.Spared.{spared}

not_true : (b : Bool) → not b ≡ true → b ≡ false
not_true true e = cc
not_true false e = refl

-- where neither the classes nor the call sites hold one of the loaders, all may go
pub none_held : (w : World) (loaders : List ℕ) → MayRetire w.classes loaders
    → not (list_any (has_target (names_any w.classes loaders)) w.sites.call_sites) ≡ true → retire_all_fault w loaders ≡ None
none_held w loaders may none =
    free_all w loaders (λ l there.
    (λ i. first_of (may l there i ∷ option_map Targeted (spared w.classes loaders l there w.sites.call_sites (not_true _ none) i) ∷ [])))

-- ---- one loader after another

abbrev pub faults_of : World → List ℕ → List ℕ → List (Option Refusal)
faults_of w loaders ls = map (λ l. option_map (refusal.RetireAll l) (retire_fault w loaders l)) ls

pub held_first : (w : World) (loaders rest : List ℕ) (l : ℕ) (fault : RetireFault) → retire_fault w loaders l ≡ Some fault
    → Some (refusal.RetireAll l fault) ≡ first_of (faults_of w loaders (l ∷ rest))
held_first w loaders rest l fault e =
    sym (ap (λ (o : Option RetireFault). first_of (option_map (refusal.RetireAll l) o ∷ faults_of w loaders rest)) e)

pub not_held : (w : World) (loaders rest : List ℕ) (l : ℕ) → retire_fault w loaders l ≡ None
    → first_of (faults_of w loaders rest) ≡ first_of (faults_of w loaders (l ∷ rest))
not_held w loaders rest l e =
    sym (ap (λ (o : Option RetireFault). first_of (option_map (refusal.RetireAll l) o ∷ faults_of w loaders rest)) e)

pub no_fault_then : (o : Option RetireFault) → ((f : RetireFault) → o ≡ Some f → ⊥) → o ≡ None
no_fault_then None none = refl
no_fault_then (Some f) none = absurd (none f refl)
