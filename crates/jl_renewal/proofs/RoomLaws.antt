-- Whether a fresh core may have what stays.
use Rattle.std.specs.Prelude.{◌≡◌, ℕ, zero, suc, ◌≤◌, nat_lt, Bool, false, List, [], ◌∷◌, ◌++◌, fold, take, length, slice_get}
use Rattle.std.specs.Prelude.{Option, Some, None, Result, Ok, Err, IsOk, not}
use Rattle.std.specs.Bool.{then_some}
use Rattle.std.proofs.Common.{refl, ap, ◌∙◌, arith, inl, inr}
use Rattle.std.proofs.lemmas.Bool.Decides.{nat_tests}
use Rattle.std.proofs.lemmas.List.FromFn.{length-map-range_with_len}
use Rattle.jl_types.specs.declared.event.Made.{Made}
use Rattle.jl_types.specs.declared.limits.Limits.{Limits}
use Rattle.jl_types.specs.declared.refusal.Refusal.{Refusal}
use Rattle.jl_types.specs.declared.refusal.Refusal.TheVariants.{SitesFull, LoadersFull, Define, CallSite}
use Rattle.jl_types.specs.declared.refusal.DefineFault.TheVariants as define
use Rattle.jl_types.specs.declared.refusal.CallSiteFault.TheVariants as fault
use Rattle.jl_types.specs.Values.World.{World, nothing_yet}
use Rattle.jl_types.specs.Values.Members.{is_present, is_retired}
use Rattle.jl_types.specs.Linkage.Resolution.{first_of}
use Rattle.jl_types.specs.Events.Event.{Event}
use Rattle.jl_types.specs.Events.Limits.{IsWithin}
use Rattle.jl_types.specs.Events.Verdict.{verdict, step}
use Rattle.jl_types.specs.Events.History.{world_after}
use Rattle.jl_types.proofs.Firsts.{first_none, test_none}
use Rattle.jl_types.proofs.Within.{within_step, within_at_first}
use Rattle.jl_renewal.specs.declared.released.Released.{Released}
use Rattle.jl_renewal.specs.Numbers.{how_many}
use Rattle.jl_renewal.specs.Staying.{staying_loaders, staying_classes, staying_sites, staying_call_sites, staying_switches}
use Rattle.jl_renewal.specs.Renewal.{renewal_fault, IsRefusedRenewal}
use Rattle.jl_renewal.specs.Room.{class_fault, call_site_fault, IsFault}
use Rattle.jl_renewal.proofs.Fit.{AllAccepted}
use Rattle.jl_renewal.proofs.NumberLaws.{many_fewer}
use Rattle.jl_renewal.proofs.StayLaws.{call_sites_length, switches_length}

-- it may have as many of each kind as stay
pub record HasRoom (limits : Limits) (w : World) (released : Released) : Type 0 where
  pub sites : how_many (staying_sites w.classes w.places) ≤ limits.sites
  pub loaders : how_many (staying_loaders w.classes) ≤ limits.loaders
  pub classes : how_many (staying_classes w.classes) ≤ limits.classes
  pub call_sites : how_many (staying_call_sites w released) ≤ limits.call_sites
  pub switches : how_many (staying_switches w released) ≤ limits.switches

-- as many of each kind as stay
abbrev pub as_many : World → Released → Limits
as_many w released = record {
  sites = how_many (staying_sites w.classes w.places);
  loaders = how_many (staying_loaders w.classes);
  classes = how_many (staying_classes w.classes);
  call_sites = how_many (staying_call_sites w released);
  switches = how_many (staying_switches w released);
}

pub has_as_many : (w : World) (released : Released) → HasRoom (as_many w released) w released
has_as_many w released = record {
  sites = omega arith;
  loaders = omega arith;
  classes = omega arith;
  call_sites = omega arith;
  switches = omega arith;
}

-- ---- one test

not_more : {A : Type 0} (most n : ℕ) (x : A) → then_some (nat_lt most n) x ≡ None → n ≤ most
not_more most n x none = within (test_none (nat_lt most n) x none)
  where
    within : nat_lt most n ≡ false → n ≤ most
    within e = grind (arith, nat_tests, e)

enough : {A : Type 0} (most n : ℕ) (x : A) → n ≤ most → then_some (nat_lt most n) x ≡ None
enough most n x le = ap (λ (b : Bool). then_some b x) less
  where
    less : nat_lt most n ≡ false
    less = grind (arith, nat_tests, le)

-- ---- the first of several

front_none : {A : Type 0} (xs ys : List (Option A)) → first_of xs ≡ None → first_of (xs ++ ys) ≡ first_of ys
front_none [] ys none = refl
front_none (None ∷ xs) ys none = front_none xs ys none
front_none (Some x ∷ xs) ys none = cc

front_some : {A : Type 0} (xs ys : List (Option A)) (r : A) → first_of xs ≡ Some r → first_of (xs ++ ys) ≡ Some r
front_some [] ys r is = cc
front_some (None ∷ xs) ys r is = front_some xs ys r is
front_some (Some x ∷ xs) ys r is = is

-- ---- all of them

module _ (limits : Limits) (w : World) (released : Released) where
  abbrev pub sites_fault : Option Refusal
  sites_fault = then_some (nat_lt limits.sites (how_many (staying_sites w.classes w.places))) SitesFull

  abbrev of_classes : List (Option Refusal)
  of_classes =
      then_some (nat_lt limits.loaders (how_many (staying_loaders w.classes))) LoadersFull
      ∷ then_some (nat_lt limits.classes (how_many (staying_classes w.classes))) (Define define.Full)
      ∷ []

  abbrev of_call_sites : List (Option Refusal)
  of_call_sites =
      then_some (nat_lt limits.call_sites (how_many (staying_call_sites w released))) (CallSite fault.Full)
      ∷ then_some (nat_lt limits.switches (how_many (staying_switches w released))) (CallSite fault.Full)
      ∷ []

  pub by_sites : (r : Refusal) → IsFault sites_fault r → IsRefusedRenewal limits w released r
  by_sites r (inl is) = inl (ap (λ (o : Option Refusal). first_of (o ∷ of_classes ++ of_call_sites)) is)
  by_sites r (inr lacks) = inr lacks

  pub by_classes : (r : Refusal) → sites_fault ≡ None → IsFault (class_fault limits w.classes) r → IsRefusedRenewal limits w released r
  by_classes r none (inl is) =
      inl (ap (λ (o : Option Refusal). first_of (o ∷ of_classes ++ of_call_sites)) none ∙ front_some of_classes of_call_sites r is)
  by_classes r none (inr lacks) = inr lacks

  -- those before are none
  later : sites_fault ≡ None → class_fault limits w.classes ≡ None → renewal_fault limits w released ≡ call_site_fault limits w released
  later none classes =
      ap (λ (o : Option Refusal). first_of (o ∷ of_classes ++ of_call_sites)) none ∙ front_none of_classes of_call_sites classes

  pub by_call_sites : (r : Refusal) → sites_fault ≡ None → class_fault limits w.classes ≡ None → IsFault (call_site_fault limits w released) r
      → IsRefusedRenewal limits w released r
  by_call_sites r none classes (inl is) = inl (later none classes ∙ is)
  by_call_sites r none classes (inr lacks) = inr lacks

  pub no_fault : sites_fault ≡ None → class_fault limits w.classes ≡ None → call_site_fault limits w released ≡ None
      → renewal_fault limits w released ≡ None
  no_fault none classes call_sites = later none classes ∙ call_sites

  pub has_room : renewal_fault limits w released ≡ None → HasRoom limits w released
  has_room none =
      let sites = first_none sites_fault (of_classes ++ of_call_sites) none in
      let loaders = first_none _ _ sites.1 in
      let classes = first_none _ _ loaders.1 in
      let call_sites = first_none _ _ classes.1 in
      let switches = first_none _ _ call_sites.1 in
      record {
        sites = not_more limits.sites (how_many (staying_sites w.classes w.places)) SitesFull sites.0;
        loaders = not_more limits.loaders (how_many (staying_loaders w.classes)) LoadersFull loaders.0;
        classes = not_more limits.classes (how_many (staying_classes w.classes)) (Define define.Full) classes.0;
        call_sites = not_more limits.call_sites (how_many (staying_call_sites w released)) (CallSite fault.Full) call_sites.0;
        switches = not_more limits.switches (how_many (staying_switches w released)) (CallSite fault.Full) switches.0;
      }

-- ---- what stays is no more than there is

of_fewer : (stays : List Bool) (n most : ℕ) → length stays ≡ n → n ≤ most → how_many stays ≤ most
of_fewer stays n most long le = let fewer = many_fewer stays in omega (arith, fewer, long, le)

-- a fresh core that may have as many of each kind but sites may have too few sites alone
pub only_sites : (limits : Limits) (max_sites : ℕ) (w : World) (released : Released) → IsWithin limits w
    → renewal_fault (record limits { sites = max_sites }) w released
    ≡ then_some (nat_lt max_sites (how_many (staying_sites w.classes w.places))) SitesFull
only_sites limits max_sites w released within =
    (λ i. first_of (sites ∷ loaders i ∷ classes i ∷ call_sites i ∷ switches i ∷ [])) ∙ alone sites
  where
    sites : Option Refusal
    sites = then_some (nat_lt max_sites (how_many (staying_sites w.classes w.places))) SitesFull

    loaders : then_some (nat_lt limits.loaders (how_many (staying_loaders w.classes))) LoadersFull ≡ None
    loaders =
        enough limits.loaders (how_many (staying_loaders w.classes)) LoadersFull
        (of_fewer (staying_loaders w.classes) (length w.classes.loaders) limits.loaders
        (length-map-range_with_len (λ l. not (is_retired w.classes l)) 0 (length w.classes.loaders)) within.loaders)

    classes : then_some (nat_lt limits.classes (how_many (staying_classes w.classes))) (Define define.Full) ≡ None
    classes =
        enough limits.classes (how_many (staying_classes w.classes)) (Define define.Full)
        (of_fewer (staying_classes w.classes) (length w.classes.rows) limits.classes
        (length-map-range_with_len (is_present w.classes) 0 (length w.classes.rows)) within.classes)

    call_sites : then_some (nat_lt limits.call_sites (how_many (staying_call_sites w released))) (CallSite fault.Full) ≡ None
    call_sites =
        enough limits.call_sites (how_many (staying_call_sites w released)) (CallSite fault.Full)
        (of_fewer (staying_call_sites w released) (length w.sites.call_sites) limits.call_sites (call_sites_length w released) within.call_sites)

    switches : then_some (nat_lt limits.switches (how_many (staying_switches w released))) (CallSite fault.Full) ≡ None
    switches =
        enough limits.switches (how_many (staying_switches w released)) (CallSite fault.Full)
        (of_fewer (staying_switches w released) (length w.sites.switches) limits.switches (switches_length w released) within.switches)

    alone : (o : Option Refusal) → first_of (o ∷ None ∷ None ∷ None ∷ None ∷ []) ≡ o
    alone None = refl
    alone (Some r) = refl

-- ---- what there is after accepted events

made_there : (r : Result Made Refusal) → IsOk r → (m : Made) × (r ≡ Ok m)
made_there (Ok m) ok = (m, refl)
made_there (Err r) ok = cc

within_from : (limits : Limits) (h : List Event) (w : World) → IsWithin limits w
    → ((n : ℕ) (e : Event) → slice_get h n ≡ Some e → IsOk (verdict limits (fold step w (take n h)) e)) → IsWithin limits (fold step w h)
within_from limits [] w within each = within
within_from limits (e ∷ h) w within each =
    let made = made_there (verdict limits w e) (each zero e refl) in
    within_from limits h (step w e) (within_step limits w e made.0 made.1 within) (λ n. each (suc n))

-- no more of a kind than the limits allow
pub accepted_within : (limits : Limits) → 1 ≤ limits.loaders → (h : List Event) → AllAccepted limits h → IsWithin limits (world_after h)
accepted_within limits some h all = within_from limits h nothing_yet (within_at_first limits some) all
