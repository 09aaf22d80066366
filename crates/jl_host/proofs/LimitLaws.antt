-- The limits of a linker that opens, and of a fresh one, are such as a linker may have.
use Rattle.std.specs.Prelude.{◌≡◌, ◌==◌, ◌^◌, ◌≤◌, ℕ, zero, suc, nat_le, Bool, true, false, if◌then◌else◌, ◌&&◌}
use Rattle.std.proofs.Common.{refl, arith}
use Rattle.std.proofs.lemmas.Bool.{leb-true}
use Rattle.jl_types.specs.declared.limits.Limits.{Limits}
use Rattle.jl_types.specs.Events.Limits.{AreAllowed, AreNoFewer}
use Rattle.jl_types.proofs.Bools.{first_test, second_test}
use Rattle.jl_core.specs.State.{State}
use Rattle.jl_host.specs.Linkers.{most_sites, wide, may_be_asked, limit_asked, limits_asked}
use Rattle.jl_host.specs.Renewals.{limits_for}

pub wide_allowed : (max_sites : ℕ) → 1 ≤ max_sites → AreAllowed (wide max_sites)
wide_allowed max_sites some = record {
  some_sites = some;
  some_loaders = omega arith;
  few_loaders = omega arith;
  few_classes = omega arith;
  few_call_sites = omega arith;
  few_switches = omega arith;
}

-- ---- limits that are asked for

asked_some : (n : ℕ) → 1 ≤ limit_asked n
asked_some n = by_test n (n == 0) refl
  where
    by_test : (n : ℕ) (b : Bool) → (n == 0) ≡ b → 1 ≤ (if b then 2 ^ 20 else n)
    by_test n true e = omega arith
    by_test zero false e = cc
    by_test (suc n) false e = omega arith

asked_few : (n : ℕ) → n ≤ 2 ^ 20 → limit_asked n ≤ 2 ^ 20
asked_few n few = by_test (n == 0)
  where
    by_test : (b : Bool) → (if b then 2 ^ 20 else n) ≤ 2 ^ 20
    by_test true = omega arith
    by_test false = few

pub asked_allowed : (asked : Limits) → may_be_asked asked ≡ true → AreAllowed (limits_asked asked)
asked_allowed asked may =
    let sites = nat_le asked.sites most_sites in
    let loaders = nat_le asked.loaders (2 ^ 20) in
    let classes = nat_le asked.classes (2 ^ 20) in
    let call_sites = nat_le asked.call_sites (2 ^ 20) in
    let switches = nat_le asked.switches (2 ^ 20) in
    let a = second_test (nat_le 1 asked.sites) (sites && (loaders && (classes && (call_sites && switches)))) may in
    let b = second_test sites (loaders && (classes && (call_sites && switches))) a in
    let c = second_test loaders (classes && (call_sites && switches)) b in
    let d = second_test classes (call_sites && switches) c in
    record {
      some_sites = leb-true 1 asked.sites (first_test (nat_le 1 asked.sites) (sites && (loaders && (classes && (call_sites && switches)))) may);
      some_loaders = asked_some asked.loaders;
      few_loaders = asked_few asked.loaders (leb-true asked.loaders (2 ^ 20) (first_test loaders (classes && (call_sites && switches)) b));
      few_classes = asked_few asked.classes (leb-true asked.classes (2 ^ 20) (first_test classes (call_sites && switches) c));
      few_call_sites = asked_few asked.call_sites (leb-true asked.call_sites (2 ^ 20) (first_test call_sites switches d));
      few_switches = asked_few asked.switches (leb-true asked.switches (2 ^ 20) (second_test call_sites switches d));
    }

-- ---- those of a fresh linker

pub allowed_for : (core : State) (max_sites : ℕ) → AreAllowed core.limits → 1 ≤ max_sites → AreAllowed (limits_for core max_sites)
allowed_for core max_sites allowed some = record {
  some_sites = some;
  some_loaders = allowed.some_loaders;
  few_loaders = allowed.few_loaders;
  few_classes = allowed.few_classes;
  few_call_sites = allowed.few_call_sites;
  few_switches = allowed.few_switches;
}

pub no_fewer_for : (core : State) (max_sites : ℕ) → core.limits.sites ≤ max_sites → AreNoFewer core.limits (limits_for core max_sites)
no_fewer_for core max_sites le = record {
  sites = le;
  loaders = omega arith;
  classes = omega arith;
  call_sites = omega arith;
  switches = omega arith;
}
