-- Links that are brought up to date where events touched them.
use Rattle.std.specs.Prelude.{◌≡◌, ◌==◌, ◌||◌, ◌+◌, ◌<◌, ℕ, Bool, true, false, List, take, length, get_or, slice_set, Option, None, Result, Ok, Err}
use Rattle.std.specs.Prelude.{OnOk, OnErr}
use Rattle.std.specs.List.{list_any}
use Rattle.std.proofs.Common.{refl, sym, ap, ◌∙◌, subst}
use Rattle.std.proofs.lemmas.Bool.Decides.{Decides-eqb}
use Rattle.std.proofs.lemmas.List.{get_or-set_same, get_or-set_other}
use Rattle.std.proofs.lemmas.List.Folds.{list_any_more}
use Rattle.jl_types.specs.declared.link.Link.{Link}
use Rattle.jl_types.specs.Events.History.{installed}
use Rattle.jl_core.specs.State.{State, events}
use Rattle.jl_host.specs.Seats.{room_for}
use Rattle.jl_host.specs.ForProofs.Behind.{IsNow}

module _ (core : State) (links : List (Option Link)) (n : ℕ) (x : Option Link) (few : n < length links) (is : x ≡ installed (events core) n) where
  pub is_set : IsNow core (slice_set links n x) n
  is_set = get_or-set_same links n x None few ∙ is

  pub set_now : (s : ℕ) → IsNow core links s → IsNow core (slice_set links n x) s
  set_now s now = by_place (s == n) refl
    where
      by_place : (b : Bool) → (s == n) ≡ b → IsNow core (slice_set links n x) s
      by_place true e = subst (λ k. IsNow core (slice_set links n x) k) (sym ((Decides-eqb s n).0 e)) is_set
      by_place false e = get_or-set_other links n s x None (λ same. absurd (apart ((Decides-eqb s n).1 same))) ∙ now
        where
          apart : (s == n) ≡ true → ⊥
          apart f = cc

-- ---- one item more of a loop

-- what is right stays so, and each site that an item of these touches is right
pub record IsWritten {A : Type 0} (core : State) (test : ℕ → A → Bool) (items : List A) (old new : List (Option Link)) : Type 0 where
  pub all : length new ≡ room_for core.limits.sites
  pub kept : (s : ℕ) → IsNow core old s → IsNow core new s
  pub written : (s : ℕ) → s < room_for core.limits.sites → list_any (test s) items ≡ true → IsNow core new s

either : (a b : Bool) → (a || b) ≡ true → {P : Type 0} → (a ≡ true → P) → (b ≡ true → P) → P
either true b e f g = f refl
either false b e f g = g e

pub one_written : {A : Type 0} (core : State) (test : ℕ → A → Bool) (items : List A) (i : ℕ) (item : A) (old links new : List (Option Link)) → i < length items
    → item ≡ get_or items i item
    → IsWritten core test (take i items) old links → length new ≡ room_for core.limits.sites → ((s : ℕ) → IsNow core links s → IsNow core new s)
    → ((s : ℕ) → s < room_for core.limits.sites → test s item ≡ true → IsNow core new s) → IsWritten core test (take (i + 1) items) old new
one_written core test items i item old links new few at so_far all kept written = record {
  all = all;
  kept = λ s now. kept s (so_far.kept s now);
  written = λ s low e. either (list_any (test s) (take i items)) (test s item)
      (ap (λ k. list_any (test s) (take i items) || test s k) at ∙ sym (list_any_more (test s) items i item few) ∙ e)
      (λ before. kept s (so_far.written s low before)) (λ here. written s low here);
}

-- a site that has this number
pub at_site : (room : ℕ) (P : ℕ → Type 0) (k s : ℕ) → (k == s) ≡ true → (k < room → P k) → s < room → P s
at_site room P k s e h = subst (λ n. n < room → P n) ((Decides-eqb k s).0 e) h

-- ---- a write that may fail

pub kept_by : {E : Type 0} (core : State) (links new : List (Option Link)) (n : ℕ) (x : Option Link) (r : Result (Unit {0}) E) → n < length links
    → x ≡ installed (events core) n
    → OnOk r (new ≡ slice_set links n x) → OnErr r (new ≡ links) → (s : ℕ) → IsNow core links s → IsNow core new s
kept_by core links new n x (Ok u) few is ok err s now = subst (λ xs. IsNow core xs s) (sym ok) (set_now core links n x few is s now)
kept_by core links new n x (Err e) few is ok err s now = subst (λ xs. IsNow core xs s) (sym err) now
