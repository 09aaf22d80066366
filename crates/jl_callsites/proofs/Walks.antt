-- By which call sites and valid points a call site comes to what it runs, and which changes leave both.
use Rattle.std.specs.Prelude.{◌≡◌, ℕ, zero, suc, ◌+◌, ◌<◌, ◌≤◌, ◌==◌, ◌&&◌, Bool, true, false, nat_lt, List, [], ◌∷◌, length}
use Rattle.std.specs.Prelude.{Option, Some, None, option_and_then, if◌then◌else◌}
use Rattle.std.specs.List.{AllByRecursion}
use Rattle.std.specs.Option.{option_map_or}
use Rattle.std.proofs.Common.{refl, ap, sym, ◌∙◌, arith}
use Rattle.std.proofs.lemmas.Bool.{or_left, or_right, ltb-true, both_ways}
use Rattle.std.proofs.lemmas.Bool.Decides.{Decides-eqb}
use Rattle.std.proofs.lemmas.Cmp.{nat_eq_equiv}
use Rattle.jl_types.specs.declared.key.Key.{Key}
use Rattle.jl_types.specs.declared.key.Key.TheVariants as key
use Rattle.jl_types.specs.Values.Target.{Target, Method, Guard, Invoker}
use Rattle.jl_types.specs.Values.World.{Sites, CallSite, unreleased}
use Rattle.jl_types.specs.Linkage.Targets.{is_valid, run_by, run_below, method_of}
use Rattle.jl_types.specs.Events.Footprints.{has_key, way_by, way_below, path}
use Rattle.jl_types.proofs.Bools.{first_test, second_test}
use Rattle.jl_callsites.specs.Known.{is_known}

less_or_same : (c n : ℕ) → c < suc n → (n == c) ≡ false → c < n
less_or_same c n lt ne = by_order (nat_lt c n) refl
  where
    by_order : (b : Bool) → nat_lt c n ≡ b → c < n
    by_order true is = ltb-true c n is
    by_order false is = absurd (both_ways (n == c) ne ((Decides-eqb n c).1 (grind (arith, is, lt))))

-- ---- an earlier call site

module _ (sites : Sites) where
  -- an invoker stands for what its call site runs
  pub invoked_runs : (n c : ℕ) → c < n → run_below sites n c ≡ method_of sites c
  invoked_runs zero c lt = absurd (omega arith)
  invoked_runs (suc n) c lt = by_number (n == c) refl (invoked_runs n c)
    where
      by_number : (b : Bool) → (n == c) ≡ b → (c < n → run_below sites n c ≡ method_of sites c)
          → (if b then option_and_then (λ site. run_by sites (run_below sites n) site.target) (unreleased sites.call_sites c) else run_below sites n c)
          ≡ method_of sites c
      by_number true is rest =
          ap (λ k. option_and_then (λ site. run_by sites (run_below sites k) site.target) (unreleased sites.call_sites c)) ((Decides-eqb n c).0 is)
      by_number false is rest = rest (less_or_same c n lt is)

  -- and comes by what that one comes by
  pub invoked_way : (n c : ℕ) → c < n → way_below sites n c ≡ path sites c
  invoked_way zero c lt = absurd (omega arith)
  invoked_way (suc n) c lt = by_number (n == c) refl (invoked_way n c)
    where
      by_number : (b : Bool) → (n == c) ≡ b → (c < n → way_below sites n c ≡ path sites c)
          → (if b then key.Target c ∷ option_map_or (λ site. way_by sites (way_below sites n) site.target) (unreleased sites.call_sites c) [] else way_below
          sites n c) ≡ path sites c
      by_number true is rest =
          ap (λ k. key.Target c ∷ option_map_or (λ site. way_by sites (way_below sites k) site.target) (unreleased sites.call_sites c) [])
          ((Decides-eqb n c).0 is)
      by_number false is rest = rest (less_or_same c n lt is)

  -- no invoker stands for anything where its call site doesn't come before
  pub later_runs : (n c : ℕ) → n ≤ c → run_below sites n c ≡ None
  later_runs zero c le = refl
  later_runs (suc n) c le = by_number (n == c) refl (later_runs n c (omega arith))
    where
      by_number : (b : Bool) → (n == c) ≡ b → run_below sites n c ≡ None
          → (if b then option_and_then (λ site. run_by sites (run_below sites n) site.target) (unreleased sites.call_sites c) else run_below sites n c) ≡ None
      by_number true is rest = let same = (Decides-eqb n c).0 is in absurd (omega arith)
      by_number false is rest = rest

  pub later_way : (n c : ℕ) → n ≤ c → way_below sites n c ≡ []
  later_way zero c le = refl
  later_way (suc n) c le = by_number (n == c) refl (later_way n c (omega arith))
    where
      by_number : (b : Bool) → (n == c) ≡ b → way_below sites n c ≡ []
          → (if b then key.Target c ∷ option_map_or (λ site. way_by sites (way_below sites n) site.target) (unreleased sites.call_sites c) [] else way_below
          sites n c) ≡ []
      by_number true is rest = let same = (Decides-eqb n c).0 is in absurd (omega arith)
      by_number false is rest = rest

-- ---- what is on a way

-- a call site with a number below n, and a valid point
abbrev pub IsOn : Sites → ℕ → Key → Type 0
IsOn sites n (key.Receivers c) = ⊥
IsOn sites n (key.Target c) = c < n
IsOn sites n (key.Valid p) = is_valid sites p ≡ true

module _ (sites : Sites) where
  on_more : (n m : ℕ) → n ≤ m → (ks : List Key) → AllByRecursion (IsOn sites n) ks → AllByRecursion (IsOn sites m) ks
  on_more n m le [] h = tt
  on_more n m le (key.Receivers c ∷ ks) h = absurd h.0
  on_more n m le (key.Target c ∷ ks) h = (let lt = h.0 in omega arith, on_more n m le ks h.1)
  on_more n m le (key.Valid p ∷ ks) h = (h.0, on_more n m le ks h.1)

  on_part : (n : ℕ) → ((c : ℕ) → AllByRecursion (IsOn sites n) (way_below sites n c)) → (t : Target)
      → AllByRecursion (IsOn sites n) (way_by sites (way_below sites n) t)
  on_part n earlier (Method m) = tt
  on_part n earlier (Guard p first fallback) = by_valid (is_valid sites p) refl (on_part n earlier first) (on_part n earlier fallback)
    where
      by_valid : (b : Bool) → is_valid sites p ≡ b
          → AllByRecursion (IsOn sites n) (way_by sites (way_below sites n) first) → AllByRecursion (IsOn sites n) (way_by sites (way_below sites n) fallback)
          → AllByRecursion (IsOn sites n) (if b then key.Valid p ∷ way_by sites (way_below sites n) first else way_by sites (way_below sites n) fallback)
      by_valid true is one two = (is, one)
      by_valid false is one two = two
  on_part n earlier (Invoker c) = earlier c

  on_target : (n c : ℕ) → ((d : ℕ) → AllByRecursion (IsOn sites n) (way_below sites n d))
      → AllByRecursion (IsOn sites n) (option_map_or (λ site. way_by sites (way_below sites n) site.target) (unreleased sites.call_sites c) [])
  on_target n c earlier = by_row (unreleased sites.call_sites c)
    where
      by_row : (o : Option CallSite) → AllByRecursion (IsOn sites n) (option_map_or (λ site. way_by sites (way_below sites n) site.target) o [])
      by_row None = tt
      by_row (Some site) = on_part n earlier site.target

  pub on_way : (n c : ℕ) → AllByRecursion (IsOn sites n) (way_below sites n c)
  on_way zero c = tt
  on_way (suc n) c = by_number (n == c) refl (on_way n)
    where
      by_number : (b : Bool) → (n == c) ≡ b → ((d : ℕ) → AllByRecursion (IsOn sites n) (way_below sites n d))
          → AllByRecursion (IsOn sites (suc n))
          (if b then key.Target c ∷ option_map_or (λ site. way_by sites (way_below sites n) site.target) (unreleased sites.call_sites c) [] else way_below sites
          n c)
      by_number true is rest = let same = (Decides-eqb n c).0 is in (omega arith, on_more n (suc n) (omega arith) _ (on_target n c rest))
      by_number false is rest = on_more n (suc n) (omega arith) (way_below sites n c) (rest c)

  pub on_target_way : (c : ℕ) (t : Target) → AllByRecursion (IsOn sites c) (way_by sites (way_below sites c) t)
  on_target_way c t = on_part c (on_way c) t

  pub on_path : (c : ℕ) → AllByRecursion (IsOn sites (c + 1)) (path sites c)
  on_path c = (omega arith, on_more c (c + 1) (omega arith) _ (on_target c c (on_way c)))

-- ---- what changes leave

module _ (old new : Sites) where
  -- what is on a way is there afterwards: the call site with its target, and that the point is valid
  abbrev pub Keeps : Key → Type 0
  Keeps (key.Receivers c) = Unit {0}
  Keeps (key.Target c) = unreleased new.call_sites c ≡ unreleased old.call_sites c
  Keeps (key.Valid p) = is_valid new p ≡ true

  -- no invalid point of the target's guards becomes valid
  abbrev pub StaysInvalid : Target → Type 0
  StaysInvalid (Method m) = Unit {0}
  StaysInvalid (Guard p first fallback) = (is_valid old p ≡ false → is_valid new p ≡ false) × (StaysInvalid first) × (StaysInvalid fallback)
  StaysInvalid (Invoker c) = Unit {0}

  pub all_invalid : ((p : ℕ) → is_valid old p ≡ false → is_valid new p ≡ false) → (t : Target) → StaysInvalid t
  all_invalid off (Method m) = tt
  all_invalid off (Guard p first fallback) = (off p, all_invalid off first, all_invalid off fallback)
  all_invalid off (Invoker c) = tt

  pub known_invalid : ((p : ℕ) → p < length old.switches → is_valid old p ≡ false → is_valid new p ≡ false) → (c : ℕ) (t : Target)
      → is_known (length old.switches) c t ≡ true → StaysInvalid t
  known_invalid off c (Method m) known = tt
  known_invalid off c (Guard p first fallback) known =
      let n = length old.switches in
      let rest = second_test (nat_lt p n) (is_known n c first && is_known n c fallback) known in (
        off p (ltb-true p n (first_test (nat_lt p n) (is_known n c first && is_known n c fallback) known)),
        known_invalid off c first (first_test (is_known n c first) (is_known n c fallback) rest),
        known_invalid off c fallback (second_test (is_known n c first) (is_known n c fallback) rest),
      )
  known_invalid off c (Invoker d) known = tt

  -- an invoker of call site c, in the target of one with number n, stands for what it stood for
  record Earlier (n c : ℕ) : Type 0 where
    runs : run_below new n c ≡ run_below old n c
    way : way_below new n c ≡ way_below old n c

  -- a target of the call site of number n comes to the same method by the same way
  pub record Walks (n : ℕ) (t : Target) : Type 0 where
    pub runs : run_by new (run_below new n) t ≡ run_by old (run_below old n) t
    pub way : way_by new (way_below new n) t ≡ way_by old (way_below old n) t

  part_walks : (n : ℕ) → ((c : ℕ) → AllByRecursion Keeps (way_below old n c) → Earlier n c) → (t : Target) → StaysInvalid t
      → AllByRecursion Keeps (way_by old (way_below old n) t) → Walks n t
  part_walks n earlier (Method m) off on = record { runs = refl; way = refl }
  part_walks n earlier (Guard p first fallback) off on =
      by_valid (is_valid old p) refl (part_walks n earlier first off.1) (part_walks n earlier fallback off.2) on
    where
      by_valid : (b : Bool) → is_valid old p ≡ b
          → (AllByRecursion Keeps (way_by old (way_below old n) first) → Walks n first)
          → (AllByRecursion Keeps (way_by old (way_below old n) fallback) → Walks n fallback)
          → AllByRecursion Keeps (if b then key.Valid p ∷ way_by old (way_below old n) first else way_by old (way_below old n) fallback)
          → Walks n (Guard p first fallback)
      by_valid true is one two on =
          let w = one on.1 in
          record {
            runs =
                ap (λ (b : Bool). if b then run_by new (run_below new n) first else run_by new (run_below new n) fallback) on.0 ∙ w.runs
                ∙ sym (ap (λ (b : Bool). if b then run_by old (run_below old n) first else run_by old (run_below old n) fallback) is);
            way =
                ap (λ (b : Bool). if b then key.Valid p ∷ way_by new (way_below new n) first else way_by new (way_below new n) fallback) on.0
                ∙ ap (λ (ks : List Key). key.Valid p ∷ ks) w.way
                ∙ sym (ap (λ (b : Bool). if b then key.Valid p ∷ way_by old (way_below old n) first else way_by old (way_below old n) fallback) is);
          }
      by_valid false is one two on =
          let w = two on in
          record {
            runs =
                ap (λ (b : Bool). if b then run_by new (run_below new n) first else run_by new (run_below new n) fallback) (off.0 is) ∙ w.runs
                ∙ sym (ap (λ (b : Bool). if b then run_by old (run_below old n) first else run_by old (run_below old n) fallback) is);
            way =
                ap (λ (b : Bool). if b then key.Valid p ∷ way_by new (way_below new n) first else way_by new (way_below new n) fallback) (off.0 is)
                ∙ w.way
                ∙ sym (ap (λ (b : Bool). if b then key.Valid p ∷ way_by old (way_below old n) first else way_by old (way_below old n) fallback) is);
          }
  part_walks n earlier (Invoker c) off on = let one = earlier c on in record { runs = one.runs; way = one.way }

  module _ (fine : (c : ℕ) (site : CallSite) → unreleased old.call_sites c ≡ Some site → StaysInvalid site.target) where
    -- a call site with its target, over those with numbers below n
    record Row (n c : ℕ) : Type 0 where
      runs : option_and_then (λ site. run_by new (run_below new n) site.target) (unreleased new.call_sites c)
          ≡ option_and_then (λ site. run_by old (run_below old n) site.target) (unreleased old.call_sites c)
      way : option_map_or (λ site. way_by new (way_below new n) site.target) (unreleased new.call_sites c) []
          ≡ option_map_or (λ site. way_by old (way_below old n) site.target) (unreleased old.call_sites c) []

    row_walks : (n c : ℕ) → ((d : ℕ) → AllByRecursion Keeps (way_below old n d) → Earlier n d)
        → unreleased new.call_sites c ≡ unreleased old.call_sites c
        → AllByRecursion Keeps (option_map_or (λ site. way_by old (way_below old n) site.target) (unreleased old.call_sites c) []) → Row n c
    row_walks n c earlier same on = by_row (unreleased old.call_sites c) refl on
      where
        by_row : (o : Option CallSite) → unreleased old.call_sites c ≡ o
            → AllByRecursion Keeps (option_map_or (λ site. way_by old (way_below old n) site.target) o []) → Row n c
        by_row None at on = record {
          runs =
              ap (option_and_then (λ site. run_by new (run_below new n) site.target)) (same ∙ at)
              ∙ sym (ap (option_and_then (λ site. run_by old (run_below old n) site.target)) at);
          way =
              ap (λ (o : Option CallSite). option_map_or (λ site. way_by new (way_below new n) site.target) o []) (same ∙ at)
              ∙ sym (ap (λ (o : Option CallSite). option_map_or (λ site. way_by old (way_below old n) site.target) o []) at);
        }
        by_row (Some site) at on =
            let w = part_walks n earlier site.target (fine c site at) on in
            record {
              runs =
                  ap (option_and_then (λ site. run_by new (run_below new n) site.target)) (same ∙ at) ∙ w.runs
                  ∙ sym (ap (option_and_then (λ site. run_by old (run_below old n) site.target)) at);
              way =
                  ap (λ (o : Option CallSite). option_map_or (λ site. way_by new (way_below new n) site.target) o []) (same ∙ at) ∙ w.way
                  ∙ sym (ap (λ (o : Option CallSite). option_map_or (λ site. way_by old (way_below old n) site.target) o []) at);
            }

    earlier_walks : (n c : ℕ) → AllByRecursion Keeps (way_below old n c) → Earlier n c
    earlier_walks zero c on = record { runs = refl; way = refl }
    earlier_walks (suc n) c on = by_number (n == c) refl (earlier_walks n) on
      where
        by_number : (b : Bool) → (n == c) ≡ b → ((d : ℕ) → AllByRecursion Keeps (way_below old n d) → Earlier n d)
            → AllByRecursion Keeps
            (if b then key.Target c ∷ option_map_or (λ site. way_by old (way_below old n) site.target) (unreleased old.call_sites c) [] else way_below old n c)
            → Earlier (suc n) c
        by_number true is rest on =
            let r = row_walks n c rest on.0 on.1 in
            record {
              runs =
                  ap (λ (b : Bool). if b then option_and_then (λ site. run_by new (run_below new n) site.target)
                  (unreleased new.call_sites c) else run_below new n c) is
                  ∙ r.runs
                  ∙ sym (ap (λ (b : Bool). if b then option_and_then (λ site. run_by old (run_below old n) site.target)
                  (unreleased old.call_sites c) else run_below old n c) is);
              way =
                  ap (λ (b : Bool). if b then key.Target c ∷ option_map_or (λ site. way_by new (way_below new n) site.target)
                  (unreleased new.call_sites c) [] else way_below new n c) is
                  ∙ ap (λ (ks : List Key). key.Target c ∷ ks) r.way
                  ∙ sym (ap (λ (b : Bool). if b then key.Target c ∷ option_map_or (λ site. way_by old (way_below old n) site.target)
                  (unreleased old.call_sites c) [] else way_below old n c) is);
            }
        by_number false is rest on =
            let e = rest c on in
            record {
              runs =
                  ap (λ (b : Bool). if b then option_and_then (λ site. run_by new (run_below new n) site.target)
                  (unreleased new.call_sites c) else run_below new n c) is
                  ∙ e.runs
                  ∙ sym (ap (λ (b : Bool). if b then option_and_then (λ site. run_by old (run_below old n) site.target)
                  (unreleased old.call_sites c) else run_below old n c) is);
              way =
                  ap (λ (b : Bool). if b then key.Target c ∷ option_map_or (λ site. way_by new (way_below new n) site.target)
                  (unreleased new.call_sites c) [] else way_below new n c) is
                  ∙ e.way
                  ∙ sym (ap (λ (b : Bool). if b then key.Target c ∷ option_map_or (λ site. way_by old (way_below old n) site.target)
                  (unreleased old.call_sites c) [] else way_below old n c) is);
            }

    -- a target of call site c
    pub target_walks : (c : ℕ) (t : Target) → StaysInvalid t → AllByRecursion Keeps (way_by old (way_below old c) t) → Walks c t
    target_walks c t off on = part_walks c (earlier_walks c) t off on

    -- a call site runs what it ran, by the same way
    pub site_walks : (c : ℕ) → AllByRecursion Keeps (path old c) → (method_of new c ≡ method_of old c) × (path new c ≡ path old c)
    site_walks c on =
        let r = row_walks c c (earlier_walks c) on.0 on.1 in
        (r.runs, ap (λ (ks : List Key). key.Target c ∷ ks) r.way)

  -- what is on a way is kept
  pub kept_on : (n : ℕ) (ks : List Key) → AllByRecursion (IsOn old n) ks
      → ((d : ℕ) → d < n → has_key ks (key.Target d) ≡ true → unreleased new.call_sites d ≡ unreleased old.call_sites d)
      → ((p : ℕ) → is_valid old p ≡ true → has_key ks (key.Valid p) ≡ true → is_valid new p ≡ true)
      → AllByRecursion Keeps ks
  kept_on n [] on rows points = tt
  kept_on n (key.Receivers c ∷ ks) on rows points = absurd on.0
  kept_on n (key.Target c ∷ ks) on rows points = (
    rows c on.0 (or_left (c == c) (has_key ks (key.Target c)) (nat_eq_equiv.refl c)),
    kept_on n ks on.1 (λ d lt h. rows d lt (or_right (c == d) (has_key ks (key.Target d)) h)) (λ p valid h. points p valid h),
  )
  kept_on n (key.Valid q ∷ ks) on rows points = (
    points q on.0 (or_left (q == q) (has_key ks (key.Valid q)) (nat_eq_equiv.refl q)),
    kept_on n ks on.1 (λ d lt h. rows d lt h) (λ p valid h. points p valid (or_right (q == p) (has_key ks (key.Valid p)) h)),
  )
