-- What an invoker comes by.
use Rattle.std.specs.Prelude.{◌≡◌, ℕ, ◌<◌, ◌≤◌, List, [], ◌∷◌, ◌++◌, filter_map, Option, Some, None}
use Rattle.std.specs.Option.{option_map_or}
use Rattle.std.proofs.Common.{ap, sym, ◌∙◌, append-nil, append_assoc}
use Rattle.jl_types.specs.Values.Target.{Target, Invoker}
use Rattle.jl_types.specs.Values.World.{Sites, CallSite, unreleased}
use Rattle.jl_types.specs.declared.key.Key.{Key}
use Rattle.jl_types.specs.declared.key.Key.TheVariants as key
use Rattle.jl_types.specs.Events.Footprints.{call_site_in, point_in}
use Rattle.jl_callsites.proofs.Walks.{invoked_way, later_way}
use Rattle.jl_deps.specs.Ways.{way}

module _ (sites : Sites) (n c : ℕ) where
  -- the call site, and what its target comes by
  pub way_invoked : (row : CallSite) → c < n → unreleased sites.call_sites c ≡ Some row → way sites n (Invoker c) ≡ key.Target c ∷ way sites c row.target
  way_invoked row lt at =
      invoked_way sites n c lt ∙ ap (λ (o : Option CallSite). key.Target c ∷ option_map_or (λ site. way sites c site.target) o []) at

  pub way_absent : c < n → unreleased sites.call_sites c ≡ None → way sites n (Invoker c) ≡ key.Target c ∷ []
  way_absent lt at = invoked_way sites n c lt ∙ ap (λ (o : Option CallSite). key.Target c ∷ option_map_or (λ site. way sites c site.target) o []) at

  pub way_later : n ≤ c → way sites n (Invoker c) ≡ []
  way_later le = later_way sites n c le

-- ---- what was pushed so far, and what is still to come

-- nothing is
pub ends : (f : Key → Option ℕ) (before all : List ℕ) (ks : List Key) → ks ≡ [] → before ++ filter_map f ks ≡ all → before ≡ all
ends f before all ks none e = sym (append-nil before) ∙ ap (λ (ks : List Key). before ++ filter_map f ks) (sym none) ∙ e

-- a call site comes first
pub goes_on : (before after all : List ℕ) (ks rest : List Key) (c : ℕ) → ks ≡ key.Target c ∷ rest → after ≡ before ++ c ∷ []
    → before ++ filter_map call_site_in ks ≡ all → after ++ filter_map call_site_in rest ≡ all
goes_on before after all ks rest c is pushed e =
    ap (λ (xs : List ℕ). xs ++ filter_map call_site_in rest) pushed
    ∙ append_assoc before (c ∷ []) (filter_map call_site_in rest)
    ∙ ap (λ (ks : List Key). before ++ filter_map call_site_in ks) (sym is) ∙ e

-- which is no point
pub passes : (before all : List ℕ) (ks rest : List Key) (c : ℕ) → ks ≡ key.Target c ∷ rest → before ++ filter_map point_in ks ≡ all
    → before ++ filter_map point_in rest ≡ all
passes before all ks rest c is e = ap (λ (ks : List Key). before ++ filter_map point_in ks) (sym is) ∙ e

-- ---- at an invoker

module _ (sites : Sites) (n c : ℕ) (target : Target) (is : target ≡ Invoker c) where
  -- of a later call site nothing comes
  pub none_later : (f : Key → Option ℕ) (before all : List ℕ) → n ≤ c → before ++ filter_map f (way sites n target) ≡ all → before ≡ all
  none_later f before all le = ends f before all (way sites n target) (ap (way sites n) is ∙ way_later sites n c le)

  module _ (lt : c < n) where
    -- of one that isn't there itself alone
    pub absent_call_site : unreleased sites.call_sites c ≡ None → (before after all : List ℕ) → after ≡ before ++ c ∷ []
        → before ++ filter_map call_site_in (way sites n target) ≡ all → after ≡ all
    absent_call_site at before after all pushed e =
        sym (append-nil after) ∙ goes_on before after all (way sites n target) [] c (ap (way sites n) is ∙ way_absent sites n c lt at) pushed e

    pub absent_point : unreleased sites.call_sites c ≡ None → (before all : List ℕ) → before ++ filter_map point_in (way sites n target) ≡ all → before ≡ all
    absent_point at before all e =
        sym (append-nil before) ∙ passes before all (way sites n target) [] c (ap (way sites n) is ∙ way_absent sites n c lt at) e

    -- of an earlier one itself, and then what its target comes by
    pub goes_by : (row : CallSite) (next : Target) → unreleased sites.call_sites c ≡ Some row → next ≡ row.target
        → way sites n target ≡ key.Target c ∷ way sites c next
    goes_by row next at made =
        ap (way sites n) is ∙ way_invoked sites n c row lt at ∙ ap (λ (t : Target). key.Target c ∷ way sites c t) (sym made)
