-- An evaluation goes down one target after another, of call sites that come before one another, so it ends.
use Rattle.std.specs.Prelude.{◌≡◌, ℕ, zero, suc, ◌+◌, ◌<◌, ◌≤◌, List, [], ◌∷◌, Option, Some, None}
use Rattle.std.proofs.Common.{ap, arith}
use Rattle.std.proofs.lemmas.Option.{same_Some}
use Rattle.jl_types.specs.Values.Target.{Target, depth}
use Rattle.jl_types.specs.Values.World.{Sites, CallSite, unreleased}
use Rattle.jl_callsites.proofs.Sizes.{depth_some}

-- the depths of the targets of the first n call sites
abbrev pub depths : List (Option CallSite) → ℕ → ℕ
depths [] n = 0
depths (row ∷ rows) zero = 0
depths (None ∷ rows) (suc n) = depths rows n
depths (Some s ∷ rows) (suc n) = depth s.target + depths rows n

-- how many turns an evaluation takes at most that is at this target of call site c
abbrev pub turns_at : Sites → ℕ → Target → ℕ
turns_at sites c t = depths sites.call_sites c + depth t

earlier_fits : (rows : List (Option CallSite)) (d c : ℕ) (site : CallSite) → unreleased rows d ≡ Some site → d < c
    → depths rows d + depth site.target ≤ depths rows c
earlier_fits [] d c site e lt = cc
earlier_fits (row ∷ rows) d zero site e lt = absurd (omega arith)
earlier_fits (None ∷ rows) zero (suc c) site e lt = cc
earlier_fits (Some s ∷ rows) zero (suc c) site e lt =
    let same : depth s.target ≡ depth site.target = ap (λ (one : CallSite). depth one.target) (same_Some s site e) in omega arith
earlier_fits (None ∷ rows) (suc d) (suc c) site e lt = earlier_fits rows d c site e (omega arith)
earlier_fits (Some s ∷ rows) (suc d) (suc c) site e lt = let rest = earlier_fits rows d c site e (omega arith) in omega arith

pub fewer_turns : (sites : Sites) (d c : ℕ) (t u : Target) (site : CallSite) → unreleased sites.call_sites d ≡ Some site → site.target ≡ u → d < c
    → turns_at sites d u < turns_at sites c t
fewer_turns sites d c t u site at is lt =
    let fits = earlier_fits sites.call_sites d c site at lt in
    let same : depth site.target ≡ depth u = ap depth is in
    let some = depth_some t in
    omega arith
