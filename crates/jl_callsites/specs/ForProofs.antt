-- Means of proof. What is promised doesn't rest on how these say it.
use Rattle.std.specs.Prelude.{ℕ, ◌+◌, ◌*◌, Bool, List, Option, refl}
use Rattle.std.specs.Coded.{Coded, code_by, coded×, coded_ℕ, coded_bool, coded_list, coded_option}
use Rattle.jl_types.specs.declared.target.CallSiteKind.{CallSiteKind}
use Rattle.jl_types.specs.contracts.target.CallSiteKind as kind
use Rattle.jl_types.specs.Values.Target.{Target, Method, Guard, Invoker}
use Rattle.jl_types.specs.ForProofs.TargetCode.{target_code}
use Rattle.jl_types.specs.Values.World.{CallSite, Sites}

-- how often a target is turned at most until nothing is left of it
abbrev pub turns_left : Target → ℕ
turns_left (Method m) = 1
turns_left (Guard p first fallback) = 2 * turns_left first + turns_left fallback + 1
turns_left (Invoker c) = 1

-- codes, by which a proof tells values apart
abbrev pub call_site_code : Coded CallSite
call_site_code =
    code_by (CallSiteKind × (List ℕ × Target)) (coded× kind.the_row.coded (coded× (coded_list coded_ℕ) target_code))
    (λ s. (s.kind, (s.ty, s.target))) (λ p. record { kind = p.0; ty = p.1.0; target = p.1.1 }) (λ _. refl)

abbrev pub sites_code : Coded Sites
sites_code =
    code_by (List (Option CallSite) × List (Option Bool)) (coded× (coded_list (coded_option call_site_code)) (coded_list (coded_option coded_bool)))
    (λ s. (s.call_sites, s.switches)) (λ p. record { call_sites = p.0; switches = p.1 }) (λ _. refl)
