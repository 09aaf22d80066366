-- The target of a call site that comes before another one.
use Rattle.std.specs.Prelude.{ℕ, nat_lt, Option, None, option_map, if◌then◌else◌}
use Rattle.jl_types.specs.Values.Target.{Target}
use Rattle.jl_types.specs.Values.World.{Sites, unreleased}

-- of call site d, if there is one, it isn't released and it comes before c
abbrev pub earlier_target : Sites → ℕ → ℕ → Option Target
earlier_target sites d c = if nat_lt d c then option_map (λ site. site.target) (unreleased sites.call_sites d) else None
