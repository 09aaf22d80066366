-- Requested places in a class, a method, or a list of classes. A means of proof.
use Rattle.std.specs.Prelude.{ℕ, Bool, false, ◌==◌, ◌&&◌, List, slice_get, is_some}
use Rattle.std.specs.List.{list_any}
use Rattle.std.specs.Option.{option_map_or}
use Rattle.jl_class.specs.Site.{Site}
use Rattle.jl_types.specs.declared.ids.Place.{Place}
use Rattle.jl_types.specs.Values.World.{Classes}
use Rattle.jl_types.specs.Linkage.Stages.{invocation_at}

-- a place of the method at one of these invocations
abbrev pub is_in_method : ℕ → ℕ → List Site → Place → Bool
is_in_method c m sites place = (c == place.class) && ((m == place.method) && list_any (λ site. site.pc == place.pc) sites)

-- an invocation in the class
abbrev pub is_invoked : Classes → ℕ → Place → Bool
is_invoked cs c place = (c == place.class) && is_some (invocation_at cs place)

-- an invocation in one of the classes
abbrev pub is_among : Classes → List ℕ → Place → Bool
is_among cs classes place = list_any (λ c. c == place.class) classes && is_some (invocation_at cs place)

-- site s is requested, and its place passes
abbrev pub requested_where : (Place → Bool) → List Place → ℕ → Bool
requested_where test places s = option_map_or test (slice_get places s) false
