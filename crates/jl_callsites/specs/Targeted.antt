-- Whether a target names a method of a class of one of several loaders.
use Rattle.std.specs.Prelude.{ℕ, Bool, false, ◌||◌, List}
use Rattle.jl_types.specs.Values.Target.{Target, Method, Guard, Invoker}
use Rattle.jl_types.specs.Values.World.{Classes}
use Rattle.jl_types.specs.Events.Retirement.{is_of_any}

-- the target names a method of a class of one of the loaders, be it on a side that isn't taken
abbrev pub names_any : Classes → List ℕ → Target → Bool
names_any cs loaders (Method m) = is_of_any cs loaders m.class
names_any cs loaders (Guard p first fallback) = names_any cs loaders first || names_any cs loaders fallback
names_any cs loaders (Invoker c) = false
