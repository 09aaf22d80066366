-- The target of a part, as the code keeps it.
use Rattle.jl_types.specs.declared.target.Part.{Part}
use Rattle.jl_types.specs.declared.target.Part.TheVariants as part
use Rattle.jl_types.specs.Values.Target.{Target, Method, Guard, Invoker}

abbrev pub whole : Part → Target
whole (part.Method m) = Method m
whole (part.Guard p first fallback) = Guard p first.value fallback.value
whole (part.Invoker c) = Invoker c
