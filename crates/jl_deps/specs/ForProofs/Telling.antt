-- What a link tells of the receivers that it rests on. A means of proof.
use Rattle.std.specs.Prelude.{Bool, true, false, not}
use Rattle.jl_types.specs.declared.answer.Outcome.TheVariants.{Run, Throws}
use Rattle.jl_types.specs.declared.link.Link.{Link}
use Rattle.jl_types.specs.declared.link.Link.TheVariants.{Fault, Plain, Direct, Table, Mega}
use Rattle.jl_types.specs.Values.World.{Classes}
use Rattle.jl_types.specs.Values.Members.{is_private}

-- an instruction that may select by the receiver has such a link only if it looks at receivers
abbrev pub tells_receivers : Classes → Link → Bool
tells_receivers cs (Table kind rows) = true
tells_receivers cs Mega = true
tells_receivers cs (Direct (Run m)) = not (is_private cs m)
tells_receivers cs (Direct (Throws throwable)) = false
tells_receivers cs (Fault throwable) = false
tells_receivers cs (Plain m) = false
