-- Links as they are kept. A means of proof.
use Rattle.std.specs.Prelude.{Option, Some, None}
use Rattle.jl_types.specs.declared.link.Link.{Link}
use Rattle.jl_types.specs.declared.link.Link.TheVariants as link
use Rattle.jl_cache.specs.declared.kept.Kept.{Kept}
use Rattle.jl_cache.specs.declared.kept.Kept.TheVariants as kept
use Rattle.jl_cache.specs.declared.kept.Fixed.{Fixed}
use Rattle.jl_cache.specs.declared.kept.Fixed.TheVariants.{Nothing, Fault, Plain, Mega}
use Rattle.jl_cache.specs.ForProofs.Few.{rows_of}

-- the link of which this is kept, or none
abbrev pub fixed_link : Fixed → Option Link
fixed_link Nothing = None
fixed_link (Fault throwable) = Some (link.Fault throwable)
fixed_link (Plain method) = Some (link.Plain method)
fixed_link Mega = Some link.Mega

-- the link that is kept, or none
abbrev pub link_of : Kept → Option Link
link_of (kept.Fixed fixed) = fixed_link fixed
link_of (kept.Direct outcome) = Some (link.Direct outcome)
link_of (kept.Few kind few) = Some (link.Table kind (rows_of few))
link_of (kept.Table kind rows) = Some (link.Table kind rows.value)

-- the link of a slot that has one
abbrev pub link_in : Option Link → Link
link_in None = link.Mega
link_in (Some l) = l
