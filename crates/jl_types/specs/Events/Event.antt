-- What changes the classes, sites and links. A definition carries the file of the class (JVMS SE 17 §5.3.5). An install carries
-- the sites with the links that they are to have.
use Rattle.std.specs.Prelude.{ℕ, List}
use Rattle.jl_class.specs.Class.{ClassFile}
use Rattle.jl_types.specs.declared.event.EventOf.{EventOf}
use Rattle.jl_types.specs.declared.link.Link.{Link}

abbrev pub Event : Type 0
Event = EventOf ClassFile (List (ℕ × Link))
