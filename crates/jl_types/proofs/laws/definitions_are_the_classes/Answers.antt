use Rattle.jl_types.specs.Events.Entries.{events_of}
use Rattle.jl_types.proofs.ClassCounts.{classes_defined}
use Rattle.jl_types.proofs.laws.definitions_are_the_classes.Goals as goal

pub returns : goal.returns
returns c = λ entries. classes_defined (events_of entries)
