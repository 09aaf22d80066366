use Rattle.std.specs.Prelude.{not}
use Rattle.std.proofs.Common.{sym, ◌∙◌}
use Rattle.jl_types.specs.Events.Definitions as definitions
use Rattle.jl_hierarchy.specs.ForProofs.Faults.{first_place}
use Rattle.jl_hierarchy.proofs.FaultLaws.{place_is}
use Rattle.jl_hierarchy.proofs.classes.Classes.inaccessible_parent.Goals as goal

pub returns : goal.returns
returns c =
    c.place_of_parent.ensures
    ∙ (λ i. first_place (c.has_closed_superclass.ensures i) (c.inaccessible_interface.ensures.first i))
    ∙ sym (place_is (λ name. not (definitions.is_open_parent c.args.self.now c.args.loader c.args.file.now name)) c.args.file.now.superclass
    c.args.file.now.interfaces)
