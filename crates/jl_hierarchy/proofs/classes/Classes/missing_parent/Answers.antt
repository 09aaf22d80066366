use Rattle.std.specs.Prelude.{is_none}
use Rattle.std.proofs.Common.{sym, ◌∙◌}
use Rattle.jl_types.specs.Values.Members as members
use Rattle.jl_hierarchy.specs.ForProofs.Faults.{first_place}
use Rattle.jl_hierarchy.proofs.FaultLaws.{place_is}
use Rattle.jl_hierarchy.proofs.classes.Classes.missing_parent.Goals as goal

pub returns : goal.returns
returns c =
    c.place_of_parent.ensures
    ∙ (λ i. first_place (c.lacks_superclass.ensures i) (c.missing_interface.ensures.first i))
    ∙ sym (place_is (λ name. is_none (members.lookup c.args.self.now c.args.loader name)) c.args.file.now.superclass c.args.file.now.interfaces)
