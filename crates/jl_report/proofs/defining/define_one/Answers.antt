use Rattle.std.specs.Prelude.{◌≡◌, None}
use Rattle.std.proofs.Common.{subst, sym, arith}
use Rattle.jl_types.specs.Events.Definitions.{define_fault}
use Rattle.jl_types.proofs.Within.{definition_has_room}
use Rattle.jl_report.specs.Gathering.{most_classes}
use Rattle.jl_report.proofs.defining.define_one.Goals as goal

pub add-requires-clause-accepted : goal.add-requires-clause-accepted
add-requires-clause-accepted c = record {
  most_classes = most_classes;
  accepted = subst (λ loader. define_fault most_classes c.args.classes.now loader c.args.file ≡ None) (sym c.first_loader.ensures) c.requires;
}

pub add-requires-clause-room : goal.add-requires-clause-room
add-requires-clause-room c =
    let room = definition_has_room most_classes c.args.classes.now 0 c.args.file c.requires in
    omega (arith, room)
