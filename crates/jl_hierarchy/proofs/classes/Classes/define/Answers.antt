use Rattle.std.specs.Prelude.{◌≡◌, None}
use Rattle.std.proofs.Common.{sym, subst, arith}
use Rattle.jl_class.specs.Class.{ClassFile}
use Rattle.jl_types.specs.Events.Definitions.{define_fault}
use Rattle.jl_types.proofs.Within.{definition_has_room}
use Rattle.jl_hierarchy.proofs.classes.Classes.define.Goals as goal

pub add-requires-clause-accepted : goal.add-requires-clause-accepted
add-requires-clause-accepted c = record {
  most_classes = c.args.most_classes;
  accepted = subst (λ (f : ClassFile). define_fault c.args.most_classes c.args.self.now c.args.loader f ≡ None) (sym c.in-Ok.ensures.same)
      c.in-Ok.ensures.accepted;
}

pub add-requires-clause-room : goal.add-requires-clause-room
add-requires-clause-room c =
    let room = definition_has_room c.args.most_classes c.args.self.now c.args.loader c.args.file c.in-Ok.ensures.accepted in
    let few = c.requires in
    omega (arith, room, few)
