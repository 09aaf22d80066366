use Rattle.jl_hierarchy.proofs.KeptLaws.{even}
use Rattle.jl_hierarchy.proofs.Growing.{still_kept, there_inside, fresh_inside, all_grown}
use Rattle.jl_hierarchy.proofs.classes.Classes.add_row.Goals as goal

pub add_all-requires-clause-even : goal.add_all-requires-clause-even
add_all-requires-clause-even c = even c.self.invariant.0

pub add_all-requires-clause-there : goal.add_all-requires-clause-there
add_all-requires-clause-there c = there_inside c.self.view_is c.requires.accepted c.in_ok-new_class.ensures

pub add_all-requires-clause-fresh : goal.add_all-requires-clause-fresh
add_all-requires-clause-fresh c = fresh_inside c.self.view_is c.requires.accepted c.in_ok-new_class.ensures

pub invariant_of-self : goal.invariant_of-self
invariant_of-self c = still_kept c.in_err-add_all.ensures.err c.in_err-add_all.ensures.kept c.self.invariant

pub invariant_of-self-2 : goal.invariant_of-self-2
invariant_of-self-2 c =
    let added = c.in_ok-add_all.ensures in
    all_grown c.self.view_is c.requires.accepted c.in_ok-new_class.ensures c.requires.made c.requires.interface c.requires.room c.self.invariant
    added.loaders added.rows added.above added.below added.kept added.marks
