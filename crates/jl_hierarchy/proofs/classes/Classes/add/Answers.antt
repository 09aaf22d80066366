use Rattle.jl_hierarchy.proofs.Constancy.{stays_after, receiver_after}
use Rattle.jl_hierarchy.proofs.classes.Classes.add.Goals as goal

pub returns-clause-stays : goal.returns-clause-stays
returns-clause-stays c =
    let row = c.in_ok-row.row in
    stays_after c.args.self.now _ c.count_in_order-count.ensures.order row.loader row.file c.in_ok-class.ensures.ok

pub returns-clause-receivers : goal.returns-clause-receivers
returns-clause-receivers c =
    let row = c.in_ok-row.row in
    receiver_after c.args.self.now _ c.count_in_order-count.ensures.order row.loader row.file c.in_ok-class.ensures.ok
