use Rattle.left_right.specs.Sides.{view as seat_view}
use Rattle.jl_server.proofs.Next.{same_book, legal_shown}
use Rattle.jl_server.proofs.caller.entered.Goals as goal

pub found-requires-clause-book : goal.found-requires-clause-book
found-requires-clause-book g c =
    same_book c.in-Ok.reading.part.value (seat_view c.args.looking.place) g.K.Name.book g.K.Name.limits c.requires c.in-Ok.ensures.found.2

pub found-requires-clause-legal : goal.found-requires-clause-legal
found-requires-clause-legal g c =
    legal_shown c.in-Ok.reading.part.value (seat_view c.args.looking.place) g.K.Name.book g.K.Name.limits c.requires c.in-Ok.ensures.found.2
    c.in-Ok.ensures.found.1
