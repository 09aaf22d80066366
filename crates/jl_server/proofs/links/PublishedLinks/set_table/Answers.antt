use Rattle.std.specs.Prelude.{List, Option, Some, slice_set}
use Rattle.std.proofs.Common.{ap, sym, subst, ◌∙◌, arith}
use Rattle.jl_types.specs.declared.link.Link.{Link}
use Rattle.jl_types.specs.declared.link.Link.TheVariants.{Table}
use Rattle.jl_server.specs.ForProofs.Slots.{AreSlots}
use Rattle.jl_server.proofs.SlotLaws.{table_set, table_seen}
use Rattle.jl_server.proofs.links.PublishedLinks.set_table.Goals as goal

pub invariant_of-self : goal.invariant_of-self
invariant_of-self c =
    subst (AreSlots _ _ _) (sym c.put-place.ensures.room)
    (table_set c.self.inside.slots.items c.self.inside.places.items c.self.inside.tables.items _ c.args.site c.args.kind c.args.table.now
    c.put-place.result _ _ c.self.invariant (let test = c.if-site-len.true in omega (arith, test, c.len.ensures, c.self.inside.slots.ok.0))
    c.put-place.ensures.placed c.put-place.ensures.put)

pub returns-then-site-len : goal.returns-then-site-len
returns-then-site-len c =
    table_seen c.self.inside.slots.items c.self.inside.places.items c.self.inside.tables.items _ c.args.site c.args.kind c.args.table.now
    c.put-place.result _ _ c.self.invariant (let test = c.if-site-len.true in omega (arith, test, c.len.ensures, c.self.inside.slots.ok.0))
    c.put-place.ensures.placed c.put-place.ensures.put
    ∙ ap (λ (xs : List (Option Link)). slice_set xs c.args.site (Some (Table c.args.kind c.args.table.now))) c.self.view_is
