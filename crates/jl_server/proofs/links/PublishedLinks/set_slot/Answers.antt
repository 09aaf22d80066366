use Rattle.std.specs.Prelude.{List, [], Option, slice_set}
use Rattle.std.proofs.Common.{ap, ◌∙◌, arith}
use Rattle.jl_types.specs.declared.link.Link.{Link}
use Rattle.jl_server.specs.ForProofs.Slots.{link_of}
use Rattle.jl_server.proofs.SlotLaws.{slot_set, slot_seen}
use Rattle.jl_server.proofs.links.PublishedLinks.set_slot.Goals as goal

pub invariant_of-self : goal.invariant_of-self
invariant_of-self c =
    slot_set c.self.inside.slots.items c.self.inside.places.items c.self.inside.tables.items _ c.args.site c.args.slot c.self.invariant c.requires
    (let test = c.if-site-len.true in omega (arith, test, c.len.ensures, c.self.inside.slots.ok.0))

pub returns-then-site-len : goal.returns-then-site-len
returns-then-site-len c =
    slot_seen c.self.inside.slots.items c.self.inside.places.items c.self.inside.tables.items _ c.args.site c.args.slot c.self.invariant c.requires
    (let test = c.if-site-len.true in omega (arith, test, c.len.ensures, c.self.inside.slots.ok.0))
    ∙ ap (λ (xs : List (Option Link)). slice_set xs c.args.site (link_of [] c.args.slot)) c.self.view_is
