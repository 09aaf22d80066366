use Rattle.std.specs.Prelude.{List, ℕ, true, ◌≡◌, ◌∷◌, [], ◌++◌}
use Rattle.std.proofs.Common.{ap, ◌∙◌}
use Rattle.jl_types.specs.Values.Members.{recorded}
use Rattle.jl_hierarchy.specs.ForProofs.Kept.{are_new}
use Rattle.jl_hierarchy.proofs.Recents.{new_to_each, one_more_new, left_by}
use Rattle.jl_hierarchy.proofs.loader.record_after.Goals as goal

pub record_shared-requires : goal.record_shared-requires
record_shared-requires c =
    (new_to_each c.args.name.items c.make_room.new.older.value c.make_room.new.recent.value
    (ap (recorded c.args.name.items) c.make_room.ensures.same ∙ c.requires.fresh)).1

pub returns-clause-apart : goal.returns-clause-apart
returns-clause-apart c =
    let older = c.make_room.new.older.value in
    let recent = c.make_room.new.recent.value in
    let entry : List ℕ × ℕ = (c.args.name.items, c.args.class) in
    left_by (λ (names : List (List ℕ × ℕ)). are_new older names ≡ true) c.record_shared.result c.record_shared.new.shared.value
    (recent ++ entry ∷ []) recent c.record_shared.ensures.ok c.record_shared.ensures.err
    (one_more_new c.args.name.items c.args.class older recent c.make_room.ensures.apart
    (ap (recorded c.args.name.items) c.make_room.ensures.same ∙ c.requires.fresh))
    c.make_room.ensures.apart
