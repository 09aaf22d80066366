use Rattle.std.specs.Prelude.{List, Some, position, if◌then◌else◌}
use Rattle.std.proofs.Common.{◌≡◌, ap, sym, subst, ◌∙◌, ◌++◌, ◌∷◌, [], length}
use Rattle.jl_types.specs.declared.ids.Place.{Place}
use Rattle.jl_types.specs.Events.Verdict.{same_place}
use Rattle.jl_places.proofs.PlaceLaws.{found_of_more}
use Rattle.jl_places.specs.ForProofs.Parts.{AreFound, number_at}
use Rattle.jl_places.proofs.places.Places.push.Goals as goal

pub invariant_of-self-2 : goal.invariant_of-self-2
invariant_of-self-2 c =
    let count : c.len-number.result ≡ length c.self.inside.listed.items = c.len-number.ensures ∙ ap length c.in_ok-reserve.ensures.items in
    let more : c.push_reserved.new.self.items ≡ c.self.inside.listed.items ++ c.args.place ∷ [] =
    c.push_reserved.ensures ∙ ap (λ (xs : List Place). xs ++ c.args.place ∷ []) c.in_ok-reserve.ensures.items in
    subst (AreFound c.put_in.new.parts.items) (sym more)
    (found_of_more c.self.inside.parts.items c.put_in.new.parts.items c.self.inside.listed.items c.args.place c.self.invariant c.in_ok-put_in.ensures.many
    (ap (position (same_place c.args.place)) c.self.view_is ∙ c.requires.fresh)
    (λ q. c.in_ok-put_in.ensures.ok q
    ∙ ap (λ n. if same_place c.args.place q then Some n else number_at c.self.inside.parts.items q) count))
