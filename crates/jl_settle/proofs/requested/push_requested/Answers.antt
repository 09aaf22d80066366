use Rattle.std.specs.Prelude.{◌≡◌, [], ◌∷◌, ◌++◌}
use Rattle.std.proofs.Common.{rules, sym, ◌∙◌}
use Rattle.jl_settle.proofs.RequestedLaws.{site_listed, none_listed}
use Rattle.jl_settle.proofs.requested.push_requested.Goals as goal

pub returns-in_ok-push-in-Some : goal.returns-in_ok-push-in-Some
returns-in_ok-push-in-Some c =
    let more : c.push.new.self.items ≡ c.args.sites.now.items ++ c.in-Some.site ∷ [] = search rules in
    site_listed c.args.sites.now.items c.push.new.self.items c.in-Some.site c.args.place.now c.args.places.now c.len-len.ensures.unique
    (sym c.get_index_of.ensures.index ∙ c.in-Some.is) more

pub returns-in-None : goal.returns-in-None
returns-in-None c = none_listed c.args.sites.now.items c.args.place.now c.args.places.now (sym c.get_index_of.ensures.index ∙ c.in-None.is)
