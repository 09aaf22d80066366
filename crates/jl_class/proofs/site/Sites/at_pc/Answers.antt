use Rattle.std.proofs.Common.{◌==◌, sym, ap, ◌∙◌, List, Option, Some}
use Rattle.std.specs.Prelude.{find, option_map}
use Rattle.jl_class.specs.Site.{Site}
use Rattle.jl_class.specs.declared.site.KeptSite.{KeptSite}
use Rattle.jl_class.specs.Kept.{site_in}
use Rattle.jl_class.proofs.KeptLaws.{found_in, found_named}
use Rattle.jl_class.proofs.site.Sites.at_pc.Goals as goal

pub site_in-requires : goal.site_in-requires
site_in-requires c = found_named c.self.inside.pool.now c.self.inside.kept.now c.args.pc c.in-Some.kept.now c.self.invariant (sym c.in-Some.ensures)

pub returns-in-Some : goal.returns-in-Some
returns-in-Some c =
    ap (λ (s : Site). Some s) c.site_in.ensures
    ∙ ap (λ (o : Option KeptSite). option_map (site_in c.self.inside.pool.now) o) c.in-Some.ensures
    ∙ sym (found_in c.self.inside.pool.now c.self.inside.kept.now c.args.pc)
    ∙ ap (λ (l : List Site). find (λ site. site.pc == c.args.pc) l) c.self.view_is

pub returns-in-None : goal.returns-in-None
returns-in-None c =
    ap (λ (o : Option KeptSite). option_map (site_in c.self.inside.pool.now) o) c.in-None.ensures
    ∙ sym (found_in c.self.inside.pool.now c.self.inside.kept.now c.args.pc)
    ∙ ap (λ (l : List Site). find (λ site. site.pc == c.args.pc) l) c.self.view_is
