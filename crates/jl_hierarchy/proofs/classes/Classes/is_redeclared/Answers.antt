use Rattle.std.specs.Prelude.{◌≡◌}
use Rattle.std.specs.List.{list_any}
use Rattle.std.proofs.Common.{sym, ap, ◌∙◌, rules}
use Rattle.std.proofs.lemmas.Iterator.{YieldsList-from_slice}
use Rattle.std.proofs.lemmas.Iterator.Search.{any_from_yields_List}
use Rattle.jl_hierarchy.specs.ForProofs.Defaults.{redeclares}
use Rattle.jl_hierarchy.proofs.DefaultLaws.{redeclared_is}
use Rattle.jl_hierarchy.proofs.classes.Classes.is_redeclared.Goals as goal

searched : (c : goal.After-any) → c.any.result ≡ list_any (redeclares c.args.self.now c.args.sought.now.name c.args.sought.now.ty c.args.class c.args.interface)
    c.ancestors.result.now
searched c =
    any_from_yields_List (redeclares c.args.self.now c.args.sought.now.name c.args.sought.now.ty c.args.class c.args.interface) _ _ _ c.any.ensures.ran
    (YieldsList-from_slice c.ancestors.result.now cc) (λ x b q k. search rules)

pub returns : goal.returns
returns c =
    searched c
    ∙ ap (list_any (redeclares c.args.self.now c.args.sought.now.name c.args.sought.now.ty c.args.class c.args.interface)) c.ancestors.ensures.listed
    ∙ sym (redeclared_is c.args.self.now c.args.sought.now.name c.args.sought.now.ty c.args.class c.args.interface)
