-- Equal invocations have equal links.
use Rattle.std.specs.Prelude.{◌≡◌, ℕ, List, [], ◌∷◌, Ok}
use Rattle.std.specs.List.{All, AllZip}
use Rattle.std.proofs.Common.{ap, sym, ◌∙◌}
use Rattle.std.proofs.lemmas.List.Elements.{All-cons, All-nil}
use Rattle.jl_class.specs.declared.site.Kind.{Kind}
use Rattle.jl_class.specs.declared.site.Operand.{Operand}
use Rattle.jl_class.specs.declared.site.Operand.TheVariants as operand
use Rattle.jl_types.specs.declared.link.Link.{Link}
use Rattle.jl_types.specs.Values.World.{World}
use Rattle.jl_types.specs.Linkage.Resolution.{resolved}
use Rattle.jl_types.specs.Linkage.Stages.{by_operand, by_resolution, stage}
use Rattle.jl_types.specs.Linkage.Links.{link_of, scratch}
use Rattle.jl_relink.specs.declared.located.Located.{Located}
use Rattle.jl_relink.specs.ForProofs.Earlier.{AreEqual, AreEqualOperands}

-- what an invocation comes to that names a method hangs on no site
same_stage : (w : World) (t s d e : ℕ) (k l : Kind) (o p : Operand (List ℕ)) → d ≡ e → k ≡ l → AreEqualOperands o p
    → by_operand w t d k o ≡ by_operand w s e l p
same_stage w t s d e k l (operand.Method r) (operand.Method q) f g h =
    λ i. by_resolution w.classes (g i) (f i) (h i) (resolved w.classes (f i) (h i))
same_stage w t s d e k l (operand.Method r) (operand.CallSite specifier) f g h = absurd h
same_stage w t s d e k l (operand.CallSite specifier) p f g h = absurd h

-- so the link of site t is that of each equal invocation
pub equal_links : (w : World) (t s : ℕ) (first second : Located) (link : Link) → AreEqual first second
    → stage w t ≡ by_operand w t first.caller first.invocation.kind first.invocation.operand → scratch w t ≡ Ok link
    → link_of w.classes (by_operand w s second.caller second.invocation.kind second.invocation.operand) ≡ Ok link
equal_links w t s first second link same there made =
    ap (link_of w.classes) (sym (there
    ∙ same_stage w t s first.caller second.caller first.invocation.kind second.invocation.kind first.invocation.operand
    second.invocation.operand same.caller same.kind same.operand))
    ∙ made

-- each row that is made has the link of its site
pub each_made : (w : World) (sites : List ℕ) (rows : List (ℕ × Link)) → AllZip (λ s row. (row.0 ≡ s) × (scratch w s ≡ Ok row.1)) sites rows
    → All (λ row. scratch w row.0 ≡ Ok row.1) rows
each_made w [] [] h = All-nil (λ row. scratch w row.0 ≡ Ok row.1)
each_made w [] (row ∷ rows) h = absurd h
each_made w (s ∷ sites) [] h = absurd h
each_made w (s ∷ sites) (row ∷ rows) h =
    All-cons (λ row. scratch w row.0 ≡ Ok row.1) row rows (ap (scratch w) h.0.0 ∙ h.0.1) (each_made w sites rows h.1)
