-- A choice, by what is found.
use Rattle.std.specs.Prelude.{◌≡◌, ℕ, Bool, false, Option, Some, if◌then◌else◌}
use Rattle.std.proofs.Common.{ap, sym, ◌∙◌}
use Rattle.jl_class.specs.Class.{Method}
use Rattle.jl_types.specs.declared.ids.MethodId.{MethodId}
use Rattle.jl_types.specs.declared.answer.Chosen.TheVariants.{Method as Picked}
use Rattle.jl_types.specs.Values.World.{Classes}
use Rattle.jl_types.specs.Values.Members.{is_private, method_at}
use Rattle.jl_types.specs.Linkage.Resolution.{defaults}
use Rattle.jl_types.specs.Linkage.Selection.{chosen, chosen_of, found_or, overriding}

pub chosen_found : (cs : Classes) (x : ℕ) (r : MethodId) (m : Method) (found : MethodId) → is_private cs r ≡ false → method_at cs r ≡ Some m
    → Some found ≡ overriding cs x r m → Picked found ≡ chosen cs x r
chosen_found cs x r m found p e h =
    ap (λ (o : Option MethodId). found_or o (defaults cs m.name m.ty x)) h
    ∙ sym (ap (λ (b : Bool). if b then Picked r else chosen_of cs x r (method_at cs r)) p ∙ ap (chosen_of cs x r) e)
