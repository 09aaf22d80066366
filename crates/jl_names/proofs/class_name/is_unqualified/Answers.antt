use Rattle.std.proofs.Common.{◌≡◌, ℕ, false, eqb, List, [], ◌∷◌, length, refl, sym, ◌∙◌, rules, tests}
use Rattle.std.specs.List.{list_all}
use Rattle.std.specs.Prelude.{not}
use Rattle.std.proofs.lemmas.Iterator.{YieldsList-from_slice}
use Rattle.std.proofs.lemmas.Iterator.Search.{all_from_yields_List}
use Rattle.jl_names.specs.ClassNames.{is_reserved, is_unqualified}
use Rattle.jl_names.proofs.class_name.is_unqualified.Goals as goal

is_unqualified-some : (name : List ℕ) → eqb (length name) 0 ≡ false
    → is_unqualified name ≡ list_all (λ b. not (is_reserved b)) name
is_unqualified-some [] h = absurd cc
is_unqualified-some (b ∷ bs) h = refl

pub returns-then-not-is_empty : goal.returns-then-not-is_empty
returns-then-not-is_empty c =
    all_from_yields_List (λ b. not (is_reserved b)) _ _ _ c.all.ensures.ran
    (YieldsList-from_slice c.args.name.now cc) (λ x b q k. search (rules, tests))
    ∙ sym (is_unqualified-some c.args.name.now (sym c.is_empty.ensures ∙ c.if-not-is_empty.true))
