-- The derived `==` of links holds exactly of equal links.
use Rattle.std.proofs.Common.{◌≡◌, true, ap, refl, rules, Decides, subst}
use denote.Enum.Bare.{same_true, sameb}
use Rattle.std.specs.Prelude.{ℕ, List, ◌&&◌}
use Rattle.std.specs.Cmp.Lexicographic.{pointwise}
use Rattle.std.proofs.lemmas.Bool.Decides.{Decides-and}
use Rattle.jl_types.specs.declared.link.TableKind.TheVariants.{Virtual, Interface}
use Rattle.jl_types.specs.declared.answer.Outcome.{Outcome}
use Rattle.jl_types.specs.declared.link.Link.{Link}
use Rattle.jl_types.specs.declared.link.Link.TheVariants.{Fault, Plain, Direct, Table, Mega}
use Rattle.jl_types.specs.declared.link.TableKind.{TableKind}
use Rattle.jl_types.specs.contracts.link.TableKind.{the_type}
use Rattle.jl_types.specs.contracts.link.LinkPartialEq.TheImpl as link
use Rattle.jl_types.specs.Linkage.Links.{same_link}
use Rattle.jl_types.specs.ForProofs.Same.{throwable_decides, method_decides, outcome_decides, table_decides, same_row}

kind_same : (x : TableKind) → sameb the_type x x ≡ true
kind_same Virtual = refl
kind_same Interface = refl

table_both : (k j : TableKind) (xs ys : List (ℕ × Outcome)) → Decides (sameb the_type k j && pointwise same_row xs ys) ((k ≡ j) × (xs ≡ ys))
table_both k j xs ys = Decides-and (sameb the_type k j) (pointwise same_row xs ys)
    (same_true the_type (search rules) k j, λ e. subst (λ z. sameb the_type k z ≡ true) e (kind_same k)) (table_decides xs ys)

link_sound : (x y : Link) → (link.ghosts).eq x y ≡ true → x ≡ y
link_sound (Fault a) (Fault b) h = ap Fault ((throwable_decides a b).0 h)
link_sound (Plain a) (Plain b) h = ap Plain ((method_decides a b).0 h)
link_sound (Direct a) (Direct b) h = ap Direct ((outcome_decides a b).0 h)
link_sound (Table k xs) (Table j ys) h = let both = (table_both k j xs ys).0 h in λ i. Table (both.0 i) (both.1 i)
link_sound Mega Mega h = refl
link_sound _ _ h = cc

link_same : (x : Link) → (link.ghosts).eq x x ≡ true
link_same (Fault a) = (throwable_decides a a).1 refl
link_same (Plain a) = (method_decides a a).1 refl
link_same (Direct a) = (outcome_decides a a).1 refl
link_same (Table k xs) = (table_both k k xs xs).1 (refl, refl)
link_same Mega = refl

pub link_decides : (x y : Link) → Decides (same_link x y) (x ≡ y)
link_decides x y = (link_sound x y, λ e. subst (λ z. (link.ghosts).eq x z ≡ true) e (link_same x))
