-- Bytes are one class file at most.
use Rattle.std.proofs.Common.{◌≡◌, ℕ, ◌<◌, ◌^◌, List, [], ◌∷◌, ◌++◌, Option, Some, None, refl, sym, ap, subst, ◌∙◌}
use Rattle.std.specs.List.{AllByRecursion}
use Rattle.jl_classfile.specs.declared.body.Attribute.{Attribute}
use Rattle.jl_classfile.specs.declared.body.Member.{Member}
use Rattle.jl_code.specs.declared.instruction.Instruction.{Instruction}
use Rattle.jl_pool.specs.Numbers.{u2, counted}
use Rattle.jl_pool.specs.Pools.{Pool}
use Rattle.jl_code.specs.Codes.{code_bytes, IsCode}
use Rattle.jl_classfile.specs.Layouts.{Layout}
use Rattle.jl_classfile.specs.Parts.{Parts}
use Rattle.jl_classfile.specs.Conditions.{codes_of, IsClassNumber, HoldsHost, HoldsMembers, Nest, HasCode, HaveCodes}
use Rattle.jl_classfile.specs.ClassFiles.{IsClassUpTo, pool_of}
use Rattle.jl_pool.specs.ForProofs.Fields.{number_at}
use Rattle.jl_classfile.specs.ForProofs.Bodies.{counted_at}
use Rattle.jl_pool.proofs.Fields.{some_is, u2_again}
use Rattle.jl_pool.proofs.PoolLaws.{u2_one}
use Rattle.jl_classfile.proofs.ListLaws.{counted-again}
use Rattle.jl_classfile.proofs.LayoutLaws.{one_layout}
use Rattle.jl_code.proofs.CodeFaultLaws.{one_code}
use Rattle.jl_classfile.proofs.CodeAttributeLaws.{one_held}

-- ---- what the attributes hold

pub one_has : (pool : Pool) (attributes : List Attribute) (a b : Option (List Instruction)) → HasCode pool attributes a → HasCode pool attributes b → a ≡ b
one_has pool [] None None ha hb = refl
one_has pool [] None (Some b) ha hb = absurd hb
one_has pool [] (Some a) b ha hb = absurd ha
one_has pool (x ∷ []) None b ha hb = absurd ha
one_has pool (x ∷ []) (Some a) None ha hb = absurd hb
one_has pool (x ∷ []) (Some a) (Some b) ha hb =
    ap (λ (i : List Instruction). Some i)
    (one_code pool (code_bytes a) a b ha.code
    (subst (λ (c : List ℕ). IsCode pool c b) (sym (one_held x.info (code_bytes a) (code_bytes b) ha.holds hb.holds)) hb.code))
one_has pool (x ∷ y ∷ more) None b ha hb = absurd ha
one_has pool (x ∷ y ∷ more) (Some a) b ha hb = absurd ha

pub one_have : (pool : Pool) (ms : List Member) (a b : List (Option (List Instruction))) → HaveCodes pool ms a → HaveCodes pool ms b → a ≡ b
one_have pool [] [] [] ha hb = refl
one_have pool [] [] (c ∷ b) ha hb = absurd hb
one_have pool [] (c ∷ a) b ha hb = absurd ha
one_have pool (m ∷ ms) [] b ha hb = absurd ha
one_have pool (m ∷ ms) (c ∷ a) [] ha hb = absurd hb
one_have pool (m ∷ ms) (c ∷ a) (d ∷ b) ha hb =
    let first = one_has pool (codes_of pool m) c d ha.0 hb.0 in
    let more = one_have pool ms a b ha.1 hb.1 in
    cc (first, more)

one_host : (pool : Pool) (attributes : List Attribute) (a b : Option ℕ) → HoldsHost pool attributes a → HoldsHost pool attributes b → a ≡ b
one_host pool [] None None ha hb = refl
one_host pool [] None (Some b) ha hb = absurd hb
one_host pool [] (Some a) b ha hb = absurd ha
one_host pool (x ∷ []) None b ha hb = absurd ha
one_host pool (x ∷ []) (Some a) None ha hb = absurd hb
one_host pool (x ∷ []) (Some a) (Some b) ha hb = ap (λ (n : ℕ). Some n) (u2_one a b [] [] ha.1 hb.1 (ap (λ (t : List ℕ). t ++ []) (sym ha.0 ∙ hb.0))).0
one_host pool (x ∷ y ∷ more) None b ha hb = absurd ha
one_host pool (x ∷ y ∷ more) (Some a) b ha hb = absurd ha

sized : (pool : Pool) (ns : List ℕ) → AllByRecursion (λ n. (n < 2 ^ 16) × IsClassNumber pool n) ns → AllByRecursion (λ n. n < 2 ^ 16) ns
sized pool [] h = tt
sized pool (n ∷ ns) h = (h.0.0, sized pool ns h.1)

one_members : (pool : Pool) (attributes : List Attribute) (a b : Option (List ℕ)) → HoldsMembers pool attributes a → HoldsMembers pool attributes b → a ≡ b
one_members pool [] None None ha hb = refl
one_members pool [] None (Some b) ha hb = absurd hb
one_members pool [] (Some a) b ha hb = absurd ha
one_members pool (x ∷ []) None b ha hb = absurd ha
one_members pool (x ∷ []) (Some a) None ha hb = absurd hb
one_members pool (x ∷ []) (Some a) (Some b) ha hb =
    let again_a = counted-again (number_at 2) u2 (λ n. n < 2 ^ 16) u2_again a [] (record { count = ha.1; each = sized pool a ha.2 }) in
    let again_b = counted-again (number_at 2) u2 (λ n. n < 2 ^ 16) u2_again b [] (record { count = hb.1; each = sized pool b hb.2 }) in
    let same : counted u2 a ++ [] ≡ counted u2 b ++ [] = ap (λ (t : List ℕ). t ++ []) (sym ha.0 ∙ hb.0) in
    ap (λ (p : List ℕ × List ℕ). Some p.0) (some_is (a, []) (b, []) (sym again_a ∙ ap (λ (t : List ℕ). counted_at (number_at 2) t) same ∙ again_b))
one_members pool (x ∷ y ∷ more) None b ha hb = absurd ha
one_members pool (x ∷ y ∷ more) (Some a) b ha hb = absurd ha

-- ---- the parts

make : Layout → List (Option (List Instruction)) → Option ℕ → Option (List ℕ) → Parts
make layout codes host members = record { layout = layout; codes = codes; nest_host = host; nest_members = members }

made : (p : Parts) → make p.layout p.codes p.nest_host p.nest_members ≡ p
unfolding make
made p = refl

pub one_class : (m n : ℕ) (bytes : List ℕ) (p q : Parts) → IsClassUpTo m bytes p → IsClassUpTo n bytes q → p ≡ q
one_class m n bytes p q h k =
    let layouts = one_layout p.layout q.layout h.laid k.laid (sym h.spelled ∙ k.spelled) in
    let nest : Nest p.layout.major (pool_of p.layout) p.layout.body q.nest_host q.nest_members =
    subst (λ (l : Layout). Nest l.major (pool_of l) l.body q.nest_host q.nest_members) (sym layouts) k.nest
    in
    let kept : HaveCodes (pool_of p.layout) p.layout.body.methods q.codes =
    subst (λ (l : Layout). HaveCodes (pool_of l) l.body.methods q.codes) (sym layouts) k.codes in
    let codes = one_have (pool_of p.layout) p.layout.body.methods p.codes q.codes h.codes kept in
    let hosts = one_host (pool_of p.layout) _ p.nest_host q.nest_host h.nest.host_holds nest.host_holds in
    let members = one_members (pool_of p.layout) _ p.nest_members q.nest_members h.nest.members_hold nest.members_hold in
    let same : make p.layout p.codes p.nest_host p.nest_members ≡ make q.layout q.codes q.nest_host q.nest_members = cc (layouts, codes, hosts, members) in
    sym (made p) ∙ same ∙ made q
