-- Bytes lie in one way at most.
use Rattle.std.proofs.Common.{◌≡◌, ℕ, ◌<◌, ◌^◌, List, [], ◌++◌, refl, sym, ap, ◌∙◌, append_assoc, arith}
use Rattle.std.proofs.lemmas.List.{append-nil}
use Rattle.jl_pool.specs.declared.constant.Constant.{Constant}
use Rattle.jl_classfile.specs.declared.body.Body.{Body}
use Rattle.jl_pool.specs.Numbers.{u2}
use Rattle.jl_pool.specs.Pools.{pool_text}
use Rattle.jl_classfile.specs.Layouts.{Layout, body_text, head_text, file_text, IsLayout, BodySized}
use Rattle.jl_classfile.specs.ForProofs.Bodies.{body_at}
use Rattle.jl_pool.proofs.Fields.{some_is}
use Rattle.jl_pool.proofs.PoolLaws.{u2_one, u4_one, one_pool}
use Rattle.jl_classfile.proofs.BodyLaws.{body-again}

body_one : (a b : Body) (x y : List ℕ) → BodySized a → BodySized b → body_text a ++ x ≡ body_text b ++ y → (a ≡ b) × (x ≡ y)
body_one a b x y ha hb e =
    let pairs : (a, x) ≡ (b, y) = some_is (a, x) (b, y) (sym (body-again a x ha) ∙ ap body_at e ∙ body-again b y hb) in
    (ap (λ (p : Body × List ℕ). p.0) pairs, ap (λ (p : Body × List ℕ). p.1) pairs)

pub record SameHead (a b c d : ℕ) (x y : List ℕ) : Type 0 where
  pub minor : a ≡ c
  pub major : b ≡ d
  pub rest : x ≡ y

pub head_one : (a b c d : ℕ) (x y : List ℕ) → a < 2 ^ 16 → b < 2 ^ 16 → c < 2 ^ 16 → d < 2 ^ 16 → head_text a b ++ x ≡ head_text c d ++ y → SameHead a b c d x y
head_one a b c d x y ha hb hc hd e =
    let magic = u4_one 0xcafebabe 0xcafebabe (u2 a ++ (u2 b ++ x)) (u2 c ++ (u2 d ++ y)) (omega arith) (omega arith) e in
    let minor = u2_one a c (u2 b ++ x) (u2 d ++ y) ha hc magic.1 in
    let major = u2_one b d x y hb hd minor.1 in
    record { minor = minor.0; major = major.0; rest = major.1 }

-- a layout's bytes, and more
pub file_apart : (l : Layout) (x : List ℕ) → file_text l ++ x ≡ head_text l.minor l.major ++ (pool_text l.constants ++ (body_text l.body ++ x))
file_apart l x =
    append_assoc (head_text l.minor l.major) (pool_text l.constants ++ body_text l.body) x
    ∙ ap (λ (r : List ℕ). head_text l.minor l.major ++ r) (append_assoc (pool_text l.constants) (body_text l.body) x)

make : ℕ → ℕ → List Constant → Body → Layout
make minor major constants body = record { minor = minor; major = major; constants = constants; body = body }

made : (l : Layout) → make l.minor l.major l.constants l.body ≡ l
unfolding make
made l = refl

pub layout_one : (l m : Layout) (x y : List ℕ) → IsLayout l → IsLayout m → file_text l ++ x ≡ file_text m ++ y → (l ≡ m) × (x ≡ y)
layout_one l m x y hl hm e =
    let heads =
    head_one l.minor l.major m.minor m.major (pool_text l.constants ++ (body_text l.body ++ x)) (pool_text m.constants
    ++ (body_text m.body ++ y)) hl.minor hl.major
    hm.minor hm.major (sym (file_apart l x) ∙ e ∙ file_apart m y)
    in
    let pools =
    one_pool (pool_text l.constants ++ (body_text l.body ++ x)) l.constants m.constants (body_text l.body ++ x) (body_text m.body ++ y)
    (record { bytes = refl; written = hl.pool }) (record { bytes = heads.rest; written = hm.pool })
    in
    let bodies = body_one l.body m.body x y hl.body hm.body pools.1 in
    let same : make l.minor l.major l.constants l.body ≡ make m.minor m.major m.constants m.body = cc (heads.minor, heads.major, pools.0, bodies.0) in
    (sym (made l) ∙ same ∙ made m, bodies.1)

pub one_layout : (l m : Layout) → IsLayout l → IsLayout m → file_text l ≡ file_text m → l ≡ m
one_layout l m hl hm e = (layout_one l m [] [] hl hm (append-nil (file_text l) ∙ e ∙ sym (append-nil (file_text m)))).0
