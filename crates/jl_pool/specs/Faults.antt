-- Why bytes begin with no constant pool (JVMS 4.4): the faults in the order in which they are looked for.
use Rattle.std.specs.Prelude.{◌≡◌, ℕ, ◌+◌, ◌<◌, ◌≤◌, ◌^◌, ◌==◌, ◌||◌, IsTrue, IsFalse, List, ◌∷◌, ◌++◌, length, Some, ⊤, ◌⊎◌}
use Rattle.std.specs.List.{flat_map, list_any, AllByRecursion}
use Rattle.jl_pool.specs.declared.constant.Constant.{Constant}
use Rattle.jl_pool.specs.declared.pool_fault.PoolFault.{PoolFault}
use Rattle.jl_pool.specs.declared.pool_fault.PoolFault.TheVariants as pool
use Rattle.jl_pool.specs.Numbers.{u2}
use Rattle.jl_pool.specs.Constants.{constant_text, IsSized}
use Rattle.jl_pool.specs.Known.{known_tags}
use Rattle.jl_pool.specs.Pools.{Pool, places, pool_text, constant_at, IsPool, HasText, HaveTexts, is_linked, AreLinked, IsTyped}

-- a count, whole constants, and what is left; more is to come
pub record Opens (text : List ℕ) (count : ℕ) (cs : List Constant) (left : List ℕ) : Type 0 where
  pub count_size : count < 2 ^ 16
  pub bytes : text ≡ u2 count ++ (flat_map constant_text cs ++ left)
  pub each : AllByRecursion IsSized cs
  pub more : length (places cs) < count

-- the tag is unknown, or its constant takes two numbers and the second isn't below the count
abbrev pub IsBadTag : ℕ → ℕ → ℕ → Type 0
IsBadTag count i t = IsFalse (list_any (λ k. k == t) known_tags) ⊎ (IsTrue ((t == 5) || (t == 6)) × (count ≤ i + 1))

pub record HasBadTag (text : List ℕ) (i : ℕ) : Type 0 where
  pub count : ℕ
  pub before : List Constant
  pub tag : ℕ
  pub left : List ℕ
  pub begins : Opens text count before (tag ∷ left)
  pub place : i ≡ length (places before)
  pub bad : IsBadTag count i tag

-- a count of 0 leaves no room for number 0
abbrev pub HasNoCount : List ℕ → Type 0
HasNoCount text = (left : List ℕ) × (text ≡ u2 0 ++ left)

abbrev pub TagFault : List ℕ → ℕ → Type 0
TagFault text i = HasBadTag text i ⊎ ((i ≡ 0) × HasNoCount text)

-- a whole pool stands at the front
pub record PoolStands (text : List ℕ) (cs : List Constant) (left : List ℕ) : Type 0 where
  pub bytes : text ≡ pool_text cs ++ left
  pub written : IsPool cs

-- each constant of the pool is so
abbrev pub AllAt : (Constant → Type 0) → Pool → Type 0
AllAt IsSo p = (j : ℕ) (c : Constant) → constant_at p j ≡ Some c → IsSo c

-- the first constant that isn't so stands at this number
pub record IsFirstNot (IsSo : Constant → Type 0) (p : Pool) (i : ℕ) : Type 0 where
  pub constant : Constant
  pub there : constant_at p i ≡ Some constant
  pub isn't : ¬ IsSo constant
  pub before : (j : ℕ) (c : Constant) → j < i → constant_at p j ≡ Some c → IsSo c

-- a whole pool stands at the front, the tests before this one hold of it, and this constant is the first that isn't so
abbrev pub WholePoolFault : (List Constant → Type 0) → (List Constant → Constant → Type 0) → List ℕ → ℕ → Type 0
WholePoolFault IsGood IsSo text i = (cs : List Constant) × (left : List ℕ) × PoolStands text cs left × IsGood cs × IsFirstNot (IsSo cs) (places cs) i

-- the text is what stands from the pool's count on
abbrev pub IsPoolFault : List ℕ → PoolFault → Type 0
IsPoolFault text pool.Truncated = ((cs : List Constant) (left : List ℕ) → ¬ PoolStands text cs left) × ((i : ℕ) → ¬ TagFault text i)
IsPoolFault text (pool.BadTag i) = TagFault text i
IsPoolFault text (pool.BadUtf8 i) = WholePoolFault (λ cs. ⊤) (λ cs. HasText) text i
IsPoolFault text (pool.BadIndex i) = WholePoolFault HaveTexts (λ cs c. IsTrue (is_linked (places cs) c)) text i
IsPoolFault text (pool.BadDescriptor i) = WholePoolFault (λ cs. HaveTexts cs × AreLinked cs) (λ cs. IsTyped (places cs)) text i
IsPoolFault text pool.Memory = ⊤
