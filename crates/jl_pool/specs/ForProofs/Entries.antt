-- Why the constants of a pool are refused, once they stand there.
use Rattle.std.specs.Prelude.{◌≡◌, ℕ, IsTrue, ◌⊎◌, List, [], ◌∷◌}
use Rattle.std.specs.Option.{IsSomeAnd}
use Rattle.jl_names.specs.Mutf8.{IsText}
use Rattle.jl_pool.specs.declared.pool_fault.PoolFault.{PoolFault}
use Rattle.jl_pool.specs.declared.pool_fault.PoolFault.TheVariants.{BadUtf8, BadIndex, BadDescriptor}
use Rattle.jl_pool.specs.Pools.{Pool, HasText, is_linked, IsTyped}
use Rattle.jl_pool.specs.Faults.{AllAt, IsFirstNot}
use Rattle.jl_pool.specs.ForProofs.Fields.{text_at}

-- these begin with a tag, a count and so many bytes that are modified UTF-8
abbrev pub BeginsText : List ℕ → Type 0
BeginsText [] = ⊥
BeginsText (t ∷ bytes) = IsSomeAnd (text_at bytes) (λ x. IsText x.0)

abbrev pub IsTextFault : Pool → PoolFault → Type 0
IsTextFault p f = (i : ℕ) × (f ≡ BadUtf8 i) × IsFirstNot HasText p i

abbrev pub IsLinkFault : Pool → PoolFault → Type 0
IsLinkFault p f = (i : ℕ) × (f ≡ BadIndex i) × IsFirstNot (λ c. IsTrue (is_linked p c)) p i

abbrev pub IsTypeFault : Pool → PoolFault → Type 0
IsTypeFault p f = (i : ℕ) × (f ≡ BadDescriptor i) × IsFirstNot (IsTyped p) p i

-- each number is good if a descriptor is bad
abbrev pub IsNameFault : Pool → PoolFault → Type 0
IsNameFault p f = IsLinkFault p f ⊎ (AllAt (λ c. IsTrue (is_linked p c)) p × IsTypeFault p f)

-- and each text is good if a number or a descriptor is bad
abbrev pub IsCheckFault : Pool → PoolFault → Type 0
IsCheckFault p f = IsTextFault p f ⊎ (AllAt HasText p × IsNameFault p f)
