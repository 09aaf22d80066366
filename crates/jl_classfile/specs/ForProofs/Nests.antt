-- What the nest attributes hold that are read. No public clause cites this.
use Rattle.std.specs.Prelude.{◌≡◌, ℕ, List, [], ◌∷◌, codes, Option, Some, None, ⊤, MatchOption}
use Rattle.jl_classfile.specs.declared.body.Attribute.{Attribute}
use Rattle.jl_pool.specs.Pools.{Pool}
use Rattle.jl_classfile.specs.Conditions.{attributes_of, HoldsHost, HoldsMembers}

-- there is none, or one, which holds these bytes
abbrev pub IsOnly : List Attribute → Option (List ℕ) → Type 0
IsOnly attributes None = attributes ≡ []
IsOnly attributes (Some info) = (a : Attribute) × (attributes ≡ a ∷ []) × (a.info ≡ info)

-- the attributes hold this nest
pub record Holds (pool : Pool) (attributes : List Attribute) (host : Option ℕ) (members : Option (List ℕ)) : Type 0 where
  pub host_holds : HoldsHost pool (attributes_of pool (codes "NestHost") attributes) host
  pub members_hold : HoldsMembers pool (attributes_of pool (codes "NestMembers") attributes) members
  pub not_both : MatchOption host ⊤ (λ n. members ≡ None)
