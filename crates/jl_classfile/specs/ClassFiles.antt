-- What a class file is (JVMS 4).
use Rattle.std.specs.Prelude.{◌≡◌, ℕ, ◌≤◌, List, length}
use Rattle.jl_pool.specs.Pools.{Pool, places, IsSoundPool}
use Rattle.jl_classfile.specs.Layouts.{Layout, file_text, IsLayout}
use Rattle.jl_classfile.specs.Parts.{Parts}
use Rattle.jl_classfile.specs.Conditions.{newest_of_17, IsVersionUpTo, Links, Members, ClassAttributeLinks, Nest, HaveCodes}

-- the most bytes that are read
abbrev pub most_bytes : ℕ
most_bytes = 1000000

abbrev pub pool_of : Layout → Pool
pool_of l = places l.constants

-- The bytes are the text of the parts, which are of a version up to the newest one, and the parts meet every condition.
pub record IsClassUpTo (newest : ℕ) (bytes : List ℕ) (p : Parts) : Type 0 where
  pub few : length bytes ≤ most_bytes
  pub spelled : bytes ≡ file_text p.layout
  pub laid : IsLayout p.layout
  pub version : IsVersionUpTo newest p.layout.minor p.layout.major
  pub pool : IsSoundPool p.layout.constants
  pub links : Links p.layout.major (pool_of p.layout) p.layout.body
  pub members : Members (pool_of p.layout) p.layout.body
  pub attributes : ClassAttributeLinks (pool_of p.layout) p.layout.body
  pub nest : Nest p.layout.major (pool_of p.layout) p.layout.body p.nest_host p.nest_members
  pub codes : HaveCodes (pool_of p.layout) p.layout.body.methods p.codes

-- a class file of SE 17
abbrev pub IsClass : List ℕ → Parts → Type 0
IsClass bytes p = IsClassUpTo newest_of_17 bytes p
