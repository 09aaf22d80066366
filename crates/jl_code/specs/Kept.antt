-- Invocations that are kept by the number of what they name, beside the pool of their class file.
use Rattle.std.specs.Prelude.{◌≡◌, true, List, [], ◌++◌, map}
use Rattle.std.specs.List.{list_all}
use Rattle.jl_pool.specs.Pools.{Pool}
use Rattle.jl_class.specs.declared.site.KeptSite.{KeptSite}
use Rattle.jl_class.specs.Site.{Site}
use Rattle.jl_class.specs.Kept.{is_named, site_in}

-- these are kept of the invocations, each with the number of what it names
pub record IsKeptOf (pool : Pool) (kept : List KeptSite) (sites : List Site) : Type 0 where
  pub named : list_all (is_named pool) kept ≡ true
  pub shown : map (site_in pool) kept ≡ sites

-- what is kept of the invocations is added after what was there
pub record Adds (pool : Pool) (before after : List KeptSite) (sites : List Site) : Type 0 where
  pub made : List KeptSite
  pub later : after ≡ before ++ made
  pub kept : IsKeptOf pool made sites
