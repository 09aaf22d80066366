-- How many there are that a renewal takes over.
use Rattle.std.specs.Prelude.{[]}
use Rattle.jl_types.specs.Values.World.{World}
use Rattle.jl_renewal.specs.declared.present.Counts.{Counts}
use Rattle.jl_renewal.specs.declared.released.Released.{Released}
use Rattle.jl_renewal.specs.Numbers.{how_many}
use Rattle.jl_renewal.specs.Staying.{staying_loaders, staying_classes, staying_sites, staying_call_sites, staying_switches}

-- the host has let nothing go
abbrev pub none_released : Released
none_released = record { call_sites = []; switches = [] }

-- what would stay of the world then
abbrev pub counts_present : World → Counts
counts_present w = record {
  loaders = how_many (staying_loaders w.classes);
  classes = how_many (staying_classes w.classes);
  sites = how_many (staying_sites w.classes w.places);
  call_sites = how_many (staying_call_sites w none_released);
  switches = how_many (staying_switches w none_released);
}
