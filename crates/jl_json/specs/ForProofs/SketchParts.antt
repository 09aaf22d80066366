-- What may be left out of a sketch, read into a sketch that has the rest.
use Rattle.std.specs.Prelude.{[], codes, Option, Some}
use Rattle.serde_json.specs.Data.{Data}
use Rattle.jl_sketch.specs.declared.sketch.Sketch.{Sketch}
use Rattle.jl_json.specs.Members.{◌>>=◌, list_in, or_absent}
use Rattle.jl_json.specs.Sketches.{method_in, name_if_any, names_at}

abbrev pub with_lists : Sketch → Data → Option Sketch
with_lists s d = do
  interfaces ← names_at (codes "interfaces") d
  methods ← or_absent [] (list_in method_in) (codes "methods") d
  host ← name_if_any (codes "host") d
  members ← names_at (codes "members") d
  Some (record {
    name = s.name;
    flags = s.flags;
    superclass = s.superclass;
    interfaces = interfaces;
    methods = methods;
    host = host;
    members = members;
  })
