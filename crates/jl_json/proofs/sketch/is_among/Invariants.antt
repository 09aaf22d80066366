use Rattle.std.proofs.Common.{◌≡◌, drop}
use Rattle.std.specs.List.{list_any}
use Rattle.std.specs.Str.{bytes_eq}
use Rattle.jl_json.proofs.sketch.is_among.Given as goal

abbrev pub invariant-loop-name : goal.invariant-loop-name
invariant-loop-name l =
    list_any (λ name. bytes_eq l.fn.key name.now) (drop l.name-index l.named)
    ≡ list_any (λ name. bytes_eq l.fn.key name.now) l.named
