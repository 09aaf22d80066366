use Rattle.std.proofs.Common.{◌≡◌, ◌&&◌, drop}
use Rattle.std.specs.Prelude.{nat_lt}
use Rattle.jl_json.specs.ForProofs.NameReading.{is_plain}
use Rattle.jl_json.proofs.plain.is_short_plain.Given as goal

abbrev pub invariant-loop-byte : goal.invariant-loop-byte
invariant-loop-byte l = (nat_lt l.most 0x7f && is_plain (drop l.byte-index l.name)) ≡ is_plain l.name
