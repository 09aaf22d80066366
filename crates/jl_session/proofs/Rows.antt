-- Worked rows, by computation.
use Rattle.std.proofs.Common.{◌≡◌, [], ◌∷◌, refl, None, Some}
use Rattle.std.specs.Prelude.{codes}
use Rattle.hex.proofs.OnLiterals.{hex_on_literals}
use Rattle.jl_session.specs.Scans.{file_of}

-- hexadecimal of either case, and none
hex_both : file_of (codes "cAFe") ≡ Some (0xca ∷ 0xfe ∷ [])
unfolding hex_on_literals
hex_both = refl

hex_odd : file_of (codes "caf") ≡ None
unfolding hex_on_literals
hex_odd = refl

hex_other : file_of (codes "cg") ≡ None
unfolding hex_on_literals
hex_other = refl
