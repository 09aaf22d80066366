use Rattle.std.proofs.Common.{rules}
use Rattle.jl_pool.specs.ForProofs.Forms.{form_of}
use Rattle.jl_code.proofs.code.slots_at.Goals as goal

pub returns-in-Some : goal.returns-in-Some
unfolding form_of
returns-in-Some c = search rules
