use Rattle.std.proofs.Common.{inr}
use Rattle.jl_renewal.specs.declared.entries.CarryFault.TheVariants.{Refused}
use Rattle.jl_host.proofs.begun.Begun.fill_on.Goals as goal

pub returns-in-Err-Refused : goal.returns-in-Err-Refused
returns-in-Err-Refused c =
    inr (
      Refused c.in-Err-Refused.refusal,
      rw c.in-Err-Refused.field-0-is at c.in-Err-Refused.ensures.stopped,
      (c.tell.ensures.status, c.tell.ensures.told),
    )
