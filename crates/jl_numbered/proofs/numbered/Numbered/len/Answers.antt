use Rattle.std.proofs.Common.{subst}
use Rattle.jl_numbered.specs.Numbers.{Numbered, AreRising}
use Rattle.jl_numbered.proofs.PlacedLaws.{rising}
use Rattle.jl_numbered.proofs.numbered.Numbered.len.Goals as goal

pub returns-clause-rising : goal.returns-clause-rising
returns-clause-rising g c = subst (λ (m : Numbered _). AreRising m.entries) c.self.view_is (rising 0 c.self.inside.slots.items)
