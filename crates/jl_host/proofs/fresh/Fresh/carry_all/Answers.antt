use Rattle.std.specs.Prelude.{◌<◌, ◌+◌, ◌∷◌, drop, length}
use Rattle.std.proofs.Common.{◌∙◌, sym, ap, subst, arith}
use Rattle.jl_core.specs.Logs.{Entry}
use Rattle.jl_host.specs.Renewing.{HasCarried}
use Rattle.jl_host.proofs.ReadingLaws.{rest_from}
use Rattle.jl_host.proofs.RenewingLaws.{one_carried}
use Rattle.jl_host.proofs.fresh.Fresh.carry_all.Goals as goal

pub loop-entry-preserved : goal.loop-entry-preserved
loop-entry-preserved c =
    let entries = c.args.entries.now in
    let from = drop c.args.carried.now entries in
    let here = c.loop-entry.carried in
    let entry = c.in-Some.entry.now in
    let few : here < length entries = c.in-Some.ensures.lookup.3.0 in
    let next = rest_from entries here entry few ∙ ap (λ (e : Entry). e ∷ drop (here + 1) entries) (sym c.in-Some.ensures.lookup.1) in
    record {
      few = omega (arith, few);
      so_far =
          one_carried c.args.defined.now from entry (drop (here + 1) entries) c.args.self.now c.loop-entry.self c.carry.new.self
          (subst (λ left. HasCarried c.args.defined.now from left c.args.self.now c.loop-entry.self) next c.loop-entry.invariant.so_far)
          c.in_ok-carry.ensures.carried;
    }
