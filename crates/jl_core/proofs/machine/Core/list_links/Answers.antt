use Rattle.std.specs.Prelude.{length, Result, Ok, Err, IfOk}
use Rattle.std.proofs.Common.{sym, ◌∙◌}
use Rattle.jl_types.specs.Events.History.{world_after, installed}
use Rattle.jl_types.proofs.InstalledLinks.{installed_requested}
use Rattle.jl_cache.proofs.ListLaws.{rows_found}
use Rattle.jl_core.specs.State.{events}
use Rattle.jl_core.proofs.machine.Core.list_links.Goals as goal

for_ok : {X E : Type 0} {P Q : X → Type 0} → ((x : X) → P x → Q x) → (r : Result X E) → IfOk r P → IfOk r Q
for_ok f (Ok x) h = f x h
for_ok f (Err e) h = tt

pub returns : goal.returns
returns c =
    let h = events c.args.self.now in
    for_ok
    (λ rows items.
    items ∙ sym (rows_found c.links.result.now c.list.ensures.rising (installed h) (length (world_after h).places) c.links.ensures (installed_requested h)))
    c.list.result c.list.ensures.items
