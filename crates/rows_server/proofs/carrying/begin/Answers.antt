use Rattle.std.specs.Prelude.{◌≡◌, length, Result, Ok, IfOk, OnOk}
use Rattle.std.proofs.Common.{ap, subst}
use Rattle.jl_types.specs.Events.Entries.{events_of}
use Rattle.jl_types.specs.Events.History.{world_after}
use Rattle.jl_core.specs.Logs.{shown}
use Rattle.jl_core.specs.State.{AreAnswered}
use Rattle.jl_server.specs.History.{core_of, logged_of}
use Rattle.rows_server.proofs.carrying.Pasts.{is_past}
use Rattle.rows_server.proofs.carrying.begin.Goals as goal

holds : {X E : Type 0} {x : X} (P : X → Type 0) (r : Result X E) → r ≡ Ok x → IfOk r P → P x
holds P r is h = subst (λ q. IfOk q P) is h

holds_on : {X E : Type 0} {x : X} (P : Type 0) (r : Result X E) → r ≡ Ok x → OnOk r P → P
holds_on P r is h = subst (λ q. OnOk q P) is h

pub refilled-requires-clause-past : goal.refilled-requires-clause-past
refilled-requires-clause-past g c =
    let result = c.past.result in
    let is = c.in-Ok.is in
    let past = c.in-Ok.past in
    let list = c.past.new.self in
    is_past g.K.Name.limits past.world.world past.log list
    (ap (λ s. s.world)
    (holds (λ s. s.world ≡ record { world = world_after (events_of list); serial = length list }) result is c.past.ensures.world))
    (holds (λ s. shown s.world.world.classes.rows s.log ≡ logged_of list) result is c.past.ensures.entries)
    (holds_on (AreAnswered (core_of g.K.Name.limits list)) result is c.past.ensures.answered)
