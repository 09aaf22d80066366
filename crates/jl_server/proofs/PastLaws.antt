-- What of a log is after its first entries tells what of its events is after the first.
use Rattle.std.specs.Prelude.{◌≡◌, ℕ, zero, suc, ◌&&◌, true, List, [], ◌∷◌, drop, length, Option, Some, None, is_some}
use Rattle.std.specs.List.{cons_option}
use Rattle.std.proofs.Common.{refl, ap, sym, ◌∙◌}
use Rattle.jl_types.specs.declared.limits.Limits.{Limits}
use Rattle.jl_types.specs.Events.Event.{Event}
use Rattle.jl_types.specs.declared.event.Reply.{Reply}
use Rattle.jl_types.specs.Values.World.{Class, World}
use Rattle.jl_types.specs.Events.History.{world_after}
use Rattle.jl_types.specs.Events.Entries as plain
use Rattle.jl_types.specs.Events.Entries.{events_of}
use Rattle.jl_core.specs.State.{State, world_of}
use Rattle.jl_core.specs.Logs.{Entry, told, are_told, shown}
use Rattle.jl_core.proofs.LogLaws.{length_told}
use Rattle.jl_server.specs.History.{core_of, logged_of}
use Rattle.jl_server.proofs.Logs.{world_logged, serial_logged}

module _ (rows : List Class) where
  -- the entries that are left tell their events, too, which are those that are left
  pub shown_drop : (entries : List Entry) → are_told rows entries ≡ true → (n : ℕ)
      → (are_told rows (drop n entries) ≡ true) × (shown rows (drop n entries) ≡ drop n (shown rows entries))
  shown_drop entries e zero = (e, refl)
  shown_drop [] e (suc n) = (refl, refl)
  shown_drop (entry ∷ entries) e (suc n) = by_one (told rows entry) e (shown_drop entries)
    where
      by_one : (o : Option (Event × Reply)) → (is_some o && are_told rows entries) ≡ true
          → (are_told rows entries ≡ true → (m : ℕ) → (are_told rows (drop m entries) ≡ true) × (shown rows (drop m entries) ≡ drop m (shown rows entries)))
          → (are_told rows (drop n entries) ≡ true) × (shown rows (drop n entries) ≡ drop (suc n) (cons_option o (shown rows entries)))
      by_one None k rest = absurd (cc k)
      by_one (Some x) k rest = rest k n

-- of a core whose log is the list, and the world after the list: what its entries after the first tell
module _ (n : Limits) (entries : List plain.Entry) (core : State) (is : core ≡ core_of n entries) (w : World) (after : w ≡ world_after (events_of entries))
    (log rest : List Entry) (from : ℕ) (left : rest ≡ drop from log) (all_told : are_told (world_of core).classes.rows log ≡ true) where
  same : w ≡ world_of core
  same = after ∙ sym (world_logged n entries core is)

  pub told_behind : are_told w.classes.rows rest ≡ true
  told_behind = (λ i. are_told (same i).classes.rows (left i)) ∙ (shown_drop (world_of core).classes.rows log all_told from).0

  pub shown_behind : shown (world_of core).classes.rows log ≡ core.log → shown w.classes.rows rest ≡ drop from (logged_of entries)
  shown_behind events =
      (λ i. shown (same i).classes.rows (left i))
      ∙ ((shown_drop (world_of core).classes.rows log all_told from).1
      ∙ ap (λ (xs : List (Event × Reply)). drop from xs) (events ∙ ap (λ (s : State). s.log) is))

-- such a log is as long as the list
pub as_long : (n : Limits) (entries : List plain.Entry) (core : State) → core ≡ core_of n entries → (log : List Entry)
    → are_told (world_of core).classes.rows log ≡ true → shown (world_of core).classes.rows log ≡ core.log → length log ≡ length entries
as_long n entries core is log all_told events =
    sym (length_told (world_of core).classes.rows log all_told)
    ∙ (ap (λ (xs : List (Event × Reply)). length xs) events ∙ serial_logged n entries core is)
