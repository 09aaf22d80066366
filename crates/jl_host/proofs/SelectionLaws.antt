-- The answer to a call of a method stays on each object of a class that was there.
use Rattle.std.specs.Prelude.{◌≡◌, ℕ, ◌<◌, ◌&&◌, true, List, [], ◌++◌, length, slice_get, Option, Some, None, is_some, if◌then◌else◌}
use Rattle.std.specs.Option.{option_map_or}
use Rattle.std.proofs.Common.{refl, ap, sym, ◌∙◌}
use Rattle.std.proofs.lemmas.Option.{slice_get_within}
use Rattle.jl_types.specs.declared.ids.MethodId.{MethodId}
use Rattle.jl_types.specs.declared.answer.Recv.TheVariants.{Of}
use Rattle.jl_types.specs.declared.answer.Answer.TheVariants as answer
use Rattle.jl_types.specs.declared.answer.Outcome.TheVariants.{Run}
use Rattle.jl_types.specs.Values.World.{Class, Classes}
use Rattle.jl_types.specs.Values.Members.{method_at, is_concrete}
use Rattle.jl_types.specs.Linkage.Calls.{answered}
use Rattle.jl_types.specs.Linkage.Selection.{is_init}
use Rattle.jl_types.specs.Events.Event.{Event}
use Rattle.jl_types.specs.Events.History.{world_after}
use Rattle.jl_types.proofs.Orders.{IsGood, world_good}
use Rattle.jl_hierarchy.specs.Constancy.{Stays}
use Rattle.jl_resolve.proofs.Unchanged.{flag_stays, static_stays, ancestor_stays, interface_stays}
use Rattle.jl_select.proofs.Constancy.{virtual_outcome_stays, interface_outcome_stays}
use Rattle.jl_memo.proofs.Staying.{all_events, concrete_before}
use Rattle.jl_host.specs.Calling.{outcome_on, called}

-- the class of a method that is there is there
class_there : (cs : Classes) (m : MethodId) → is_some (method_at cs m) ≡ true → m.class < length cs.rows
class_there cs m is = by_row (slice_get cs.rows m.class) refl
  where
    by_row : (o : Option Class) → slice_get cs.rows m.class ≡ o → m.class < length cs.rows
    by_row (Some row) at = slice_get_within cs.rows m.class row at
    by_row None at =
        let none = ap (λ (o : Option Class). is_some (slice_get (option_map_or (λ row. row.file.methods) o []) m.index)) at in cc (none, is)

module _ (old new : Classes) (stays : Stays old new) (good : IsGood old) (m : MethodId) (x : ℕ) (method : m.class < length old.rows)
    (class : x < length old.rows) where
  outcome_stays : outcome_on new m x ≡ outcome_on old m x
  outcome_stays =
      λ i. if flag_stays old new stays good (λ method. is_init method.name) m method i then Run m else (
      if interface_stays old new stays good m.class method i
      then interface_outcome_stays old new stays good x m class method m.class i else virtual_outcome_stays old new stays good x m class method i)

  called_stays : is_concrete old x ≡ true → is_concrete new x ≡ true → called new m (Of x) ≡ called old m (Of x)
  called_stays before after =
      λ i. if static_stays old new stays good m method i then answer.Run m else (
      if (after ∙ sym before) i && ancestor_stays old new stays good m.class x class i then answered (outcome_stays i) else answer.BadReceiver)

pub call_stays : (h more : List Event) (m : MethodId) (x : ℕ) → is_some (method_at (world_after h).classes m) ≡ true
    → x < length (world_after h).classes.rows → is_concrete (world_after (h ++ more)).classes x ≡ true
    → called (world_after (h ++ more)).classes m (Of x) ≡ called (world_after h).classes m (Of x)
call_stays h more m x there class after =
    let old = (world_after h).classes in
    called_stays old (world_after (h ++ more)).classes (all_events more h).classes (world_good h) m x (class_there old m there) class
    (concrete_before h more x class after) after
