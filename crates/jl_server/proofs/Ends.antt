-- What follows of a list that another one goes on.
use Rattle.std.specs.Prelude.{◌≡◌, ℕ, ◌<◌, List, [], ◌∷◌, ◌++◌, length}
use Rattle.std.proofs.Common.{ap, sym, ◌∙◌, subst, arith, length-append}
use mathlib.Core.List.{IsPrefix}
use Rattle.jl_types.specs.declared.limits.Limits.{Limits}
use Rattle.jl_types.specs.Events.Event.{Event}
use Rattle.jl_types.specs.declared.event.Reply.{Reply}
use Rattle.jl_types.specs.Events.Entries.{Entry, IsLegal}
use Rattle.jl_server.specs.History.{EndsWith, entry_after}
use Rattle.jl_server.proofs.Beginnings.{prefix_length, prefix_trans}

-- a list that was seen begins the old one, and a receipt names the new one, which has one entry more
module _ (seen old new named : List Entry) (begun : IsPrefix seen old) (same : named ≡ new) where
  module _ (x : Entry) (grown : new ≡ old ++ x ∷ []) where
    pub named_begun : IsPrefix seen named
    named_begun = prefix_trans seen old named begun (x ∷ [], sym (same ∙ grown))

    pub named_longer : length seen < length named
    named_longer = omega (arith, prefix_length seen old begun, ap length (same ∙ grown) ∙ length-append old (x ∷ []))

  pub named_counted : (serial : ℕ) → serial ≡ length new → serial ≡ length named
  named_counted serial is = is ∙ ap length (sym same)

  pub named_legal : (n : Limits) → IsLegal n new → IsLegal n named
  named_legal n = subst (IsLegal n) (sym same)

  pub named_ends : (e : Event) (reply : Reply) → new ≡ old ++ entry_after old e reply ∷ [] → EndsWith named e reply
  named_ends e reply grown = (old, same ∙ grown)
