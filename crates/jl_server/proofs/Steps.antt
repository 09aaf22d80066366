-- What the result of a step of the book says, by what is known of the lists.
use Rattle.std.specs.Prelude.{◌≡◌, ◌<◌, List, [], ◌∷◌, ◌++◌, length, Result, Ok, Err, IfOk, IfErr}
use Rattle.std.proofs.Common.{sym, subst, ◌∙◌}
use mathlib.Core.List.{IsPrefix}
use Rattle.jl_types.specs.declared.limits.Limits.{Limits}
use Rattle.jl_types.specs.Events.Event.{Event}
use Rattle.jl_types.specs.declared.event.Reply.{Reply}
use Rattle.jl_types.specs.declared.refusal.Refusal.{Refusal}
use Rattle.jl_types.specs.declared.refusal.Refusal.TheVariants.{Memory}
use Rattle.jl_types.specs.Events.Entries.{Entry, IsLegal, events_of}
use Rattle.jl_types.specs.Events.Verdict.{verdict}
use Rattle.jl_types.specs.Events.History.{world_after}
use Rattle.jl_core.specs.State.{IsAccepted, IsRefused}
use Rattle.jl_core.specs.Plans.{Plan, IsPlanned}
use Rattle.jl_server.specs.History.{EndsWith, core_of, entry_after, planned_entry}
use Rattle.jl_server.specs.declared.book.Receipt.{Receipt}
use Rattle.jl_server.specs.declared.book.Denied.{Denied}
use Rattle.jl_server.proofs.Ends.{named_begun, named_longer, named_counted, named_legal, named_ends}
use Rattle.jl_server.proofs.Logs.{accepted_step, entry_step, refused_step}

-- ---- once the event was planned after the list

module _ (n : Limits) (entries new : List Entry) (e : Event) (plan : Plan) (planned : IsPlanned (core_of n entries) e plan) where
  pub is_accepted : (r : Result Reply Refusal) → IfOk r (λ reply. (new ≡ entries ++ planned_entry plan ∷ []) × (reply ≡ plan.reply))
      → IfOk r (λ reply. IsAccepted (core_of n entries) (core_of n new) e reply)
  is_accepted (Ok reply) said = accepted_step n entries e plan planned new reply said.0 said.1
  is_accepted (Err refusal) said = tt

  pub is_grown : (r : Result Reply Refusal) → IfOk r (λ reply. (new ≡ entries ++ planned_entry plan ∷ []) × (reply ≡ plan.reply))
      → IfOk r (λ reply. new ≡ entries ++ entry_after entries e reply ∷ [])
  is_grown (Ok reply) said = entry_step n entries e plan planned new reply said.0 said.1
  is_grown (Err refusal) said = tt

  pub is_refused : (r : Result Reply Refusal) → IfErr r (λ refusal. (refusal ≡ Memory) × (new ≡ entries))
      → IfErr r (λ refusal. IsRefused (verdict n (world_after (events_of entries)) e) refusal)
  is_refused (Ok reply) said = tt
  is_refused (Err refusal) said = refused_step n entries e plan planned refusal said.0

-- ---- once it is done, after a list that begins the old one

module _ {K : Type 0} (n : Limits) (seen old new : List Entry) (e : Event) (begun : IsPrefix seen old) where
  pub receipt_after : (r : Result (Receipt K) (Denied K)) → IfOk r (λ x. new ≡ old ++ entry_after old e x.reply ∷ [])
      → IfOk r (λ x. (x.seen ≡ new) × (x.serial ≡ length new)) → IsLegal n new
      → IfOk r (λ x. IsPrefix seen x.seen × IsLegal n x.seen × (x.serial ≡ length x.seen))
  receipt_after (Ok x) grown told legal = (
    named_begun seen old new x.seen begun told.0 (entry_after old e x.reply) grown,
    named_legal seen old new x.seen begun told.0 n legal,
    named_counted seen old new x.seen begun told.0 x.serial told.1,
  )
  receipt_after (Err d) grown told legal = tt

  pub ends_after : (r : Result (Receipt K) (Denied K)) → IfOk r (λ x. new ≡ old ++ entry_after old e x.reply ∷ [])
      → IfOk r (λ x. (x.seen ≡ new) × (x.serial ≡ length new)) → IfOk r (λ x. EndsWith x.seen e x.reply)
  ends_after (Ok x) grown told = named_ends seen old new x.seen begun told.0 e x.reply grown
  ends_after (Err d) grown told = tt

  pub longer_after : (r : Result (Receipt K) (Denied K)) → IfOk r (λ x. new ≡ old ++ entry_after old e x.reply ∷ [])
      → IfOk r (λ x. (x.seen ≡ new) × (x.serial ≡ length new)) → IfOk r (λ x. length seen < length x.seen)
  longer_after (Ok x) grown told = named_longer seen old new x.seen begun told.0 (entry_after old e x.reply) grown
  longer_after (Err d) grown told = tt

  pub denied_seen : (r : Result (Receipt K) (Denied K)) → IfErr r (λ d. (d.seen ≡ old) × (new ≡ old)) → IsLegal n new
      → IfErr r (λ d. IsPrefix seen d.seen × IsLegal n d.seen)
  denied_seen (Ok x) same legal = tt
  denied_seen (Err d) same legal = (
    subst (λ (es : List Entry). IsPrefix seen es) (sym same.0) begun,
    subst (λ (es : List Entry). IsLegal n es) (same.1 ∙ sym same.0) legal,
  )

  pub refused_seen : (r : Result (Receipt K) (Denied K)) → IfErr r (λ d. (d.seen ≡ old) × (new ≡ old))
      → IfErr r (λ d. IsRefused (verdict n (world_after (events_of old)) e) d.refusal)
      → IfErr r (λ d. IsRefused (verdict n (world_after (events_of d.seen)) e) d.refusal)
  refused_seen (Ok x) same refused = tt
  refused_seen (Err d) same refused =
      subst (λ (es : List Entry). IsRefused (verdict n (world_after (events_of es)) e) d.refusal) (sym same.0) refused
