-- The link of what selects by its receiver, and the answer of an invokespecial, by what is kept of it.
use Rattle.std.specs.Prelude.{◌≡◌, ℕ, List, ◌<◌, length, Some, option_map, Ok, if◌then◌else◌}
use Rattle.std.proofs.Common.{refl, sym, ap, ◌∙◌}
use Rattle.std.proofs.Math.Bool.{and-true}
use Rattle.std.proofs.lemmas.Option.{same_Some}
use Rattle.jl_pool.specs.declared.reference.Reference.{Reference}
use Rattle.jl_types.specs.declared.answer.Answer.TheVariants as answer
use Rattle.jl_types.specs.declared.answer.Outcome.{Outcome}
use Rattle.jl_types.specs.declared.answer.Recv.{Recv}
use Rattle.jl_types.specs.declared.answer.Recv.TheVariants.{Null, Of}
use Rattle.jl_types.specs.declared.ids.MethodId.{MethodId}
use Rattle.jl_types.specs.declared.link.TableKind.{TableKind}
use Rattle.jl_types.specs.declared.link.TableKind.TheVariants.{Virtual, Interface}
use Rattle.jl_types.specs.Values.World.{Classes}
use Rattle.jl_types.specs.Values.Members.{is_concrete}
use Rattle.jl_types.specs.Linkage.Resolution.{named_class}
use Rattle.jl_types.specs.Linkage.Selection.{special_outcome}
use Rattle.jl_types.specs.Linkage.Stages.{Stage, BySpecial, Selects, ResolvedCall}
use Rattle.jl_types.specs.Linkage.Calls.{answered, answer_of, selected}
use Rattle.jl_types.specs.Linkage.Links.{outcome, link_of, link_by}
use Rattle.jl_relink.specs.declared.selection.Selection.{Selection}
use Rattle.jl_relink.specs.ForProofs.Rows.{outcome_of, selected_link, special_answer}
use Rattle.jl_relink.specs.Receivers.{IsSelection}
use Rattle.jl_relink.specs.Stages.{selector_of, IsKept, IsSearch}

module _ (cs : Classes) (named : ℕ) (m : MethodId) (i : ResolvedCall) where
  abbrev kept : TableKind → Selection
  kept kind = record { kind = kind; named = named; method = m }

  whole : (kind : TableKind) → IsKept (kept kind) i → i ≡ record { selector = selector_of kind; caller = i.caller; named = named; ref = i.ref; method = m }
  whole kind k = λ j. record { selector = k.selector j; caller = i.caller; named = k.named j; ref = i.ref; method = k.method j }

  kept_outcome : (x : ℕ) (kind : TableKind) → IsKept (kept kind) i → outcome cs i x ≡ outcome_of cs (kept kind) x
  kept_outcome x Virtual k = ap (λ (i : ResolvedCall). outcome cs i x) (whole Virtual k)
  kept_outcome x Interface k = ap (λ (i : ResolvedCall). outcome cs i x) (whole Interface k)

  kept_link : (kind : TableKind) → IsKept (kept kind) i → link_by cs i i.selector ≡ selected_link cs (kept kind)
  kept_link Virtual k = ap (λ (i : ResolvedCall). link_by cs i i.selector) (whole Virtual k)
  kept_link Interface k = ap (λ (i : ResolvedCall). link_by cs i i.selector) (whole Interface k)

pub selects_link : (cs : Classes) (stage : Stage) (s : Selection) → (i : ResolvedCall) × (stage ≡ Selects i) × IsKept s i × (s.named < length cs.rows)
    → link_of cs stage ≡ Ok (selected_link cs s)
selects_link cs stage s r = ap (link_of cs) r.1 ∙ ap Ok (kept_link cs s.named s.method r.0 s.kind r.2)

-- what selects by its receiver comes to what is kept of it does
pub selects_outcome : (cs : Classes) (stage : Stage) (s : Selection) (x : ℕ) → IsSelection cs stage (Some s)
    → (i : ResolvedCall) → stage ≡ Selects i → outcome cs i x ≡ outcome_of cs s x
selects_outcome cs stage s x r i e =
    ap (λ (i : ResolvedCall). outcome cs i x) (inside i r.0 (sym e ∙ r.1)) ∙ kept_outcome cs s.named s.method r.0 x s.kind r.2
  where
    inside : (i j : ResolvedCall) → Selects i ≡ Selects j → i ≡ j
    inside i j h = cc

-- ---- an invokespecial

module _ (cs : Classes) (d : ℕ) (ref : Reference (List ℕ)) (o : Outcome) (i : ResolvedCall) (is : IsSearch cs d ref i)
    (found : Some o ≡ option_map (λ named. special_outcome cs d named ref) (named_class cs d ref)) where
  abbrev searching : ResolvedCall
  searching = record { selector = BySpecial; caller = d; named = i.named; ref = ref; method = i.method }

  whole_search : i ≡ searching
  whole_search = λ j. record { selector = is.selector j; caller = is.caller j; named = i.named; ref = is.reference j; method = i.method }

  comes_to : o ≡ special_outcome cs d i.named ref
  comes_to = same_Some o (special_outcome cs d i.named ref) (found ∙ ap (option_map (λ named. special_outcome cs d named ref)) is.names)

  by_receiver : (recv : Recv) → special_answer cs o recv ≡ selected cs searching recv
  by_receiver Null = refl
  by_receiver (Of x) = λ j. if sym (and-true (is_concrete cs x)) j then answered (comes_to j) else answer.BadReceiver

  search_answer_by : (recv : Recv) → special_answer cs o recv ≡ selected cs i recv
  search_answer_by recv = by_receiver recv ∙ sym (ap (λ (i : ResolvedCall). selected cs i recv) whole_search)

-- it is answered by what it comes to for the class that its reference names
pub search_answer : (cs : Classes) (d : ℕ) (ref : Reference (List ℕ)) (stage : Stage) (o : Outcome) (recv : Recv)
    → (i : ResolvedCall) × (stage ≡ Selects i) × IsSearch cs d ref i
    → Some o ≡ option_map (λ named. special_outcome cs d named ref) (named_class cs d ref)
    → special_answer cs o recv ≡ answer_of cs stage recv
search_answer cs d ref stage o recv r found =
    search_answer_by cs d ref o r.0 r.2 found recv ∙ sym (ap (λ (t : Stage). answer_of cs t recv) r.1)
