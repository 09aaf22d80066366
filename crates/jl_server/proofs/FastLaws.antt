-- An answer at once is the call's answer.
use Rattle.std.specs.Prelude.{◌≡◌, ℕ, Bool, true, false, nat_le, find, ◌==◌, List, [], ◌∷◌, map, Option, Some, None, Ok, if◌then◌else◌}
use Rattle.std.specs.List.{AllZip}
use Rattle.std.proofs.Common.{refl, sym, ◌∙◌}
use Rattle.std.proofs.lemmas.Bool.{and_from}
use Rattle.jl_types.specs.declared.answer.Outcome.{Outcome}
use Rattle.jl_types.specs.declared.answer.Throwable.TheVariants.{NullPointerException}
use Rattle.jl_types.specs.declared.answer.Recv.{Recv}
use Rattle.jl_types.specs.declared.answer.Recv.TheVariants.{Null, Of}
use Rattle.jl_types.specs.declared.answer.Answer.{Answer}
use Rattle.jl_types.specs.declared.answer.Answer.TheVariants as answer
use Rattle.jl_types.specs.declared.answer.Fast.{Fast}
use Rattle.jl_types.specs.declared.answer.Fast.TheVariants.{Now, Miss}
use Rattle.jl_types.specs.declared.link.Link.{Link}
use Rattle.jl_types.specs.declared.link.Link.TheVariants.{Fault, Plain, Direct, Table, Mega}
use Rattle.jl_types.specs.declared.link.TableKind.{TableKind}
use Rattle.jl_types.specs.Events.Event.{Event}
use Rattle.jl_types.specs.Values.World.{World, Classes}
use Rattle.jl_types.specs.Values.Members.{is_concrete}
use Rattle.jl_types.specs.Linkage.Stages.{ResolvedCall, Stage, Waits, Fails, Calls, Selects, stage}
use Rattle.jl_types.specs.Linkage.Links.{link_of, scratch}
use Rattle.jl_types.specs.Linkage.Calls.{answered, fits_named, dispatch}
use Rattle.jl_types.specs.Events.Fast.{entry_answer, fast_answer}
use Rattle.jl_types.specs.Events.History.{world_after, installed}
use Rattle.jl_types.proofs.Agreement.{fault_is_thrown, plain_is_run, null_is_thrown, direct_answers, table_answers}
use Rattle.jl_types.proofs.Installed.{installed_to, settled_now}
use Rattle.jl_server.specs.Receivers.{FitsLink, FitsInstalled}
use Rattle.jl_server.specs.Calls.{all_closed, AnswersCall}

-- ---- a site with a link that looks at the receiver selects by it

abbrev IsSelecting : Stage → Type 0
IsSelecting st = (i : ResolvedCall) × (st ≡ Selects i)

direct_selects : (cs : Classes) (st : Stage) (o : Outcome) → link_of cs st ≡ Ok (Direct o) → IsSelecting st
direct_selects cs (Waits reason) o e = cc
direct_selects cs (Fails throwable) o e = cc
direct_selects cs (Calls m) o e = cc
direct_selects cs (Selects i) o e = (i, refl)

table_selects : (cs : Classes) (st : Stage) (kind : TableKind) (rows : List (ℕ × Outcome)) → link_of cs st ≡ Ok (Table kind rows) → IsSelecting st
table_selects cs (Waits reason) kind rows e = cc
table_selects cs (Fails throwable) kind rows e = cc
table_selects cs (Calls m) kind rows e = cc
table_selects cs (Selects i) kind rows e = (i, refl)

-- ---- answers at once

now_same : (a b : Answer) → Now a ≡ Now b → a ≡ b
now_same a b e = cc

-- where the receiver's class isn't newer
known_same : (is_newer : Bool) (a b : Answer) → (if is_newer then Miss else Now a) ≡ Now b → a ≡ b
known_same true a b e = cc
known_same false a b e = now_same a b e

module _ (w : World) (s n : ℕ) where
  null_call : (a : Answer) → IsSelecting (stage w s) → Now (answer.Throws NullPointerException) ≡ Now a → dispatch w s Null ≡ a
  null_call a selects now = null_is_thrown w s selects.0 selects.1 ∙ now_same (answer.Throws NullPointerException) a now

  direct_call : (x : ℕ) (o : Outcome) (a : Answer) → scratch w s ≡ Ok (Direct o) → FitsLink w s (Direct o) (Of x)
      → fast_answer (Some (Direct o)) n (Of x) ≡ Now a → dispatch w s (Of x) ≡ a
  direct_call x o a e fits now =
      let selects = direct_selects w.classes (stage w s) o e in
      let i = selects.0 in
      let is_receiver = and_from (is_concrete w.classes x) (fits_named w.classes i i.selector x) fits.0 (fits.1 i selects.1) in
      direct_answers w s x i o selects.1 e is_receiver ∙ known_same (nat_le n x) (answered o) a now

  -- the link from scratch answers at once what the call comes to
  pub link_is_dispatch : (link : Link) (recv : Recv) (a : Answer) → scratch w s ≡ Ok link → FitsLink w s link recv
      → fast_answer (Some link) n recv ≡ Now a → dispatch w s recv ≡ a
  link_is_dispatch (Fault throwable) recv a e fits now = fault_is_thrown w s throwable recv e ∙ now_same (answer.Throws throwable) a now
  link_is_dispatch (Plain m) recv a e fits now = plain_is_run w s m recv e ∙ now_same (answer.Run m) a now
  link_is_dispatch (Direct o) Null a e fits now = null_call a (direct_selects w.classes (stage w s) o e) now
  link_is_dispatch (Direct o) (Of x) a e fits now = direct_call x o a e fits now
  link_is_dispatch (Table kind rows) Null a e fits now = null_call a (table_selects w.classes (stage w s) kind rows e) now
  link_is_dispatch (Table kind rows) (Of x) a e fits now =
      table_answers w s x kind rows e fits ∙ known_same (nat_le n x) (entry_answer kind (find (λ row. row.0 == x) rows)) a now
  link_is_dispatch Mega recv a e fits now = cc

-- ---- of installed links

pub installed_is_dispatch : (h : List Event) (s n : ℕ) (recv : Recv) (a : Answer) (link : Link) → installed h s ≡ Some link
    → FitsLink (world_after h) s link recv → fast_answer (Some link) n recv ≡ Now a → dispatch (world_after h) s recv ≡ a
installed_is_dispatch h s n recv a link is fits now =
    link_is_dispatch (world_after h) s n link recv a (settled_now h s link (installed_to h s link is)) fits now

-- as a caller has it: the answer of whatever is installed, in a value of its own
pub now_is_dispatch : (h : List Event) (s n : ℕ) (recv : Recv) (f : Fast) (a : Answer)
    → f ≡ fast_answer (installed h s) n recv → f ≡ Now a → FitsInstalled h s recv → dispatch (world_after h) s recv ≡ a
now_is_dispatch h s n recv f a is now fits = by_installed (installed h s) refl (sym is ∙ now)
  where
    by_installed : (o : Option Link) → installed h s ≡ o → fast_answer o n recv ≡ Now a → dispatch (world_after h) s recv ≡ a
    by_installed None there at_once = cc
    by_installed (Some link) there at_once = installed_is_dispatch h s n recv a link there (fits link there) at_once

-- ---- of several calls

pub each_answered : (h : List Event) (n : ℕ) (calls : List (ℕ × Recv))
    → AllZip (AnswersCall h) calls (map (λ call. fast_answer (installed h call.0) n call.1) calls)
each_answered h n [] = tt
each_answered h n (call ∷ calls) =
    (λ a now fits. now_is_dispatch h call.0 n call.1 (fast_answer (installed h call.0) n call.1) a refl now fits, each_answered h n calls)

pub each_closed : (h : List Event) (calls : List (ℕ × Recv)) → AllZip (AnswersCall h) calls (all_closed calls)
each_closed h [] = tt
each_closed h (call ∷ calls) = (λ a now fits. cc, each_closed h calls)
