-- No answer has a float, so its text is stated.
use Rattle.std.proofs.Common.{◌≡◌, refl, ℕ, List, [], ◌∷◌, map, false, Option, Some, None}
use Rattle.serde_json.specs.Data.{Data}
use Rattle.serde_json.specs.View.{items_of}
use Rattle.serde_json.specs.Written.{has_float, items_have_float}
use Rattle.jl_types.specs.declared.answer.Answer.{Answer}
use Rattle.jl_types.specs.declared.answer.Answer.TheVariants as answer
use Rattle.jl_types.specs.declared.answer.Outcome.{Outcome}
use Rattle.jl_types.specs.declared.answer.Outcome.TheVariants.{Run, Throws}
use Rattle.jl_types.specs.declared.answer.Unlinked.{Unlinked}
use Rattle.jl_types.specs.declared.answer.Unlinked.TheVariants.{NotReady, Unbound, Gone, NoSite}
use Rattle.jl_types.specs.declared.event.Made.{Made}
use Rattle.jl_types.specs.declared.event.Made.TheVariants as made
use Rattle.jl_types.specs.declared.event.Reply.{Reply}
use Rattle.jl_types.specs.declared.link.Link.{Link}
use Rattle.jl_types.specs.declared.link.Link.TheVariants as link
use Rattle.jl_types.specs.declared.refusal.CallSiteFault.{CallSiteFault}
use Rattle.jl_types.specs.declared.refusal.CallSiteFault.TheVariants as call_site
use Rattle.jl_types.specs.declared.refusal.DefineFault.{DefineFault}
use Rattle.jl_types.specs.declared.refusal.DefineFault.TheVariants as define
use Rattle.jl_types.specs.declared.refusal.PrepareFault.{PrepareFault}
use Rattle.jl_types.specs.declared.refusal.PrepareFault.TheVariants as prepare
use Rattle.jl_types.specs.declared.refusal.Refusal.{Refusal}
use Rattle.jl_types.specs.declared.refusal.Refusal.TheVariants as refusal
use Rattle.jl_types.specs.declared.refusal.ReleaseFault.{ReleaseFault}
use Rattle.jl_types.specs.declared.refusal.ReleaseFault.TheVariants as release
use Rattle.jl_types.specs.declared.refusal.RetireFault.{RetireFault}
use Rattle.jl_types.specs.declared.refusal.RetireFault.TheVariants as retire
use Rattle.jl_json.specs.CallAnswers.{unlinked_data, answer_data}
use Rattle.jl_json.specs.ClassAnswers.{number_data}
use Rattle.jl_json.specs.EventRefusals.{call_site_refusal_data, define_refusal_data, event_refusal_data, prepare_refusal_data}
use Rattle.jl_json.specs.EventRefusals.{retire_members, retire_refusal_data, retire_all_refusal_data, release_refusal_data}
use Rattle.jl_json.specs.LinkAnswers.{outcome_data, table_row_data, link_data}
use Rattle.jl_json.specs.LinkAnswers.{site_link_data, site_links_data, links_data, prepared_data}
use Rattle.jl_json.specs.Refusals as plain
use Rattle.jl_json.specs.Refusals.{refusal_of}
use Rattle.jl_json.specs.Replies.{made_data, reply_data}

parts_floats : (reason : List ℕ) (place method : Option ℕ)
    → has_float (refusal_of (record { reason = reason; place = place; method = method })) ≡ false
unfolding refusal_of
parts_floats reason None None = refl
parts_floats reason None (Some i) = refl
parts_floats reason (Some n) None = refl
parts_floats reason (Some n) (Some i) = refl

pub refusal_floats : (r : plain.FileRefusal) → has_float (refusal_of r) ≡ false
refusal_floats r = parts_floats r.reason r.place r.method

-- ---- outcomes and links

pub outcome_floats : (outcome : Outcome) → has_float (outcome_data outcome) ≡ false
outcome_floats (Run m) = refl
outcome_floats (Throws throwable) = refl

row_floats : (row : ℕ × Outcome) → has_float (table_row_data row) ≡ false
unfolding table_row_data
row_floats row = rw (outcome_floats row.1) refl

rows_floats : (rows : List (ℕ × Outcome)) → items_have_float (items_of (map table_row_data rows)) ≡ false
rows_floats [] = refl
rows_floats (row ∷ rows) = rw (row_floats row) (rows_floats rows)

pub link_floats : (l : Link) → has_float (link_data l) ≡ false
unfolding link_data
link_floats (link.Fault throwable) = refl
link_floats (link.Plain m) = refl
link_floats (link.Direct outcome) = rw (outcome_floats outcome) refl
link_floats (link.Table kind rows) = rw (rows_floats rows) refl
link_floats link.Mega = refl

site_link_floats : (row : ℕ × Link) → has_float (site_link_data row) ≡ false
unfolding site_link_data
site_link_floats row = rw (link_floats row.1) refl

each_floats : (rows : List (ℕ × Link)) → items_have_float (items_of (map site_link_data rows)) ≡ false
each_floats [] = refl
each_floats (row ∷ rows) = rw (site_link_floats row) (each_floats rows)

pub links_floats : (rows : List (ℕ × Link)) → has_float (links_data rows) ≡ false
unfolding site_links_data
links_floats rows = rw (each_floats rows) refl

pub prepared_floats : (batch : ℕ) (rows : List (ℕ × Link)) → has_float (prepared_data batch rows) ≡ false
unfolding site_links_data
prepared_floats batch rows = rw (each_floats rows) refl

-- ---- calls

unlinked_floats : (reason : Unlinked) → has_float (unlinked_data reason) ≡ false
unlinked_floats (NotReady missing) = refl
unlinked_floats Unbound = refl
unlinked_floats Gone = refl
unlinked_floats NoSite = refl

pub answer_floats : (a : Answer) → has_float (answer_data a) ≡ false
unfolding answer_data
answer_floats (answer.Run m) = refl
answer_floats (answer.Throws throwable) = refl
answer_floats answer.BadReceiver = refl
answer_floats (answer.Unlinked reason) = unlinked_floats reason

-- ---- accepted events

numbers_floats : (numbers : List ℕ) → items_have_float (items_of (map number_data numbers)) ≡ false
numbers_floats [] = refl
numbers_floats (n ∷ numbers) = numbers_floats numbers

made_floats : (m : Made) (dropped : Data) → has_float dropped ≡ false → has_float (made_data m dropped) ≡ false
made_floats made.Nothing dropped e = rw e refl
made_floats (made.Loader n) dropped e = rw e refl
made_floats (made.Class n) dropped e = rw e refl
made_floats (made.Site n) dropped e = rw e refl
made_floats (made.CallSite n) dropped e = rw e refl
made_floats (made.Switch n) dropped e = rw e refl

pub reply_floats : (reply : Reply) → has_float (reply_data reply) ≡ false
unfolding reply_data
reply_floats reply = made_floats reply.made _ (numbers_floats reply.dropped)

-- ---- refused events and preparations

call_site_floats : (fault : CallSiteFault) → has_float (call_site_refusal_data fault) ≡ false
unfolding call_site_refusal_data
call_site_floats call_site.UnknownCallSite = refl
call_site_floats call_site.Constant = refl
call_site_floats call_site.WrongType = refl
call_site_floats call_site.UnknownMethod = refl
call_site_floats call_site.NotStatic = refl
call_site_floats call_site.UnknownSwitch = refl
call_site_floats call_site.TooDeep = refl
call_site_floats call_site.Full = refl
call_site_floats (call_site.InvokerOrder invoked) = refl

module _ (text_of : List ℕ → List ℕ) where
  define_floats : (fault : DefineFault) → has_float (define_refusal_data text_of fault) ≡ false
  unfolding define_refusal_data
  define_floats (define.MissingParent name) = refl
  define_floats (define.NotAnInterface name) = refl
  define_floats (define.InaccessibleParent name) = refl
  define_floats define.UnknownLoader = refl
  define_floats define.AlreadyRecorded = refl
  define_floats define.NamesItself = refl
  define_floats define.SuperIsInterface = refl
  define_floats define.FinalSuper = refl
  define_floats define.SecondObject = refl
  define_floats define.Full = refl

  retire_floats : (fault : RetireFault) → has_float (retire_refusal_data fault) ≡ false
  unfolding retire_members
  retire_floats retire.UnknownLoader = refl
  retire_floats retire.FirstLoader = refl
  retire_floats (retire.Inherited class) = refl
  retire_floats (retire.Recorded loader) = refl
  retire_floats (retire.Targeted call_site) = refl

  retire_all_floats : (loader : ℕ) (fault : RetireFault) → has_float (retire_all_refusal_data loader fault) ≡ false
  unfolding retire_members
  retire_all_floats loader retire.UnknownLoader = refl
  retire_all_floats loader retire.FirstLoader = refl
  retire_all_floats loader (retire.Inherited class) = refl
  retire_all_floats loader (retire.Recorded recorder) = refl
  retire_all_floats loader (retire.Targeted call_site) = refl

  release_floats : (fault : ReleaseFault) → has_float (release_refusal_data fault) ≡ false
  unfolding release_refusal_data
  release_floats (release.UnknownCallSite call_site) = refl
  release_floats (release.UnknownSwitch point) = refl
  release_floats (release.Invoked call_site) = refl
  release_floats (release.Guarded call_site) = refl

  pub event_refusal_floats : (r : Refusal) → has_float (event_refusal_data text_of r) ≡ false
  unfolding event_refusal_data
  event_refusal_floats (refusal.Define fault) = define_floats fault
  event_refusal_floats (refusal.Stale site present) = rw (link_floats present) refl
  event_refusal_floats refusal.UnknownClass = refl
  event_refusal_floats refusal.NoSuchPlace = refl
  event_refusal_floats (refusal.NotLinkable reason) = refl
  event_refusal_floats refusal.SitesFull = refl
  event_refusal_floats (refusal.CallSite fault) = call_site_floats fault
  event_refusal_floats refusal.NotDynamic = refl
  event_refusal_floats (refusal.AlreadyBound bound) = refl
  event_refusal_floats refusal.TypeMismatch = refl
  event_refusal_floats (refusal.NotReady site) = refl
  event_refusal_floats (refusal.UnknownSite site) = refl
  event_refusal_floats (refusal.Repeated site) = refl
  event_refusal_floats refusal.BatchSize = refl
  event_refusal_floats refusal.Memory = refl
  event_refusal_floats (refusal.Delegate fault) = refl
  event_refusal_floats refusal.LoadersFull = refl
  event_refusal_floats (refusal.Retire fault) = retire_floats fault
  event_refusal_floats (refusal.RetireAll loader fault) = retire_all_floats loader fault
  event_refusal_floats (refusal.Release fault) = release_floats fault

pub prepare_refusal_floats : (fault : PrepareFault) → has_float (prepare_refusal_data fault) ≡ false
unfolding prepare_refusal_data
prepare_refusal_floats (prepare.UnknownSite site) = refl
prepare_refusal_floats (prepare.NotReady site) = refl
prepare_refusal_floats (prepare.Repeated site) = refl
prepare_refusal_floats prepare.BatchSize = refl
prepare_refusal_floats prepare.Memory = refl
