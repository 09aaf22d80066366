-- The answer to an event or a preparation that is refused, as JSON: the name of the fault, and what the fault is about.
use Rattle.std.specs.Prelude.{◌≡◌, ℕ, List, codes}
use Rattle.serde_json.specs.Data.{Data, Members, string, object, no_members, member, put}
use Rattle.jl_types.specs.declared.link.Link.{Link}
use Rattle.jl_types.specs.declared.refusal.CallSiteFault.{CallSiteFault}
use Rattle.jl_types.specs.declared.refusal.CallSiteFault.TheVariants as call_site
use Rattle.jl_types.specs.declared.refusal.DefineFault.{DefineFault}
use Rattle.jl_types.specs.declared.refusal.DefineFault.TheVariants as define
use Rattle.jl_types.specs.declared.refusal.DelegateFault.{DelegateFault}
use Rattle.jl_types.specs.declared.refusal.DelegateFault.TheVariants as delegate
use Rattle.jl_types.specs.declared.refusal.NotLinkable.{NotLinkable}
use Rattle.jl_types.specs.declared.refusal.NotLinkable.TheVariants as not_linkable
use Rattle.jl_types.specs.declared.refusal.PrepareFault.{PrepareFault}
use Rattle.jl_types.specs.declared.refusal.PrepareFault.TheVariants as prepare
use Rattle.jl_types.specs.declared.refusal.Refusal.{Refusal}
use Rattle.jl_types.specs.declared.refusal.Refusal.TheVariants as refusal
use Rattle.jl_types.specs.declared.refusal.ReleaseFault.{ReleaseFault}
use Rattle.jl_types.specs.declared.refusal.ReleaseFault.TheVariants as release
use Rattle.jl_types.specs.declared.refusal.RetireFault.{RetireFault}
use Rattle.jl_types.specs.declared.refusal.RetireFault.TheVariants as retire
use Rattle.jl_json.specs.ClassAnswers.{number_data, name_data}
use Rattle.jl_json.specs.LinkAnswers.{single, link_data}
use Rattle.jl_json.specs.Names.{SpellsNames}

-- ---- a fault with what it is about

abbrev pub refused : List ℕ → Data
refused fault = single (codes "refused") (string fault)

abbrev pub refused_at : List ℕ → ℕ → Data
refused_at fault site =
    object (member (codes "refused") (string fault)
    (member (codes "site") (number_data site) no_members))

-- the link that the site has now
abbrev pub refused_for : List ℕ → ℕ → Link → Data
refused_for fault site present =
    object (member (codes "present") (link_data present)
    (member (codes "refused") (string fault)
    (member (codes "site") (number_data site) no_members)))

abbrev pub refused_bound : List ℕ → ℕ → Data
refused_bound fault call_site =
    object (member (codes "callsite") (number_data call_site)
    (member (codes "refused") (string fault) no_members))

abbrev pub refused_switch : List ℕ → ℕ → Data
refused_switch fault point =
    object (member (codes "refused") (string fault)
    (member (codes "switch") (number_data point) no_members))

-- ---- faults within events

unfoldable pub retire_members : RetireFault → Members
retire_members retire.UnknownLoader = member (codes "refused") (string (codes "Retire.UnknownLoader")) no_members
retire_members retire.FirstLoader = member (codes "refused") (string (codes "Retire.FirstLoader")) no_members
retire_members (retire.Inherited class) =
    member (codes "class") (number_data class)
    (member (codes "refused") (string (codes "Retire.Inherited")) no_members)
retire_members (retire.Recorded loader) =
    member (codes "loader") (number_data loader)
    (member (codes "refused") (string (codes "Retire.Recorded")) no_members)
retire_members (retire.Targeted call_site) =
    member (codes "callsite") (number_data call_site)
    (member (codes "refused") (string (codes "Retire.Targeted")) no_members)

abbrev pub retire_refusal_data : RetireFault → Data
retire_refusal_data fault = object (retire_members fault)

-- if several loaders were to be retired at once, the one that can't be is told, too
abbrev pub retire_all_refusal_data : ℕ → RetireFault → Data
retire_all_refusal_data loader fault = object (put (codes "retire") (number_data loader) (retire_members fault))

unfoldable pub release_refusal_data : ReleaseFault → Data
release_refusal_data (release.UnknownCallSite call_site) = refused_bound (codes "Release.UnknownCallSite") call_site
release_refusal_data (release.UnknownSwitch point) = refused_switch (codes "Release.UnknownSwitch") point
release_refusal_data (release.Invoked call_site) = refused_bound (codes "Release.Invoked") call_site
release_refusal_data (release.Guarded call_site) = refused_bound (codes "Release.Guarded") call_site

abbrev pub delegate_name : DelegateFault → List ℕ
delegate_name delegate.UnknownLoader = codes "Delegate.UnknownLoader"
delegate_name delegate.NotRecorded = codes "Delegate.NotRecorded"
delegate_name delegate.AlreadyRecorded = codes "Delegate.AlreadyRecorded"

unfoldable pub call_site_refusal_data : CallSiteFault → Data
call_site_refusal_data call_site.UnknownCallSite = refused (codes "CallSite.UnknownCallSite")
call_site_refusal_data call_site.Constant = refused (codes "CallSite.Constant")
call_site_refusal_data call_site.WrongType = refused (codes "CallSite.WrongType")
call_site_refusal_data call_site.UnknownMethod = refused (codes "CallSite.UnknownMethod")
call_site_refusal_data call_site.NotStatic = refused (codes "CallSite.NotStatic")
call_site_refusal_data call_site.UnknownSwitch = refused (codes "CallSite.UnknownSwitch")
call_site_refusal_data call_site.TooDeep = refused (codes "CallSite.TooDeep")
call_site_refusal_data call_site.Full = refused (codes "CallSite.Full")
call_site_refusal_data (call_site.InvokerOrder invoked) = refused_bound (codes "CallSite.InvokerOrder") invoked

abbrev pub not_linkable_name : NotLinkable → List ℕ
not_linkable_name not_linkable.ArrayReceiver = codes "NotLinkable.ArrayReceiver"
not_linkable_name not_linkable.PolymorphicSignature = codes "NotLinkable.PolymorphicSignature"

-- ---- the answers, by the text of each name

module _ (text_of : List ℕ → List ℕ) where
  abbrev pub refused_name : List ℕ → List ℕ → Data
  refused_name fault name =
      object (member (codes "name") (name_data text_of name)
      (member (codes "refused") (string fault) no_members))

  unfoldable pub define_refusal_data : DefineFault → Data
  define_refusal_data define.UnknownLoader = refused (codes "Define.UnknownLoader")
  define_refusal_data define.AlreadyRecorded = refused (codes "Define.AlreadyRecorded")
  define_refusal_data define.NamesItself = refused (codes "Define.NamesItself")
  define_refusal_data (define.MissingParent name) = refused_name (codes "Define.MissingParent") name
  define_refusal_data define.SuperIsInterface = refused (codes "Define.SuperIsInterface")
  define_refusal_data define.FinalSuper = refused (codes "Define.FinalSuper")
  define_refusal_data (define.NotAnInterface name) =
      refused_name (codes "Define.NotAnInterface") name
  define_refusal_data (define.InaccessibleParent name) =
      refused_name (codes "Define.InaccessibleParent") name
  define_refusal_data define.SecondObject = refused (codes "Define.SecondObject")
  define_refusal_data define.Full = refused (codes "Define.Full")

  unfoldable pub event_refusal_data : Refusal → Data
  event_refusal_data (refusal.Define fault) = define_refusal_data fault
  event_refusal_data refusal.UnknownClass = refused (codes "UnknownClass")
  event_refusal_data refusal.NoSuchPlace = refused (codes "NoSuchPlace")
  event_refusal_data (refusal.NotLinkable reason) = refused (not_linkable_name reason)
  event_refusal_data refusal.SitesFull = refused (codes "SitesFull")
  event_refusal_data (refusal.CallSite fault) = call_site_refusal_data fault
  event_refusal_data refusal.NotDynamic = refused (codes "NotDynamic")
  event_refusal_data (refusal.AlreadyBound bound) = refused_bound (codes "AlreadyBound") bound
  event_refusal_data refusal.TypeMismatch = refused (codes "TypeMismatch")
  event_refusal_data (refusal.Stale site present) = refused_for (codes "Stale") site present
  event_refusal_data (refusal.NotReady site) = refused_at (codes "NotReady") site
  event_refusal_data (refusal.UnknownSite site) = refused_at (codes "UnknownSite") site
  event_refusal_data (refusal.Repeated site) = refused_at (codes "Repeated") site
  event_refusal_data refusal.BatchSize = refused (codes "BatchSize")
  event_refusal_data refusal.Memory = refused (codes "Memory")
  event_refusal_data (refusal.Delegate fault) = refused (delegate_name fault)
  event_refusal_data refusal.LoadersFull = refused (codes "LoadersFull")
  event_refusal_data (refusal.Retire fault) = retire_refusal_data fault
  event_refusal_data (refusal.RetireAll loader fault) = retire_all_refusal_data loader fault
  event_refusal_data (refusal.Release fault) = release_refusal_data fault

-- the answer, with each name spelled
abbrev pub IsRefusalData : Refusal → Data → Type 0
IsRefusalData r answer =
    (text_of : List ℕ → List ℕ) × SpellsNames text_of × (answer ≡ event_refusal_data text_of r)

-- ---- preparations

unfoldable pub prepare_refusal_data : PrepareFault → Data
prepare_refusal_data (prepare.UnknownSite site) = refused_at (codes "Prepare.UnknownSite") site
prepare_refusal_data (prepare.NotReady site) = refused_at (codes "Prepare.NotReady") site
prepare_refusal_data (prepare.Repeated site) = refused_at (codes "Prepare.Repeated") site
prepare_refusal_data prepare.BatchSize = refused (codes "Prepare.BatchSize")
prepare_refusal_data prepare.Memory = refused (codes "Memory")
