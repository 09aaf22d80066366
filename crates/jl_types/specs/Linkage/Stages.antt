-- The stage of a requested invocation before any receiver is looked at (JVMS 6.5). Both its link and its calls rest on it.
use Rattle.std.specs.Prelude.{ℕ, not, ◌&&◌, ◌==◌, slice_get, find, Option, Some, None, option_map, option_and_then, Result, Ok, Err, List, if◌then◌else◌}
use Rattle.jl_pool.specs.declared.reference.Reference.{Reference}
use Rattle.jl_class.specs.declared.site.Kind.{Kind}
use Rattle.jl_class.specs.declared.site.Kind.TheVariants.{Virtual, Special, Static, Interface, Dynamic}
use Rattle.jl_class.specs.declared.site.Operand.{Operand}
use Rattle.jl_class.specs.declared.site.Operand.TheVariants as operand
use Rattle.jl_class.specs.Site.{Site}
use Rattle.jl_types.specs.declared.ids.MethodId.{MethodId}
use Rattle.jl_types.specs.declared.ids.Place.{Place}
use Rattle.jl_types.specs.declared.answer.Throwable.{Throwable}
use Rattle.jl_types.specs.declared.answer.Throwable.TheVariants.{NoSuchMethodError, IncompatibleClassChangeError}
use Rattle.jl_types.specs.declared.answer.ResolveAnswer.{ResolveAnswer}
use Rattle.jl_types.specs.declared.answer.ResolveAnswer.TheVariants as resolve
use Rattle.jl_types.specs.declared.answer.Unlinked.{Unlinked}
use Rattle.jl_types.specs.declared.answer.Unlinked.TheVariants.{NotReady, Unbound, Gone, NoSite}
use Rattle.jl_types.specs.Values.World.{World, Classes, Sites}
use Rattle.jl_types.specs.Values.Members.{is_present, method_at, is_static}
use Rattle.jl_types.specs.Linkage.Resolution.{Resolved, resolved}
use Rattle.jl_types.specs.Linkage.Selection.{is_init}
use Rattle.jl_types.specs.Linkage.Targets.{method_of}

-- the instructions that select by the receiver
pub data Selector : Type 0 where
  ByVirtual : Selector
  ByInterface : Selector
  BySpecial : Selector

-- an invocation whose method is resolved and selected by the receiver: the instruction, the caller's class, the class that
-- the reference names, the reference, and the method
pub record ResolvedCall : Type 0 where
  pub selector : Selector
  pub caller : ℕ
  pub named : ℕ
  pub ref : Reference (List ℕ)
  pub method : MethodId

pub data Stage : Type 0 where
  Waits : Unlinked → Stage  -- no link yet
  Fails : Throwable → Stage  -- linking fails
  Calls : MethodId → Stage  -- runs this, without a receiver
  Selects : ResolvedCall → Stage  -- selects by the receiver

-- ---- the instructions

-- the method has to be static
abbrev pub if_static : Classes → MethodId → Stage
if_static cs m = if is_static cs m then Calls m else Fails IncompatibleClassChangeError

-- the method may not be static
abbrev pub selecting : Classes → Selector → ℕ → Reference (List ℕ) → Resolved → Stage
selecting cs selector d ref r =
    if is_static cs r.method then Fails IncompatibleClassChangeError else
    Selects (record { selector = selector; caller = d; named = r.named; ref = ref; method = r.method })

-- the instruction's own checks; an invokedynamic names no method, but a call site
abbrev pub by_kind : Classes → Kind → ℕ → Reference (List ℕ) → Resolved → Stage
by_kind cs Static d ref r = if_static cs r.method
by_kind cs Virtual d ref r = selecting cs ByVirtual d ref r
by_kind cs Interface d ref r = selecting cs ByInterface d ref r
by_kind cs Special d ref r =
    if is_init ref.name && not (r.method.class == r.named) then Fails NoSuchMethodError else selecting cs BySpecial d ref r
by_kind cs Dynamic d ref r = Waits Unbound

abbrev pub by_resolution : Classes → Kind → ℕ → Reference (List ℕ) → Result Resolved ResolveAnswer → Stage
by_resolution cs kind d ref (Err (resolve.NotReady missing)) = Waits (NotReady missing)
by_resolution cs kind d ref (Err (resolve.Fault throwable)) = Fails throwable
by_resolution cs kind d ref (Ok r) = by_kind cs kind d ref r

-- a call site that is released runs nothing
abbrev pub by_method : Option MethodId → Stage
by_method None = Waits Gone
by_method (Some m) = Calls m

-- an invokedynamic is bound to a call site, and runs what that runs
abbrev pub by_binding : Sites → Option ℕ → Stage
by_binding sites None = Waits Unbound
by_binding sites (Some c) = by_method (method_of sites c)

abbrev pub bound_to : World → ℕ → Option ℕ
bound_to w s = option_map (λ b. b.1) (find (λ b. b.0 == s) w.bindings)

-- ---- a site

-- the invocation at a place
abbrev pub invocation_at : Classes → Place → Option Site
invocation_at cs place =
    option_and_then (λ method. find (λ site. site.pc == place.pc) method.sites)
    (method_at cs (record { class = place.class; index = place.method }))

abbrev pub by_operand : World → ℕ → ℕ → Kind → Operand (List ℕ) → Stage
by_operand w s d kind (operand.Method ref) = by_resolution w.classes kind d ref (resolved w.classes d ref)
by_operand w s d kind (operand.CallSite specifier) = by_binding w.sites (bound_to w s)

abbrev pub stage_of : World → ℕ → ℕ → Option Site → Stage
stage_of w s d None = Waits NoSite
stage_of w s d (Some site) = by_operand w s d site.kind site.operand

abbrev pub stage_at : World → ℕ → Option Place → Stage
stage_at w s None = Waits NoSite
stage_at w s (Some place) =
    if is_present w.classes place.class then stage_of w s place.class (invocation_at w.classes place) else Waits Gone

-- the stage of site s
abbrev pub stage : World → ℕ → Stage
stage w s = stage_at w s (slice_get w.places s)
