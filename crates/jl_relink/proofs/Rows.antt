-- What the relations of the laws say of small worlds.
use Rattle.std.specs.Prelude.{◌≡◌, ◌<◌, ℕ, zero, suc, true, false, List, [], ◌∷◌, ◌++◌, take, slice_get, Some, Result, Ok, IsOk, codes, refl}
use Rattle.std.proofs.Common.{ap, sym, subst, ◌∙◌, arith}
use Rattle.std.proofs.lemmas.Option.{same_Some}
use Rattle.jl_types.specs.Events.Limits.{fixed}
use Rattle.jl_class.specs.Class.{ClassFile, Method}
use Rattle.jl_class.specs.declared.site.Kind.{Kind}
use Rattle.jl_class.specs.declared.site.Kind.TheVariants.{Virtual, Special, Static}
use Rattle.jl_types.specs.declared.answer.Outcome.TheVariants.{Run}
use Rattle.jl_types.specs.declared.answer.Unlinked.{Unlinked}
use Rattle.jl_types.specs.declared.link.Link.{Link}
use Rattle.jl_types.specs.declared.link.Link.TheVariants.{Plain, Direct, Mega}
use Rattle.jl_types.specs.declared.target.CallSiteKind.TheVariants.{Mutable}
use Rattle.jl_types.specs.Values.Target as target
use Rattle.jl_types.specs.Values.Target.{Target}
use Rattle.jl_types.specs.Events.Event.{Event}
use Rattle.jl_types.specs.declared.event.EventOf.TheVariants.{NewLoader, Define, Request, NewCallSite, SetTarget, NewSwitch, Invalidate, Bind}
use Rattle.jl_types.specs.Values.World.{World, nothing_yet}
use Rattle.jl_types.specs.Linkage.Stages.{Stage, ResolvedCall, Selector, ByVirtual, Waits, Fails, Calls, Selects}
use Rattle.jl_types.specs.Linkage.Links.{outcome, runs}
use Rattle.jl_types.specs.Events.Verdict.{verdict, step}
use Rattle.jl_types.specs.Events.History.{world_after}
use Rattle.jl_types.specs.Events.Footprints.{stays_with}
use Rattle.jl_types.proofs.Rows.Sketch.{method, calling, class_ref, first, file}
use Rattle.jl_types.proofs.Rows.CallSites.{begun, m, n}
use Rattle.jl_relink.specs.Laws.{LinksStay, IsInOrder, SiteStays, OneMore, AreAccepted}
use Rattle.jl_relink.specs.Receivers.{TellsStay, TellsRun}

-- ---- which links stay

-- site 0 is bound to a mutable call site of this target
abbrev bound : Target → World
bound t = world_after (begun ++ NewCallSite Mutable (codes "()V") t ∷ Bind 0 0 ∷ [])

link_stays : SiteStays (bound (target.Method m)) (step (bound (target.Method m)) NewSwitch) 0 (Plain m)
link_stays = record { link = refl; selects = refl; rests_on = refl }

-- the number of the method that a plain link runs
abbrev runs_number : Result Link Unlinked → ℕ
runs_number (Ok (Plain method)) = method.index
runs_number _ = 5

-- a new target gives another link
link_differs : ¬ SiteStays (bound (target.Method m)) (step (bound (target.Method m)) (SetTarget 0 (target.Method n))) 0 (Plain m)
link_differs h = let e : 1 ≡ 0 = ap runs_number h.link in omega (arith, e)

-- both sides of the guard run the same method; without the point the link rests on less
abbrev guarded : World
guarded = bound (target.Guard 0 (target.Method m) (target.Method m))

rests_on_less : ¬ SiteStays guarded (step guarded (Invalidate (0 ∷ []))) 0 (Plain m)
rests_on_less h = let e = h.rests_on in cc

no_link_stays : LinksStay nothing_yet NewLoader
no_link_stays = record { stays = λ s l e. cc }

one_link_differs : ¬ LinksStay (bound (target.Method m)) (SetTarget 0 (target.Method n))
one_link_differs h = let e : 1 ≡ 0 = ap runs_number (h.stays 0 (Plain m) refl) in omega (arith, e)

-- site 0 is bound to a call site that runs what another one runs
abbrev invoking : World
invoking = world_after (begun ++ NewCallSite Mutable (codes "()V") (target.Method m) ∷ NewCallSite Mutable (codes "()V") (target.Invoker 0) ∷ Bind 0 1 ∷ [])

invoked_link_differs : ¬ SiteStays invoking (step invoking (SetTarget 0 (target.Method n))) 0 (Plain m)
invoked_link_differs h = let e : 1 ≡ 0 = ap runs_number h.link in omega (arith, e)

-- ---- one receiver more

abbrev object : Event
object = Define 0 (file (codes "java/lang/Object") 33 [])

abbrev below : List ℕ → List ℕ → List Method → ClassFile
below parent name methods = record (file name 33 methods) { superclass = Some parent }

-- Object 0, A 1 with f, B 2 below it, and M 3, whose site 0 calls A.f by this instruction
abbrev events : Kind → List Event
events kind = object
    ∷ Define 0 (below (codes "java/lang/Object") (codes "A") (method 1 (codes "f") ∷ []))
    ∷ Define 0 (below (codes "A") (codes "B") [])
    ∷ Define 0 (below (codes "A") (codes "M") (calling 1 (codes "run") kind (class_ref (codes "A") (codes "f")) ∷ []))
    ∷ Request (record { class = 3; method = 0; pc = 0 })
    ∷ []

abbrev calls : Kind → World
calls kind = world_after (events kind)

-- C 4 below A, with f or without
abbrev own : ClassFile
own = below (codes "A") (codes "C") (method 1 (codes "f") ∷ [])

abbrev bare : ClassFile
bare = below (codes "A") (codes "C") []

abbrev by_virtual : ResolvedCall
by_virtual = record { selector = ByVirtual; caller = 3; named = 1; ref = class_ref (codes "A") (codes "f"); method = first 1 }

goes : OneMore (calls Virtual) 0 own 0 (Direct (Run (first 1)))
goes = record { invocation = by_virtual; before = refl; selects = refl; selector = λ e. cc; link = refl; rests_on = refl }

stays : OneMore (calls Virtual) 0 bare 0 (Direct (Run (first 1)))
stays = record { invocation = by_virtual; before = refl; selects = refl; selector = λ e. cc; link = refl; rests_on = refl }

-- another link, of which the new class tells something else
not_this_link : ¬ OneMore (calls Virtual) 0 own 0 Mega
not_this_link h = let e = h.link in cc

selects_nothing : ¬ OneMore (calls Static) 0 own 0 (Direct (Run (first 1)))
selects_nothing h = let e = h.selects in cc

abbrev selector_of : Stage → Selector
selector_of (Waits reason) = ByVirtual
selector_of (Fails throwable) = ByVirtual
selector_of (Calls method) = ByVirtual
selector_of (Selects i) = i.selector

by_special : ¬ OneMore (calls Special) 0 own 0 (Direct (Run (first 1)))
by_special h = h.selector (sym (ap selector_of h.selects))

-- ---- what one receiver tells

abbrev invoked : Stage → ResolvedCall
invoked (Waits reason) = by_virtual
invoked (Fails throwable) = by_virtual
invoked (Calls method) = by_virtual
invoked (Selects i) = i

abbrev after : World
after = step (calls Virtual) (Define 0 own)

other_receiver_goes : TellsStay after 0 (Direct (Run (first 1))) 4 false
other_receiver_goes i is by = ap (λ (s : Stage). stays_with (Direct (Run (first 1))) (outcome after.classes (invoked s) 4)) is

not_that_it_stays : ¬ TellsStay after 0 (Direct (Run (first 1))) 4 true
not_that_it_stays h = let e = h by_virtual refl (λ e. cc) in cc

same_receiver_stays : TellsStay after 0 (Direct (Run (first 1))) 2 true
same_receiver_stays i is by = ap (λ (s : Stage). stays_with (Direct (Run (first 1))) (outcome after.classes (invoked s) 2)) is

-- of a site that runs one method without a receiver nothing is told, and of an invokespecial nothing either
nothing_without_receiver : TellsStay (calls Static) 0 (Plain (first 1)) 2 true
nothing_without_receiver i is by = cc

nothing_by_special : TellsStay (calls Special) 0 (Direct (Run (first 1))) 2 false
nothing_by_special i is by = absurd (by (sym (ap selector_of is)))

runs_it : TellsRun after 0 (first 4) 4 true
runs_it i is by = ap (λ (s : Stage). runs (first 4) (outcome after.classes (invoked s) 4)) is

does_not_run_it : ¬ TellsRun after 0 (first 1) 4 true
does_not_run_it h = let e = h by_virtual refl (λ e. cc) in cc

-- ---- lists of accepted events

abbrev classes : List Event
classes = object ∷ Define 0 (below (codes "java/lang/Object") (codes "A") []) ∷ []

two_classes : AreAccepted (fixed 1) classes
two_classes = record { each = each; files = refl }
  where
    each : (k : ℕ) (e : Event) → slice_get classes k ≡ Some e → IsOk (verdict (fixed 1) (world_after (take k classes)) e)
    each zero e at = subst (λ (e : Event). IsOk (verdict (fixed 1) nothing_yet e)) (same_Some _ e at) refl
    each (suc zero) e at = subst (λ (e : Event). IsOk (verdict (fixed 1) (world_after (object ∷ [])) e)) (same_Some _ e at) refl
    each (suc (suc k)) e at = cc

-- the second one is refused
no_such_parent : ¬ AreAccepted (fixed 1) (object ∷ Define 0 own ∷ [])
no_such_parent h = let e = h.each 1 (Define 0 own) refl in cc

-- no site more than there may be
too_many_sites : ¬ AreAccepted (fixed 0) (events Virtual)
too_many_sites h = let e = h.each 4 (Request (record { class = 3; method = 0; pc = 0 })) refl in cc

-- an interface that doesn't extend java/lang/Object
not_read : ¬ AreAccepted (fixed 1) (object ∷ Define 0 (file (codes "I") 1537 []) ∷ [])
not_read h = let e = h.files in cc

-- ---- the order of classes and points

-- a guard whose switch point there isn't
abbrev pointless : World
pointless = record nothing_yet {
  sites = record {
    call_sites = Some (record { kind = Mutable; ty = codes "()V"; target = target.Guard 0 (target.Method m) (target.Method n) }) ∷ [];
    switches = [];
  };
}

no_such_point : ¬ IsInOrder pointless
no_such_point h = let e = h.points in cc

-- a call site that runs whatever it runs itself
abbrev circular : World
circular = record nothing_yet {
  sites = record { call_sites = Some (record { kind = Mutable; ty = codes "()V"; target = target.Invoker 0 }) ∷ []; switches = [] };
}

no_earlier_call_site : ¬ IsInOrder circular
no_earlier_call_site h = let e = h.points in cc

-- a name with a class that there isn't
no_such_class : ¬ IsInOrder (record nothing_yet { classes = record { loaders = ((codes "A", 0) ∷ []) ∷ []; rows = []; retired = [] } })
no_such_class h = let few : 0 < 0 = h.classes.there.0.0 in omega (arith, few)
