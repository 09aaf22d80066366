-- Worked renewals: three loaders, of which one is retired that another one found classes through; call sites, switch points, links;
-- what its owner has let go; what is released; and what comes after a renewal.
use Rattle.std.specs.Prelude.{◌≡◌, ℕ, Bool, true, false, ◌&&◌, List, [], ◌∷◌, ◌++◌, map, filter_map, fold, Option, Some, None}
use Rattle.std.specs.Prelude.{option_map, is_some, is_ok, Err, codes, refl}
use Rattle.std.proofs.Common.{arith}
use Rattle.jl_types.specs.declared.limits.Limits.{Limits}
use Rattle.jl_types.specs.declared.refusal.Refusal.TheVariants.{SitesFull, LoadersFull}
use Rattle.jl_types.specs.declared.refusal.Refusal.TheVariants as refusal
use Rattle.jl_types.specs.declared.refusal.DefineFault.TheVariants as define
use Rattle.jl_types.specs.declared.refusal.CallSiteFault.TheVariants as fault
use Rattle.jl_types.specs.Events.Limits.{fixed}
use Rattle.jl_class.specs.Class.{Method}
use Rattle.jl_class.specs.declared.site.Kind.{Kind}
use Rattle.jl_class.specs.declared.site.Kind.TheVariants.{Virtual, Dynamic}
use Rattle.jl_class.specs.declared.site.Operand.{Operand}
use Rattle.jl_class.specs.declared.site.Operand.TheVariants as operand
use Rattle.jl_types.specs.declared.ids.MethodId.{MethodId}
use Rattle.jl_types.specs.declared.answer.Outcome.TheVariants.{Run}
use Rattle.jl_types.specs.declared.link.Link.TheVariants.{Plain, Table}
use Rattle.jl_types.specs.declared.link.TableKind.TheVariants as kind
use Rattle.jl_types.specs.declared.target.CallSiteKind.TheVariants.{Constant, Mutable}
use Rattle.jl_types.specs.Values.Target as target
use Rattle.jl_types.specs.Events.Event.{Event}
use Rattle.jl_types.specs.declared.event.EventOf.TheVariants.{NewLoader, Define, Delegate, Request, NewCallSite, SetTarget, NewSwitch, Invalidate}
use Rattle.jl_types.specs.declared.event.EventOf.TheVariants.{Bind, Install, Retire, RetireAll, Release}
use Rattle.jl_types.specs.declared.event.Made.TheVariants.{Nothing}
use Rattle.jl_types.specs.declared.event.Made.TheVariants as made
use Rattle.jl_types.specs.declared.answer.Recv.TheVariants.{Of}
use Rattle.jl_types.specs.declared.answer.Unlinked.TheVariants.{Gone, Unbound}
use Rattle.jl_types.specs.Linkage.Links.{scratch}
use Rattle.jl_types.specs.Linkage.Calls.{dispatch}
use Rattle.jl_types.specs.Values.World.{World}
use Rattle.jl_types.specs.Events.Verdict.{verdict, step}
use Rattle.jl_types.specs.Events.History.{world_after, installed_links}
use Rattle.jl_core.specs.State.{State, world_of, links_of}
use Rattle.jl_renewal.specs.declared.released.Released.{Released}
use Rattle.jl_renewal.specs.Numbers.{Numbers, how_many}
use Rattle.jl_renewal.specs.Staying.{numbers_of, staying_sites, has_lost_call_site, is_alive}
use Rattle.jl_renewal.specs.Renewal.{renewal, renewal_fault, fresh_rows}
use Rattle.jl_renewal.specs.Renewed.{renewed, renumbered_result, renumbered_answer}
use Rattle.jl_renewal.specs.Carries.{carried, made_number, with_made}
use Rattle.jl_renewal.specs.Moved.{Flags, flags_of, moved, moved_world, event_there, events_there, may_be_gone, all_numbers}
use Rattle.jl_renewal.specs.Moved.{HaveSameLinks, HasNoOtherLinks, HasLinksOf, renumbered_install}

-- ---- small classes

abbrev object : List ℕ
object = codes "java/lang/Object"

abbrev method : ℕ → List ℕ → Method
method flags name = record { name = name; ty = codes "()V"; flags = flags; sites = [] }

-- with an invocation at pc 0
abbrev calling : Kind → Operand (List ℕ) → Method
calling kind operand = record { name = codes "m"; ty = codes "()V"; flags = 9; sites = record { pc = 0; kind = kind; operand = operand } ∷ [] }

abbrev calls_f : Method
calls_f = calling Virtual (operand.Method (record { itf = false; owner = codes "A"; name = codes "f"; ty = codes "()V" }))

abbrev dynamic : Method
dynamic = calling Dynamic (operand.CallSite (record { bootstrap = 0; name = codes "d"; ty = codes "()V" }))

abbrev defines : ℕ → Option (List ℕ) → List ℕ → List Method → Event
defines loader parent name methods =
    Define loader (record { name = name; flags = 33; superclass = parent; interfaces = []; nest_host = None; nest_members = []; methods = methods })

abbrev at_first : ℕ → Event
at_first c = Request (record { class = c; method = 0; pc = 0 })

abbrev of_class : ℕ → ℕ → MethodId
of_class c i = record { class = c; index = i }

-- ---- the old core

-- loader 2 finds Object and A through loader 1, which is retired at last, with C 3, the receiver that makes A.f a table, and site 0
abbrev history : List Event
history =
    defines 0 None object []
    ∷ defines 0 (Some object) (codes "A") (method 1 (codes "f") ∷ [])
    ∷ defines 0 (Some object) (codes "T") (dynamic ∷ method 9 (codes "s") ∷ method 9 (codes "t") ∷ [])
    ∷ NewLoader ∷ Delegate 1 object 0 ∷ Delegate 1 (codes "A") 0
    ∷ defines 1 (Some (codes "A")) (codes "C") (calls_f ∷ method 1 (codes "f") ∷ [])
    ∷ NewLoader ∷ Delegate 2 object 1 ∷ Delegate 2 (codes "A") 1
    ∷ defines 2 (Some (codes "A")) (codes "D") (calls_f ∷ method 1 (codes "f") ∷ [])
    ∷ NewSwitch ∷ NewSwitch
    ∷ NewCallSite Mutable (codes "()V") (target.Method (of_class 2 1))
    ∷ NewCallSite Constant (codes "()V") (target.Guard 1 (target.Invoker 0) (target.Method (of_class 2 2)))
    ∷ Invalidate (0 ∷ []) ∷ SetTarget 0 (target.Guard 0 (target.Method (of_class 2 1)) (target.Method (of_class 2 2)))
    ∷ at_first 3 ∷ at_first 4 ∷ at_first 2 ∷ Bind 2 1
    ∷ Install ((2, Plain (of_class 2 2)) ∷ []) ∷ Retire 1
    ∷ Install ((1, Table kind.Virtual ((1, Run (of_class 1 0)) ∷ (4, Run (of_class 4 1)) ∷ [])) ∷ [])
    ∷ []

abbrev core_of : List Event → State
core_of es = record { limits = fixed 8; log = map (λ e. (e, record { made = Nothing; dropped = [] })) es }

abbrev old : State
old = core_of history

abbrev are_accepted : List Event → List Event → Bool
are_accepted before [] = true
are_accepted before (e ∷ es) = is_ok (verdict (fixed 8) (world_after before) e) && are_accepted (before ++ e ∷ []) es

is_a_history : are_accepted [] history ≡ true
is_a_history = refl

-- ---- the fresh one

abbrev nothing : Released
nothing = record { call_sites = []; switches = [] }

new_numbers : numbers_of (world_of old) nothing ≡ record {
  loaders = Some 0 ∷ None ∷ Some 1 ∷ [];
  classes = Some 0 ∷ Some 1 ∷ Some 2 ∷ None ∷ Some 3 ∷ [];
  sites = None ∷ Some 0 ∷ Some 1 ∷ [];
  call_sites = Some 0 ∷ Some 1 ∷ [];
  switches = Some 0 ∷ Some 1 ∷ [];
}
new_numbers = refl

two_sites_stay : how_many (staying_sites (world_of old).classes (world_of old).places) ≡ 2
two_sites_stay = refl

each_is_accepted : are_accepted [] (renewal old nothing) ≡ true
each_is_accepted = refl

has_what_is_present : world_after (renewal old nothing) ≡ renewed (world_of old) nothing
has_what_is_present = refl

abbrev numbers : Numbers
numbers = numbers_of (world_of old) nothing

same_link : scratch (renewed (world_of old) nothing) 0 ≡ renumbered_result numbers (scratch (world_of old) 1)
same_link = refl

same_dynamic : scratch (renewed (world_of old) nothing) 1 ≡ renumbered_result numbers (scratch (world_of old) 2)
same_dynamic = refl

same_answer : dispatch (renewed (world_of old) nothing) 0 (Of 3) ≡ renumbered_answer numbers (dispatch (world_of old) 1 (Of 4))
same_answer = refl

rows : fresh_rows (world_after (renewal old nothing)) numbers (installed_links history)
    ≡ (0, Table kind.Virtual ((1, Run (of_class 1 0)) ∷ (3, Run (of_class 3 1)) ∷ [])) ∷ (1, Plain (of_class 2 2)) ∷ []
rows = refl

renumbered_rows : map (renumbered_install numbers) (links_of old) ≡ fresh_rows (world_after (renewal old nothing)) numbers (links_of old)
renumbered_rows = refl

-- the fresh core with these links
abbrev linked : State
linked = core_of (renewal old nothing ++ Install (map (renumbered_install numbers) (links_of old)) ∷ [])

links_under_new_numbers : links_of linked
    ≡ (0, Table kind.Virtual ((1, Run (of_class 1 0)) ∷ (3, Run (of_class 3 1)) ∷ [])) ∷ (1, Plain (of_class 2 2)) ∷ []
links_under_new_numbers = refl

-- without them links of the old core are missing in it
no_link_is_lacking : HaveSameLinks old (core_of (renewal old nothing)) numbers → ⊥
no_link_is_lacking same =
    let c = (same 1 (Plain (of_class 2 2))).1 (record { site = 2; link = Plain (of_class 2 2); had = (1, omega arith, refl); has = refl; same = refl }) in
    let lt = c.1 in
    absurd (omega (arith, lt))

but_no_other_is_there : HasNoOtherLinks old (core_of (renewal old nothing)) numbers
but_no_other_is_there k l c = let lt = c.1 in absurd (omega (arith, lt))

-- and with them it has others than a core without links
others_are_refused : HasNoOtherLinks (core_of []) linked numbers → ⊥
others_are_refused only =
    let came = only 1 (Plain (of_class 2 2)) (1, omega arith, refl) in
    let lt = came.had.1 in
    absurd (omega (arith, lt))

not_of_none : HasLinksOf [] linked numbers → ⊥
not_of_none had =
    let come = had 1 (Plain (of_class 2 2)) (1, omega arith, refl) in
    let lt = come.had.1 in
    absurd (omega (arith, lt))

no_other_link_is_there : HaveSameLinks (core_of []) linked numbers → ⊥
no_other_link_is_there same = others_are_refused (λ k l. (same k l).0)

-- ---- what its owner has let go

-- Call site 2 invokes 0; 1 is bound at a site that stays, and 3 at one that goes; 4, which invokes 3, nobody needs.
abbrev with_released : List Event
with_released =
    defines 0 None object []
    ∷ defines 0 (Some object) (codes "T") (dynamic ∷ method 9 (codes "s") ∷ method 9 (codes "t") ∷ [])
    ∷ NewLoader ∷ Delegate 1 object 0 ∷ defines 1 (Some object) (codes "C") (dynamic ∷ [])
    ∷ NewSwitch ∷ NewSwitch
    ∷ NewCallSite Mutable (codes "()V") (target.Method (of_class 1 1))
    ∷ NewCallSite Mutable (codes "()V") (target.Guard 0 (target.Method (of_class 1 1)) (target.Method (of_class 1 2)))
    ∷ NewCallSite Mutable (codes "()V") (target.Invoker 0)
    ∷ NewCallSite Mutable (codes "()V") (target.Method (of_class 1 1))
    ∷ NewCallSite Mutable (codes "()V") (target.Guard 1 (target.Invoker 3) (target.Method (of_class 1 2)))
    ∷ at_first 1 ∷ at_first 2 ∷ Bind 0 1 ∷ Bind 1 3 ∷ Retire 1
    ∷ []

abbrev owned : State
owned = core_of with_released

is_one_too : are_accepted [] with_released ≡ true
is_one_too = refl

abbrev let_go : Released
let_go = record { call_sites = 0 ∷ 1 ∷ 3 ∷ 4 ∷ []; switches = 0 ∷ 1 ∷ [] }

needed_ones_stay : numbers_of (world_of owned) let_go ≡ record {
  loaders = Some 0 ∷ None ∷ [];
  classes = Some 0 ∷ Some 1 ∷ None ∷ [];
  sites = Some 0 ∷ None ∷ [];
  call_sites = Some 0 ∷ Some 1 ∷ Some 2 ∷ None ∷ None ∷ [];
  switches = Some 0 ∷ None ∷ [];
}
needed_ones_stay = refl

all_stay_otherwise : (numbers_of (world_of owned) nothing).call_sites ≡ Some 0 ∷ Some 1 ∷ Some 2 ∷ Some 3 ∷ Some 4 ∷ []
all_stay_otherwise = refl

-- a call site that is held keeps what it invokes and guards by
invoked_ones_stay : numbers_of (world_of owned) (record { call_sites = 3 ∷ []; switches = 1 ∷ [] }) ≡ numbers_of (world_of owned) nothing
invoked_ones_stay = refl

left_is_accepted : are_accepted [] (renewal owned let_go) ≡ true
left_is_accepted = refl

has_what_is_needed : world_after (renewal owned let_go) ≡ renewed (world_of owned) let_go
has_what_is_needed = refl

-- ---- what is released

-- call site 1, to which site 0 is bound, is released, and so are call site 4 and the switch point by which it guards
abbrev with_release : List Event
with_release = with_released ++ Release (4 ∷ 1 ∷ []) (1 ∷ []) ∷ []

abbrev lean : State
lean = core_of with_release

is_a_release : are_accepted with_released (Release (4 ∷ 1 ∷ []) (1 ∷ []) ∷ []) ≡ true
is_a_release = refl

-- they are left out of a renewal, though nothing was let go besides, and though a site that stays was bound to one of them
released_ones_go : numbers_of (world_of lean) nothing ≡ record {
  loaders = Some 0 ∷ None ∷ [];
  classes = Some 0 ∷ Some 1 ∷ None ∷ [];
  sites = Some 0 ∷ None ∷ [];
  call_sites = Some 0 ∷ None ∷ Some 1 ∷ Some 2 ∷ None ∷ [];
  switches = Some 0 ∷ None ∷ [];
}
released_ones_go = refl

what_is_left_is_accepted : are_accepted [] (renewal lean nothing) ≡ true
what_is_left_is_accepted = refl

has_what_is_left : world_after (renewal lean nothing) ≡ renewed (world_of lean) nothing
has_what_is_left = refl

targets_left : map (option_map (λ site. site.target)) (renewed (world_of lean) nothing).sites.call_sites
    ≡ Some (target.Method (of_class 1 1)) ∷ Some (target.Invoker 0) ∷ Some (target.Method (of_class 1 1)) ∷ []
targets_left = refl

point_left : (renewed (world_of lean) nothing).sites.switches ≡ Some true ∷ []
point_left = refl

-- the site keeps its place, and is no longer bound
site_keeps_its_place : map (λ place. place.class) (renewed (world_of lean) nothing).places ≡ 1 ∷ []
site_keeps_its_place = refl

it_is_unbound : (renewed (world_of lean) nothing).bindings ≡ []
it_is_unbound = refl

-- it was gone, and may be bound again
it_was_gone : map (is_alive (world_of lean)) (0 ∷ 1 ∷ []) ≡ false ∷ false ∷ []
it_was_gone = refl

it_has_lost_its_call_site : map (has_lost_call_site (world_of lean)) (0 ∷ 1 ∷ []) ≡ true ∷ false ∷ []
it_has_lost_its_call_site = refl

it_was_alive : map (is_alive (world_of owned)) (0 ∷ 1 ∷ []) ≡ true ∷ false ∷ []
it_was_alive = refl

had_no_link : scratch (world_of lean) 0 ≡ Err Gone
had_no_link = refl

waits_there : scratch (renewed (world_of lean) nothing) 0 ≡ Err Unbound
waits_there = refl

may_be_bound_again : is_ok (verdict (fixed 8) (renewed (world_of lean) nothing) (Bind 0 2)) ≡ true
may_be_bound_again = refl

-- a release under new numbers, without what is gone
release_is_carried : carried (numbers_of (world_of lean) nothing) (Release (3 ∷ 1 ∷ 2 ∷ 3 ∷ []) (1 ∷ 0 ∷ [])) ≡ Some (Release (2 ∷ 1 ∷ 2 ∷ []) (0 ∷ []))
release_is_carried = refl

-- ---- what is more than the fresh core may have

abbrev as_many : Limits
as_many = record { sites = 1; loaders = 1; classes = 2; call_sites = 3; switches = 1 }

as_many_as_stay_are_enough : renewal_fault as_many (world_of owned) let_go ≡ None
as_many_as_stay_are_enough = refl

one_site_less : renewal_fault (record as_many { sites = 0 }) (world_of owned) let_go ≡ Some SitesFull
one_site_less = refl

one_loader_less : renewal_fault (record as_many { loaders = 0 }) (world_of owned) let_go ≡ Some LoadersFull
one_loader_less = refl

one_class_less : renewal_fault (record as_many { classes = 1 }) (world_of owned) let_go ≡ Some (refusal.Define define.Full)
one_class_less = refl

one_call_site_less : renewal_fault (record as_many { call_sites = 2 }) (world_of owned) let_go ≡ Some (refusal.CallSite fault.Full)
one_call_site_less = refl

one_switch_less : renewal_fault (record as_many { switches = 0 }) (world_of owned) let_go ≡ Some (refusal.CallSite fault.Full)
one_switch_less = refl

-- sites come first, then loaders, then classes
sites_come_first : renewal_fault (record { sites = 0; loaders = 0; classes = 1; call_sites = 2; switches = 0 }) (world_of owned) let_go ≡ Some SitesFull
sites_come_first = refl

then_loaders : renewal_fault (record { sites = 1; loaders = 0; classes = 1; call_sites = 2; switches = 0 }) (world_of owned) let_go ≡ Some LoadersFull
then_loaders = refl

then_classes : renewal_fault (record { sites = 1; loaders = 1; classes = 1; call_sites = 2; switches = 0 }) (world_of owned) let_go
    ≡ Some (refusal.Define define.Full)
then_classes = refl

-- what was let go isn't counted, and what wasn't is
all_call_sites_are_more : renewal_fault as_many (world_of owned) nothing ≡ Some (refusal.CallSite fault.Full)
all_call_sites_are_more = refl

all_of_them_are_enough : renewal_fault (record as_many { call_sites = 5; switches = 2 }) (world_of owned) nothing ≡ None
all_of_them_are_enough = refl

-- ---- entries that are carried over

each_is_carried : filter_map (carried numbers) (
    NewLoader ∷ defines 2 (Some object) (codes "N") [] ∷ Delegate 2 (codes "N") 0 ∷ at_first 4
    ∷ NewCallSite Mutable (codes "()V") (target.Guard 1 (target.Invoker 1) (target.Method (of_class 4 0)))
    ∷ SetTarget 1 (target.Method (of_class 4 1)) ∷ NewSwitch ∷ Invalidate (0 ∷ 5 ∷ 1 ∷ []) ∷ Bind 1 1 ∷ Retire 2
    ∷ RetireAll (2 ∷ 1 ∷ 0 ∷ []) ∷ [])
    ≡ NewLoader ∷ defines 1 (Some object) (codes "N") [] ∷ Delegate 1 (codes "N") 0 ∷ at_first 3
    ∷ NewCallSite Mutable (codes "()V") (target.Guard 1 (target.Invoker 1) (target.Method (of_class 3 0)))
    ∷ SetTarget 1 (target.Method (of_class 3 1)) ∷ NewSwitch ∷ Invalidate (0 ∷ 1 ∷ []) ∷ Bind 0 1 ∷ Retire 1
    ∷ RetireAll (1 ∷ 0 ∷ []) ∷ []
each_is_carried = refl

-- what names what is gone, a part of a target among it, and links
none_is_carried : filter_map (carried numbers) (
    defines 1 (Some object) (codes "N") [] ∷ Delegate 1 (codes "N") 0 ∷ Delegate 2 (codes "N") 1 ∷ at_first 3
    ∷ NewCallSite Mutable (codes "()V") (target.Method (of_class 3 0))
    ∷ NewCallSite Mutable (codes "()V") (target.Guard 2 (target.Method (of_class 2 1)) (target.Method (of_class 2 2)))
    ∷ NewCallSite Mutable (codes "()V") (target.Guard 1 (target.Invoker 2) (target.Method (of_class 2 2)))
    ∷ NewCallSite Mutable (codes "()V") (target.Guard 1 (target.Method (of_class 2 1)) (target.Method (of_class 3 2)))
    ∷ SetTarget 2 (target.Method (of_class 2 1)) ∷ SetTarget 1 (target.Method (of_class 3 1)) ∷ Bind 0 1 ∷ Bind 1 2
    ∷ Install ((1, Plain (of_class 2 2)) ∷ []) ∷ Retire 1 ∷ [])
    ≡ []
none_is_carried = refl

what_was_made : map made_number (Nothing ∷ made.Loader 2 ∷ made.Class 5 ∷ made.Site 3 ∷ made.CallSite 4 ∷ made.Switch 6 ∷ [])
    ≡ None ∷ Some 2 ∷ Some 5 ∷ Some 3 ∷ Some 4 ∷ Some 6 ∷ []
what_was_made = refl

-- the old core's loader 3, class 5, site 3, call site 2 and switch point 2 have these new numbers
new_ones_are_noted :
    with_made (with_made (with_made (with_made (with_made numbers (made.Loader 3) (Some 7)) (made.Class 5) (Some 8)) (made.Site 3) None)
    (made.CallSite 2) (Some 9)) (made.Switch 2) (Some 10)
    ≡ record {
      loaders = Some 0 ∷ None ∷ Some 1 ∷ Some 7 ∷ [];
      classes = Some 0 ∷ Some 1 ∷ Some 2 ∷ None ∷ Some 3 ∷ Some 8 ∷ [];
      sites = None ∷ Some 0 ∷ Some 1 ∷ None ∷ [];
      call_sites = Some 0 ∷ Some 1 ∷ Some 9 ∷ [];
      switches = Some 0 ∷ Some 1 ∷ Some 10 ∷ [];
    }
new_ones_are_noted = refl

-- what was requested or delegated before keeps its number
old_ones_are_kept : with_made (with_made numbers (made.Site 1) (Some 7)) Nothing (Some 8) ≡ numbers
old_ones_are_kept = refl

-- what a gone entry made is noted, so call site 3 keeps its place after call site 2
later_ones_keep_theirs : (with_made (with_made numbers (made.CallSite 2) None) (made.CallSite 3) (Some 2)).call_sites
    ≡ Some 0 ∷ Some 1 ∷ None ∷ Some 2 ∷ []
later_ones_keep_theirs = refl

-- ---- what comes after a renewal of the core whose owner has let something go

-- Loader 2 finds Object through loader 0. It defines an interface J 3 and a class E 4 that implements it, whose invokedynamic is site 2. Loader
-- 3 is retired at once.
abbrev meanwhile : List Event
meanwhile =
    NewLoader ∷ Delegate 2 object 0
    ∷ Define 2 (record { name = codes "J"; flags = 1537; superclass = Some object; interfaces = []; nest_host = None; nest_members = []; methods = [] })
    ∷ Define 2 (record {
      name = codes "E";
      flags = 33;
      superclass = Some object;
      interfaces = codes "J" ∷ [];
      nest_host = None;
      nest_members = [];
      methods = dynamic ∷ method 9 (codes "u") ∷ [];
    })
    ∷ at_first 4 ∷ NewSwitch ∷ NewCallSite Mutable (codes "()V") (target.Guard 2 (target.Invoker 2) (target.Method (of_class 4 1)))
    ∷ Bind 2 5 ∷ SetTarget 0 (target.Method (of_class 1 2)) ∷ Invalidate (1 ∷ 2 ∷ []) ∷ NewLoader ∷ Retire 3
    ∷ []

is_a_longer_one : are_accepted with_released meanwhile ≡ true
is_a_longer_one = refl

abbrev later : World
later = world_after (with_released ++ meanwhile)

abbrev flags : Flags
flags = flags_of (world_of owned) let_go

what_stays : flags ≡ record {
  loaders = true ∷ false ∷ [];
  classes = true ∷ true ∷ false ∷ [];
  sites = true ∷ false ∷ [];
  call_sites = true ∷ true ∷ true ∷ false ∷ false ∷ [];
  switches = true ∷ false ∷ [];
}
what_stays = refl

-- all later ones stay
all_later_stay : map (moved flags.call_sites) (0 ∷ 2 ∷ 3 ∷ 4 ∷ 5 ∷ 6 ∷ []) ≡ Some 0 ∷ Some 2 ∷ None ∷ None ∷ Some 3 ∷ Some 4 ∷ []
all_later_stay = refl

-- these events under the new numbers; switch point 1 is gone
abbrev there : List Event
there =
    NewLoader ∷ Delegate 1 object 0
    ∷ Define 1 (record { name = codes "J"; flags = 1537; superclass = Some object; interfaces = []; nest_host = None; nest_members = []; methods = [] })
    ∷ Define 1 (record {
      name = codes "E";
      flags = 33;
      superclass = Some object;
      interfaces = codes "J" ∷ [];
      nest_host = None;
      nest_members = [];
      methods = dynamic ∷ method 9 (codes "u") ∷ [];
    })
    ∷ at_first 3 ∷ NewSwitch ∷ NewCallSite Mutable (codes "()V") (target.Guard 1 (target.Invoker 2) (target.Method (of_class 3 1)))
    ∷ Bind 1 3 ∷ SetTarget 0 (target.Method (of_class 1 2)) ∷ Invalidate (1 ∷ []) ∷ NewLoader ∷ Retire 2
    ∷ []

each_is_there : filter_map (event_there flags) meanwhile ≡ there
each_is_there = refl

-- what names what is gone, and links
none_is_there : filter_map (event_there flags) (
    defines 1 (Some object) (codes "N") [] ∷ Delegate 1 object 0 ∷ Delegate 0 (codes "C") 1 ∷ at_first 2
    ∷ NewCallSite Mutable (codes "()V") (target.Method (of_class 2 0))
    ∷ NewCallSite Mutable (codes "()V") (target.Invoker 3)
    ∷ NewCallSite Mutable (codes "()V") (target.Guard 1 (target.Method (of_class 1 1)) (target.Method (of_class 1 2)))
    ∷ NewCallSite Mutable (codes "()V") (target.Guard 0 (target.Invoker 4) (target.Method (of_class 1 2)))
    ∷ NewCallSite Mutable (codes "()V") (target.Guard 0 (target.Method (of_class 1 2)) (target.Method (of_class 2 0)))
    ∷ SetTarget 3 (target.Method (of_class 1 1)) ∷ SetTarget 0 (target.Invoker 4) ∷ Bind 1 0 ∷ Bind 0 4
    ∷ Install ((0, Plain (of_class 1 1)) ∷ []) ∷ Retire 1 ∷ [])
    ≡ []
none_is_there = refl

links_are_passed_over : events_there flags (Install ((0, Plain (of_class 1 1)) ∷ [])) ≡ Some []
links_are_passed_over = refl

those_may_be_gone : map may_be_gone meanwhile
    ≡ false ∷ false ∷ false ∷ false ∷ false ∷ false ∷ true ∷ true ∷ true ∷ false ∷ false ∷ false ∷ []
those_may_be_gone = refl

same_world : fold step (renewed (world_of owned) let_go) there ≡ moved_world flags later
same_world = refl

loaders_find : (moved_world flags later).classes.loaders
    ≡ ((object, 0) ∷ (codes "T", 1) ∷ []) ∷ ((object, 0) ∷ (codes "J", 2) ∷ (codes "E", 3) ∷ []) ∷ [] ∷ []
loaders_find = refl

-- the retirement of loader 3, and not that of loader 1, which is gone
one_is_retired : (moved_world flags later).classes.retired ≡ 2 ∷ []
one_is_retired = refl

loaders_of_classes : map (λ row. row.loader) (moved_world flags later).classes.rows ≡ 0 ∷ 0 ∷ 1 ∷ 1 ∷ []
loaders_of_classes = refl

superclasses_are : map (λ row. row.superclass) (moved_world flags later).classes.rows ≡ None ∷ Some 0 ∷ Some 0 ∷ Some 0 ∷ []
superclasses_are = refl

interfaces_are : map (λ row. row.interfaces) (moved_world flags later).classes.rows ≡ [] ∷ [] ∷ [] ∷ (2 ∷ []) ∷ []
interfaces_are = refl

places_are : map (λ place. place.class) (moved_world flags later).places ≡ 1 ∷ 3 ∷ []
places_are = refl

-- the binding of site 1 is gone with it
bindings_are : (moved_world flags later).bindings ≡ (0, 1) ∷ (1, 3) ∷ []
bindings_are = refl

targets_are : map (option_map (λ site. site.target)) (moved_world flags later).sites.call_sites
    ≡ Some (target.Method (of_class 1 2))
    ∷ Some (target.Guard 0 (target.Method (of_class 1 1)) (target.Method (of_class 1 2)))
    ∷ Some (target.Invoker 0)
    ∷ Some (target.Guard 1 (target.Invoker 2) (target.Method (of_class 3 1))) ∷ []
targets_are = refl

one_is_invalid : (moved_world flags later).sites.switches ≡ Some true ∷ Some false ∷ []
one_is_invalid = refl

-- loader 3 has a number, though it is retired by now: numbers aren't taken anew
numbers_of_all : all_numbers flags later ≡ record {
  loaders = Some 0 ∷ None ∷ Some 1 ∷ Some 2 ∷ [];
  classes = Some 0 ∷ Some 1 ∷ None ∷ Some 2 ∷ Some 3 ∷ [];
  sites = Some 0 ∷ None ∷ Some 1 ∷ [];
  call_sites = Some 0 ∷ Some 1 ∷ Some 2 ∷ None ∷ None ∷ Some 3 ∷ [];
  switches = Some 0 ∷ None ∷ Some 1 ∷ [];
}
numbers_of_all = refl

-- ---- loaders that need each other, and go at once after a renewal

-- loaders 2 and 3 have defined P 3 and Q 4, and each has found the other's class; site 2 is in P
abbrev of_each_other : List Event
of_each_other =
    NewLoader ∷ NewLoader ∷ Delegate 2 object 0 ∷ Delegate 3 object 0
    ∷ defines 2 (Some object) (codes "P") (dynamic ∷ []) ∷ defines 3 (Some object) (codes "Q") []
    ∷ Delegate 2 (codes "Q") 3 ∷ Delegate 3 (codes "P") 2 ∷ at_first 3
    ∷ []

abbrev both_go : List Event
both_go = of_each_other ++ RetireAll (3 ∷ 2 ∷ []) ∷ []

both_may_go : are_accepted with_released both_go ≡ true
both_may_go = refl

neither_may_go_alone : map (λ l. is_ok (verdict (fixed 8) (world_after (with_released ++ of_each_other)) (Retire l))) (2 ∷ 3 ∷ []) ≡ false ∷ false ∷ []
neither_may_go_alone = refl

abbrev without_both : World
without_both = world_after (with_released ++ both_go)

-- these events under the new numbers, where loader 1 and class 2 are gone
each_of_both_is_there : filter_map (event_there flags) both_go
    ≡ NewLoader ∷ NewLoader ∷ Delegate 1 object 0 ∷ Delegate 2 object 0
    ∷ defines 1 (Some object) (codes "P") (dynamic ∷ []) ∷ defines 2 (Some object) (codes "Q") []
    ∷ Delegate 1 (codes "Q") 2 ∷ Delegate 2 (codes "P") 1 ∷ at_first 2 ∷ RetireAll (2 ∷ 1 ∷ [])
    ∷ []
each_of_both_is_there = refl

-- a loader that is gone is left out, and one that comes twice stays so
gone_ones_are_left_out : event_there flags (RetireAll (3 ∷ 1 ∷ 2 ∷ 3 ∷ [])) ≡ Some (RetireAll (2 ∷ 1 ∷ 2 ∷ []))
gone_ones_are_left_out = refl

both_are_never_gone : may_be_gone (RetireAll (3 ∷ 2 ∷ [])) ≡ false
both_are_never_gone = refl

same_world_without_both : fold step (renewed (world_of owned) let_go) (filter_map (event_there flags) both_go) ≡ moved_world flags without_both
same_world_without_both = refl

both_are_retired : (moved_world flags without_both).classes.retired ≡ 2 ∷ 1 ∷ []
both_are_retired = refl

both_find_nothing : (moved_world flags without_both).classes.loaders ≡ ((object, 0) ∷ (codes "T", 1) ∷ []) ∷ [] ∷ [] ∷ []
both_find_nothing = refl

-- ---- a release after a renewal

those_released : event_there flags (Release (5 ∷ 3 ∷ 0 ∷ []) (1 ∷ 0 ∷ 2 ∷ [])) ≡ Some (Release (3 ∷ 0 ∷ []) (0 ∷ 1 ∷ []))
those_released = refl

a_release_is_never_gone : may_be_gone (Release (3 ∷ []) (1 ∷ [])) ≡ false
a_release_is_never_gone = refl

-- call site 2, and 4, which is gone
abbrev two_go : List Event
two_go = Release (4 ∷ 2 ∷ 1 ∷ []) (1 ∷ []) ∷ []

both_are_let_go : are_accepted with_released two_go ≡ true
both_are_let_go = refl

same_world_without_those : fold step (renewed (world_of owned) let_go) (filter_map (event_there flags) two_go)
    ≡ moved_world flags (world_after (with_released ++ two_go))
same_world_without_those = refl

one_is_left : map is_some (moved_world flags (world_after (with_released ++ two_go))).sites.call_sites ≡ true ∷ false ∷ false ∷ []
one_is_left = refl

-- a binding to one that is released after the renewal stays, as in the old core
still_bound : (moved_world flags (world_after (with_released ++ two_go))).bindings ≡ (0, 1) ∷ []
still_bound = refl
