-- A loader is retired: what refuses it, what goes with it, and what is left, over the whole history.
use Rattle.std.specs.Prelude.{◌≡◌, ℕ, true, false, List, [], ◌∷◌, ◌++◌, map, Some, None, Ok, Err, codes, refl}
use Rattle.jl_types.specs.Events.Limits.{fixed}
use Rattle.jl_class.specs.Class.{Method}
use Rattle.jl_class.specs.declared.site.Kind.TheVariants.{Virtual, Special, Static, Interface}
use Rattle.jl_types.specs.declared.answer.Outcome.TheVariants.{Run}
use Rattle.jl_types.specs.declared.answer.Recv.TheVariants.{Null, Of}
use Rattle.jl_types.specs.declared.answer.Unlinked.TheVariants.{Gone}
use Rattle.jl_types.specs.declared.answer.Answer.TheVariants as answer
use Rattle.jl_types.specs.declared.link.Link.{Link}
use Rattle.jl_types.specs.declared.link.Link.TheVariants.{Direct, Plain, Table}
use Rattle.jl_types.specs.declared.link.TableKind.TheVariants as kind
use Rattle.jl_types.specs.declared.target.CallSiteKind.TheVariants.{Mutable}
use Rattle.jl_types.specs.Values.Target as target
use Rattle.jl_types.specs.Events.Event.{Event}
use Rattle.jl_types.specs.declared.event.EventOf.TheVariants.{NewLoader, Define, Delegate, Request, NewCallSite, NewSwitch, Bind, Install, Retire, RetireAll}
use Rattle.jl_types.specs.declared.event.Made.TheVariants as made
use Rattle.jl_types.specs.declared.refusal.Refusal.TheVariants as refusal
use Rattle.jl_types.specs.declared.refusal.CallSiteFault.TheVariants as call_site
use Rattle.jl_types.specs.declared.refusal.DefineFault.TheVariants as define
use Rattle.jl_types.specs.declared.refusal.DelegateFault.TheVariants as delegate
use Rattle.jl_types.specs.declared.refusal.RetireFault.TheVariants.{UnknownLoader, FirstLoader, Inherited, Recorded, Targeted}
use Rattle.jl_types.specs.Values.Members.{lookup, has_class, is_present}
use Rattle.jl_types.specs.Values.Ancestry.{receivers}
use Rattle.jl_types.specs.Linkage.Links.{scratch}
use Rattle.jl_types.specs.Linkage.Calls.{dispatch}
use Rattle.jl_types.specs.Events.Verdict.{verdict}
use Rattle.jl_types.specs.Events.History.{world_after, installed, dropped}
use Rattle.jl_types.specs.declared.key.Key.TheVariants.{Receivers}
use Rattle.jl_types.specs.Events.Footprints.{footprint, keys, touched, left_touched, bound}
use Rattle.jl_types.proofs.Rows.Sketch.{method, calling, class_ref, itf_ref, first}
use Rattle.jl_types.proofs.Rows.CallSites.{bootstrapping}
use Rattle.jl_types.proofs.Rows.Histories.{linked}

abbrev object : List ℕ
object = codes "java/lang/Object"

abbrev defines : ℕ → List ℕ → List ℕ → List Method → Event
defines loader parent name methods =
    Define loader (record { name = name; flags = 33; superclass = Some parent; interfaces = []; nest_host = None; nest_members = []; methods = methods })

abbrev f : Method
f = method 1 (codes "f")

-- Object 0, A 1 with f, B 2 below A, M 3 with site 0, which calls A.f and is linked; loader 1 finds Object and A in loader 0
abbrev shared : List Event
shared = linked ++ NewLoader ∷ Delegate 1 object 0 ∷ Delegate 1 (codes "A") 0 ∷ []

-- C 4 below A in loader 1
abbrev own : Event
own = defines 1 (codes "A") (codes "C") (f ∷ [])

abbrev plain : Event
plain = defines 1 (codes "A") (codes "C") []

drops_the_link : dropped shared own ≡ 0 ∷ []
drops_the_link = refl

-- and site 0 is linked again
abbrev two : Link
two = Table kind.Virtual ((1, Run (first 1)) ∷ (2, Run (first 1)) ∷ (4, Run (first 4)) ∷ [])

abbrev again : List Event
again = shared ++ own ∷ Install ((0, two) ∷ []) ∷ []

may_go : verdict (fixed 65536) (world_after again) (Retire 1) ≡ Ok made.Nothing
may_go = refl

is_dropped : dropped again (Retire 1) ≡ 0 ∷ []
is_dropped = refl

its_keys : keys (world_after again) (Retire 1) ≡ Receivers 0 ∷ Receivers 1 ∷ Receivers 4 ∷ []
its_keys = refl

its_sites : touched again (Retire 1) ≡ 0 ∷ []
its_sites = refl

stays_left : left_touched again (Retire 1) ≡ 0 ∷ []
stays_left = refl

-- A and B are left to look at
two_left : bound again (Retire 1) ≡ 2
two_left = refl

abbrev after : List Event
after = again ++ Retire 1 ∷ []

not_linked : installed after 0 ≡ None
not_linked = refl

one_method : scratch (world_after after) 0 ≡ Ok (Direct (Run (first 1)))
one_method = refl

bad_receiver : dispatch (world_after after) 0 (Of 4) ≡ answer.BadReceiver
bad_receiver = refl

receivers_left : receivers (world_after after).classes 1 ≡ 1 ∷ 2 ∷ []
receivers_left = refl

goes_once : verdict (fixed 65536) (world_after after) (Retire 1) ≡ Err (refusal.Retire UnknownLoader)
goes_once = refl

first_stays : verdict (fixed 65536) (world_after after) (Retire 0) ≡ Err (refusal.Retire FirstLoader)
first_stays = refl

never_made : verdict (fixed 65536) (world_after after) (Retire 2) ≡ Err (refusal.Retire UnknownLoader)
never_made = refl

-- ---- C without methods

abbrev quiet : List Event
quiet = shared ++ plain ∷ []

keeps_at_first : dropped shared plain ≡ []
keeps_at_first = refl

keeps : dropped quiet (Retire 1) ≡ []
keeps = refl

stays_linked : installed (quiet ++ Retire 1 ∷ []) 0 ≡ Some (Direct (Run (first 1)))
stays_linked = refl

-- ---- what is retired

finds_nothing : lookup (world_after after).classes 1 (codes "A") ≡ None
finds_nothing = refl

still_a_number : has_class (world_after after).classes 4 ≡ true
still_a_number = refl

not_present : is_present (world_after after).classes 4 ≡ false
not_present = refl

no_definition : verdict (fixed 65536) (world_after after) (defines 1 (codes "A") (codes "D") []) ≡ Err (refusal.Define define.UnknownLoader)
no_definition = refl

no_delegation : verdict (fixed 65536) (world_after after) (Delegate 1 (codes "A") 0) ≡ Err (refusal.Delegate delegate.UnknownLoader)
no_delegation = refl

no_delegation_to : verdict (fixed 65536) (world_after after) (Delegate 0 (codes "C") 1) ≡ Err (refusal.Delegate delegate.UnknownLoader)
no_delegation_to = refl

no_request : verdict (fixed 65536) (world_after after) (Request (record { class = 4; method = 0; pc = 0 })) ≡ Err refusal.UnknownClass
no_request = refl

no_target : verdict (fixed 65536) (world_after after) (NewCallSite Mutable (codes "()V") (target.Method (first 4)))
    ≡ Err (refusal.CallSite call_site.UnknownMethod)
no_target = refl

numbers_count : verdict (fixed 65536) (world_after after) NewLoader ≡ Ok (made.Loader 2)
numbers_count = refl

classes_count : verdict (fixed 65536) (world_after after) (defines 0 (codes "A") (codes "D") []) ≡ Ok (made.Class 5)
classes_count = refl

-- ---- a site in a class that goes

-- C has a site, 1, which calls A.f and is linked
abbrev inside : List Event
inside = shared
    ++ defines 1 (codes "A") (codes "C") (calling 9 (codes "run") Virtual (class_ref (codes "A") (codes "f")) ∷ [])
    ∷ Request (record { class = 4; method = 0; pc = 0 })
    ∷ Install ((1, Direct (Run (first 1))) ∷ [])
    ∷ []

goes_with_its_class : dropped inside (Retire 1) ≡ 1 ∷ []
goes_with_its_class = refl

-- site 0 is looked at, with A and B, and site 1 isn't
both_touched : touched inside (Retire 1) ≡ 0 ∷ 1 ∷ []
both_touched = refl

one_left : left_touched inside (Retire 1) ≡ 0 ∷ []
one_left = refl

not_looked_at : bound inside (Retire 1) ≡ 2
not_looked_at = refl

is_gone : scratch (world_after (inside ++ Retire 1 ∷ [])) 1 ≡ Err Gone
is_gone = refl

call_is_gone : dispatch (world_after (inside ++ Retire 1 ∷ [])) 1 Null ≡ answer.Unlinked Gone
call_is_gone = refl

rests_on_nothing : footprint (world_after (inside ++ Retire 1 ∷ [])) 1 ≡ []
rests_on_nothing = refl

not_installed : verdict (fixed 65536) (world_after (inside ++ Retire 1 ∷ [])) (Install ((1, Direct (Run (first 1))) ∷ [])) ≡ Err (refusal.NotReady 1)
not_installed = refl

not_bound : verdict (fixed 65536) (world_after (inside ++ Retire 1 ∷ [])) (Bind 1 0) ≡ Err (refusal.UnknownSite 1)
not_bound = refl

-- the request that was answered before isn't answered any more
not_requested : verdict (fixed 65536) (world_after (inside ++ Retire 1 ∷ [])) (Request (record { class = 4; method = 0; pc = 0 })) ≡ Err refusal.UnknownClass
not_requested = refl

-- ---- sites of each instruction in a class that goes

-- N 4 of loader 0 has a static m, on call site 0; D 5 of loader 1 has an invokedynamic, site 1, which is bound to that and linked, and an
-- invokestatic, an invokespecial and an invokeinterface, sites 2 to 4
abbrev of_each : List Event
of_each = shared
    ++ defines 0 object (codes "N") (method 9 (codes "m") ∷ [])
    ∷ defines 1 (codes "A") (codes "D")
    (bootstrapping
    ∷ calling 9 (codes "s") Static (class_ref (codes "A") (codes "f"))
    ∷ calling 9 (codes "p") Special (class_ref (codes "A") (codes "f"))
    ∷ calling 9 (codes "i") Interface (itf_ref (codes "A") (codes "f"))
    ∷ [])
    ∷ Request (record { class = 5; method = 0; pc = 0 })
    ∷ Request (record { class = 5; method = 1; pc = 0 })
    ∷ Request (record { class = 5; method = 2; pc = 0 })
    ∷ Request (record { class = 5; method = 3; pc = 0 })
    ∷ NewCallSite Mutable (codes "()V") (target.Method (first 4))
    ∷ Bind 1 0
    ∷ Install ((1, Plain (first 4)) ∷ [])
    ∷ []

dynamic_is_linked : installed of_each 1 ≡ Some (Plain (first 4))
dynamic_is_linked = refl

dynamic_goes : dropped of_each (Retire 1) ≡ 1 ∷ []
dynamic_goes = refl

each_is_gone : map (scratch (world_after (of_each ++ Retire 1 ∷ []))) (1 ∷ 2 ∷ 3 ∷ 4 ∷ []) ≡ Err Gone ∷ Err Gone ∷ Err Gone ∷ Err Gone ∷ []
each_is_gone = refl

each_call_is_gone : map (λ s. dispatch (world_after (of_each ++ Retire 1 ∷ [])) s Null) (1 ∷ 2 ∷ 3 ∷ 4 ∷ [])
    ≡ answer.Unlinked Gone ∷ answer.Unlinked Gone ∷ answer.Unlinked Gone ∷ answer.Unlinked Gone ∷ []
each_call_is_gone = refl

-- it was bound, and that isn't asked any more
bound_is_not_bound : verdict (fixed 65536) (world_after (of_each ++ Retire 1 ∷ [])) (Bind 1 0) ≡ Err (refusal.UnknownSite 1)
bound_is_not_bound = refl

-- ---- another loader that needs it

-- loader 2 finds Object in loader 0, and C in loader 1
abbrev recording : List Event
recording = again ++ NewLoader ∷ Delegate 2 object 0 ∷ Delegate 2 (codes "C") 1 ∷ []

is_recorded : verdict (fixed 65536) (world_after recording) (Retire 1) ≡ Err (refusal.Retire (Recorded 2))
is_recorded = refl

-- E 5 below C in loader 2
abbrev inheriting : List Event
inheriting = recording ++ defines 2 (codes "C") (codes "E") [] ∷ []

is_inherited : verdict (fixed 65536) (world_after inheriting) (Retire 1) ≡ Err (refusal.Retire (Inherited 5))
is_inherited = refl

-- the least one of several: loader 3 records C, too; then E 5 below C is defined in it, and F 6 below C in loader 2
abbrev recording_twice : List Event
recording_twice = recording ++ NewLoader ∷ Delegate 3 object 0 ∷ Delegate 3 (codes "C") 1 ∷ []

least_recorder : verdict (fixed 65536) (world_after recording_twice) (Retire 1) ≡ Err (refusal.Retire (Recorded 2))
least_recorder = refl

abbrev inheriting_twice : List Event
inheriting_twice = recording_twice ++ defines 3 (codes "C") (codes "E") [] ∷ defines 2 (codes "C") (codes "F") [] ∷ []

least_heir : verdict (fixed 65536) (world_after inheriting_twice) (Retire 1) ≡ Err (refusal.Retire (Inherited 5))
least_heir = refl

other_may_go : verdict (fixed 65536) (world_after inheriting) (Retire 2) ≡ Ok made.Nothing
other_may_go = refl

goes_then : verdict (fixed 65536) (world_after (inheriting ++ Retire 2 ∷ [])) (Retire 1) ≡ Ok made.Nothing
goes_then = refl

-- ---- a target that names it

-- C 4 has a static method m; call site 0 has it on a side that isn't taken, and call site 1 on the one that is
abbrev targeting : List Event
targeting = shared
    ++ defines 1 (codes "A") (codes "C") (method 9 (codes "m") ∷ [])
    ∷ defines 0 (codes "A") (codes "D") (method 9 (codes "m") ∷ [])
    ∷ NewSwitch
    ∷ NewCallSite Mutable (codes "()V") (target.Method (first 5))
    ∷ NewCallSite Mutable (codes "()V") (target.Guard 0 (target.Method (first 5)) (target.Method (first 4)))
    ∷ NewCallSite Mutable (codes "()V") (target.Method (first 4))
    ∷ []

is_targeted : verdict (fixed 65536) (world_after targeting) (Retire 1) ≡ Err (refusal.Retire (Targeted 1))
is_targeted = refl

-- a class that inherits comes before the loader that records, and that before the target
recorded_before_targeted : verdict (fixed 65536) (world_after (targeting ++ NewLoader ∷ Delegate 2 (codes "C") 1 ∷ [])) (Retire 1)
    ≡ Err (refusal.Retire (Recorded 2))
recorded_before_targeted = refl

-- ---- several at once

may_go_alone : verdict (fixed 65536) (world_after again) (RetireAll (1 ∷ [])) ≡ Ok made.Nothing
may_go_alone = refl

none_may_go : verdict (fixed 65536) (world_after again) (RetireAll []) ≡ Ok made.Nothing
none_may_go = refl

none_goes : world_after (again ++ RetireAll [] ∷ []) ≡ world_after again
none_goes = refl

-- one that comes twice goes once
twice_may_go : verdict (fixed 65536) (world_after again) (RetireAll (1 ∷ 1 ∷ [])) ≡ Ok made.Nothing
twice_may_go = refl

goes_once_of_twice : world_after (again ++ RetireAll (1 ∷ 1 ∷ []) ∷ []) ≡ world_after after
goes_once_of_twice = refl

-- loader 1 is recorded by loader 2, and inherited from by E of loader 2: both go together, in any order, and neither alone
both_may_go : verdict (fixed 65536) (world_after inheriting) (RetireAll (1 ∷ 2 ∷ [])) ≡ Ok made.Nothing
both_may_go = refl

both_may_go_turned : verdict (fixed 65536) (world_after inheriting) (RetireAll (2 ∷ 1 ∷ [])) ≡ Ok made.Nothing
both_may_go_turned = refl

-- loader 1 records E of loader 2, too: neither goes by itself
abbrev of_each_other : List Event
of_each_other = inheriting ++ Delegate 1 (codes "E") 2 ∷ []

first_is_held : verdict (fixed 65536) (world_after of_each_other) (Retire 1) ≡ Err (refusal.Retire (Inherited 5))
first_is_held = refl

second_is_held : verdict (fixed 65536) (world_after of_each_other) (Retire 2) ≡ Err (refusal.Retire (Recorded 1))
second_is_held = refl

pair_may_go : verdict (fixed 65536) (world_after of_each_other) (RetireAll (1 ∷ 2 ∷ [])) ≡ Ok made.Nothing
pair_may_go = refl

abbrev without_pair : List Event
without_pair = of_each_other ++ RetireAll (2 ∷ 1 ∷ []) ∷ []

pair_is_gone : map (is_present (world_after without_pair).classes) (0 ∷ 1 ∷ 2 ∷ 3 ∷ 4 ∷ 5 ∷ []) ≡ true ∷ true ∷ true ∷ true ∷ false ∷ false ∷ []
pair_is_gone = refl

pair_finds_nothing : map (λ l. lookup (world_after without_pair).classes l object) (0 ∷ 1 ∷ 2 ∷ []) ≡ Some 0 ∷ None ∷ None ∷ []
pair_finds_nothing = refl

-- both classes below A go with it, and the link of site 0 as with one of them
pair_keys : keys (world_after of_each_other) (RetireAll (1 ∷ 2 ∷ [])) ≡ Receivers 0 ∷ Receivers 1 ∷ Receivers 4 ∷ Receivers 5 ∷ []
pair_keys = refl

pair_receivers : receivers (world_after without_pair).classes 1 ≡ 1 ∷ 2 ∷ []
pair_receivers = refl

pair_link : scratch (world_after without_pair) 0 ≡ Ok (Direct (Run (first 1)))
pair_link = refl

-- a loader outside the list holds as before
held_by_another : verdict (fixed 65536) (world_after inheriting_twice) (RetireAll (1 ∷ 3 ∷ [])) ≡ Err (refusal.RetireAll 1 (Inherited 6))
held_by_another = refl

recorded_by_another : verdict (fixed 65536) (world_after recording_twice) (RetireAll (1 ∷ 2 ∷ [])) ≡ Err (refusal.RetireAll 1 (Recorded 3))
recorded_by_another = refl

-- the first loader of the list that can't go is told, with its first fault
first_in_the_list : verdict (fixed 65536) (world_after recording) (RetireAll (0 ∷ 1 ∷ [])) ≡ Err (refusal.RetireAll 0 FirstLoader)
first_in_the_list = refl

first_in_the_turned_list : verdict (fixed 65536) (world_after recording) (RetireAll (1 ∷ 0 ∷ [])) ≡ Err (refusal.RetireAll 1 (Recorded 2))
first_in_the_turned_list = refl

later_in_the_list : verdict (fixed 65536) (world_after recording) (RetireAll (2 ∷ 9 ∷ [])) ≡ Err (refusal.RetireAll 9 UnknownLoader)
later_in_the_list = refl

gone_in_the_list : verdict (fixed 65536) (world_after after) (RetireAll (1 ∷ [])) ≡ Err (refusal.RetireAll 1 UnknownLoader)
gone_in_the_list = refl

-- a call site holds a loader of the list as it holds one alone
targeted_in_the_list : verdict (fixed 65536) (world_after (targeting ++ NewLoader ∷ [])) (RetireAll (2 ∷ 1 ∷ [])) ≡ Err (refusal.RetireAll 1 (Targeted 1))
targeted_in_the_list = refl

-- ---- sites in the classes that go

-- site 1 is C's, of loader 1; E 5 of loader 2 calls A.f at site 2, and both are linked
abbrev inside_both : List Event
inside_both = inside
    ++ NewLoader
    ∷ Delegate 2 object 0
    ∷ Delegate 2 (codes "A") 0
    ∷ defines 2 (codes "A") (codes "E") (calling 9 (codes "run") Virtual (class_ref (codes "A") (codes "f")) ∷ [])
    ∷ Request (record { class = 5; method = 0; pc = 0 })
    ∷ Install ((2, Direct (Run (first 1))) ∷ [])
    ∷ []

both_go_with_their_classes : dropped inside_both (RetireAll (1 ∷ 2 ∷ [])) ≡ 1 ∷ 2 ∷ []
both_go_with_their_classes = refl

one_left_of_both : left_touched inside_both (RetireAll (1 ∷ 2 ∷ [])) ≡ 0 ∷ []
one_left_of_both = refl

-- A and B are left to look at, however many go
one_look_for_both : bound inside_both (RetireAll (1 ∷ 2 ∷ [])) ≡ 2
one_look_for_both = refl

both_are_gone : map (scratch (world_after (inside_both ++ RetireAll (1 ∷ 2 ∷ []) ∷ []))) (1 ∷ 2 ∷ []) ≡ Err Gone ∷ Err Gone ∷ []
both_are_gone = refl
