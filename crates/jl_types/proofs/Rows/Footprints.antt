-- What links rest on, what events change of it, and how many evaluations they may take: over the whole history.
use Rattle.std.specs.Prelude.{◌≡◌, ℕ, true, false, List, [], ◌∷◌, ◌++◌, map, replicate, Some, codes, refl}
use Rattle.jl_class.specs.Class.{Method}
use Rattle.jl_pool.specs.declared.reference.Reference.{Reference}
use Rattle.jl_class.specs.declared.site.Kind.{Kind}
use Rattle.jl_class.specs.declared.site.Kind.TheVariants.{Virtual, Special, Static, Interface}
use Rattle.jl_class.specs.declared.site.Operand.TheVariants as operand
use Rattle.jl_types.specs.declared.ids.MethodId.{MethodId}
use Rattle.jl_types.specs.declared.answer.Outcome.TheVariants.{Run, Throws}
use Rattle.jl_types.specs.declared.answer.Throwable.TheVariants.{AbstractMethodError}
use Rattle.jl_types.specs.declared.link.Link.TheVariants.{Fault, Plain, Direct, Table, Mega}
use Rattle.jl_types.specs.declared.link.TableKind.TheVariants as kind
use Rattle.jl_types.specs.declared.target.CallSiteKind.TheVariants.{Mutable}
use Rattle.jl_types.specs.Values.Target as target
use Rattle.jl_types.specs.Values.Target.{Target}
use Rattle.jl_types.specs.Events.Event.{Event}
use Rattle.jl_types.specs.declared.event.EventOf.TheVariants.{NewLoader, Define, Delegate, Request, NewCallSite, SetTarget, NewSwitch, Invalidate}
use Rattle.jl_types.specs.declared.event.EventOf.TheVariants.{Bind, Install}
use Rattle.jl_types.specs.Values.World.{World}
use Rattle.jl_types.specs.Events.History.{world_after, dropped}
use Rattle.jl_types.proofs.Rows.Sketch.{method, file, class, first, world, calling, class_ref, itf_ref}
use Rattle.jl_types.proofs.Rows.Sketch as sketch
use Rattle.jl_types.proofs.Rows.Statics.{called}
use Rattle.jl_types.proofs.Rows.Histories.{below, object}
use Rattle.jl_types.proofs.Rows.CallSites.{bootstrapping}
use Rattle.jl_types.proofs.Rows.Loaders.{same_names, with_parents}
use Rattle.jl_types.proofs.Rows.Entries as entries
use Rattle.jl_types.specs.Events.Entries.{events_of}
use Rattle.jl_types.specs.declared.key.Key.{Key}
use Rattle.jl_types.specs.declared.key.Key.TheVariants.{Receivers, Target as Retarget, Valid}
use Rattle.jl_types.specs.Events.Footprints.{same_key, has_key, meets, footprint, keys, most_by, most_for, touched, bound, stays_with}

-- Object 0, A 1 with f, B 2 below A, M 3 that calls A.f twice, and the request of one of these calls, then of the other
abbrev pub calls : Method
calls = record (calling 9 (codes "run") Virtual (class_ref (codes "A") (codes "f"))) {
  sites = record { pc = 0; kind = Virtual; operand = operand.Method (class_ref (codes "A") (codes "f")) }
      ∷ record { pc = 3; kind = Virtual; operand = operand.Method (class_ref (codes "M") (codes "g")) }
      ∷ [];
}

abbrev before : List Event
before = object
    ∷ below (codes "java/lang/Object") (codes "A") 33 (method 1 (codes "f") ∷ [])
    ∷ below (codes "A") (codes "B") 33 []
    ∷ below (codes "java/lang/Object") (codes "M") 33 (calls ∷ method 1 (codes "g") ∷ [])
    ∷ Request (record { class = 3; method = 0; pc = 0 })
    ∷ Request (record { class = 3; method = 0; pc = 3 })
    ∷ []

on_receivers : footprint (world_after before) 0 ≡ Receivers 1 ∷ []
on_receivers = refl

no_site : footprint (world_after before) 2 ≡ []
no_site = refl

abbrev install : Event
install = Install ((0, Direct (Run (first 1))) ∷ [])

-- A and B are looked at
two_receivers : bound before install ≡ 2
two_receivers = refl

abbrev linked : List Event
linked = before ++ install ∷ []

abbrev own : Event
own = below (codes "A") (codes "C") 33 (method 1 (codes "f") ∷ [])

its_ancestors : keys (world_after linked) own ≡ Receivers 0 ∷ Receivers 1 ∷ Receivers 4 ∷ []
its_ancestors = refl

one_class : bound linked own ≡ 1
one_class = refl

-- the link of site 1 rests on the receivers of M
abbrev both_linked : List Event
both_linked = linked ++ Install ((1, Direct (Run (record { class = 3; index = 1 }))) ∷ []) ∷ []

other_class : touched both_linked own ≡ 0 ∷ []
other_class = refl

below_object : bound both_linked (below (codes "java/lang/Object") (codes "D") 33 []) ≡ 0
below_object = refl

-- objects may not be of an abstract class
abstract_class : keys (world_after linked) (below (codes "A") (codes "C") 1057 []) ≡ []
abstract_class = refl

an_interface : keys (world_after linked) (below (codes "java/lang/Object") (codes "I") 1537 []) ≡ []
an_interface = refl

-- ---- call sites

abbrev m : MethodId
m = record { class = 1; index = 0 }

abbrev n : MethodId
n = record { class = 1; index = 1 }

-- T 1 has static methods m, n and r; its invokedynamic is site 0, and points 0 and 1 are valid
abbrev begun : List Event
begun = Define 0 (file (codes "java/lang/Object") 33 [])
    ∷ Define 0 (record (file (codes "T") 33 (method 9 (codes "m") ∷ method 9 (codes "n") ∷ bootstrapping ∷ []))
    { superclass = Some (codes "java/lang/Object") })
    ∷ Request (record { class = 1; method = 2; pc = 0 })
    ∷ NewSwitch
    ∷ NewSwitch
    ∷ []

unbound : footprint (world_after begun) 0 ≡ []
unbound = refl

abbrev guarded : Target → List Event
guarded t = begun ++ NewCallSite Mutable (codes "()V") t ∷ Bind 0 0 ∷ Install ((0, Plain m) ∷ []) ∷ []

abbrev of : MethodId → Target
of method = target.Method method

-- a guard on point 1 with m on both ways, the first of which has a guard on point 0
abbrev two_ways : Target
two_ways = target.Guard 1 (target.Guard 0 (of m) (of n)) (of m)

both_points : footprint (world_after (guarded two_ways)) 0 ≡ Retarget 0 ∷ Valid 0 ∷ Valid 1 ∷ []
both_points = refl

-- the link stays, and rests on less
one_way : footprint (world_after (guarded two_ways ++ Invalidate (1 ∷ []) ∷ [])) 0 ≡ Retarget 0 ∷ []
one_way = refl

one_point : bound (guarded two_ways) (Invalidate (1 ∷ [])) ≡ 1
one_point = refl

keeps : dropped (guarded two_ways) (Invalidate (1 ∷ [])) ≡ []
keeps = refl

untaken : bound (guarded two_ways ++ Invalidate (1 ∷ []) ∷ []) (Invalidate (0 ∷ [])) ≡ 0
untaken = refl

-- a point that is invalid already, or is named twice
each_once : keys (world_after (guarded two_ways ++ Invalidate (1 ∷ []) ∷ [])) (Invalidate (1 ∷ 0 ∷ 0 ∷ [])) ≡ Valid 0 ∷ []
each_once = refl

-- a link may rest on more afterwards: a point on the fallback
abbrev late_point : Target
late_point = target.Guard 0 (of m) (target.Guard 1 (of m) (of n))

rests_on_more : footprint (world_after (guarded late_point ++ Invalidate (0 ∷ []) ∷ [])) 0 ≡ Retarget 0 ∷ Valid 1 ∷ []
rests_on_more = refl

drops_then : dropped (guarded late_point ++ Invalidate (0 ∷ []) ∷ []) (Invalidate (1 ∷ [])) ≡ 0 ∷ []
drops_then = refl

retarget : bound (guarded (of m)) (SetTarget 0 (of n)) ≡ 1
retarget = refl

other_call_site : bound (guarded (of m) ++ NewCallSite Mutable (codes "()V") (of n) ∷ []) (SetTarget 1 (of m)) ≡ 0
other_call_site = refl

no_keys : keys (world_after begun) NewSwitch ≡ []
no_keys = refl

-- ---- keys: a class, a call site and a point of one number are three things

abbrev some_keys : List Key
some_keys = Receivers 1 ∷ Receivers 2 ∷ Retarget 1 ∷ Retarget 2 ∷ Valid 1 ∷ Valid 2 ∷ []

same_receivers : map (same_key (Receivers 1)) some_keys ≡ true ∷ false ∷ false ∷ false ∷ false ∷ false ∷ []
same_receivers = refl

same_target : map (same_key (Retarget 1)) some_keys ≡ false ∷ false ∷ true ∷ false ∷ false ∷ false ∷ []
same_target = refl

same_point : map (same_key (Valid 1)) some_keys ≡ false ∷ false ∷ false ∷ false ∷ true ∷ false ∷ []
same_point = refl

which_it_has : map (has_key (Retarget 1 ∷ Valid 2 ∷ [])) some_keys ≡ false ∷ false ∷ true ∷ false ∷ false ∷ true ∷ []
which_it_has = refl

in_both : meets (Retarget 0 ∷ Valid 0 ∷ []) (Receivers 1 ∷ Valid 0 ∷ Valid 1 ∷ []) ≡ true
in_both = refl

in_one : meets (Retarget 0 ∷ Valid 0 ∷ []) (Retarget 1 ∷ Receivers 0 ∷ Valid 1 ∷ []) ≡ false
in_one = refl

nothing_in_the_footprint : meets [] some_keys ≡ false
nothing_in_the_footprint = refl

nothing_in_the_keys : meets some_keys [] ≡ false
nothing_in_the_keys = refl

-- ---- which invocations look at receivers

of_virtual : footprint (called 33 1 Virtual class_ref) 0 ≡ Receivers 1 ∷ []
of_virtual = refl

of_interface : footprint (called 1537 1025 Interface itf_ref) 0 ≡ Receivers 1 ∷ []
of_interface = refl

of_special : footprint (called 33 1 Special class_ref) 0 ≡ []
of_special = refl

of_static : footprint (called 33 9 Static class_ref) 0 ≡ []
of_static = refl

of_fault : footprint (called 33 9 Virtual class_ref) 0 ≡ []
of_fault = refl

-- an interface's method is named as a class's
of_faulty_reference : footprint (called 1537 1025 Virtual class_ref) 0 ≡ []
of_faulty_reference = refl

-- a class that calls its own private method
abbrev own_private : ℕ → Kind → (List ℕ → List ℕ → Reference (List ℕ)) → World
own_private flags kind ref = world (sketch.object
    ∷ class (codes "A") flags (Some 0) [] (calling 1 (codes "run") kind (ref (codes "A") (codes "f")) ∷ method 2 (codes "f") ∷ [])
    ∷ []) 1

of_private : footprint (own_private 33 Virtual class_ref) 0 ≡ []
of_private = refl

-- at invokeinterface an object has still to be of the interface
of_private_of_interface : footprint (own_private 1537 Interface itf_ref) 0 ≡ Receivers 1 ∷ []
of_private_of_interface = refl

-- I 1 with f, J 2 below it; A 3 implements J, B 4 is below A; M 5 calls the f of one of them
abbrev inherited : Kind → Reference (List ℕ) → World
inherited kind ref = world (sketch.object
    ∷ class (codes "I") 1537 (Some 0) [] (method 1 (codes "f") ∷ [])
    ∷ class (codes "J") 1537 (Some 0) (1 ∷ []) []
    ∷ class (codes "A") 33 (Some 0) (2 ∷ []) (method 1 (codes "f") ∷ [])
    ∷ class (codes "B") 33 (Some 3) [] []
    ∷ class (codes "M") 33 (Some 0) [] (calling 9 (codes "run") kind ref ∷ [])
    ∷ []) 5

class_that_is_named : footprint (inherited Virtual (class_ref (codes "B") (codes "f"))) 0 ≡ Receivers 4 ∷ []
class_that_is_named = refl

interface_that_is_named : footprint (inherited Interface (itf_ref (codes "J") (codes "f"))) 0 ≡ Receivers 2 ∷ []
interface_that_is_named = refl

waits_for_a_class : footprint (inherited Virtual (class_ref (codes "X") (codes "f"))) 0 ≡ []
waits_for_a_class = refl

-- p/A 1 with a method without access flag, which p/M 2 calls
of_its_package : footprint (world (sketch.object
    ∷ class (codes "p/A") 33 (Some 0) [] (method 0 (codes "f") ∷ [])
    ∷ class (codes "p/M") 33 (Some 0) [] (calling 9 (codes "run") Virtual (class_ref (codes "p/A") (codes "f")) ∷ [])
    ∷ []) 2) 0 ≡ Receivers 1 ∷ []
of_its_package = refl

absent_class : footprint (world (sketch.object ∷ []) 7) 0 ≡ []
absent_class = refl

no_invocation : footprint (world (sketch.object ∷ []) 0) 0 ≡ []
no_invocation = refl

-- ---- call sites and their points

untaken_way : footprint (world_after (guarded late_point)) 0 ≡ Retarget 0 ∷ Valid 0 ∷ []
untaken_way = refl

point_off_the_path : bound (guarded late_point) (Invalidate (1 ∷ [])) ≡ 0
point_off_the_path = refl

point_twice_on_the_path : footprint (world_after (guarded (target.Guard 0 (target.Guard 0 (of m) (of n)) (of n)))) 0 ≡ Retarget 0 ∷ Valid 0 ∷ []
point_twice_on_the_path = refl

-- U 2 has an invokedynamic as well, site 1; it is bound to call site 0, and site 0 to call site 1
abbrev crossed : List Event
crossed = begun
    ++ Define 0 (record (file (codes "U") 33 (bootstrapping ∷ [])) { superclass = Some (codes "java/lang/Object") })
    ∷ Request (record { class = 2; method = 0; pc = 0 })
    ∷ NewCallSite Mutable (codes "()V") (of m)
    ∷ NewCallSite Mutable (codes "()V") two_ways
    ∷ Bind 0 1
    ∷ Bind 1 0
    ∷ Install ((0, Plain m) ∷ (1, Plain m) ∷ [])
    ∷ []

second_call_site : footprint (world_after crossed) 0 ≡ Retarget 1 ∷ Valid 0 ∷ Valid 1 ∷ []
second_call_site = refl

second_site : footprint (world_after crossed) 1 ≡ Retarget 0 ∷ []
second_site = refl

by_its_call_site : touched crossed (SetTarget 0 (of n)) ≡ 1 ∷ []
by_its_call_site = refl

by_its_point : touched crossed (Invalidate (1 ∷ [])) ≡ 0 ∷ []
by_its_point = refl

-- ---- what events change

rising : keys (world_after begun) (Invalidate (1 ∷ 0 ∷ [])) ≡ Valid 0 ∷ Valid 1 ∷ []
rising = refl

no_points : keys (world_after begun) (Invalidate []) ≡ []
no_points = refl

its_target : keys (world_after crossed) (SetTarget 1 (of n)) ≡ Retarget 1 ∷ []
its_target = refl

-- I 1, which C implements
its_interface : keys (world_after (object ∷ below (codes "java/lang/Object") (codes "I") 1537 [] ∷ []))
    (Define 0 (record (file (codes "C") 33 []) { superclass = Some (codes "java/lang/Object"); interfaces = codes "I" ∷ [] })) ≡ Receivers 0 ∷ Receivers 1
    ∷ Receivers 2 ∷ []
its_interface = refl

-- in loader 1, which has other classes of the parents' names than loader 0
parents_of_its_loader : keys (world_after same_names) (with_parents 1) ≡ Receivers 0 ∷ Receivers 3 ∷ Receivers 4 ∷ Receivers 5 ∷ []
parents_of_its_loader = refl

others_change_nothing : map (keys (world_after crossed)) (
    NewLoader
    ∷ Delegate 0 (codes "T") 0
    ∷ Request (record { class = 1; method = 2; pc = 0 })
    ∷ NewCallSite Mutable (codes "()V") (of m)
    ∷ NewSwitch
    ∷ Bind 0 0
    ∷ Install ((0, Plain m) ∷ [])
    ∷ []) ≡ replicate 7 []
others_change_nothing = refl

-- ---- which sites are touched

pending : touched before own ≡ []
pending = refl

installed_but_untouched : touched both_linked (below (codes "java/lang/Object") (codes "D") 33 []) ≡ []
installed_but_untouched = refl

below_both : touched both_linked (below (codes "M") (codes "N") 33 []) ≡ 1 ∷ []
below_both = refl

-- C is defined, the site is linked by a table, and D comes
abbrev with_table : List Event
with_table = before ++ own ∷ Install ((0, Table kind.Virtual ((1, Run (first 1)) ∷ (2, Run (first 1)) ∷ (4, Run (first 4)) ∷ [])) ∷ []) ∷ []

linked_by_table : touched with_table (below (codes "A") (codes "D") 33 []) ≡ 0 ∷ []
linked_by_table = refl

-- a link may be touched and stay
same_method_below : dropped linked (below (codes "A") (codes "C") 33 []) ≡ []
same_method_below = refl

touched_though : touched linked (below (codes "A") (codes "C") 33 []) ≡ 0 ∷ []
touched_though = refl

dropped_by_table : dropped with_table (below (codes "A") (codes "D") 33 []) ≡ 0 ∷ []
dropped_by_table = refl

-- two sites that rest on the same class
both_by_one_class : touched (events_of entries.linked) own ≡ 0 ∷ 1 ∷ []
both_by_one_class = refl

-- ---- how many evaluations

no_receiver_looked_at : most_by (world_after before).classes [] ≡ 1
no_receiver_looked_at = refl

each_receiver : most_by (world_after before).classes (Receivers 1 ∷ []) ≡ 2
each_receiver = refl

one_target : most_by (world_after before).classes (Retarget 1 ∷ Valid 0 ∷ Valid 1 ∷ []) ≡ 1
one_target = refl

one_valid_point : most_by (world_after before).classes (Valid 1 ∷ []) ≡ 1
one_valid_point = refl

one_for_each_touched : bound (events_of entries.linked) own ≡ 2
one_for_each_touched = refl

-- no object may be of A 1
without_receivers : most_for (called 1057 1025 Virtual class_ref) 0 ≡ 0
without_receivers = refl

-- A has three receivers; S 5 calls its own static h, as site 2
abbrev with_static : List Event
with_static = before
    ++ own
    ∷ below (codes "java/lang/Object") (codes "S") 33 (method 9 (codes "h") ∷ calling 9 (codes "run") Static (class_ref (codes "S") (codes "h")) ∷ [])
    ∷ Request (record { class = 5; method = 1; pc = 0 })
    ∷ []

three_and_one : bound with_static (Install ((0, Mega) ∷ (2, Plain (first 5)) ∷ [])) ≡ 4
three_and_one = refl

one_and_three : bound with_static (Install ((2, Plain (first 5)) ∷ (0, Mega) ∷ [])) ≡ 4
one_and_three = refl

three_and_m : bound with_static (Install ((0, Mega) ∷ (1, Mega) ∷ [])) ≡ 4
three_and_m = refl

-- sites that nobody requested
unknown_rows : bound with_static (Install ((8, Mega) ∷ (9, Mega) ∷ [])) ≡ 2
unknown_rows = refl

of_call_sites : bound crossed (Install ((0, Plain m) ∷ (1, Plain m) ∷ [])) ≡ 2
of_call_sites = refl

-- ---- one receiver more

same_run : stays_with (Direct (Run m)) (Run m) ≡ true
same_run = refl

other_class_runs : stays_with (Direct (Run m)) (Run (first 2)) ≡ false
other_class_runs = refl

other_method_runs : stays_with (Direct (Run m)) (Run n) ≡ false
other_method_runs = refl

one_throws : stays_with (Direct (Run m)) (Throws AbstractMethodError) ≡ false
one_throws = refl

direct_throws : map (stays_with (Direct (Throws AbstractMethodError))) (Throws AbstractMethodError ∷ Run m ∷ []) ≡ false ∷ false ∷ []
direct_throws = refl

too_many : map (stays_with Mega) (Throws AbstractMethodError ∷ Run m ∷ []) ≡ true ∷ true ∷ []
too_many = refl

table_grows : map (stays_with (Table kind.Virtual ((1, Run m) ∷ []))) (Throws AbstractMethodError ∷ Run m ∷ []) ≡ false ∷ false ∷ []
table_grows = refl

interface_table_grows : map (stays_with (Table kind.Interface [])) (Throws AbstractMethodError ∷ Run m ∷ []) ≡ false ∷ false ∷ []
interface_table_grows = refl

plain : map (stays_with (Plain m)) (Throws AbstractMethodError ∷ Run m ∷ []) ≡ false ∷ false ∷ []
plain = refl

faulty : map (stays_with (Fault AbstractMethodError)) (Throws AbstractMethodError ∷ Run m ∷ []) ≡ false ∷ false ∷ []
faulty = refl
