-- What the definitions of a report say of small classes.
use Rattle.std.specs.Prelude.{◌≡◌, ℕ, ◌+◌, Bool, true, false, List, [], ◌∷◌, map, take, Option, Some, None, is_some, codes, refl}
use Rattle.std.specs.List.{range_with_len}
use Rattle.std.proofs.Common.{sym, ◌∙◌, add-one}
use Rattle.jl_names.specs.declared.descriptor.Element.TheVariants as element
use Rattle.jl_pool.specs.declared.reference.Reference.{Reference}
use Rattle.jl_class.specs.Class.{ClassFile, Method}
use Rattle.jl_class.specs.declared.site.Kind.{Kind}
use Rattle.jl_class.specs.declared.site.Kind.TheVariants.{Virtual, Special, Static, Interface, Dynamic}
use Rattle.jl_class.specs.declared.site.Operand.{Operand}
use Rattle.jl_class.specs.declared.site.Operand.TheVariants as operand
use Rattle.jl_types.specs.declared.answer.Answer.TheVariants as answer
use Rattle.jl_types.specs.declared.answer.Missing.TheVariants.{Named}
use Rattle.jl_types.specs.declared.answer.Outcome.TheVariants.{Run, Throws}
use Rattle.jl_types.specs.declared.answer.Throwable.TheVariants.{AbstractMethodError, IncompatibleClassChangeError}
use Rattle.jl_types.specs.declared.answer.Unlinked.TheVariants.{Unbound, NotReady, Gone, NoSite}
use Rattle.jl_types.specs.declared.key.Key.{Key}
use Rattle.jl_types.specs.declared.key.Key.TheVariants.{Receivers, Target, Valid}
use Rattle.jl_types.specs.declared.link.Link.TheVariants.{Fault, Plain, Direct, Table, Mega}
use Rattle.jl_types.specs.declared.link.TableKind.TheVariants as table
use Rattle.jl_types.specs.declared.refusal.DefineFault.TheVariants.{FinalSuper}
use Rattle.jl_types.specs.declared.refusal.NotLinkable.TheVariants.{ArrayReceiver, PolymorphicSignature}
use Rattle.jl_types.specs.Values.World.{Class, Classes}
use Rattle.jl_types.specs.Values.Ancestry.{is_ancestor}
use Rattle.jl_types.specs.Events.Definitions.{define_fault, defined}
use Rattle.jl_types.specs.Events.Footprints.{footprint}
use Rattle.jl_types.proofs.Rows.Sketch.{object, class, classes, file, method, first, calling, class_ref, itf_ref}
use Rattle.jl_relink.specs.Placed.{asking}
use Rattle.jl_report.specs.declared.invocation.Invocation.{Invocation}
use Rattle.jl_report.specs.declared.row.Finding.TheVariants as finding
use Rattle.jl_report.specs.declared.row.Row.{Row}
use Rattle.jl_report.specs.declared.shape.Shape.TheVariants as shape
use Rattle.jl_report.specs.Order.{name_of}
use Rattle.jl_report.specs.Reports.{never_linked, invocation_of, invocations_in, rests_on, row_of, rows_in}
use Rattle.jl_report.specs.Drops.{keys_of, row_now, now_changed, left_among, dropped_among, IsAdded}
use Rattle.jl_hierarchy.specs.Constancy.{may_be_extended, ExtendNoFinal}
use Rattle.jl_report.specs.Drops.{may_change, has_changing_link, may_grow, is_open}
use Rattle.jl_report.specs.Methods.{is_same, distinct, run_of, run_by, looked_at, runs, methods_run}
use Rattle.jl_report.specs.Finals.{overrides_final, some_overrides_final, AreDerived, inherits, is_final_call}
use Rattle.jl_report.specs.Made.{class_of, named_result, made, meets_made, marks_of, meets_marks}
use Rattle.jl_report.specs.Totals.{shape_of, column, count, told, largest}
use Rattle.jl_report.specs.Gathering.{most_classes}

-- the invocation of this by the first method of class 2
abbrev invoking : Kind → Reference (List ℕ) → Invocation
invoking kind ref = invocation_of 2 0 (record { pc = 0; kind = kind; operand = operand.Method ref })

-- Object 0, class 1 of this name, flags and methods, M 2 that invokes this, and these
abbrev world : List ℕ → ℕ → List Method → Kind → Reference (List ℕ) → List Class → Classes
world name flags methods kind ref more = classes (
    object
    ∷ class name flags (Some 0) [] methods
    ∷ class (codes "M") 33 (Some 0) [] (calling 9 (codes "run") kind ref ∷ [])
    ∷ more)

-- the row of M's invocation
abbrev row : List ℕ → ℕ → List Method → Kind → Reference (List ℕ) → List Class → Row
row name flags methods kind ref more = row_of (world name flags methods kind ref more) (invoking kind ref)

abbrev f : Method
f = method 1 (codes "f")

-- ---- what is never linkable rests on nothing

abbrev handle : List ℕ
handle = codes "java/lang/invoke/MethodHandle"

abbrev on_handle : Reference (List ℕ)
on_handle = class_ref handle (codes "f")

abbrev with_handle : Classes
with_handle = world handle 33 (f ∷ []) Virtual on_handle []

abbrev by_handle : Row
by_handle = row handle 33 (f ∷ []) Virtual on_handle []

-- the site would look at the receivers of the class that it names
would_rest : footprint (asking with_handle by_handle.place) 0 ≡ Receivers 1 ∷ []
would_rest = refl

handle_finding : by_handle.finding ≡ finding.NotLinkable PolymorphicSignature
handle_finding = refl

handle_rests : by_handle.rests_on ≡ []
handle_rests = refl

handle_closed : is_open with_handle by_handle ≡ false
handle_closed = refl

-- nor does what has no link for another reason
unlinked_rests : rests_on (asking with_handle by_handle.place) (finding.Unlinked Unbound) ≡ []
unlinked_rests = refl

var_handle_never : never_linked (operand.Method (class_ref (codes "java/lang/invoke/VarHandle") (codes "f"))) ≡ Some PolymorphicSignature
var_handle_never = refl

array_never : never_linked (operand.Method (class_ref (codes "[I") (codes "clone"))) ≡ Some ArrayReceiver
array_never = refl

other_linked : never_linked (operand.Method (class_ref (codes "java/lang/invoke/CallSite") (codes "f"))) ≡ None
other_linked = refl

-- ---- what a further class may change

abbrev on_a : Reference (List ℕ)
on_a = class_ref (codes "A") (codes "f")

-- with A of these flags
abbrev of_a : ℕ → Row
of_a flags = row (codes "A") flags (f ∷ []) Virtual on_a []

abbrev with_a : ℕ → Classes
with_a flags = world (codes "A") flags (f ∷ []) Virtual on_a []

direct : of_a 33 ≡ record {
  place = record { class = 2; method = 0; pc = 0 };
  kind = Virtual;
  finding = finding.Linked (Direct (Run (first 1)));
  rests_on = Receivers 1 ∷ [];
}
direct = refl

direct_open : is_open (with_a 33) (of_a 33) ≡ true
direct_open = refl

-- the row of a FINAL A's f, which isn't open
final_link : (of_a 49).finding ≡ finding.Linked (Direct (Run (first 1)))
final_link = refl

final_rests : (of_a 49).rests_on ≡ Receivers 1 ∷ []
final_rests = refl

final_closed : is_open (with_a 49) (of_a 49) ≡ false
final_closed = refl

-- no object is of an abstract class without one below it
empty_table : (of_a 1057).finding ≡ finding.Linked (Table table.Virtual [])
empty_table = refl

empty_open : is_open (with_a 1057) (of_a 1057) ≡ true
empty_open = refl

-- an interface may be extended, whichever flags it has, and of a class that isn't there nothing is known
interface_extended : may_be_extended (with_a 1537) 1 ≡ true
interface_extended = refl

final_interface_extended : may_be_extended (with_a 1585) 1 ≡ true
final_interface_extended = refl

final_not_extended : may_be_extended (with_a 49) 1 ≡ false
final_not_extended = refl

missing_extended : may_be_extended (with_a 33) 7 ≡ true
missing_extended = refl

-- of a call site and of a switch point
targets_stay : may_grow (with_a 33) (Target 1) ≡ false
targets_stay = refl

points_stay : may_grow (with_a 33) (Valid 1) ≡ false
points_stay = refl

-- a static method
abbrev static_row : Row
static_row = row (codes "A") 33 (method 9 (codes "f") ∷ []) Static on_a []

plain : static_row.finding ≡ finding.Linked (Plain (first 1))
plain = refl

plain_closed : is_open (world (codes "A") 33 (method 9 (codes "f") ∷ []) Static on_a []) static_row ≡ false
plain_closed = refl

-- invokestatic of one that isn't
abbrev fault_row : Row
fault_row = row (codes "A") 33 (f ∷ []) Static on_a []

fault : fault_row.finding ≡ finding.Linked (Fault IncompatibleClassChangeError)
fault = refl

fault_rests : fault_row.rests_on ≡ []
fault_rests = refl

-- nothing is named B
abbrev waiting : Row
waiting = row (codes "A") 33 (f ∷ []) Virtual (class_ref (codes "B") (codes "f")) []

waits : waiting.finding ≡ finding.Unlinked (NotReady Named)
waits = refl

waiting_rests : waiting.rests_on ≡ []
waiting_rests = refl

waiting_closed : is_open (world (codes "A") 33 (f ∷ []) Virtual (class_ref (codes "B") (codes "f")) []) waiting ≡ false
waiting_closed = refl

-- n classes below A with their own f
abbrev children : ℕ → List Class
children n = map (λ i. class (67 ∷ (48 + i) ∷ []) 33 (Some 1) [] (f ∷ [])) (range_with_len 0 n)

-- abstract A, with n classes below it
abbrev of_family : ℕ → Row
of_family n = row (codes "A") 1057 (f ∷ []) Virtual on_a (children n)

abbrev family : ℕ → Classes
family n = world (codes "A") 1057 (f ∷ []) Virtual on_a (children n)

mega : (of_family 9).finding ≡ finding.Linked Mega
mega = refl

mega_rests : (of_family 9).rests_on ≡ Receivers 1 ∷ []
mega_rests = refl

mega_closed : is_open (family 9) (of_family 9) ≡ false
mega_closed = refl

table_open : is_open (family 8) (of_family 8) ≡ true
table_open = refl

-- which links may change, and that it takes a link
changing : map may_change (Fault AbstractMethodError ∷ Plain (first 1) ∷ Direct (Run (first 1)) ∷ Table table.Virtual [] ∷ Mega ∷ [])
    ≡ true ∷ true ∷ true ∷ true ∷ false ∷ []
changing = refl

changing_findings : map has_changing_link
    (finding.Linked (Plain (first 1)) ∷ finding.Linked Mega ∷ finding.Unlinked Unbound ∷ finding.NotLinkable ArrayReceiver ∷ [])
    ≡ true ∷ false ∷ false ∷ false ∷ []
changing_findings = refl

-- ---- what a further class drops

abbrev further : List Method → ClassFile
further methods = record (file (codes "D") 33 methods) { superclass = Some (codes "A") }

-- with D below A, after the others
abbrev with_d : List Method → Classes
with_d methods = defined (with_a 33) 0 (further methods)

abbrev keys_of_d : List Method → List Key
keys_of_d methods = keys_of (with_a 33) (further methods)

-- the row of A's f there, if D has its own f
abbrev two_receivers : Row
two_receivers = record {
  place = record { class = 2; method = 0; pc = 0 };
  kind = Virtual;
  finding = finding.Linked (Table table.Virtual ((1, Run (first 1)) ∷ (3, Run (first 3)) ∷ []));
  rests_on = Receivers 1 ∷ [];
}

receivers_change : keys_of_d [] ≡ Receivers 0 ∷ Receivers 1 ∷ Receivers 3 ∷ []
receivers_change = refl

now : row_now (with_a 33) (of_a 33) ≡ of_a 33
now = refl

now_with_d : row_now (with_d (f ∷ [])) (of_a 33) ≡ two_receivers
now_with_d = refl

-- the row of A's f, as if it rested on the receivers of another class
abbrev elsewhere : Row
elsewhere = record (of_a 33) { rests_on = Receivers 2 ∷ [] }

-- D drops the direct link, and leaves a row that rests on other receivers; the dropped row isn't left
drops : dropped_among (with_d (f ∷ [])) (keys_of_d (f ∷ [])) (elsewhere ∷ of_a 33 ∷ []) ≡ record { before = of_a 33; after = two_receivers } ∷ []
drops = refl

dropped_goes : left_among (with_d (f ∷ [])) (keys_of_d (f ∷ [])) (elsewhere ∷ of_a 33 ∷ []) ≡ elsewhere ∷ []
dropped_goes = refl

-- without an f of its own it drops nothing
drops_none : dropped_among (with_d []) (keys_of_d []) (elsewhere ∷ of_a 33 ∷ []) ≡ []
drops_none = refl

leaves_all : left_among (with_d []) (keys_of_d []) (elsewhere ∷ of_a 33 ∷ []) ≡ elsewhere ∷ of_a 33 ∷ []
leaves_all = refl

mega_stays : now_changed (defined (family 9) 0 (further (f ∷ []))) (keys_of (family 9) (further (f ∷ []))) (of_family 9) ≡ None
mega_stays = refl

-- what has no link has none to drop
waiting_stays : now_changed (with_d (f ∷ [])) (keys_of_d (f ∷ [])) (record (of_a 33) { finding = finding.Unlinked (NotReady Named) }) ≡ None
waiting_stays = refl

never_stays : now_changed (with_d (f ∷ [])) (keys_of_d (f ∷ [])) (record (of_a 33) { finding = finding.NotLinkable ArrayReceiver }) ≡ None
never_stays = refl

added : IsAdded (with_a 33) (with_d (f ∷ [])) (further (f ∷ [])) (of_a 33 ∷ []) [] [] (record { before = of_a 33; after = two_receivers } ∷ []) None
added = (refl, refl, refl, refl)

-- below a FINAL A it may not be defined
given_back : IsAdded (with_a 49) (with_a 49) (further []) (of_a 49 ∷ []) (of_a 49 ∷ []) [] [] (Some (further []))
given_back = (refl, refl, refl, refl, refl)

final_super : define_fault most_classes (with_a 49) 0 (further []) ≡ Some FinalSuper
final_super = refl

-- C 3 below a FINAL A
below_final : ¬ ExtendNoFinal (world (codes "A") 49 (f ∷ []) Virtual on_a (children 1))
below_final h = let e = h 3 1 (class (67 ∷ 48 ∷ []) 33 (Some 1) [] (f ∷ [])) refl refl in cc

-- ---- which methods run

-- none, if there are no receivers, and of what has no link
no_method : methods_run (with_a 1057) (of_a 1057) ≡ []
no_method = refl

waiting_runs : methods_run (with_a 33) waiting ≡ []
waiting_runs = refl

handle_runs : methods_run with_handle by_handle ≡ []
handle_runs = refl

one_method : methods_run (with_a 33) (of_a 33) ≡ first 1 ∷ []
one_method = refl

three_methods : methods_run (family 3) (of_family 3) ≡ first 3 ∷ first 4 ∷ first 5 ∷ []
three_methods = refl

two_of_three : take 2 (methods_run (family 3) (of_family 3)) ≡ first 3 ∷ first 4 ∷ []
two_of_three = refl

-- a megamorphic link looks at all of them
nine_methods : methods_run (family 9) (of_family 9) ≡ map first (range_with_len 3 9)
nine_methods = refl

-- below A one class has its own f, the next one has A's, and the last one has its own
abbrev some_own : List Class
some_own =
    class (codes "B") 33 (Some 1) [] (f ∷ []) ∷ class (codes "C") 33 (Some 1) [] [] ∷ class (codes "D") 33 (Some 1) [] (f ∷ []) ∷ []

abbrev with_own : Classes
with_own = world (codes "A") 33 (f ∷ []) Virtual on_a some_own

abbrev of_own : Row
of_own = row (codes "A") 33 (f ∷ []) Virtual on_a some_own

four_runs : runs with_own of_own (Some 1) ≡ first 1 ∷ first 3 ∷ first 1 ∷ first 5 ∷ []
four_runs = refl

each_once : methods_run with_own of_own ≡ first 1 ∷ first 3 ∷ first 5 ∷ []
each_once = refl

-- what throws runs none: B has no f, and A's is abstract
abbrev one_throws : List Class
one_throws = class (codes "B") 33 (Some 1) [] [] ∷ class (codes "C") 33 (Some 1) [] (f ∷ []) ∷ []

one_runs : methods_run (world (codes "A") 1057 (method 1025 (codes "f") ∷ []) Virtual on_a one_throws)
    (row (codes "A") 1057 (method 1025 (codes "f") ∷ []) Virtual on_a one_throws) ≡ first 4 ∷ []
one_runs = refl

-- a link that looks at no receivers
static_runs : methods_run (world (codes "A") 33 (method 9 (codes "f") ∷ []) Static on_a []) static_row ≡ first 1 ∷ []
static_runs = refl

fault_runs : methods_run (world (codes "A") 33 (f ∷ []) Static on_a []) fault_row ≡ []
fault_runs = refl

link_runs : map (λ link. run_by (finding.Linked link)) (
    Fault AbstractMethodError
    ∷ Plain (first 1)
    ∷ Direct (Run (first 2))
    ∷ Direct (Throws AbstractMethodError)
    ∷ Table table.Virtual ((1, Run (first 1)) ∷ [])
    ∷ Mega
    ∷ [])
    ≡ None ∷ Some (first 1) ∷ Some (first 2) ∷ None ∷ None ∷ None ∷ []
link_runs = refl

other_findings : map run_by (finding.Unlinked Unbound ∷ finding.NotLinkable ArrayReceiver ∷ []) ≡ None ∷ None ∷ []
other_findings = refl

answers_run : map run_of (
    answer.Run (first 1)
    ∷ answer.Throws AbstractMethodError
    ∷ answer.Unlinked Unbound
    ∷ answer.BadReceiver
    ∷ [])
    ≡ Some (first 1) ∷ None ∷ None ∷ None ∷ []
answers_run = refl

looked : map looked_at ([] ∷ (Receivers 2 ∷ []) ∷ (Target 2 ∷ []) ∷ (Valid 2 ∷ []) ∷ []) ≡ None ∷ Some 2 ∷ None ∷ None ∷ []
looked = refl

-- methods of one class, and of one number
apart : map (is_same (first 1)) (first 1 ∷ first 2 ∷ record { class = 1; index = 1 } ∷ []) ≡ true ∷ false ∷ false ∷ []
apart = refl

where_first : distinct (first 2 ∷ first 1 ∷ first 2 ∷ first 3 ∷ first 1 ∷ []) ≡ first 2 ∷ first 1 ∷ first 3 ∷ []
where_first = refl

-- ---- FINAL methods

abbrev final_f : Method
final_f = method 17 (codes "f")

-- with this f in A, and these classes after M
abbrev with_f : Method → List Class → Classes
with_f own more = world (codes "A") 33 (own ∷ []) Virtual on_a more

abbrev of_f : Method → List Class → Row
of_f own more = row (codes "A") 33 (own ∷ []) Virtual on_a more

-- a class of this name, with these methods, below A
abbrev below : List ℕ → List Method → Class
below name methods = class name 33 (Some 1) [] methods

-- ---- what a class inherits: B 3 is below A 1

abbrev plain_f : Method
plain_f = method 1 (codes "f")

abbrev with_b : List Method → Classes
with_b methods = with_f plain_f (below (codes "B") methods ∷ [])

inherits_from_above : inherits (with_b []) 3 (first 1) ≡ true
inherits_from_above = refl

its_own_is_first : inherits (with_b (plain_f ∷ [])) 3 (first 1) ≡ false
its_own_is_first = refl

-- of two of one name the first
its_second_is_not : inherits (with_b (plain_f ∷ plain_f ∷ [])) 3 (record { class = 3; index = 1 }) ≡ false
its_second_is_not = refl

no_such_method : inherits (with_b []) 3 (record { class = 1; index = 7 }) ≡ false
no_such_method = refl

-- A's superclass has no f
not_from_below : inherits (with_b []) 0 (first 1) ≡ false
not_from_below = refl

-- a method of an interface
interface_is_not : inherits (with_f plain_f (class (codes "I") 1537 (Some 0) [] (plain_f ∷ []) ∷ [])) 3 (first 3) ≡ false
interface_is_not = refl

-- ---- links that run a FINAL method

final_direct : (of_f final_f []).finding ≡ finding.Linked (Direct (Run (first 1)))
final_direct = refl

final_open : is_open (with_f final_f []) (of_f final_f []) ≡ true
final_open = refl

final_marked : is_final_call (with_f final_f []) (of_f final_f []) ≡ true
final_marked = refl

-- one that isn't FINAL
direct_unmarked : is_final_call (with_a 33) (of_a 33) ≡ false
direct_unmarked = refl

-- of a superclass of the class that is named
abbrev on_b : Reference (List ℕ)
on_b = class_ref (codes "B") (codes "f")

inherited_marked : is_final_call (world (codes "A") 33 (final_f ∷ []) Virtual on_b (below (codes "B") [] ∷ []))
    (row (codes "A") 33 (final_f ∷ []) Virtual on_b (below (codes "B") [] ∷ [])) ≡ true
inherited_marked = refl

-- of a subclass of it, which another subclass needn't have
abbrev abstract_f : Method
abstract_f = method 1025 (codes "f")

abbrev of_subclass : Row
of_subclass = row (codes "A") 1057 (abstract_f ∷ []) Virtual on_a (below (codes "B") (final_f ∷ []) ∷ [])

subclass_direct : of_subclass.finding ≡ finding.Linked (Direct (Run (first 3)))
subclass_direct = refl

subclass_unmarked : is_final_call (world (codes "A") 1057 (abstract_f ∷ []) Virtual on_a (below (codes "B") (final_f ∷ []) ∷ [])) of_subclass ≡ false
subclass_unmarked = refl

-- a private one looks at no receivers, nor does a static one
abbrev of_own_private : Classes
of_own_private = classes (
    object
    ∷ class (codes "A") 33 (Some 0) [] (method 18 (codes "f") ∷ calling 9 (codes "run") Virtual on_a ∷ [])
    ∷ [])

abbrev private_row : Row
private_row = row_of of_own_private (invocation_of 1 1 (record { pc = 0; kind = Virtual; operand = operand.Method on_a }))

private_direct : private_row.finding ≡ finding.Linked (Direct (Run (first 1)))
private_direct = refl

private_unmarked : is_final_call of_own_private private_row ≡ false
private_unmarked = refl

static_unmarked : is_final_call (world (codes "A") 33 (method 25 (codes "f") ∷ []) Static on_a [])
    (row (codes "A") 33 (method 25 (codes "f") ∷ []) Static on_a []) ≡ false
static_unmarked = refl

-- a table runs no one method
table_unmarked : is_final_call (family 2) (of_family 2) ≡ false
table_unmarked = refl

-- as if it looked at the receivers of an interface, which finds methods otherwise
abbrev on_interface : Row
on_interface = record (of_f final_f []) { rests_on = Receivers 3 ∷ [] }

interface_unmarked : is_final_call (with_f final_f (class (codes "I") 1537 (Some 1) [] [] ∷ [])) on_interface ≡ false
interface_unmarked = refl

-- B below A that declares its f again
redeclares : overrides_final (with_f final_f (below (codes "B") (f ∷ []) ∷ [])) 3 ≡ true
redeclares = refl

-- A itself doesn't, nor does Object
declares_first : map (overrides_final (with_f final_f (below (codes "B") (f ∷ []) ∷ []))) (0 ∷ 1 ∷ 2 ∷ 7 ∷ []) ≡ false ∷ false ∷ false ∷ false ∷ []
declares_first = refl

-- in its second method
redeclares_second : overrides_final (with_f final_f (below (codes "B") (method 1 (codes "g") ∷ f ∷ []) ∷ [])) 3 ≡ true
redeclares_second = refl

-- C below B, which declares none
redeclares_below : overrides_final (with_f final_f (below (codes "B") [] ∷ class (codes "C") 33 (Some 3) [] (f ∷ []) ∷ [])) 4 ≡ true
redeclares_below = refl

-- of another name or descriptor, static, or private
others_override_none : map (λ own. overrides_final (with_f final_f (below (codes "B") (own ∷ []) ∷ [])) 3) (
    method 1 (codes "g")
    ∷ record f { ty = codes "(I)V" }
    ∷ method 9 (codes "f")
    ∷ method 2 (codes "f")
    ∷ [])
    ≡ false ∷ false ∷ false ∷ false ∷ []
others_override_none = refl

-- what is above isn't FINAL, is static, or is private
others_are_overridden : map (λ own. overrides_final (with_f own (below (codes "B") (f ∷ []) ∷ [])) 3) (
    f
    ∷ method 25 (codes "f")
    ∷ method 18 (codes "f")
    ∷ [])
    ≡ false ∷ false ∷ false ∷ []
others_are_overridden = refl

-- without an access flag it is overridden in its package alone
abbrev in_package : List ℕ → Classes
in_package name = world (codes "p/A") 33 (method 16 (codes "f") ∷ []) Virtual (class_ref (codes "p/A") (codes "f")) (below name (f ∷ []) ∷ [])

by_package : map (λ name. overrides_final (in_package name) 3) (codes "p/B" ∷ codes "q/B" ∷ []) ≡ true ∷ false ∷ []
by_package = refl

some_override : map some_overrides_final (
    with_f final_f []
    ∷ with_f final_f (below (codes "B") (f ∷ []) ∷ [])
    ∷ with_f final_f (below (codes "B") (f ∷ []) ∷ below (codes "C") [] ∷ [])
    ∷ with_f f (below (codes "B") (f ∷ []) ∷ [])
    ∷ [])
    ≡ false ∷ true ∷ true ∷ false ∷ []
some_override = refl

-- the mark says nothing if a further class overrides a FINAL method, and nothing is dropped by one with a private f
abbrev after_d : List Class → List Method → Option Row
after_d more methods =
    now_changed (defined (with_f final_f more) 0 (further methods)) (keys_of (with_f final_f more) (further methods)) (of_f final_f more)

overriding_drops : is_some (after_d [] (f ∷ [])) ≡ true
overriding_drops = refl

private_drops_none : after_d [] (method 2 (codes "f") ∷ []) ≡ None
private_drops_none = refl

-- nor if an abstract class that was there overrides one
abbrev abstract_b : Class
abstract_b = class (codes "B") 1057 (Some 1) [] (f ∷ [])

abbrev below_b : ClassFile
below_b = record (further []) { superclass = Some (codes "B") }

abstract_marked : is_final_call (with_f final_f (abstract_b ∷ [])) (of_f final_f (abstract_b ∷ [])) ≡ true
abstract_marked = refl

inherits_and_drops : is_some (now_changed (defined (with_f final_f (abstract_b ∷ [])) 0 below_b) (keys_of (with_f final_f (abstract_b ∷ [])) below_b)
    (of_f final_f (abstract_b ∷ []))) ≡ true
inherits_and_drops = refl

overrides_none_itself : overrides_final (defined (with_f final_f (abstract_b ∷ [])) 0 below_b) 4 ≡ false
overrides_none_itself = refl

-- no classes are derived, but not with B, nor if C has A above it by an interface alone
none_derived : AreDerived (classes [])
none_derived = record {
  finals = refl;
  lines = λ x a above plain. let none : is_ancestor (classes []) a x ≡ false = rw (add-one x) refl in let other = sym none ∙ above in cc;
}

overriding_not_derived : ¬ AreDerived (with_f final_f (below (codes "B") (f ∷ []) ∷ []))
overriding_not_derived h = let e = h.finals in cc

crooked_not_derived : ¬ AreDerived (with_f final_f (class (codes "I") 1537 (Some 1) [] [] ∷ class (codes "C") 33 (Some 0) (3 ∷ []) [] ∷ []))
crooked_not_derived h = let e = h.lines 4 1 refl refl in cc

-- ---- objects of classes that no file has

abbrev specified : List ℕ → Operand (List ℕ)
specified ty = operand.CallSite (record { bootstrap = 0; name = codes "f"; ty = ty })

-- the name of a class may have brackets
results : map (λ ty. named_result (specified ty)) (
    codes "()LF;"
    ∷ codes "(I[JLG;[[LG;)LF;"
    ∷ codes "()La/F;"
    ∷ codes "()La)LF;"
    ∷ codes "(La)LG;)LF;"
    ∷ codes "()[LF;"
    ∷ codes "(LF;)V"
    ∷ codes "(LF;)J"
    ∷ [])
    ≡ Some (codes "F")
    ∷ Some (codes "F")
    ∷ Some (codes "a/F")
    ∷ Some (codes "a)LF")
    ∷ Some (codes "F")
    ∷ None
    ∷ None
    ∷ None
    ∷ []
results = refl

-- what an invocation of a method gives isn't made there
call_makes_none : named_result (operand.Method (record { itf = false; owner = codes "A"; name = codes "f"; ty = codes "()LF;" })) ≡ None
call_makes_none = refl

class_types : map class_of (
    record { dimensions = 0; element = element.Class (codes "F") }
    ∷ record { dimensions = 1; element = element.Class (codes "F") }
    ∷ record { dimensions = 0; element = element.Int }
    ∷ [])
    ≡ Some (codes "F") ∷ None ∷ None ∷ []
class_types = refl

abbrev interface : List ℕ → List ℕ → Class
interface name above = class name 1537 (Some 0) above (method 1025 (codes "f") ∷ [])

-- with an invokedynamic of this descriptor
abbrev making : List ℕ → Method
making ty = record { name = codes "make"; ty = codes "()V"; flags = 9; sites = record { pc = 0; kind = Dynamic; operand = specified ty } ∷ [] }

-- Object 0, the interfaces G 1, F 2 below it and H 3, and M 4 that invokes f of this interface, and makes what this descriptor gives
abbrev with_lambda : List ℕ → List ℕ → Classes
with_lambda named ty = classes (
    object
    ∷ interface (codes "G") []
    ∷ interface (codes "F") (1 ∷ [])
    ∷ interface (codes "H") []
    ∷ class (codes "M") 33 (Some 0) [] (calling 9 (codes "via") Interface (itf_ref named (codes "f")) ∷ making ty ∷ [])
    ∷ [])

abbrev via : List ℕ → List ℕ → Row
via named ty =
    row_of (with_lambda named ty)
    (invocation_of 4 0 (record { pc = 0; kind = Interface; operand = operand.Method (itf_ref named (codes "f")) }))

abbrev meets : List ℕ → List ℕ → Bool
meets named ty = meets_made (with_lambda named ty) (via named ty)

via_rests : (via (codes "F") (codes "()LF;")).rests_on ≡ Receivers 2 ∷ []
via_rests = refl

made_f : made (with_lambda (codes "F") (codes "()LF;")) ≡ 2 ∷ []
made_f = refl

-- itself, what is above it, and no interface beside it or below it
result_met : meets (codes "F") (codes "()LF;") ≡ true
result_met = refl

above_met : meets (codes "G") (codes "()LF;") ≡ true
above_met = refl

beside_not_met : meets (codes "H") (codes "()LF;") ≡ false
beside_not_met = refl

below_not_met : meets (codes "F") (codes "()LG;") ≡ false
below_not_met = refl

-- an object is an Object, too
lambda_marks : marks_of (with_lambda (codes "F") (codes "()LF;")) ≡ true ∷ true ∷ true ∷ false ∷ false ∷ []
lambda_marks = refl

-- no array, no class, and no name that loader 0 hasn't recorded
array_not_met : meets (codes "F") (codes "()[LF;") ≡ false
array_not_met = refl

class_marks : marks_of (with_lambda (codes "F") (codes "()LM;")) ≡ false ∷ false ∷ false ∷ false ∷ false ∷ []
class_marks = refl

unrecorded : made (with_lambda (codes "F") (codes "()LX;")) ≡ []
unrecorded = refl

abbrev by_loader : ℕ → Classes
by_loader loader =
    classes (object ∷ record (interface (codes "F") []) { loader = loader } ∷ class (codes "M") 33 (Some 0) [] (making (codes "()LF;") ∷ []) ∷ [])

of_loaders : map (λ loader. made (by_loader loader)) (0 ∷ 1 ∷ []) ≡ (1 ∷ []) ∷ [] ∷ []
of_loaders = refl

-- of each class and each method
made_by_all : made (classes (
    interface (codes "G") []
    ∷ interface (codes "F") []
    ∷ class (codes "M") 33 None [] (making (codes "()LF;") ∷ f ∷ making (codes "()LM;") ∷ [])
    ∷ class (codes "N") 33 None [] (making (codes "()LG;") ∷ [])
    ∷ [])) ≡ 1 ∷ 2 ∷ 0 ∷ []
made_by_all = refl

-- what names a class looks at no such object by its methods: nothing else runs for it there
instructions_met : map (λ kind. meets_made (with_lambda (codes "F") (codes "()LF;")) (record (via (codes "F") (codes "()LF;")) { kind = kind }))
    (Interface ∷ Virtual ∷ Special ∷ Static ∷ Dynamic ∷ [])
    ≡ true ∷ false ∷ false ∷ false ∷ false ∷ []
instructions_met = refl

-- by receivers alone, among all that a row rests on
abbrev resting : List Key → Row
resting keys = record (via (codes "F") (codes "()LF;")) { rests_on = keys }

keys_met : map (λ keys. meets_made (with_lambda (codes "F") (codes "()LF;")) (resting keys))
    ([] ∷ (Target 2 ∷ []) ∷ (Valid 2 ∷ []) ∷ (Receivers 7 ∷ []) ∷ (Target 0 ∷ Receivers 2 ∷ []) ∷ [])
    ≡ false ∷ false ∷ false ∷ false ∷ true ∷ []
keys_met = refl

keys_marked : map (λ keys. meets_marks (false ∷ true ∷ []) (resting keys))
    ([] ∷ (Target 1 ∷ []) ∷ (Valid 1 ∷ []) ∷ (Receivers 0 ∷ []) ∷ (Receivers 2 ∷ []) ∷ (Target 0 ∷ Receivers 1 ∷ []) ∷ [])
    ≡ false ∷ false ∷ false ∷ false ∷ false ∷ true ∷ []
keys_marked = refl

-- ---- invocations, by method

abbrev two_methods : Classes
two_methods = classes (
    object
    ∷ class (codes "M") 33 (Some 0) [] (calling 9 (codes "run") Virtual on_a ∷ f ∷ calling 9 (codes "go") Static on_handle ∷ [])
    ∷ [])

in_order : invocations_in two_methods 1 ≡ (
    record { place = record { class = 1; method = 0; pc = 0 }; kind = Virtual; never = None }
    ∷ record { place = record { class = 1; method = 2; pc = 0 }; kind = Static; never = Some PolymorphicSignature }
    ∷ [])
in_order = refl

rows_in_order : map (λ (r : Row). r.finding) (rows_in two_methods 1)
    ≡ finding.Unlinked (NotReady Named) ∷ finding.NotLinkable PolymorphicSignature ∷ []
rows_in_order = refl

-- ---- names

name : name_of (with_a 33) 1 ≡ codes "A"
name = refl

no_name : name_of (with_a 33) 7 ≡ []
no_name = refl

-- ---- totals

link_shapes : map (λ link. shape_of (finding.Linked link)) (
    Fault AbstractMethodError
    ∷ Plain (first 1)
    ∷ Direct (Run (first 1))
    ∷ Direct (Throws AbstractMethodError)
    ∷ Table table.Virtual []
    ∷ Table table.Interface ((1, Throws AbstractMethodError) ∷ [])
    ∷ Mega
    ∷ [])
    ≡ shape.Throws ∷ shape.Direct ∷ shape.Direct ∷ shape.Throws ∷ shape.NoReceivers ∷ shape.Table ∷ shape.Mega ∷ []
link_shapes = refl

unlinked_shapes : map (λ reason. shape_of (finding.Unlinked reason)) (Unbound ∷ NotReady Named ∷ Gone ∷ NoSite ∷ [])
    ≡ shape.Unbound ∷ shape.Waits ∷ shape.Waits ∷ shape.Waits ∷ []
unlinked_shapes = refl

never_shape : shape_of (finding.NotLinkable ArrayReceiver) ≡ shape.NotLinkable
never_shape = refl

-- a column for each instruction and shape
columns_of_shapes : map (column Virtual) (
    shape.Direct
    ∷ shape.Table
    ∷ shape.Mega
    ∷ shape.NoReceivers
    ∷ shape.Throws
    ∷ shape.Waits
    ∷ shape.Unbound
    ∷ shape.NotLinkable
    ∷ [])
    ≡ 0 ∷ 1 ∷ 2 ∷ 3 ∷ 4 ∷ 5 ∷ 6 ∷ 7 ∷ []
columns_of_shapes = refl

columns_of_kinds : map (λ kind. column kind shape.Direct) (Virtual ∷ Special ∷ Static ∷ Interface ∷ Dynamic ∷ []) ≡ 0 ∷ 8 ∷ 16 ∷ 24 ∷ 32 ∷ []
columns_of_kinds = refl

-- of three rows two are direct
abbrev three : List Row
three = of_a 33 ∷ by_handle ∷ of_a 49 ∷ []

two_direct : count Virtual shape.Direct three ≡ 2
two_direct = refl

one_never : count Virtual shape.NotLinkable three ≡ 1
one_never = refl

none_static : count Static shape.Direct three ≡ 0
none_static = refl

-- what stands in a column, and nothing if there is none
told_there : told (range_with_len 100 40) Special shape.Table ≡ 109
told_there = refl

told_nothing : told [] Virtual shape.Direct ≡ 0
told_nothing = refl

largest_is : largest ≡ 18446744073709551615
largest_is = refl
