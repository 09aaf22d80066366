-- A legal list and its table, entry by entry, and lists that aren't legal.
use Rattle.std.specs.Prelude.{◌≡◌, ℕ, ◌==◌, true, false, map, length, List, [], ◌∷◌, ◌++◌, take, Option, Some, None, Result, Ok, Err, codes, refl}
use Rattle.std.proofs.Common.{ap}
use Rattle.std.proofs.lemmas.Bool.{both_ways, eq-eqb}
use Rattle.jl_types.specs.Events.Limits.{fixed}
use Rattle.jl_class.specs.declared.site.Kind.TheVariants.{Virtual}
use Rattle.jl_types.specs.declared.answer.Outcome.TheVariants.{Run}
use Rattle.jl_types.specs.declared.link.Link.{Link}
use Rattle.jl_types.specs.declared.link.Link.TheVariants.{Direct, Table}
use Rattle.jl_types.specs.declared.link.TableKind.TheVariants as kind
use Rattle.jl_types.specs.Events.Event.{Event}
use Rattle.jl_types.specs.declared.event.EventOf.TheVariants.{NewLoader, Request, NewSwitch, Install}
use Rattle.jl_types.specs.declared.event.Made.{Made}
use Rattle.jl_types.specs.declared.event.Made.TheVariants.{Nothing, Loader, Class, Site, Switch}
use Rattle.jl_types.specs.declared.event.Reply.{Reply}
use Rattle.jl_types.specs.declared.refusal.Refusal.{Refusal}
use Rattle.jl_types.specs.Events.History.{reply}
use Rattle.jl_types.specs.Events.Entries.{Entry, IsLegal, change, written, table_of, emptied, classes_of, defines, events_of}
use Rattle.jl_types.proofs.Legal.{legal_none, legal_more}
use Rattle.jl_types.proofs.Rows.Sketch.{method, first, calling, class_ref}
use Rattle.jl_types.proofs.Rows.Histories.{object, below}

abbrev entry : Event → Made → List ℕ → List (ℕ × Option Link) → Entry
entry e made dropped slots = record { event = e; reply = record { made = made; dropped = dropped }; slots = slots }

-- ---- a loader and a switch point

abbrev loader : Entry
loader = entry NewLoader (Loader 1) [] []

abbrev switch : Entry
switch = entry NewSwitch (Switch 0) [] []

loader_is_legal : IsLegal (fixed 0) (loader ∷ [])
loader_is_legal = legal_more (fixed 0) [] loader (legal_none (fixed 0)) (record { answered = refl; slots = refl })

both_are_legal : IsLegal (fixed 0) (loader ∷ switch ∷ [])
both_are_legal = legal_more (fixed 0) (loader ∷ []) switch loader_is_legal (record { answered = refl; slots = refl })

-- ---- java/lang/Object 0; A 1 with f; M 2, whose two methods call A.f, as sites 0 and 1; and later C 3 below A with its own f

abbrev call : List ℕ → Event
call name = below (codes "java/lang/Object") name 33 (
    calling 9 (codes "run") Virtual (class_ref (codes "A") (codes "f"))
    ∷ calling 9 (codes "go") Virtual (class_ref (codes "A") (codes "f")) ∷ [])

abbrev direct : Link
direct = Direct (Run (first 1))

abbrev two : Link
two = Table kind.Virtual ((1, Run (first 1)) ∷ (3, Run (first 3)) ∷ [])

abbrev defined : List Entry
defined = entry object (Class 0) [] []
    ∷ entry (below (codes "java/lang/Object") (codes "A") 33 (method 1 (codes "f") ∷ [])) (Class 1) [] []
    ∷ entry (call (codes "M")) (Class 2) [] []
    ∷ []

abbrev site : ℕ → Entry
site s = entry (Request (record { class = 2; method = s; pc = 0 })) (Site s) [] []

abbrev requested : List Entry
requested = defined ++ site 0 ∷ site 1 ∷ []

-- the event names the second site first
abbrev install : Entry
install = entry (Install ((1, direct) ∷ (0, direct) ∷ [])) Nothing [] ((0, Some direct) ∷ (1, Some direct) ∷ [])

abbrev again : Entry
again = entry (Install ((0, direct) ∷ [])) Nothing [] []

abbrev own : Entry
own = entry (below (codes "A") (codes "C") 33 (method 1 (codes "f") ∷ [])) (Class 3) (0 ∷ 1 ∷ []) ((0, None) ∷ (1, None) ∷ [])

abbrev relink : Entry
relink = entry (Install ((1, two) ∷ [])) Nothing [] ((1, Some two) ∷ [])

abbrev pub linked : List Entry
linked = requested ++ install ∷ []

abbrev all : List Entry
all = linked ++ again ∷ own ∷ relink ∷ []

object_is_legal : IsLegal (fixed 3) (take 1 all)
object_is_legal = legal_more (fixed 3) [] _ (legal_none (fixed 3)) (record { answered = refl; slots = refl })

a_is_legal : IsLegal (fixed 3) (take 2 all)
a_is_legal = legal_more (fixed 3) (take 1 all) _ object_is_legal (record { answered = refl; slots = refl })

defined_is_legal : IsLegal (fixed 3) defined
defined_is_legal = legal_more (fixed 3) (take 2 all) _ a_is_legal (record { answered = refl; slots = refl })

one_site_is_legal : IsLegal (fixed 3) (defined ++ site 0 ∷ [])
one_site_is_legal = legal_more (fixed 3) defined (site 0) defined_is_legal (record { answered = refl; slots = refl })

requested_is_legal : IsLegal (fixed 3) requested
requested_is_legal = legal_more (fixed 3) (defined ++ site 0 ∷ []) (site 1) one_site_is_legal (record { answered = refl; slots = refl })

linked_is_legal : IsLegal (fixed 3) linked
linked_is_legal = legal_more (fixed 3) requested install requested_is_legal (record { answered = refl; slots = refl })

again_is_legal : IsLegal (fixed 3) (linked ++ again ∷ [])
again_is_legal = legal_more (fixed 3) linked again linked_is_legal (record { answered = refl; slots = refl })

own_is_legal : IsLegal (fixed 3) (linked ++ again ∷ own ∷ [])
own_is_legal = legal_more (fixed 3) (linked ++ again ∷ []) own again_is_legal (record { answered = refl; slots = refl })

all_is_legal : IsLegal (fixed 3) all
all_is_legal = legal_more (fixed 3) (linked ++ again ∷ own ∷ []) relink own_is_legal (record { answered = refl; slots = refl })

-- ---- the table

empty_table : table_of (fixed 3) requested ≡ None ∷ None ∷ None ∷ []
empty_table = refl

both_linked : table_of (fixed 3) linked ≡ Some direct ∷ Some direct ∷ None ∷ []
both_linked = refl

both_gone : table_of (fixed 3) (linked ++ again ∷ own ∷ []) ≡ None ∷ None ∷ None ∷ []
both_gone = refl

one_linked : table_of (fixed 3) all ≡ None ∷ Some two ∷ None ∷ []
one_linked = refl

later_slot_counts : written (None ∷ None ∷ []) ((0, Some direct) ∷ (0, Some two) ∷ []) ≡ Some two ∷ None ∷ []
later_slot_counts = refl

without_a_link : emptied ((0, None) ∷ (1, Some direct) ∷ (2, None) ∷ []) ≡ 0 ∷ 2 ∷ []
without_a_link = refl

four_classes : classes_of all ≡ 4
four_classes = refl

which_define : map defines (events_of all) ≡ true ∷ true ∷ true ∷ false ∷ false ∷ false ∷ false ∷ true ∷ false ∷ []
which_define = refl

their_events : events_of (loader ∷ switch ∷ []) ≡ NewLoader ∷ NewSwitch ∷ []
their_events = refl

-- ---- slots

new_link : change None (Some direct) ≡ Some (Some direct)
new_link = refl

no_link_more : change (Some direct) None ≡ Some None
no_link_more = refl

other_link : change (Some direct) (Some two) ≡ Some (Some two)
other_link = refl

same_link : change (Some direct) (Some direct) ≡ None
same_link = refl

never_linked : change None None ≡ None
never_linked = refl

-- ---- lists that aren't legal, by one number in which what is there differs from what has to be

apart : {A : Type 0} (f : A → ℕ) (x y : A) → (f x == f y) ≡ false → ¬ (x ≡ y)
apart f x y other same = both_ways (f x == f y) other (eq-eqb (f x) (f y) (ap f same))

abbrev switch_number : Result Reply Refusal → ℕ
switch_number (Ok reply) = number reply.made
  where
    number : Made → ℕ
    number (Switch n) = n
    number _ = 0
switch_number (Err refusal) = 0

abbrev dropped_count : Result Reply Refusal → ℕ
dropped_count (Ok reply) = length reply.dropped
dropped_count (Err refusal) = 0

abbrev is_refused : Result Reply Refusal → ℕ
is_refused (Ok reply) = 0
is_refused (Err refusal) = 1

abbrev first_site : List (ℕ × Option Link) → ℕ
first_site [] = 2
first_site (slot ∷ slots) = slot.0

-- ---- by the reply

wrong_number : ¬ IsLegal (fixed 0) (entry NewSwitch (Switch 1) [] [] ∷ loader ∷ [])
wrong_number legal = apart switch_number _ _ refl (legal.each 0 _ refl).answered

-- the number that it would have without the entry before it
number_of_the_first : ¬ IsLegal (fixed 0) (switch ∷ switch ∷ [])
number_of_the_first legal = apart switch_number _ _ refl (legal.each 1 _ refl).answered

one_drop_left_out : ¬ IsLegal (fixed 3) (linked ++ entry own.event (Class 3) (0 ∷ []) own.slots ∷ [])
one_drop_left_out legal = apart dropped_count _ _ refl (legal.each 6 _ refl).answered

is_refused_event : ¬ IsLegal (fixed 3) (linked ++ entry (Install []) Nothing [] [] ∷ [])
is_refused_event legal = apart is_refused _ _ refl (legal.each 6 _ refl).answered

one_site_too_many : ¬ IsLegal (fixed 1) requested
one_site_too_many legal = apart is_refused _ _ refl (legal.each 4 _ refl).answered

-- ---- by the slots

one_left_out : ¬ IsLegal (fixed 3) (requested ++ entry install.event Nothing [] ((0, Some direct) ∷ []) ∷ [])
one_left_out legal = apart length _ _ refl (legal.each 5 _ refl).slots

one_unchanged : ¬ IsLegal (fixed 3) (linked ++ entry again.event Nothing [] ((0, Some direct) ∷ []) ∷ [])
one_unchanged legal = apart length _ _ refl (legal.each 6 _ refl).slots

falling : ¬ IsLegal (fixed 3) (requested ++ entry install.event Nothing [] ((1, Some direct) ∷ (0, Some direct) ∷ []) ∷ [])
falling legal = apart first_site _ _ refl (legal.each 5 _ refl).slots

links_before : ¬ IsLegal (fixed 3) (requested ++ entry install.event Nothing [] ((0, None) ∷ (1, None) ∷ []) ∷ [])
links_before legal = apart (λ slots. length (emptied slots)) _ _ refl (legal.each 5 _ refl).slots
