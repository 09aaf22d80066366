-- A site is linked, a class comes, and the link goes: over the whole history.
use Rattle.std.specs.Prelude.{◌≡◌, ℕ, true, false, List, [], ◌∷◌, ◌++◌, Some, None, Ok, Err, codes, refl}
use Rattle.jl_types.specs.Events.Limits.{fixed}
use Rattle.jl_class.specs.Class.{Method}
use Rattle.jl_class.specs.declared.site.Kind.TheVariants.{Virtual}
use Rattle.jl_types.specs.declared.answer.Outcome.TheVariants.{Run}
use Rattle.jl_types.specs.declared.answer.Recv.TheVariants.{Null, Of}
use Rattle.jl_types.specs.declared.answer.Throwable.TheVariants.{NullPointerException}
use Rattle.jl_types.specs.declared.answer.Unlinked.TheVariants.{Unbound}
use Rattle.jl_types.specs.declared.answer.Answer.TheVariants as answer
use Rattle.jl_types.specs.declared.answer.Fast.TheVariants.{Now, Miss}
use Rattle.jl_types.specs.declared.link.Link.{Link}
use Rattle.jl_types.specs.declared.link.Link.TheVariants.{Direct, Table, Mega}
use Rattle.jl_types.specs.declared.link.TableKind.TheVariants as kind
use Rattle.jl_types.specs.Events.Event.{Event}
use Rattle.jl_types.specs.declared.event.EventOf.TheVariants.{Define, Request, Install}
use Rattle.jl_types.specs.declared.event.Made.TheVariants as made
use Rattle.jl_types.specs.declared.refusal.Refusal.TheVariants as refusal
use Rattle.jl_types.specs.declared.refusal.DefineFault.TheVariants.{MissingParent, AlreadyRecorded}
use Rattle.jl_types.specs.Linkage.Links.{scratch}
use Rattle.jl_types.specs.Linkage.Calls.{dispatch}
use Rattle.jl_types.specs.Events.Verdict.{verdict}
use Rattle.jl_types.specs.Values.World.{nothing_yet}
use Rattle.jl_types.specs.Events.History.{world_after, installed, dropped, kept}
use Rattle.jl_types.specs.Events.Fast.{fast_answer}
use Rattle.jl_types.proofs.Rows.Sketch.{method, first, calling, class_ref}

abbrev pub below : List ℕ → List ℕ → ℕ → List Method → Event
below parent name flags methods = Define 0 (record {
  name = name;
  flags = flags;
  superclass = Some parent;
  interfaces = [];
  nest_host = None;
  nest_members = [];
  methods = methods;
})

abbrev pub object : Event
object = Define 0 (record {
  name = codes "java/lang/Object";
  flags = 33;
  superclass = None;
  interfaces = [];
  nest_host = None;
  nest_members = [];
  methods = [];
})

-- Object 0, A 1 with f, B 2 below A, M 3 that calls A.f, and the request
abbrev before : List Event
before = object
    ∷ below (codes "java/lang/Object") (codes "A") 33 (method 1 (codes "f") ∷ [])
    ∷ below (codes "A") (codes "B") 33 []
    ∷ below (codes "java/lang/Object") (codes "M") 33 (calling 9 (codes "run") Virtual (class_ref (codes "A") (codes "f")) ∷ [])
    ∷ Request (record { class = 3; method = 0; pc = 0 })
    ∷ []

prepared : scratch (world_after before) 0 ≡ Ok (Direct (Run (first 1)))
prepared = refl

abbrev install : Event
install = Install ((0, Direct (Run (first 1))) ∷ [])

abbrev pub linked : List Event
linked = before ++ install ∷ []

is_installed : installed linked 0 ≡ Some (Direct (Run (first 1)))
is_installed = refl

abbrev own : Event
own = below (codes "A") (codes "C") 33 (method 1 (codes "f") ∷ [])

is_defined : verdict (fixed 65536) (world_after linked) own ≡ Ok (made.Class 4)
is_defined = refl

is_dropped : dropped linked own ≡ 0 ∷ []
is_dropped = refl

runs_own : dispatch (world_after (linked ++ own ∷ [])) 0 (Of 4) ≡ answer.Run (first 4)
runs_own = refl

is_stale : verdict (fixed 65536) (world_after (linked ++ own ∷ [])) install
    ≡ Err (refusal.Stale 0 (Table kind.Virtual ((1, Run (first 1)) ∷ (2, Run (first 1)) ∷ (4, Run (first 4)) ∷ [])))
is_stale = refl

-- an abstract C drops nothing; a concrete D below it drops the link
abbrev abstract_own : Event
abstract_own = below (codes "A") (codes "C") 1057 (method 1 (codes "f") ∷ [])

abbrev child : Event
child = below (codes "C") (codes "D") 33 []

keeps : dropped linked abstract_own ≡ []
keeps = refl

drops : dropped (linked ++ abstract_own ∷ []) child ≡ 0 ∷ []
drops = refl

table_after : scratch (world_after (linked ++ abstract_own ∷ child ∷ [])) 0
    ≡ Ok (Table kind.Virtual ((1, Run (first 1)) ∷ (2, Run (first 1)) ∷ (5, Run (first 4)) ∷ []))
table_after = refl

-- ---- definitions that are refused

no_parent : verdict (fixed 65536) nothing_yet (below (codes "java/lang/Object") (codes "A") 33 [])
    ≡ Err (refusal.Define (MissingParent (codes "java/lang/Object")))
no_parent = refl

twice : verdict (fixed 65536) (world_after before) (below (codes "java/lang/Object") (codes "A") 33 []) ≡ Err (refusal.Define AlreadyRecorded)
twice = refl

-- ---- installs

batch : verdict (fixed 65536) (world_after linked) (Install []) ≡ Err refusal.BatchSize
batch = refl

repeated : verdict (fixed 65536) (world_after linked) (Install ((0, Direct (Run (first 1))) ∷ (0, Direct (Run (first 1))) ∷ [])) ≡ Err (refusal.Repeated 0)
repeated = refl

unknown : verdict (fixed 65536) (world_after linked) (Install ((0, Direct (Run (first 1))) ∷ (1, Mega) ∷ [])) ≡ Err (refusal.UnknownSite 1)
unknown = refl

-- a place that is requested already keeps its number, even if no other may be requested
again : verdict (fixed 1) (world_after before) (Request (record { class = 3; method = 0; pc = 0 })) ≡ Ok (made.Site 0)
again = refl

no_place : verdict (fixed 65536) (world_after before) (Request (record { class = 3; method = 0; pc = 1 })) ≡ Err refusal.NoSuchPlace
no_place = refl

no_class : verdict (fixed 65536) (world_after before) (Request (record { class = 9; method = 0; pc = 0 })) ≡ Err refusal.UnknownClass
no_class = refl

-- ---- one event more

installs_a_link : kept true None (Ok Mega) ≡ Some Mega
installs_a_link = refl

keeps_a_link : kept false (Some Mega) (Ok Mega) ≡ Some Mega
keeps_a_link = refl

other_link_now : kept false (Some Mega) (Ok (Direct (Run (first 1)))) ≡ None
other_link_now = refl

stays_without : kept false None (Ok Mega) ≡ None
stays_without = refl

waits_now : kept true (Some Mega) (Err Unbound) ≡ None
waits_now = refl

-- ---- answers of links

abbrev three : Link
three = Table kind.Virtual ((1, Run (first 1)) ∷ (2, Run (first 1)) ∷ (4, Run (first 4)) ∷ [])

by_entry : fast_answer (Some three) 5 (Of 4) ≡ Now (answer.Run (first 4))
by_entry = refl

without_entry : fast_answer (Some three) 5 (Of 3) ≡ Now answer.BadReceiver
without_entry = refl

newer_class : fast_answer (Some three) 4 (Of 4) ≡ Miss
newer_class = refl

of_null : fast_answer (Some three) 0 Null ≡ Now (answer.Throws NullPointerException)
of_null = refl

pending : fast_answer None 5 (Of 4) ≡ Miss
pending = refl

megamorphic : fast_answer (Some Mega) 5 Null ≡ Miss
megamorphic = refl
