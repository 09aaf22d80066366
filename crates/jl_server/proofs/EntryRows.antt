-- Small lists of entries: the core whose log one is, the entry of an event that comes after one, and how one ends.
use Rattle.std.specs.Prelude.{◌≡◌, ℕ, List, [], ◌∷◌, ◌++◌, map, Some, None, codes}
use Rattle.std.proofs.Common.{refl}
use Rattle.jl_class.specs.declared.site.Kind.TheVariants.{Virtual}
use Rattle.jl_types.specs.declared.answer.Outcome.TheVariants.{Run}
use Rattle.jl_types.specs.declared.link.Link.TheVariants.{Direct}
use Rattle.jl_types.specs.Events.Event.{Event}
use Rattle.jl_types.specs.declared.event.EventOf.TheVariants.{NewLoader, Define, Delegate, NewSwitch, Request, Install, Retire}
use Rattle.jl_types.specs.declared.event.Made.TheVariants.{Switch, Nothing}
use Rattle.jl_types.specs.declared.event.Reply.{Reply}
use Rattle.jl_types.specs.declared.answer.Recv.TheVariants.{Of}
use Rattle.jl_types.specs.declared.answer.Fast.TheVariants.{Miss}
use Rattle.jl_types.specs.Events.Limits.{fixed}
use Rattle.jl_types.specs.Events.Entries.{Entry}
use Rattle.jl_types.specs.Events.Fast.{fast_answer}
use Rattle.jl_types.proofs.Rows.Sketch.{method, first, calling, class_ref}
use Rattle.jl_types.proofs.Rows.Histories.{object, below}
use Rattle.jl_server.specs.History.{core_of, entry_after, EndsWith}

abbrev numbered : ℕ → Reply
numbered n = record { made = Switch n; dropped = [] }

abbrev quiet : Event → Reply → Entry
quiet e reply = record { event = e; reply = reply; slots = [] }

-- two switch points
abbrev two : List Entry
two = quiet NewSwitch (numbered 0) ∷ quiet NewSwitch (numbered 1) ∷ []

core_of_two : core_of (fixed 4) two ≡ record { limits = fixed 4; log = (NewSwitch, numbered 0) ∷ (NewSwitch, numbered 1) ∷ [] }
core_of_two = refl

after_two : entry_after two NewSwitch (numbered 2) ≡ quiet NewSwitch (numbered 2)
after_two = refl

two_end : EndsWith two NewSwitch (numbered 1)
two_end = (quiet NewSwitch (numbered 0) ∷ [], refl)

-- the first one by itself ends with its own
first_end : EndsWith (quiet NewSwitch (numbered 0) ∷ []) NewSwitch (numbered 0)
first_end = ([], refl)

-- Object 0, A 1 with f, M 2 with a call of it, and its request
abbrev requested : List Entry
requested =
    map (λ (e : Event). quiet e (record { made = Nothing; dropped = [] }))
    (object
    ∷ below (codes "java/lang/Object") (codes "A") 33 (method 1 (codes "f") ∷ [])
    ∷ below (codes "java/lang/Object") (codes "M") 33 (calling 9 (codes "run") Virtual (class_ref (codes "A") (codes "f")) ∷ [])
    ∷ Request (record { class = 2; method = 0; pc = 0 })
    ∷ [])

-- an install changes its site, and the same one once more changes none
abbrev installed_once : Entry
installed_once = entry_after requested (Install ((0, Direct (Run (first 1))) ∷ [])) (record { made = Nothing; dropped = [] })

install_changes : installed_once.slots ≡ (0, Some (Direct (Run (first 1)))) ∷ []
install_changes = refl

again_changes_none : (entry_after (requested ++ installed_once ∷ []) (Install ((0, Direct (Run (first 1))) ∷ []))
    (record { made = Nothing; dropped = [] })).slots ≡ []
again_changes_none = refl

-- Object 0 and A 1 with f in loader 0; M 2 in loader 1, with a call of it, and its request; and then its install
abbrev beside : List Entry
beside =
    map (λ (e : Event). quiet e (record { made = Nothing; dropped = [] }))
    (object
    ∷ below (codes "java/lang/Object") (codes "A") 33 (method 1 (codes "f") ∷ [])
    ∷ NewLoader
    ∷ Delegate 1 (codes "java/lang/Object") 0
    ∷ Delegate 1 (codes "A") 0
    ∷ Define 1 (record {
      name = codes "M";
      flags = 33;
      superclass = Some (codes "java/lang/Object");
      interfaces = [];
      nest_host = None;
      nest_members = [];
      methods = calling 9 (codes "run") Virtual (class_ref (codes "A") (codes "f")) ∷ [];
    })
    ∷ Request (record { class = 2; method = 0; pc = 0 })
    ∷ [])

abbrev linked_beside : List Entry
linked_beside = beside ++ entry_after beside (Install ((0, Direct (Run (first 1))) ∷ [])) (record { made = Nothing; dropped = [] }) ∷ []

-- a retirement empties the slots of the sites that go, so who learns it has no answer there
retirement_empties : (entry_after linked_beside (Retire 1) (record { made = Nothing; dropped = 0 ∷ [] })).slots ≡ (0, None) ∷ []
retirement_empties = refl

no_answer_then : fast_answer None 3 (Of 1) ≡ Miss
no_answer_then = refl
