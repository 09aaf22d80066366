-- Which places are one, and which are two.
use Rattle.std.specs.Prelude.{◌≡◌, ℕ, List, [], ◌∷◌, Ok, Err, Result, codes, refl}
use Rattle.jl_types.specs.Events.Limits.{fixed}
use Rattle.jl_types.specs.Events.Event.{Event}
use Rattle.jl_types.specs.declared.event.EventOf.TheVariants.{Request}
use Rattle.jl_types.specs.declared.event.Made.{Made}
use Rattle.jl_types.specs.declared.event.Made.TheVariants.{Site}
use Rattle.jl_types.specs.declared.ids.Place.{Place}
use Rattle.jl_types.specs.declared.refusal.Refusal.{Refusal}
use Rattle.jl_types.specs.declared.refusal.Refusal.TheVariants.{NoSuchPlace}
use Rattle.jl_types.specs.Events.Verdict.{verdict}
use Rattle.jl_types.specs.Events.History.{world_after}
use Rattle.jl_types.proofs.Rows.Histories.{below, object}
use Rattle.jl_types.proofs.Rows.Footprints.{calls}

abbrev place : ℕ → ℕ → Place
place c pc = record { class = c; method = 0; pc = pc }

abbrev request : ℕ → ℕ → Event
request c pc = Request (place c pc)

-- java/lang/Object 0; M 1 and N 2, whose first methods call at pcs 0 and 3; and then these events
abbrev after : List Event → List Event
after more = object
    ∷ below (codes "java/lang/Object") (codes "M") 33 (calls ∷ [])
    ∷ below (codes "java/lang/Object") (codes "N") 33 (calls ∷ [])
    ∷ more

abbrev answers : List Event → Event → Result Made Refusal
answers more e = verdict (fixed 65536) (world_after (after more)) e

first_place : answers [] (request 1 0) ≡ Ok (Site 0)
first_place = refl

other_pc : answers (request 1 0 ∷ []) (request 1 3) ≡ Ok (Site 1)
other_pc = refl

other_class : answers (request 1 0 ∷ []) (request 2 0) ≡ Ok (Site 1)
other_class = refl

between_the_calls : answers [] (request 1 1) ≡ Err NoSuchPlace
between_the_calls = refl

each_keeps_its_number : answers (request 1 0 ∷ request 1 3 ∷ request 2 0 ∷ []) (request 1 3) ≡ Ok (Site 1)
each_keeps_its_number = refl

each_once : (world_after (after (request 1 0 ∷ request 1 3 ∷ request 1 0 ∷ request 2 0 ∷ request 1 3 ∷ []))).places
    ≡ place 1 0 ∷ place 1 3 ∷ place 2 0 ∷ []
each_once = refl
