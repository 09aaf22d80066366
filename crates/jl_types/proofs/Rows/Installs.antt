-- What an install refuses: each fault alone, each pair of neighbours in their order, and what goes row by row.
use Rattle.std.specs.Prelude.{◌≡◌, ℕ, List, [], ◌∷◌, Some, Ok, Err, Result, replicate, codes, refl}
use Rattle.jl_types.specs.Events.Limits.{fixed}
use Rattle.jl_class.specs.declared.site.Kind.TheVariants.{Static}
use Rattle.jl_types.specs.declared.answer.Unlinked.TheVariants.{Unbound}
use Rattle.jl_types.specs.declared.link.Link.{Link}
use Rattle.jl_types.specs.declared.link.Link.TheVariants.{Plain, Mega}
use Rattle.jl_types.specs.Events.Event.{Event}
use Rattle.jl_types.specs.declared.event.EventOf.TheVariants.{Define, Request, Install}
use Rattle.jl_types.specs.declared.event.Made.{Made}
use Rattle.jl_types.specs.declared.event.Made.TheVariants.{Nothing}
use Rattle.jl_types.specs.declared.refusal.Refusal.{Refusal}
use Rattle.jl_types.specs.declared.refusal.Refusal.TheVariants.{BatchSize, UnknownSite, Repeated, NotReady, Stale}
use Rattle.jl_types.specs.Linkage.Links.{scratch}
use Rattle.jl_types.specs.Events.Verdict.{verdict}
use Rattle.jl_types.specs.Events.History.{world_after}
use Rattle.jl_types.proofs.Rows.Sketch.{method, first, calling, class_ref, file}
use Rattle.jl_types.proofs.Rows.CallSites.{bootstrapping}

-- java/lang/Object 0; T 1: its m, site 0, where its run calls m, and site 1, an invokedynamic that is bound to nothing
abbrev before : List Event
before = Define 0 (file (codes "java/lang/Object") 33 [])
    ∷ Define 0 (record (file (codes "T") 33 (
    method 9 (codes "m") ∷ calling 9 (codes "run") Static (class_ref (codes "T") (codes "m")) ∷ bootstrapping ∷ []
    )) { superclass = Some (codes "java/lang/Object") })
    ∷ Request (record { class = 1; method = 1; pc = 0 })
    ∷ Request (record { class = 1; method = 2; pc = 0 })
    ∷ []

abbrev answers : List (ℕ × Link) → Result Made Refusal
answers rows = verdict (fixed 65536) (world_after before) (Install rows)

is_ready : scratch (world_after before) 0 ≡ Ok (Plain (first 1))
is_ready = refl

waits : scratch (world_after before) 1 ≡ Err Unbound
waits = refl

-- a row that is accepted, and rows that each have one fault
abbrev good : ℕ × Link
good = (0, Plain (first 1))

abbrev stale : ℕ × Link
stale = (0, Mega)

abbrev not_ready : ℕ × Link
not_ready = (1, Mega)

abbrev unknown : ℕ × Link
unknown = (2, Mega)

-- ---- each alone

is_accepted : answers (good ∷ []) ≡ Ok Nothing
is_accepted = refl

is_stale : answers (stale ∷ []) ≡ Err (Stale 0 (Plain (first 1)))
is_stale = refl

is_not_ready : answers (not_ready ∷ []) ≡ Err (NotReady 1)
is_not_ready = refl

is_unknown : answers (unknown ∷ []) ≡ Err (UnknownSite 2)
is_unknown = refl

is_repeated : answers (good ∷ good ∷ []) ≡ Err (Repeated 0)
is_repeated = refl

-- ---- the size first

no_rows : answers [] ≡ Err BatchSize
no_rows = refl

too_many_rows : answers (replicate 257 unknown) ≡ Err BatchSize
too_many_rows = refl

as_many_as_may_be : answers (replicate 256 unknown) ≡ Err (UnknownSite 2)
as_many_as_may_be = refl

-- ---- then the sites, row by row

unknown_before_later_repeat : answers (good ∷ unknown ∷ good ∷ []) ≡ Err (UnknownSite 2)
unknown_before_later_repeat = refl

repeated_before_later_unknown : answers (good ∷ good ∷ unknown ∷ []) ≡ Err (Repeated 0)
repeated_before_later_unknown = refl

-- ---- then the links, row by row

unknown_before_not_ready : answers (not_ready ∷ unknown ∷ []) ≡ Err (UnknownSite 2)
unknown_before_not_ready = refl

unknown_before_stale : answers (stale ∷ unknown ∷ []) ≡ Err (UnknownSite 2)
unknown_before_stale = refl

repeated_before_not_ready : answers (not_ready ∷ not_ready ∷ []) ≡ Err (Repeated 1)
repeated_before_not_ready = refl

repeated_before_stale : answers (stale ∷ stale ∷ []) ≡ Err (Repeated 0)
repeated_before_stale = refl

not_ready_before_later_stale : answers (not_ready ∷ stale ∷ []) ≡ Err (NotReady 1)
not_ready_before_later_stale = refl

stale_before_later_not_ready : answers (stale ∷ not_ready ∷ []) ≡ Err (Stale 0 (Plain (first 1)))
stale_before_later_not_ready = refl
