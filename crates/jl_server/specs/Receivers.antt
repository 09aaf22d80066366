-- For which receivers the answer of an installed link is the call's, though it looks at no class.
use Rattle.std.specs.Prelude.{◌≡◌, ℕ, true, List, Some}
use Rattle.jl_types.specs.declared.link.Link.{Link}
use Rattle.jl_types.specs.declared.link.Link.TheVariants.{Fault, Plain, Direct, Table, Mega}
use Rattle.jl_types.specs.declared.answer.Recv.{Recv}
use Rattle.jl_types.specs.declared.answer.Recv.TheVariants.{Null, Of}
use Rattle.jl_types.specs.Events.Event.{Event}
use Rattle.jl_types.specs.Values.World.{World}
use Rattle.jl_types.specs.Values.Members.{is_concrete}
use Rattle.jl_types.specs.Linkage.Stages.{ResolvedCall, Selects, stage}
use Rattle.jl_types.specs.Linkage.Calls.{fits_named}
use Rattle.jl_types.specs.Events.History.{world_after, installed}
use Rattle.jl_memo.specs.Answers.{IsObject}

-- an object is of a concrete class, which at a direct link of invokevirtual has the named class among its ancestors
abbrev pub FitsLink : World → ℕ → Link → Recv → Type 0
FitsLink w s (Fault throwable) recv = Unit {0}
FitsLink w s (Plain m) recv = Unit {0}
FitsLink w s (Direct outcome) Null = Unit {0}
FitsLink w s (Direct outcome) (Of x) =
    (is_concrete w.classes x ≡ true) × ((i : ResolvedCall) → stage w s ≡ Selects i → fits_named w.classes i i.selector x ≡ true)
FitsLink w s (Table kind rows) Null = Unit {0}
FitsLink w s (Table kind rows) (Of x) = is_concrete w.classes x ≡ true
FitsLink w s Mega recv = Unit {0}

-- the receiver fits the site's installed link, if there is one
abbrev pub FitsInstalled : List Event → ℕ → Recv → Type 0
FitsInstalled h s recv = (link : Link) → installed h s ≡ Some link → FitsLink (world_after h) s link recv

-- the receiver fits the site's installed link; if that is megamorphic, so that a memo answers, it is null or an object of a concrete class
abbrev pub FitsMemo : List Event → ℕ → Recv → Type 0
FitsMemo h s recv = FitsInstalled h s recv × (installed h s ≡ Some Mega → IsObject (world_after h).classes recv)
