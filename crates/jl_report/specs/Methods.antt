-- Which methods calls of an invocation run (JVMS 5.4.6, 6.5).
use Rattle.std.specs.Prelude.{ℕ, ◌&&◌, ◌==◌, Bool, not, List, [], ◌∷◌, filter, filter_map, Option, Some, None, option_to_list}
use Rattle.jl_types.specs.declared.ids.MethodId.{MethodId}
use Rattle.jl_types.specs.declared.key.Key.{Key}
use Rattle.jl_types.specs.declared.key.Key.TheVariants as key
use Rattle.jl_types.specs.declared.answer.Answer.{Answer}
use Rattle.jl_types.specs.declared.answer.Answer.TheVariants as answer
use Rattle.jl_types.specs.declared.answer.Outcome.TheVariants.{Run, Throws}
use Rattle.jl_types.specs.declared.answer.Recv.TheVariants.{Of}
use Rattle.jl_types.specs.declared.link.Link.{Link}
use Rattle.jl_types.specs.declared.link.Link.TheVariants.{Fault, Plain, Direct, Table, Mega}
use Rattle.jl_types.specs.Values.World.{World, Classes}
use Rattle.jl_types.specs.Values.Ancestry.{receivers}
use Rattle.jl_types.specs.Linkage.Calls.{dispatch}
use Rattle.jl_relink.specs.Placed.{asking}
use Rattle.jl_report.specs.declared.row.Row.{Row}
use Rattle.jl_report.specs.declared.row.Finding.{Finding}
use Rattle.jl_report.specs.declared.row.Finding.TheVariants as finding

abbrev pub is_same : MethodId → MethodId → Bool
is_same m n = (m.class == n.class) && (m.index == n.index)

-- each method once, where it comes first
abbrev pub distinct : List MethodId → List MethodId
distinct [] = []
distinct (m ∷ ms) = m ∷ filter (λ n. not (is_same m n)) (distinct ms)

-- the method that runs, if one does
abbrev pub run_of : Answer → Option MethodId
run_of (answer.Run m) = Some m
run_of (answer.Throws throwable) = None
run_of (answer.Unlinked reason) = None
run_of answer.BadReceiver = None

-- what a call of the world's only site runs on an object of class x
abbrev pub run_on : World → ℕ → Option MethodId
run_on w x = run_of (dispatch w 0 (Of x))

-- the one method that a link runs, if it runs one
abbrev pub run_by_link : Link → Option MethodId
run_by_link (Plain m) = Some m
run_by_link (Direct (Run m)) = Some m
run_by_link (Direct (Throws throwable)) = None
run_by_link (Fault throwable) = None
run_by_link (Table kind rows) = None
run_by_link Mega = None

abbrev pub run_by : Finding → Option MethodId
run_by (finding.Linked link) = run_by_link link
run_by (finding.Unlinked reason) = None
run_by (finding.NotLinkable reason) = None

-- the class whose receivers a link that rests on these looks at, if it looks at any
abbrev pub looked_at : List Key → Option ℕ
looked_at [] = None
looked_at (key.Receivers c ∷ keys) = Some c
looked_at (key.Target c ∷ keys) = None
looked_at (key.Valid p ∷ keys) = None

-- what the row's invocation runs on one receiver of this class after the other; if its link looks at none, what the link runs
abbrev pub runs : Classes → Row → Option ℕ → List MethodId
runs cs row (Some c) = filter_map (run_on (asking cs row.place)) (receivers cs c)
runs cs row None = option_to_list (run_by row.finding)

-- the different methods that calls of the row's invocation run, in the order of the first receivers that run them
abbrev pub methods_run : Classes → Row → List MethodId
methods_run cs row = distinct (runs cs row (looked_at row.rests_on))
