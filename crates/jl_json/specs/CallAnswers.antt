-- The answer to a call, as JSON.
use Rattle.std.specs.Prelude.{ℕ, List, codes}
use Rattle.serde_json.specs.Data.{Data, string, object, no_members, member}
use Rattle.jl_types.specs.declared.answer.Answer.{Answer}
use Rattle.jl_types.specs.declared.answer.Answer.TheVariants as answer
use Rattle.jl_types.specs.declared.answer.Missing.{Missing}
use Rattle.jl_types.specs.declared.answer.Missing.TheVariants.{Named, CallerHost, MethodHost}
use Rattle.jl_types.specs.declared.answer.Outcome.TheVariants.{Run, Throws}
use Rattle.jl_types.specs.declared.answer.Unlinked.{Unlinked}
use Rattle.jl_types.specs.declared.answer.Unlinked.TheVariants.{NotReady, Unbound, Gone, NoSite}
use Rattle.jl_json.specs.LinkAnswers.{single, outcome_data}

-- whose class isn't there
abbrev pub missing_name : Missing → List ℕ
missing_name Named = codes "named"
missing_name CallerHost = codes "callerHost"
missing_name MethodHost = codes "methodHost"

abbrev pub unlinked_data : Unlinked → Data
unlinked_data (NotReady missing) =
    object (member (codes "unlinked") (string (codes "NotReady"))
    (member (codes "wants") (string (missing_name missing)) no_members))
unlinked_data Unbound = single (codes "unlinked") (string (codes "Unbound"))
unlinked_data Gone = single (codes "unlinked") (string (codes "Gone"))
unlinked_data NoSite = single (codes "unlinked") (string (codes "NoSite"))

unfoldable pub answer_data : Answer → Data
answer_data (answer.Run m) = outcome_data (Run m)
answer_data (answer.Throws throwable) = outcome_data (Throws throwable)
answer_data answer.BadReceiver = single (codes "refused") (string (codes "BadReceiver"))
answer_data (answer.Unlinked reason) = unlinked_data reason
