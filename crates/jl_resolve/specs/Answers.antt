-- What the code answers, beside the definitions of jl_types.
use Rattle.std.specs.Prelude.{◌≡◌, Result, Ok, Err}
use Rattle.jl_types.specs.declared.ids.MethodId.{MethodId}
use Rattle.jl_types.specs.declared.answer.ResolveAnswer.{ResolveAnswer}
use Rattle.jl_types.specs.Linkage.Access.{Access, Allowed, Denied, NotKnown}
use Rattle.jl_types.specs.Linkage.Resolution.{Resolved}
use Rattle.jl_resolve.specs.declared.control.Access.{Access as Answered}
use Rattle.jl_resolve.specs.declared.control.Access.TheVariants as answered

-- the answer is this access
abbrev pub IsAccess : Answered → Access → Type 0
IsAccess answered.Allowed access = access ≡ Allowed
IsAccess answered.Denied access = access ≡ Denied
IsAccess (answered.NotKnown missing) access = access ≡ NotKnown missing

-- the method alone of what a reference resolves to
abbrev pub method_of : Result Resolved ResolveAnswer → Result MethodId ResolveAnswer
method_of (Ok resolved) = Ok resolved.method
method_of (Err answer) = Err answer
