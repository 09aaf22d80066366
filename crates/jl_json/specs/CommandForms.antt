-- The JSON of each command, in one form: keys in byte order, digits in lower case, the receiver named. A value that
-- is a command has no keys but those of its form. Three parts may be written in several ways: the sketch of a definition, the name of
-- a delegation, and the type of a call site. They have the JSON that is given for them. That several loaders are retired at once is no
-- command, and has no form.
use Rattle.std.specs.Prelude.{◌≡◌, ◌^◌, ◌<◌, ℕ, List, codes, Some, ⊤}
use Rattle.std.specs.List.{AllByRecursion}
use Rattle.hex.specs.Hex.{encode_lower, IsBytes}
use Rattle.serde_json.specs.Data.{Data, null, string, object, no_members, member}
use Rattle.jl_types.specs.declared.answer.Recv.{Recv}
use Rattle.jl_types.specs.declared.answer.Recv.TheVariants.{Null, Of}
use Rattle.jl_types.specs.declared.event.EventOf.TheVariants.{NewLoader, Define, Delegate, Request, Install, Retire, RetireAll, Release}
use Rattle.jl_types.specs.declared.event.EventOf.TheVariants.{NewCallSite, SetTarget, NewSwitch, Invalidate, Bind}
use Rattle.jl_types.specs.declared.ids.MethodId.{MethodId}
use Rattle.jl_types.specs.declared.ids.Place.{Place}
use Rattle.jl_types.specs.declared.target.CallSiteKind.{CallSiteKind}
use Rattle.jl_types.specs.declared.target.CallSiteKind.TheVariants.{Constant, Mutable, Volatile}
use Rattle.jl_types.specs.Values.Target.{Target, Method, Guard, Invoker}
use Rattle.jl_names.specs.MethodTypes.{IsMethodDescriptor}
use Rattle.jl_json.specs.declared.command.Command.{Command}
use Rattle.jl_json.specs.declared.command.Command.TheVariants.{Apply, Prepare, Call, Links}
use Rattle.jl_json.specs.declared.command.ClassSource.TheVariants.{File, Sketch}
use Rattle.jl_json.specs.ClassAnswers.{number_data}
use Rattle.jl_json.specs.LinkAnswers.{single, method_id_data}
use Rattle.jl_json.specs.Replies.{numbers_data}
use Rattle.jl_json.specs.Commands.{AskedEvent}
use Rattle.jl_json.specs.Sketches.{name_in, sketch_of}

abbrev pub recv_data : Recv → Data
recv_data Null = null
recv_data (Of class) = number_data class

abbrev pub kind_name : CallSiteKind → List ℕ
kind_name Constant = codes "constant"
kind_name Mutable = codes "mutable"
kind_name Volatile = codes "volatile"

abbrev pub target_data : Target → Data
target_data (Method m) = single (codes "method") (method_id_data m)
target_data (Guard p first fallback) =
    object (member (codes "fallback") (target_data fallback)
    (member (codes "guard") (number_data p)
    (member (codes "target") (target_data first) no_members)))
target_data (Invoker c) = single (codes "invoker") (number_data c)

unfoldable pub event_data : Data → AskedEvent → Data
event_data written NewLoader = single (codes "do") (string (codes "loader"))
event_data written (Define loader (File file)) =
    object (member (codes "do") (string (codes "define"))
    (member (codes "hex") (string (encode_lower file))
    (member (codes "loader") (number_data loader) no_members)))
event_data written (Define loader (Sketch s)) =
    object (member (codes "do") (string (codes "define"))
    (member (codes "loader") (number_data loader)
    (member (codes "sketch") written no_members)))
event_data written (Delegate loader name to) =
    object (member (codes "do") (string (codes "delegate"))
    (member (codes "loader") (number_data loader)
    (member (codes "name") written
    (member (codes "to") (number_data to) no_members))))
event_data written (Request place) =
    object (member (codes "class") (number_data place.class)
    (member (codes "do") (string (codes "request"))
    (member (codes "method") (number_data place.method)
    (member (codes "pc") (number_data place.pc) no_members))))
event_data written (Install batch) =
    object (member (codes "do") (string (codes "install"))
    (member (codes "prepared") (number_data batch) no_members))
event_data written (Retire loader) =
    object (member (codes "do") (string (codes "retire"))
    (member (codes "loader") (number_data loader) no_members))
event_data written (RetireAll loaders) = null
event_data written (Release call_sites points) = null
event_data written (NewCallSite kind ty target) =
    object (member (codes "do") (string (codes "callsite"))
    (member (codes "kind") (string (kind_name kind))
    (member (codes "target") (target_data target)
    (member (codes "type") written no_members))))
event_data written (SetTarget call_site target) =
    object (member (codes "callsite") (number_data call_site)
    (member (codes "do") (string (codes "target"))
    (member (codes "target") (target_data target) no_members)))
event_data written NewSwitch = single (codes "do") (string (codes "switch"))
event_data written (Invalidate switches) =
    object (member (codes "do") (string (codes "invalidate"))
    (member (codes "switches") (numbers_data switches) no_members))
event_data written (Bind site call_site) =
    object (member (codes "callsite") (number_data call_site)
    (member (codes "do") (string (codes "bind"))
    (member (codes "site") (number_data site) no_members)))

unfoldable pub command_data : Data → Command → Data
command_data written (Apply asked) = event_data written asked
command_data written (Prepare sites) =
    object (member (codes "do") (string (codes "prepare"))
    (member (codes "sites") (numbers_data sites) no_members))
command_data written (Call site recv) =
    object (member (codes "do") (string (codes "call"))
    (member (codes "recv") (recv_data recv)
    (member (codes "site") (number_data site) no_members)))
command_data written Links = single (codes "do") (string (codes "links"))

-- ---- commands that there are: each number in the range of its type, a sketch or a name that this JSON is, and the type
-- of a call site a method descriptor

abbrev pub IsReceiver : Recv → Type 0
IsReceiver Null = ⊤
IsReceiver (Of class) = class < 2 ^ 32

abbrev pub IsPlace : Place → Type 0
IsPlace place = (place.class < 2 ^ 32) × (place.method < 2 ^ 16) × (place.pc < 2 ^ 32)

abbrev pub IsMethodId : MethodId → Type 0
IsMethodId m = (m.class < 2 ^ 32) × (m.index < 2 ^ 16)

abbrev pub IsTarget : Target → Type 0
IsTarget (Method m) = IsMethodId m
IsTarget (Guard p first fallback) = (p < 2 ^ 32) × IsTarget first × IsTarget fallback
IsTarget (Invoker c) = c < 2 ^ 32

abbrev pub IsEvent : Data → AskedEvent → Type 0
IsEvent written NewLoader = ⊤
IsEvent written (Define loader (File file)) = (loader < 2 ^ 32) × IsBytes file
IsEvent written (Define loader (Sketch s)) = (loader < 2 ^ 32) × (sketch_of written ≡ Some s)
IsEvent written (Delegate loader name to) = (loader < 2 ^ 32) × (to < 2 ^ 32) × (name_in written ≡ Some name)
IsEvent written (Request place) = IsPlace place
IsEvent written (Install batch) = batch < 2 ^ 32
IsEvent written (Retire loader) = loader < 2 ^ 32
IsEvent written (RetireAll loaders) = ⊥
IsEvent written (Release call_sites points) = ⊥
IsEvent written (NewCallSite kind ty target) =
    (name_in written ≡ Some ty) × IsMethodDescriptor ty × IsTarget target
IsEvent written (SetTarget call_site target) = (call_site < 2 ^ 32) × IsTarget target
IsEvent written NewSwitch = ⊤
IsEvent written (Invalidate switches) = AllByRecursion (λ p. p < 2 ^ 32) switches
IsEvent written (Bind site call_site) = (site < 2 ^ 32) × (call_site < 2 ^ 32)

abbrev pub IsCommand : Data → Command → Type 0
IsCommand written (Apply asked) = IsEvent written asked
IsCommand written (Prepare sites) = AllByRecursion (λ s. s < 2 ^ 32) sites
IsCommand written (Call site recv) = (site < 2 ^ 32) × IsReceiver recv
IsCommand written Links = ⊤
