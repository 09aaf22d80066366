-- The form of a command reads as that command.
use Rattle.std.proofs.Common.{◌≡◌, ◌∙◌, ap, refl, ℕ, ◌<◌, ◌^◌, List, [], ◌∷◌, Some, None, map, arith}
use Rattle.std.proofs.Common.{Option, option_map, Result, Bool, true, if◌then◌else◌}
use Rattle.std.specs.Prelude.{is_some}
use Rattle.std.specs.List.{AllByRecursion}
use Rattle.std.specs.Result.{result_ok}
use Rattle.std.proofs.lemmas.Bool.Decides.{nat_tests}
use Rattle.hex.specs.Hex.{encode_lower, decode_of}
use Rattle.hex.specs.declared.error.FromHexError.{FromHexError}
use Rattle.hex.proofs.HexLemmas.{decode_of-encode_lower}
use Rattle.serde_json.specs.Data.{Data}
use Rattle.serde_json.specs.View.{items_of}
use Rattle.jl_types.specs.declared.answer.Recv.{Recv}
use Rattle.jl_types.specs.declared.answer.Recv.TheVariants.{Null, Of}
use Rattle.jl_types.specs.declared.event.EventOf.TheVariants.{NewLoader, Define, Delegate, Request, Install, Retire, RetireAll, Release}
use Rattle.jl_types.specs.declared.event.EventOf.TheVariants.{NewCallSite, SetTarget, NewSwitch, Invalidate, Bind}
use Rattle.jl_types.specs.declared.target.CallSiteKind.{CallSiteKind}
use Rattle.jl_types.specs.declared.target.CallSiteKind.TheVariants.{Constant, Mutable, Volatile}
use Rattle.jl_types.specs.Values.Target.{Target, Method, Guard, Invoker}
use Rattle.jl_names.specs.MethodTypes.{IsMethodDescriptor}
use Rattle.jl_pool.specs.ForProofs.Forms.{method_slots}
use Rattle.jl_pool.proofs.FormLaws.{SlotsAre, method_slots-is}
use Rattle.jl_json.specs.declared.command.Command.{Command}
use Rattle.jl_json.specs.declared.command.Command.TheVariants.{Apply, Prepare, Call, Links}
use Rattle.jl_json.specs.declared.command.ClassSource.TheVariants.{File, Sketch}
use Rattle.jl_sketch.specs.declared.sketch.Sketch.{Sketch as SketchOf}
use Rattle.jl_json.specs.ClassAnswers.{number_data}
use Rattle.jl_json.specs.Members.{below, number_in, each_in, ◌>>=◌}
use Rattle.jl_json.specs.Sketches.{name_in, sketch_of}
use Rattle.jl_json.specs.Targets.{guard, method_or_invoker, target_in, target_under}
use Rattle.jl_json.specs.Commands.{AskedEvent, recv_in, kind_in, is_method_descriptor, method_type, command_of}
use Rattle.jl_json.specs.CommandForms.{recv_data, kind_name, target_data, event_data, command_data}
use Rattle.jl_json.specs.CommandForms.{IsReceiver, IsTarget, IsEvent, IsCommand}

pub within : (bound n : ℕ) → n < bound → below bound n ≡ Some n
within bound n lt = grind (arith, nat_tests)

-- if each form is read, so is the list of them
pub each_again : {A : Type 0} (read : Data → Option A) (form : A → Data) (HasForm : A → Type 0)
    → ((a : A) → HasForm a → read (form a) ≡ Some a) → (xs : List A) → AllByRecursion HasForm xs
    → each_in read (items_of (map form xs)) ≡ Some xs
each_again read form HasForm again [] h = refl
each_again read form HasForm again (x ∷ xs) h =
    λ i. again x h.0 i >>= (λ y. option_map (λ ys. y ∷ ys) (each_again read form HasForm again xs h.1 i))

numbers_again : (sites : List ℕ) → AllByRecursion (λ s. s < 2 ^ 32) sites
    → each_in (number_in (2 ^ 32)) (items_of (map number_data sites)) ≡ Some sites
numbers_again sites h = each_again (number_in (2 ^ 32)) number_data (λ s. s < 2 ^ 32) (within (2 ^ 32)) sites h

recv_again : (recv : Recv) → IsReceiver recv → recv_in (recv_data recv) ≡ Some recv
recv_again Null h = refl
recv_again (Of class) h = ap (option_map Of) (within (2 ^ 32) class h)

kind_again : (kind : CallSiteKind) → kind_in (kind_name kind) ≡ Some kind
kind_again Constant = refl
kind_again Mutable = refl
kind_again Volatile = refl

some_slots : (ty : List ℕ) (found : Option ℕ) → SlotsAre ty found → IsMethodDescriptor ty → is_some found ≡ true
some_slots ty None h is = absurd (h is)
some_slots ty (Some n) h is = refl

type_again : (ty : List ℕ) → IsMethodDescriptor ty → is_method_descriptor ty ≡ true
type_again ty is = some_slots ty (method_slots ty) (method_slots-is ty) is

-- ---- targets

abbrev class_of_next : ℕ → Option ℕ → Option Target
class_of_next index class =
    method_or_invoker (class >>= (λ c. below (2 ^ 16) index >>= (λ i. Some (record { class = c; index = i })))) None

abbrev index_next : ℕ → Option ℕ → Option Target
index_next class index = method_or_invoker (index >>= (λ i. Some (record { class = class; index = i }))) None

abbrev guard_next : Target → Target → Option ℕ → Option Target
guard_next first fallback switch = guard switch (target_in (target_data first)) (target_in (target_data fallback))

abbrev first_next : ℕ → Target → Option Target → Option Target
first_next p fallback first = guard (Some p) first (target_in (target_data fallback))

pub target_again : (t : Target) → IsTarget t → target_in (target_data t) ≡ Some t
unfolding target_in target_under
target_again (Method m) h =
    ap (class_of_next m.index) (within (2 ^ 32) m.class h.0) ∙ ap (index_next m.class) (within (2 ^ 16) m.index h.1)
target_again (Guard p first fallback) h =
    ap (guard_next first fallback) (within (2 ^ 32) p h.0)
    ∙ ap (first_next p fallback) (target_again first h.1)
    ∙ ap (guard (Some p) (Some first)) (target_again fallback h.2)
target_again (Invoker c) h = ap (method_or_invoker None) (within (2 ^ 32) c h)

-- ---- commands

-- what follows a number of the form

abbrev file_next : List ℕ → Option ℕ → Option AskedEvent
file_next file loader =
    loader >>= (λ l. option_map File (result_ok (decode_of (encode_lower file))) >>= (λ source. Some (Define l source)))

abbrev bytes_next : ℕ → Result (List ℕ) FromHexError → Option AskedEvent
bytes_next loader read = option_map File (result_ok read) >>= (λ source. Some (Define loader source))

abbrev sketch_next : ℕ → Option SketchOf → Option AskedEvent
sketch_next loader s = option_map Sketch s >>= (λ source. Some (Define loader source))

abbrev sketched_next : Data → Option ℕ → Option AskedEvent
sketched_next sketch loader = loader >>= (λ l. sketch_next l (sketch_of sketch))

abbrev name_next : ℕ → ℕ → Option (List ℕ) → Option AskedEvent
name_next loader to name = name >>= (λ n. Some (Delegate loader n to))

abbrev to_next : Data → ℕ → Option ℕ → Option AskedEvent
to_next written loader to = to >>= (λ t. name_next loader t (name_in written))

abbrev loader_next : Data → ℕ → Option ℕ → Option AskedEvent
loader_next written to loader = loader >>= (λ l. to_next written l (below (2 ^ 32) to))

abbrev pc_next : ℕ → ℕ → Option ℕ → Option AskedEvent
pc_next class method pc = pc >>= (λ p. Some (Request (record { class = class; method = method; pc = p })))

abbrev method_next : ℕ → ℕ → Option ℕ → Option AskedEvent
method_next pc class method = method >>= (λ m. pc_next class m (below (2 ^ 32) pc))

abbrev class_next : ℕ → ℕ → Option ℕ → Option AskedEvent
class_next method pc class = class >>= (λ c. method_next pc c (below (2 ^ 16) method))

abbrev recv_next : ℕ → Option Recv → Option Command
recv_next site recv = recv >>= (λ r. Some (Call site r))

abbrev site_next : Recv → Option ℕ → Option Command
site_next recv site = site >>= (λ s. recv_next s (recv_in (recv_data recv)))

abbrev kind_next : Data → Target → Option CallSiteKind → Option AskedEvent
kind_next written target kind = kind >>= (λ k. (name_in written >>= method_type)
    >>= (λ ty. target_in (target_data target) >>= (λ t. Some (NewCallSite k ty t))))

abbrev type_next : CallSiteKind → Target → Option (List ℕ) → Option AskedEvent
type_next kind target ty =
    (ty >>= method_type) >>= (λ ty. target_in (target_data target) >>= (λ t. Some (NewCallSite kind ty t)))

abbrev typed_next : CallSiteKind → List ℕ → Target → Bool → Option AskedEvent
typed_next kind ty target is =
    (if is then Some ty else None)
    >>= (λ ty. target_in (target_data target) >>= (λ t. Some (NewCallSite kind ty t)))

abbrev target_next : CallSiteKind → List ℕ → Option Target → Option AskedEvent
target_next kind ty target = target >>= (λ t. Some (NewCallSite kind ty t))

abbrev changed_next : Target → Option ℕ → Option AskedEvent
changed_next target call_site =
    call_site >>= (λ c. target_in (target_data target) >>= (λ t. Some (SetTarget c t)))

abbrev new_target_next : ℕ → Option Target → Option AskedEvent
new_target_next call_site target = target >>= (λ t. Some (SetTarget call_site t))

abbrev bound_next : ℕ → Option ℕ → Option AskedEvent
bound_next call_site site = site >>= (λ s. below (2 ^ 32) call_site >>= (λ c. Some (Bind s c)))

abbrev call_site_next : ℕ → Option ℕ → Option AskedEvent
call_site_next site call_site = call_site >>= (λ c. Some (Bind site c))

event_again : (written : Data) (a : AskedEvent) → IsEvent written a → command_of (event_data written a) ≡ Some (Apply a)
unfolding event_data
event_again written NewLoader h = refl
event_again written (Define loader (File file)) h = ap (option_map Apply)
    (ap (file_next file) (within (2 ^ 32) loader h.0)
    ∙ ap (bytes_next loader) (decode_of-encode_lower file h.1))
event_again written (Define loader (Sketch s)) h = ap (option_map Apply)
    (ap (sketched_next written) (within (2 ^ 32) loader h.0) ∙ ap (sketch_next loader) h.1)
event_again written (Delegate loader name to) h = ap (option_map Apply)
    (ap (loader_next written to) (within (2 ^ 32) loader h.0)
    ∙ ap (to_next written loader) (within (2 ^ 32) to h.1)
    ∙ ap (name_next loader to) h.2)
event_again written (Request place) h = ap (option_map Apply)
    (ap (class_next place.method place.pc) (within (2 ^ 32) place.class h.0)
    ∙ ap (method_next place.pc place.class) (within (2 ^ 16) place.method h.1)
    ∙ ap (pc_next place.class place.method) (within (2 ^ 32) place.pc h.2))
event_again written (Install batch) h = ap (option_map Apply) (ap (option_map Install) (within (2 ^ 32) batch h))
event_again written (Retire loader) h = ap (option_map Apply) (ap (option_map Retire) (within (2 ^ 32) loader h))
event_again written (RetireAll loaders) h = absurd h
event_again written (Release call_sites points) h = absurd h
event_again written (NewCallSite kind ty target) h = ap (option_map Apply)
    (ap (kind_next written target) (kind_again kind)
    ∙ ap (type_next kind target) h.0
    ∙ ap (typed_next kind ty target) (type_again ty h.1)
    ∙ ap (target_next kind ty) (target_again target h.2))
event_again written (SetTarget call_site target) h = ap (option_map Apply)
    (ap (changed_next target) (within (2 ^ 32) call_site h.0) ∙ ap (new_target_next call_site) (target_again target h.1))
event_again written NewSwitch h = refl
event_again written (Invalidate switches) h = ap (option_map Apply) (ap (option_map Invalidate) (numbers_again switches h))
event_again written (Bind site call_site) h = ap (option_map Apply)
    (ap (bound_next call_site) (within (2 ^ 32) site h.0) ∙ ap (call_site_next site) (within (2 ^ 32) call_site h.1))

pub again : (written : Data) (c : Command) → IsCommand written c → command_of (command_data written c) ≡ Some c
unfolding command_data
again written (Apply a) h = event_again written a h
again written (Prepare sites) h = ap (option_map Prepare) (numbers_again sites h)
again written (Call site recv) h =
    ap (site_next recv) (within (2 ^ 32) site h.0) ∙ ap (recv_next site) (recv_again recv h.1)
again written Links h = refl
