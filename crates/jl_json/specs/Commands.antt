-- Which JSON is a command, and which command: an object of the members that are named here, and of no others.
use Rattle.std.specs.Prelude.{ℕ, ◌^◌, ◌==◌, ◌&&◌, if◌then◌else◌, Bool, List, codes}
use Rattle.std.specs.Prelude.{Option, Some, None, is_some, option_map}
use Rattle.std.specs.Option.{option_map_or}
use Rattle.std.specs.Result.{result_ok}
use Rattle.std.specs.Str.{bytes_eq}
use Rattle.hex.specs.Hex.{decode_of}
use Rattle.serde_json.specs.Data.{Data}
use Rattle.serde_json.specs.Find.{get, as_null, as_object}
use Rattle.jl_types.specs.declared.answer.Recv.{Recv}
use Rattle.jl_types.specs.declared.answer.Recv.TheVariants.{Null, Of}
use Rattle.jl_types.specs.declared.event.EventOf.{EventOf}
use Rattle.jl_types.specs.declared.event.EventOf.TheVariants.{NewLoader, Define, Delegate, Request, Install, Retire}
use Rattle.jl_types.specs.declared.event.EventOf.TheVariants.{NewCallSite, SetTarget, NewSwitch, Invalidate, Bind}
use Rattle.jl_types.specs.declared.target.CallSiteKind.{CallSiteKind}
use Rattle.jl_types.specs.declared.target.CallSiteKind.TheVariants.{Constant, Mutable, Volatile}
use Rattle.jl_pool.specs.ForProofs.Forms.{method_slots}
use Rattle.jl_json.specs.declared.command.Command.{Command}
use Rattle.jl_json.specs.declared.command.Command.TheVariants.{Apply, Prepare, Call, Links}
use Rattle.jl_json.specs.declared.command.ClassSource.{ClassSource}
use Rattle.jl_json.specs.declared.command.ClassSource.TheVariants.{File, Sketch}
use Rattle.jl_json.specs.Members.{◌>>=◌, number_in, number_at, text_at, list_at, member_count}
use Rattle.jl_json.specs.Sketches.{name_at, sketch_of}
use Rattle.jl_json.specs.Targets.{target_at}

-- ---- values of members

-- numbers below 2 ^ 32
abbrev pub numbers_at : List ℕ → Data → Option (List ℕ)
numbers_at key d = list_at (number_in (2 ^ 32)) key d

-- the bytes that a text is the hexadecimal of, in either case
abbrev pub file_at : List ℕ → Data → Option (List ℕ)
file_at key d = do
  text ← text_at key d
  result_ok (decode_of text)

-- null, or a class
abbrev pub recv_in : Data → Option Recv
recv_in d = if is_some (as_null d) then Some Null else option_map Of (number_in (2 ^ 32) d)

-- the kind of call site of this word
abbrev pub kind_in : List ℕ → Option CallSiteKind
kind_in word =
    if bytes_eq word (codes "constant") then Some Constant
    else if bytes_eq word (codes "mutable") then Some Mutable
    else if bytes_eq word (codes "volatile") then Some Volatile
    else None

abbrev pub kind_at : List ℕ → Data → Option CallSiteKind
kind_at key d = text_at key d >>= kind_in

-- a method descriptor, of 255 slots at most (JVMS SE 17 §4.3.3)
abbrev pub is_method_descriptor : List ℕ → Bool
is_method_descriptor text = is_some (method_slots text)

abbrev pub method_type : List ℕ → Option (List ℕ)
method_type name = if is_method_descriptor name then Some name else None

abbrev pub method_type_at : List ℕ → Data → Option (List ℕ)
method_type_at key d = name_at key d >>= method_type

-- ---- events, by their members

-- a definition by a file or a sketch, an install by the number of a batch
abbrev pub AskedEvent : Type 0
AskedEvent = EventOf ClassSource ℕ

-- the sketch if there is one, else the file
abbrev pub source_of : Data → Option ClassSource
source_of d = option_map_or (λ sketch. option_map Sketch (sketch_of sketch)) (get (codes "sketch") d)
    (option_map File (file_at (codes "hex") d))

abbrev pub define_of : Data → Option AskedEvent
define_of d = do
  loader ← number_at (2 ^ 32) (codes "loader") d
  source ← source_of d
  Some (Define loader source)

abbrev pub delegate_of : Data → Option AskedEvent
delegate_of d = do
  loader ← number_at (2 ^ 32) (codes "loader") d
  to ← number_at (2 ^ 32) (codes "to") d
  name ← name_at (codes "name") d
  Some (Delegate loader name to)

abbrev pub request_of : Data → Option AskedEvent
request_of d = do
  class ← number_at (2 ^ 32) (codes "class") d
  method ← number_at (2 ^ 16) (codes "method") d
  pc ← number_at (2 ^ 32) (codes "pc") d
  Some (Request (record { class = class; method = method; pc = pc }))

abbrev pub install_of : Data → Option AskedEvent
install_of d = option_map Install (number_at (2 ^ 32) (codes "prepared") d)

abbrev pub retire_of : Data → Option AskedEvent
retire_of d = option_map Retire (number_at (2 ^ 32) (codes "loader") d)

abbrev pub new_call_site_of : Data → Option AskedEvent
new_call_site_of d = do
  kind ← kind_at (codes "kind") d
  ty ← method_type_at (codes "type") d
  target ← target_at (codes "target") d
  Some (NewCallSite kind ty target)

abbrev pub set_target_of : Data → Option AskedEvent
set_target_of d = do
  call_site ← number_at (2 ^ 32) (codes "callsite") d
  target ← target_at (codes "target") d
  Some (SetTarget call_site target)

abbrev pub invalidate_of : Data → Option AskedEvent
invalidate_of d = option_map Invalidate (numbers_at (codes "switches") d)

abbrev pub bind_of : Data → Option AskedEvent
bind_of d = do
  site ← number_at (2 ^ 32) (codes "site") d
  call_site ← number_at (2 ^ 32) (codes "callsite") d
  Some (Bind site call_site)

-- ---- other commands, by their members

abbrev pub prepare_of : Data → Option Command
prepare_of d = option_map Prepare (numbers_at (codes "sites") d)

-- with no receiver named
abbrev pub call_of : Data → Option Command
call_of d = do
  site ← number_at (2 ^ 32) (codes "site") d
  Some (Call site Null)

abbrev pub call_on_of : Data → Option Command
call_on_of d = do
  site ← number_at (2 ^ 32) (codes "site") d
  value ← get (codes "recv") d
  recv ← recv_in value
  Some (Call site recv)

-- ---- all commands

-- the event of this word, in an object of this many members, if it is of call sites or switch points
abbrev pub by_call_site_word : List ℕ → ℕ → Data → Option AskedEvent
by_call_site_word word count d =
    if bytes_eq word (codes "callsite") && (count == 4) then new_call_site_of d
    else if bytes_eq word (codes "target") && (count == 3) then set_target_of d
    else if bytes_eq word (codes "switch") && (count == 1) then Some NewSwitch
    else if bytes_eq word (codes "invalidate") && (count == 2) then invalidate_of d
    else if bytes_eq word (codes "bind") && (count == 3) then bind_of d
    else None

-- the event of this word, in an object of this many members, of any kind
abbrev pub by_event_word : List ℕ → ℕ → Data → Option AskedEvent
by_event_word word count d =
    if bytes_eq word (codes "loader") && (count == 1) then Some NewLoader
    else if bytes_eq word (codes "define") && (count == 3) then define_of d
    else if bytes_eq word (codes "delegate") && (count == 4) then delegate_of d
    else if bytes_eq word (codes "request") && (count == 4) then request_of d
    else if bytes_eq word (codes "install") && (count == 2) then install_of d
    else if bytes_eq word (codes "retire") && (count == 2) then retire_of d
    else by_call_site_word word count d

-- the command of this word, in an object of this many members
abbrev pub by_word : List ℕ → ℕ → Data → Option Command
by_word word count d =
    if bytes_eq word (codes "prepare") && (count == 2) then prepare_of d
    else if bytes_eq word (codes "call") && (count == 2) then call_of d
    else if bytes_eq word (codes "call") && (count == 3) then call_on_of d
    else if bytes_eq word (codes "links") && (count == 1) then Some Links
    else option_map Apply (by_event_word word count d)

abbrev pub command_of : Data → Option Command
command_of d = do
  members ← as_object d
  word ← text_at (codes "do") d
  by_word word (member_count members) d
