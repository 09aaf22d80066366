-- The type of each new call site is a method descriptor.
use Rattle.std.proofs.Common.{◌≡◌, subst, refl, ℕ, ◌^◌, ◌==◌, ◌&&◌, List, true, false, codes}
use Rattle.std.proofs.Common.{Option, Some, None, option_map, Bool, if◌then◌else◌}
use Rattle.std.specs.Prelude.{is_some, IfSome, ⊤}
use Rattle.std.specs.Str.{bytes_eq}
use Rattle.serde_json.specs.Data.{Data}
use Rattle.serde_json.specs.Find.{get, as_object}
use Rattle.jl_names.specs.MethodTypes.{IsMethodDescriptor}
use Rattle.jl_pool.specs.ForProofs.Forms.{method_slots}
use Rattle.jl_pool.proofs.FormLaws.{SlotsAre, method_slots-is}
use Rattle.jl_types.specs.declared.event.EventOf.TheVariants.{NewCallSite, Install, Invalidate, Retire}
use Rattle.jl_types.specs.declared.target.CallSiteKind.{CallSiteKind}
use Rattle.jl_types.specs.Values.Target.{Target}
use Rattle.jl_json.specs.declared.command.Command.{Command}
use Rattle.jl_json.specs.declared.command.Command.TheVariants.{Apply, Prepare}
use Rattle.jl_json.specs.Members.{number_at, text_at, member_count, ◌>>=◌}
use Rattle.jl_json.specs.Sketches.{name_at}
use Rattle.jl_json.specs.Targets.{target_at}
use Rattle.jl_json.specs.Commands.{numbers_at, recv_in, kind_at, is_method_descriptor, method_type, source_of}
use Rattle.jl_json.specs.Commands.{define_of, delegate_of, request_of, call_of, call_on_of}
use Rattle.jl_json.specs.Commands.{new_call_site_of, set_target_of, bind_of}
use Rattle.jl_json.specs.Commands.{AskedEvent, by_call_site_word, by_event_word, by_word, command_of}

abbrev IsTyped : AskedEvent → Type 0
IsTyped (NewCallSite kind ty target) = IsMethodDescriptor ty
IsTyped _ = ⊤

-- of a command that is an event
abbrev HasTyped : Command → Type 0
HasTyped (Apply a) = IsTyped a
HasTyped _ = ⊤

-- ---- what comes of a part

of_some : {A B : Type 0} (P : B → Type 0) (part : Option A) (next : A → Option B) → ((a : A) → IfSome (next a) P)
    → IfSome (part >>= next) P
of_some P None next each = tt
of_some P (Some a) next each = each a

of_one : {A B : Type 0} (P : B → Type 0) (make : A → B) (part : Option A) → ((a : A) → P (make a))
    → IfSome (option_map make part) P
of_one P make None each = tt
of_one P make (Some a) each = each a

with_slots : (ty : List ℕ) (found : Option ℕ) → SlotsAre ty found → is_some found ≡ true → IsMethodDescriptor ty
with_slots ty None h is = absurd cc
with_slots ty (Some n) h is = (n, h.few, h.takes)

tested : (ty : List ℕ) (is : Bool) (next : List ℕ → Option AskedEvent) → (is ≡ true → IsMethodDescriptor ty)
    → (IsMethodDescriptor ty → IfSome (next ty) IsTyped) → IfSome ((if is then Some ty else None) >>= next) IsTyped
tested ty true next told each = each (told refl)
tested ty false next told each = tt

after_type : (name : Option (List ℕ)) (next : List ℕ → Option AskedEvent)
    → ((ty : List ℕ) → IsMethodDescriptor ty → IfSome (next ty) IsTyped) → IfSome ((name >>= method_type) >>= next) IsTyped
after_type None next each = tt
after_type (Some ty) next each =
    tested ty (is_method_descriptor ty) next (with_slots ty (method_slots ty) (method_slots-is ty)) (each ty)

-- ---- each command

define_typed : (d : Data) → IfSome (define_of d) IsTyped
define_typed d = of_some IsTyped (number_at (2 ^ 32) (codes "loader") d) _ (λ loader. of_some IsTyped (source_of d) _ (λ source. tt))

delegate_typed : (d : Data) → IfSome (delegate_of d) IsTyped
delegate_typed d = of_some IsTyped (number_at (2 ^ 32) (codes "loader") d) _ (λ loader.
    of_some IsTyped (number_at (2 ^ 32) (codes "to") d) _ (λ to. of_some IsTyped (name_at (codes "name") d) _ (λ name. tt)))

request_typed : (d : Data) → IfSome (request_of d) IsTyped
request_typed d = of_some IsTyped (number_at (2 ^ 32) (codes "class") d) _ (λ class.
    of_some IsTyped (number_at (2 ^ 16) (codes "method") d) _ (λ method. of_some IsTyped (number_at (2 ^ 32) (codes "pc") d) _ (λ pc. tt)))

call_typed : (d : Data) → IfSome (call_of d) HasTyped
call_typed d = of_some HasTyped (number_at (2 ^ 32) (codes "site") d) _ (λ site. tt)

call_on_typed : (d : Data) → IfSome (call_on_of d) HasTyped
call_on_typed d = of_some HasTyped (number_at (2 ^ 32) (codes "site") d) _ (λ site.
    of_some HasTyped (get (codes "recv") d) _ (λ value. of_some HasTyped (recv_in value) _ (λ recv. tt)))

new_call_site_typed : (d : Data) → IfSome (new_call_site_of d) IsTyped
new_call_site_typed d = of_some IsTyped (kind_at (codes "kind") d) _ (λ kind.
    after_type (name_at (codes "type") d) _ (λ ty is. of_some IsTyped (target_at (codes "target") d) _ (λ target. is)))

set_target_typed : (d : Data) → IfSome (set_target_of d) IsTyped
set_target_typed d =
    of_some IsTyped (number_at (2 ^ 32) (codes "callsite") d) _ (λ call_site. of_some IsTyped (target_at (codes "target") d) _ (λ target. tt))

bind_typed : (d : Data) → IfSome (bind_of d) IsTyped
bind_typed d = of_some IsTyped (number_at (2 ^ 32) (codes "site") d) _ (λ site.
    of_some IsTyped (number_at (2 ^ 32) (codes "callsite") d) _ (λ call_site. tt))

-- ---- all commands

either : {A : Type 0} (P : A → Type 0) (b : Bool) (x y : Option A) → IfSome x P → IfSome y P → IfSome (if b then x else y) P
either P true x y is other = is
either P false x y is other = other

abbrev is_asked : List ℕ → ℕ → List ℕ → ℕ → Bool
is_asked word count asked n = bytes_eq word asked && (count == n)

call_site_word_typed : (word : List ℕ) (count : ℕ) (d : Data) → IfSome (by_call_site_word word count d) IsTyped
call_site_word_typed word count d =
    either IsTyped (is_asked word count (codes "callsite") 4) _ _ (new_call_site_typed d)
    (either IsTyped (is_asked word count (codes "target") 3) _ _ (set_target_typed d)
    (either IsTyped (is_asked word count (codes "switch") 1) _ _ tt
    (either IsTyped (is_asked word count (codes "invalidate") 2) _ _
    (of_one IsTyped Invalidate (numbers_at (codes "switches") d) (λ switches. tt))
    (either IsTyped (is_asked word count (codes "bind") 3) _ _ (bind_typed d) tt))))

event_word_typed : (word : List ℕ) (count : ℕ) (d : Data) → IfSome (by_event_word word count d) IsTyped
event_word_typed word count d =
    either IsTyped (is_asked word count (codes "loader") 1) _ _ tt
    (either IsTyped (is_asked word count (codes "define") 3) _ _ (define_typed d)
    (either IsTyped (is_asked word count (codes "delegate") 4) _ _ (delegate_typed d)
    (either IsTyped (is_asked word count (codes "request") 4) _ _ (request_typed d)
    (either IsTyped (is_asked word count (codes "install") 2) _ _
    (of_one IsTyped Install (number_at (2 ^ 32) (codes "prepared") d) (λ batch. tt))
    (either IsTyped (is_asked word count (codes "retire") 2) _ _
    (of_one IsTyped Retire (number_at (2 ^ 32) (codes "loader") d) (λ loader. tt))
    (call_site_word_typed word count d))))))

applied : (o : Option AskedEvent) → IfSome o IsTyped → IfSome (option_map Apply o) HasTyped
applied None is = tt
applied (Some a) is = is

word_typed : (word : List ℕ) (count : ℕ) (d : Data) → IfSome (by_word word count d) HasTyped
word_typed word count d =
    either HasTyped (is_asked word count (codes "prepare") 2) _ _
    (of_one HasTyped Prepare (numbers_at (codes "sites") d) (λ sites. tt))
    (either HasTyped (is_asked word count (codes "call") 2) _ _ (call_typed d)
    (either HasTyped (is_asked word count (codes "call") 3) _ _ (call_on_typed d)
    (either HasTyped (is_asked word count (codes "links") 1) _ _ tt
    (applied (by_event_word word count d) (event_word_typed word count d)))))

command_typed : (d : Data) → IfSome (command_of d) HasTyped
command_typed d = of_some HasTyped (as_object d) _ (λ members.
    of_some HasTyped (text_at (codes "do") d) _ (λ word. word_typed word (member_count members) d))

pub call_site_typed : (d : Data) (kind : CallSiteKind) (ty : List ℕ) (target : Target)
    → command_of d ≡ Some (Apply (NewCallSite kind ty target)) → IsMethodDescriptor ty
call_site_typed d kind ty target e = subst (λ o. IfSome o HasTyped) e (command_typed d)
