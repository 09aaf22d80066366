-- A value that is a command has no keys but those of its form: it has as many members as the form, and each of the
-- form's keys, which differ.
use Rattle.std.proofs.Common.{◌≡◌, ◌∙◌, sym, ap, subst, refl, ℕ, suc, ◌^◌, ◌==◌, List, [], ◌∷◌, length}
use Rattle.std.proofs.Common.{Bool, true, false, ◌&&◌, ◌||◌, true≢false, if◌then◌else◌, codes, arith}
use Rattle.std.proofs.Common.{Option, Some, None, option_map}
use Rattle.std.specs.Ordering.{nat_cmp, match_ordering, is_eq}
use Rattle.std.specs.declared.cmp.Ordering.{Ordering}
use Rattle.std.specs.declared.cmp.Ordering.TheVariants.{Less, Equal, Greater}
use Rattle.std.specs.Cmp.Lexicographic.{slice_cmp}
use Rattle.std.specs.List.{AllByRecursion}
use Rattle.std.specs.Option.{option_map_or}
use Rattle.std.specs.Result.{result_ok}
use Rattle.std.specs.Str.{bytes_eq}
use Rattle.std.proofs.lemmas.Bool.{eqb-true, or_left, or_right}
use Rattle.std.proofs.lemmas.Map.Text.{is_eq-slice_cmp}
use Rattle.std.proofs.lemmas.Option.{option_and_then_some, none-some, same_Some}
use Rattle.std.proofs.lemmas.Slice.Eq.{bytes_eq-Decides}
use Rattle.hex.specs.Hex.{decode_of}
use Rattle.serde_json.specs.Data.{Data, null, boolean, number, string, array, object, Members, no_members, member}
use Rattle.serde_json.specs.Find.{get, get_member, as_str}
use Rattle.jl_names.proofs.Tests.{by_test}
use Rattle.jl_types.specs.declared.answer.Recv.TheVariants.{Null}
use Rattle.jl_types.specs.declared.event.EventOf.TheVariants.{NewLoader, Define, Delegate, Request, Install, Retire}
use Rattle.jl_types.specs.declared.event.EventOf.TheVariants.{NewCallSite, SetTarget, NewSwitch, Invalidate, Bind}
use Rattle.jl_json.specs.declared.command.Command.{Command}
use Rattle.jl_json.specs.declared.command.Command.TheVariants.{Apply, Prepare, Call, Links}
use Rattle.jl_json.specs.declared.command.ClassSource.{ClassSource}
use Rattle.jl_json.specs.declared.command.ClassSource.TheVariants.{File, Sketch}
use Rattle.jl_json.specs.Members.{number_in, number_at, text_at, list_in, member_count, member_keys, keys_of, has_key, AreAmong, ◌>>=◌}
use Rattle.jl_json.specs.Sketches.{name_in, name_at, sketch_of}
use Rattle.jl_json.specs.Targets.{target_in, target_at}
use Rattle.jl_json.specs.Commands.{numbers_at, file_at, recv_in, kind_in, kind_at, method_type, method_type_at, source_of}
use Rattle.jl_json.specs.Commands.{define_of, delegate_of, request_of, prepare_of, install_of, retire_of, call_of, call_on_of}
use Rattle.jl_json.specs.Commands.{new_call_site_of, set_target_of, invalidate_of, bind_of}
use Rattle.jl_json.specs.Commands.{AskedEvent, by_call_site_word, by_event_word, by_word, command_of}
use Rattle.jl_json.specs.CommandForms.{event_data, command_data}

abbrev pub Keys : Type 0
Keys = List (List ℕ)

-- ---- lists without repeats

-- the keys but for the first that is k
abbrev less : List ℕ → Keys → Keys
less k [] = []
less k (x ∷ xs) = if bytes_eq k x then xs else x ∷ less k xs

abbrev pub Differ : Keys → Type 0
Differ [] = Unit
Differ (k ∷ ks) = AllByRecursion (λ j. bytes_eq j k ≡ false) ks × Differ ks

abbrev pub Has : Keys → List ℕ → Type 0
Has xs k = has_key xs k ≡ true

in_rest : (b c : Bool) → (b || c) ≡ true → b ≡ false → c ≡ true
in_rest true c h e = absurd (true≢false e)
in_rest false c h e = h

shorter : (k : List ℕ) (xs : Keys) → Has xs k → length xs ≡ suc (length (less k xs))
shorter k [] h = absurd (true≢false (sym h))
shorter k (x ∷ xs) h = by_test (bytes_eq k x)
    (λ e. rw e refl)
    (λ e. rw e (ap suc (shorter k xs (in_rest (bytes_eq k x) (has_key xs k) h e))))

left : (j k : List ℕ) (xs : Keys) → Has xs j → bytes_eq j k ≡ false → Has (less k xs) j
left j k [] h other = absurd (true≢false (sym h))
left j k (x ∷ xs) h other = by_test (bytes_eq k x)
    (λ e. rw e (in_rest (bytes_eq j x) (has_key xs j) h
    (subst (λ (y : List ℕ). bytes_eq j y ≡ false) ((bytes_eq-Decides k x).0 e) other)))
    (λ e. rw e (by_test (bytes_eq j x)
    (λ same. or_left (bytes_eq j x) (has_key (less k xs) j) same)
    (λ apart. or_right (bytes_eq j x) (has_key (less k xs) j)
    (left j k xs (in_rest (bytes_eq j x) (has_key xs j) h apart) other))))

all_left : (k : List ℕ) (ks xs : Keys) → AllByRecursion (λ j. bytes_eq j k ≡ false) ks
    → AllByRecursion (Has xs) ks → AllByRecursion (Has (less k xs)) ks
all_left k [] xs apart has = tt
all_left k (j ∷ ks) xs apart has = (left j k xs has.0 apart.0, all_left k ks xs apart.1 has.1)

among : (named xs : Keys) → Differ named → length xs ≡ length named → AllByRecursion (Has xs) named
    → (j : List ℕ) → Has xs j → Has named j
among [] [] differ same has j h = h
among [] (x ∷ xs) differ same has j h = absurd (omega arith)
among (k ∷ ks) xs differ same has j h = by_test (bytes_eq j k)
    (λ e. or_left (bytes_eq j k) (has_key ks j) e)
    (λ e. or_right (bytes_eq j k) (has_key ks j) (among ks (less k xs) differ.1
    (let long = shorter k xs has.0 in omega arith) (all_left k ks xs differ.0 has.1) j (left j k xs h e)))

each : (P : List ℕ → Type 0) (xs : Keys) → ((j : List ℕ) → Has xs j → P j) → AllByRecursion P xs
each P [] f = tt
each P (x ∷ xs) f = (
  f x (or_left (bytes_eq x x) (has_key xs x) ((bytes_eq-Decides x x).1 refl)),
  each P xs (λ j h. f j (or_right (bytes_eq j x) (has_key xs j) h)),
)

-- ---- members

found_at : (o : Ordering) (rest : Option Data) (e d : Data) (m : Bool) → (rest ≡ Some d → m ≡ true)
    → match_ordering o rest (Some e) rest ≡ Some d → (is_eq o || m) ≡ true
found_at Less rest e d m f h = f h
found_at Equal rest e d m f h = refl
found_at Greater rest e d m f h = f h

found : (k : List ℕ) (ms : Members) (d : Data) → get_member k ms ≡ Some d → Has (member_keys ms) k
found k no_members d h = absurd (none-some d h)
found k (member l e ms) d h =
    ap (λ (b : Bool). b || has_key (member_keys ms) k) (sym (is_eq-slice_cmp k l))
    ∙ found_at (slice_cmp nat_cmp k l) (get_member k ms) e d (has_key (member_keys ms) k) (found k ms d) h

counted : (ms : Members) → length (member_keys ms) ≡ member_count ms
counted no_members = refl
counted (member k d ms) = ap suc (counted ms)

pub next_found : {A : Type 0} (f : Data → Option A) (k : List ℕ) (ms : Members) (a : A)
    → (get_member k ms >>= f) ≡ Some a → Has (member_keys ms) k
next_found f k ms a e = option_and_then_some f (get_member k ms) a e (λ d is _. found k ms d is)

file_found : (k : List ℕ) (ms : Members) (file : List ℕ) → file_at k (object ms) ≡ Some file
    → Has (member_keys ms) k
file_found k ms file e = option_and_then_some (λ text. result_ok (decode_of text)) (text_at k (object ms)) file e
    (λ text is _. next_found as_str k ms text is)

pub named_alone : (named : Keys) (ms : Members) → Differ named → member_count ms ≡ length named
    → AllByRecursion (Has (member_keys ms)) named → AreAmong (member_keys ms) named
named_alone named ms differ same has =
    each (Has named) (member_keys ms) (among named (member_keys ms) differ (counted ms ∙ same) has)

-- ---- commands

-- the keys of the members are among those of the form of the event, or of the command
abbrev IsEventForm : Data → Members → AskedEvent → Type 0
IsEventForm sketch ms a = AreAmong (member_keys ms) (keys_of (event_data sketch a))

abbrev IsForm : Data → Members → Command → Type 0
IsForm sketch ms c = AreAmong (member_keys ms) (keys_of (command_data sketch c))

pub number_found : (bound : ℕ) (k : List ℕ) (ms : Members) (n : ℕ) → number_at bound k (object ms) ≡ Some n
    → Has (member_keys ms) k
number_found bound k ms n e = next_found (number_in bound) k ms n e

pub mapped : {A B P : Type 0} (f : A → B) (o : Option A) (b : B) → option_map f o ≡ Some b
    → ((a : A) → o ≡ Some a → f a ≡ b → P) → P
mapped f None b e k = absurd (none-some b e)
mapped f (Some a) b e k = k a refl (same_Some (f a) b e)

-- what a class is defined by, if this stands under the key of a sketch
abbrev source_from : Members → Option Data → Option ClassSource
source_from ms o =
    option_map_or (λ d. option_map Sketch (sketch_of d)) o (option_map File (file_at (codes "hex") (object ms)))

source_keys : (sketch : Data) (ms : Members) (loader : ℕ) (source : ClassSource) (o : Option Data)
    → member_count ms ≡ 3 → Has (member_keys ms) (codes "do") → Has (member_keys ms) (codes "loader")
    → get_member (codes "sketch") ms ≡ o → source_from ms o ≡ Some source
    → IsEventForm sketch ms (Define loader source)
unfolding event_data
source_keys sketch ms loader source None count asked told stands e =
    mapped File (file_at (codes "hex") (object ms)) source e
    (λ file read made. subst (λ (x : ClassSource). IsEventForm sketch ms (Define loader x)) made
    (named_alone (codes "do" ∷ codes "hex" ∷ codes "loader" ∷ []) ms
    ((refl, (refl, tt)), ((refl, tt), (tt, tt))) count
    (asked, (file_found (codes "hex") ms file read, (told, tt)))))
source_keys sketch ms loader source (Some d) count asked told stands e = mapped Sketch (sketch_of d) source e
    (λ s read made. subst (λ (x : ClassSource). IsEventForm sketch ms (Define loader x)) made
    (named_alone (codes "do" ∷ codes "loader" ∷ codes "sketch" ∷ []) ms
    ((refl, (refl, tt)), ((refl, tt), (tt, tt))) count
    (asked, (told, (found (codes "sketch") ms d stands, tt)))))

define_keys : (sketch : Data) (ms : Members) (a : AskedEvent) → member_count ms ≡ 3 → Has (member_keys ms) (codes "do")
    → define_of (object ms) ≡ Some a → IsEventForm sketch ms a
define_keys sketch ms a count asked e =
    option_and_then_some _ (number_at (2 ^ 32) (codes "loader") (object ms)) a e
    (λ loader is next. option_and_then_some _ (source_of (object ms)) a next
    (λ source read made. subst (IsEventForm sketch ms) (same_Some (Define loader source) a made)
    (source_keys sketch ms loader source (get_member (codes "sketch") ms) count asked
    (number_found (2 ^ 32) (codes "loader") ms loader is) refl read)))

delegate_keys : (sketch : Data) (ms : Members) (a : AskedEvent) → member_count ms ≡ 4 → Has (member_keys ms) (codes "do")
    → delegate_of (object ms) ≡ Some a → IsEventForm sketch ms a
unfolding event_data
delegate_keys sketch ms a count asked e = option_and_then_some _ (number_at (2 ^ 32) (codes "loader") (object ms)) a e
    (λ loader is next. option_and_then_some _ (number_at (2 ^ 32) (codes "to") (object ms)) a next
    (λ to here last. option_and_then_some _ (name_at (codes "name") (object ms)) a last
    (λ name there made. subst (IsEventForm sketch ms) (same_Some (Delegate loader name to) a made)
    (named_alone (codes "do" ∷ codes "loader" ∷ codes "name" ∷ codes "to" ∷ []) ms
    ((refl, (refl, (refl, tt))), ((refl, (refl, tt)), ((refl, tt), (tt, tt)))) count (
      asked,
      (
        number_found (2 ^ 32) (codes "loader") ms loader is,
        (
          next_found name_in (codes "name") ms name there,
          (number_found (2 ^ 32) (codes "to") ms to here, tt),
        ),
      ),
    )))))

request_keys : (sketch : Data) (ms : Members) (a : AskedEvent) → member_count ms ≡ 4 → Has (member_keys ms) (codes "do")
    → request_of (object ms) ≡ Some a → IsEventForm sketch ms a
unfolding event_data
request_keys sketch ms a count asked e = option_and_then_some _ (number_at (2 ^ 32) (codes "class") (object ms)) a e
    (λ class is next. option_and_then_some _ (number_at (2 ^ 16) (codes "method") (object ms)) a next
    (λ method here last. option_and_then_some _ (number_at (2 ^ 32) (codes "pc") (object ms)) a last
    (λ pc there made. subst (IsEventForm sketch ms)
    (same_Some (Request (record { class = class; method = method; pc = pc })) a made)
    (named_alone (codes "class" ∷ codes "do" ∷ codes "method" ∷ codes "pc" ∷ []) ms
    ((refl, (refl, (refl, tt))), ((refl, (refl, tt)), ((refl, tt), (tt, tt)))) count (
      number_found (2 ^ 32) (codes "class") ms class is,
      (
        asked,
        (
          number_found (2 ^ 16) (codes "method") ms method here,
          (number_found (2 ^ 32) (codes "pc") ms pc there, tt),
        ),
      ),
    )))))

install_keys : (sketch : Data) (ms : Members) (a : AskedEvent) → member_count ms ≡ 2 → Has (member_keys ms) (codes "do")
    → install_of (object ms) ≡ Some a → IsEventForm sketch ms a
unfolding event_data
install_keys sketch ms a count asked e = mapped Install (number_at (2 ^ 32) (codes "prepared") (object ms)) a e
    (λ batch is made. subst (IsEventForm sketch ms) made
    (named_alone (codes "do" ∷ codes "prepared" ∷ []) ms ((refl, tt), (tt, tt)) count
    (asked, (number_found (2 ^ 32) (codes "prepared") ms batch is, tt))))

retire_keys : (sketch : Data) (ms : Members) (a : AskedEvent) → member_count ms ≡ 2 → Has (member_keys ms) (codes "do")
    → retire_of (object ms) ≡ Some a → IsEventForm sketch ms a
unfolding event_data
retire_keys sketch ms a count asked e = mapped Retire (number_at (2 ^ 32) (codes "loader") (object ms)) a e
    (λ loader is made. subst (IsEventForm sketch ms) made
    (named_alone (codes "do" ∷ codes "loader" ∷ []) ms ((refl, tt), (tt, tt)) count
    (asked, (number_found (2 ^ 32) (codes "loader") ms loader is, tt))))

loader_keys : (sketch : Data) (ms : Members) (a : AskedEvent) → member_count ms ≡ 1 → Has (member_keys ms) (codes "do")
    → NewLoader ≡ a → IsEventForm sketch ms a
unfolding event_data
loader_keys sketch ms a count asked made = subst (IsEventForm sketch ms) made
    (named_alone (codes "do" ∷ []) ms (tt, tt) count (asked, tt))

new_call_site_keys : (sketch : Data) (ms : Members) (a : AskedEvent) → member_count ms ≡ 4 → Has (member_keys ms) (codes "do")
    → new_call_site_of (object ms) ≡ Some a → IsEventForm sketch ms a
unfolding event_data
new_call_site_keys sketch ms a count asked e = option_and_then_some _ (kind_at (codes "kind") (object ms)) a e
    (λ kind is next. option_and_then_some _ (method_type_at (codes "type") (object ms)) a next
    (λ ty here last. option_and_then_some _ (target_at (codes "target") (object ms)) a last
    (λ target there made. subst (IsEventForm sketch ms) (same_Some (NewCallSite kind ty target) a made)
    (named_alone (codes "do" ∷ codes "kind" ∷ codes "target" ∷ codes "type" ∷ []) ms
    ((refl, (refl, (refl, tt))), ((refl, (refl, tt)), ((refl, tt), (tt, tt)))) count (
      asked,
      (
        option_and_then_some kind_in (text_at (codes "kind") (object ms)) kind is
            (λ word read _. next_found as_str (codes "kind") ms word read),
        (
          next_found target_in (codes "target") ms target there,
          (
            option_and_then_some method_type (name_at (codes "type") (object ms)) ty here
                (λ name read _. next_found name_in (codes "type") ms name read),
            tt,
          ),
        ),
      ),
    )))))

set_target_keys : (sketch : Data) (ms : Members) (a : AskedEvent) → member_count ms ≡ 3 → Has (member_keys ms) (codes "do")
    → set_target_of (object ms) ≡ Some a → IsEventForm sketch ms a
unfolding event_data
set_target_keys sketch ms a count asked e = option_and_then_some _ (number_at (2 ^ 32) (codes "callsite") (object ms)) a e
    (λ call_site is next. option_and_then_some _ (target_at (codes "target") (object ms)) a next
    (λ target here made. subst (IsEventForm sketch ms) (same_Some (SetTarget call_site target) a made)
    (named_alone (codes "callsite" ∷ codes "do" ∷ codes "target" ∷ []) ms
    ((refl, (refl, tt)), ((refl, tt), (tt, tt))) count (
      number_found (2 ^ 32) (codes "callsite") ms call_site is,
      (asked, (next_found target_in (codes "target") ms target here, tt)),
    ))))

switch_keys : (sketch : Data) (ms : Members) (a : AskedEvent) → member_count ms ≡ 1 → Has (member_keys ms) (codes "do")
    → NewSwitch ≡ a → IsEventForm sketch ms a
unfolding event_data
switch_keys sketch ms a count asked made = subst (IsEventForm sketch ms) made
    (named_alone (codes "do" ∷ []) ms (tt, tt) count (asked, tt))

invalidate_keys : (sketch : Data) (ms : Members) (a : AskedEvent) → member_count ms ≡ 2 → Has (member_keys ms) (codes "do")
    → invalidate_of (object ms) ≡ Some a → IsEventForm sketch ms a
unfolding event_data
invalidate_keys sketch ms a count asked e = mapped Invalidate (numbers_at (codes "switches") (object ms)) a e
    (λ switches is made. subst (IsEventForm sketch ms) made
    (named_alone (codes "do" ∷ codes "switches" ∷ []) ms ((refl, tt), (tt, tt)) count
    (asked, (next_found (list_in (number_in (2 ^ 32))) (codes "switches") ms switches is, tt))))

bind_keys : (sketch : Data) (ms : Members) (a : AskedEvent) → member_count ms ≡ 3 → Has (member_keys ms) (codes "do")
    → bind_of (object ms) ≡ Some a → IsEventForm sketch ms a
unfolding event_data
bind_keys sketch ms a count asked e = option_and_then_some _ (number_at (2 ^ 32) (codes "site") (object ms)) a e
    (λ site is next. option_and_then_some _ (number_at (2 ^ 32) (codes "callsite") (object ms)) a next
    (λ call_site here made. subst (IsEventForm sketch ms) (same_Some (Bind site call_site) a made)
    (named_alone (codes "callsite" ∷ codes "do" ∷ codes "site" ∷ []) ms
    ((refl, (refl, tt)), ((refl, tt), (tt, tt))) count (
      number_found (2 ^ 32) (codes "callsite") ms call_site here,
      (asked, (number_found (2 ^ 32) (codes "site") ms site is, tt)),
    ))))

prepare_keys : (sketch : Data) (ms : Members) (c : Command) → member_count ms ≡ 2 → Has (member_keys ms) (codes "do")
    → prepare_of (object ms) ≡ Some c → IsForm sketch ms c
unfolding command_data
prepare_keys sketch ms c count asked e = mapped Prepare (numbers_at (codes "sites") (object ms)) c e
    (λ sites is made. subst (IsForm sketch ms) made
    (named_alone (codes "do" ∷ codes "sites" ∷ []) ms ((refl, tt), (tt, tt)) count
    (asked, (next_found (list_in (number_in (2 ^ 32))) (codes "sites") ms sites is, tt))))

-- a receiver may be named besides
named_or_not : (xs : Keys) → AreAmong xs (codes "do" ∷ codes "site" ∷ [])
    → AreAmong xs (codes "do" ∷ codes "recv" ∷ codes "site" ∷ [])
named_or_not [] h = tt
named_or_not (x ∷ xs) h = (
  by_test (bytes_eq x (codes "do"))
      (λ e. or_left (bytes_eq x (codes "do")) _ e)
      (λ e. or_right (bytes_eq x (codes "do")) _ (or_right (bytes_eq x (codes "recv")) _
      (in_rest (bytes_eq x (codes "do")) _ h.0 e))),
  named_or_not xs h.1,
)

call_keys : (sketch : Data) (ms : Members) (c : Command) → member_count ms ≡ 2 → Has (member_keys ms) (codes "do")
    → call_of (object ms) ≡ Some c → IsForm sketch ms c
unfolding command_data
call_keys sketch ms c count asked e = option_and_then_some _ (number_at (2 ^ 32) (codes "site") (object ms)) c e
    (λ site is made. subst (IsForm sketch ms) (same_Some (Call site Null) c made) (named_or_not (member_keys ms)
    (named_alone (codes "do" ∷ codes "site" ∷ []) ms ((refl, tt), (tt, tt)) count
    (asked, (number_found (2 ^ 32) (codes "site") ms site is, tt)))))

call_on_keys : (sketch : Data) (ms : Members) (c : Command) → member_count ms ≡ 3 → Has (member_keys ms) (codes "do")
    → call_on_of (object ms) ≡ Some c → IsForm sketch ms c
unfolding command_data
call_on_keys sketch ms c count asked e = option_and_then_some _ (number_at (2 ^ 32) (codes "site") (object ms)) c e
    (λ site is next. option_and_then_some _ (get (codes "recv") (object ms)) c next
    (λ value there last. option_and_then_some _ (recv_in value) c last
    (λ recv read made. subst (IsForm sketch ms) (same_Some (Call site recv) c made)
    (named_alone (codes "do" ∷ codes "recv" ∷ codes "site" ∷ []) ms
    ((refl, (refl, tt)), ((refl, tt), (tt, tt))) count (
      asked,
      (
        found (codes "recv") ms value there,
        (number_found (2 ^ 32) (codes "site") ms site is, tt),
      ),
    )))))

links_keys : (sketch : Data) (ms : Members) (c : Command) → member_count ms ≡ 1 → Has (member_keys ms) (codes "do")
    → Links ≡ c → IsForm sketch ms c
unfolding command_data
links_keys sketch ms c count asked made = subst (IsForm sketch ms) made
    (named_alone (codes "do" ∷ []) ms (tt, tt) count (asked, tt))

-- the word and the count fit here, or further on
here_or_on : {A P : Type 0} (b : Bool) (count n : ℕ) (o rest : Option A) (x : A)
    → (if b && (count == n) then o else rest) ≡ Some x → (count ≡ n → o ≡ Some x → P) → (rest ≡ Some x → P) → P
here_or_on false count n o rest x e here on = on e
here_or_on true count n o rest x e here on = by_test (count == n)
    (λ same. here (eqb-true count n same) (rw same at e))
    (λ other. on (rw other at e))

call_site_word_keys : (sketch : Data) (word : List ℕ) (ms : Members) (a : AskedEvent) → Has (member_keys ms) (codes "do")
    → by_call_site_word word (member_count ms) (object ms) ≡ Some a → IsEventForm sketch ms a
call_site_word_keys sketch word ms a asked e =
    here_or_on (bytes_eq word (codes "callsite")) (member_count ms) 4 _ _ a e
    (λ n is. new_call_site_keys sketch ms a n asked is) (λ e1.
    here_or_on (bytes_eq word (codes "target")) (member_count ms) 3 _ _ a e1
    (λ n is. set_target_keys sketch ms a n asked is) (λ e2.
    here_or_on (bytes_eq word (codes "switch")) (member_count ms) 1 _ _ a e2
    (λ n is. switch_keys sketch ms a n asked (same_Some NewSwitch a is)) (λ e3.
    here_or_on (bytes_eq word (codes "invalidate")) (member_count ms) 2 _ _ a e3
    (λ n is. invalidate_keys sketch ms a n asked is) (λ e4.
    here_or_on (bytes_eq word (codes "bind")) (member_count ms) 3 _ _ a e4
    (λ n is. bind_keys sketch ms a n asked is) (λ e5.
    absurd (none-some a e5))))))

event_word_keys : (sketch : Data) (word : List ℕ) (ms : Members) (a : AskedEvent) → Has (member_keys ms) (codes "do")
    → by_event_word word (member_count ms) (object ms) ≡ Some a → IsEventForm sketch ms a
event_word_keys sketch word ms a asked e =
    here_or_on (bytes_eq word (codes "loader")) (member_count ms) 1 _ _ a e
    (λ n is. loader_keys sketch ms a n asked (same_Some NewLoader a is)) (λ e1.
    here_or_on (bytes_eq word (codes "define")) (member_count ms) 3 _ _ a e1
    (λ n is. define_keys sketch ms a n asked is) (λ e2.
    here_or_on (bytes_eq word (codes "delegate")) (member_count ms) 4 _ _ a e2
    (λ n is. delegate_keys sketch ms a n asked is) (λ e3.
    here_or_on (bytes_eq word (codes "request")) (member_count ms) 4 _ _ a e3
    (λ n is. request_keys sketch ms a n asked is) (λ e4.
    here_or_on (bytes_eq word (codes "install")) (member_count ms) 2 _ _ a e4
    (λ n is. install_keys sketch ms a n asked is) (λ e5.
    here_or_on (bytes_eq word (codes "retire")) (member_count ms) 2 _ _ a e5
    (λ n is. retire_keys sketch ms a n asked is) (λ e6.
    call_site_word_keys sketch word ms a asked e6))))))

applied_keys : (sketch : Data) (word : List ℕ) (ms : Members) (c : Command) → Has (member_keys ms) (codes "do")
    → option_map Apply (by_event_word word (member_count ms) (object ms)) ≡ Some c → IsForm sketch ms c
unfolding command_data
applied_keys sketch word ms c asked e = mapped Apply (by_event_word word (member_count ms) (object ms)) c e
    (λ a is made. subst (IsForm sketch ms) made (event_word_keys sketch word ms a asked is))

word_keys : (sketch : Data) (word : List ℕ) (ms : Members) (c : Command) → Has (member_keys ms) (codes "do")
    → by_word word (member_count ms) (object ms) ≡ Some c → IsForm sketch ms c
word_keys sketch word ms c asked e =
    here_or_on (bytes_eq word (codes "prepare")) (member_count ms) 2 _ _ c e
    (λ n is. prepare_keys sketch ms c n asked is) (λ e1.
    here_or_on (bytes_eq word (codes "call")) (member_count ms) 2 _ _ c e1
    (λ n is. call_keys sketch ms c n asked is) (λ e2.
    here_or_on (bytes_eq word (codes "call")) (member_count ms) 3 _ _ c e2
    (λ n is. call_on_keys sketch ms c n asked is) (λ e3.
    here_or_on (bytes_eq word (codes "links")) (member_count ms) 1 _ _ c e3
    (λ n is. links_keys sketch ms c n asked (same_Some Links c is)) (λ e4.
    applied_keys sketch word ms c asked e4))))

pub form_keys : (d : Data) (c : Command) (sketch : Data) → command_of d ≡ Some c
    → AreAmong (keys_of d) (keys_of (command_data sketch c))
form_keys null c sketch e = absurd (none-some c e)
form_keys (boolean b) c sketch e = absurd (none-some c e)
form_keys (number n) c sketch e = absurd (none-some c e)
form_keys (string s) c sketch e = absurd (none-some c e)
form_keys (array ds) c sketch e = absurd (none-some c e)
form_keys (object ms) c sketch e = option_and_then_some _ (text_at (codes "do") (object ms)) c e
    (λ word is next. word_keys sketch word ms c (next_found as_str (codes "do") ms word is) next)
