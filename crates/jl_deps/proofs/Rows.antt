-- What forms say, what is found in a small index, which lists rise, and which index is that of some links.
use Rattle.std.specs.Prelude.{◌≡◌, ℕ, ◌<◌, ◌==◌, Bool, true, false, cond, List, [], ◌∷◌, ◌++◌, Option, Some, None, length}
use Rattle.std.specs.Prelude.{option_map, codes, refl, if◌then◌else◌}
use Rattle.std.proofs.Common.{ap, arith}
use Rattle.std.proofs.lemmas.Bool.Decides.{Decides-eqb}
use Rattle.jl_types.specs.declared.answer.Throwable.{Throwable}
use Rattle.jl_types.specs.declared.answer.Unlinked.TheVariants.{NoSite}
use Rattle.jl_types.specs.declared.event.EventOf.TheVariants.{NewCallSite, SetTarget, NewSwitch, Invalidate, Bind}
use Rattle.jl_types.specs.declared.ids.MethodId.{MethodId}
use Rattle.jl_types.specs.declared.key.Key.{Key}
use Rattle.jl_types.specs.declared.key.Key.TheVariants.{Receivers, Target, Valid}
use Rattle.jl_types.specs.declared.link.Link.{Link}
use Rattle.jl_types.specs.declared.link.Link.TheVariants as link
use Rattle.jl_types.specs.declared.target.CallSiteKind.TheVariants.{Mutable}
use Rattle.jl_types.specs.Values.Target as target
use Rattle.jl_types.specs.Values.World.{World, Classes}
use Rattle.jl_types.specs.Linkage.Stages.{Selector, ByVirtual, ByInterface, BySpecial, Stage, Waits, Fails, Calls, Selects}
use Rattle.jl_types.specs.Events.History.{world_after}
use Rattle.jl_types.proofs.BySite.{sites_rise}
use Rattle.jl_types.proofs.Rows.CallSites.{begun, m, n}
use Rattle.jl_types.proofs.Rows.Sketch.{object, class, classes, class_ref, method}
use Rattle.jl_deps.specs.declared.form.Form.{Form}
use Rattle.jl_deps.specs.declared.form.Rests.{Rests}
use Rattle.jl_deps.specs.declared.form.Form.TheVariants.{Virtual, Interface, Other}
use Rattle.jl_deps.specs.Forms.{selects, form_of, rests}
use Rattle.jl_deps.specs.Indexes.{rests_at, rests_if, AreRising, are_together, is_asked, AreAsked, touched_by, IsIndex, StaysIndexed}

-- ---- forms: A 1 has f, and a private g

abbrev family : Classes
family = classes (object ∷ class (codes "A") 33 (Some 0) [] (method 1 (codes "f") ∷ method 2 (codes "g") ∷ []) ∷ [])

abbrev f : MethodId
f = record { class = 1; index = 0 }

abbrev g : MethodId
g = record { class = 1; index = 1 }

-- an invocation of a method, by the class's caller itself
abbrev invoking : Selector → MethodId → Stage
invoking selector method = Selects (record { selector = selector; caller = 1; named = 1; ref = class_ref (codes "A") (codes "f"); method = method })

by_virtual : form_of family (invoking ByVirtual f) ≡ Virtual f
by_virtual = refl

by_interface : form_of family (invoking ByInterface f) ≡ Interface f
by_interface = refl

-- a private method is run whatever the receiver's class is; an invokeinterface asks of the receiver all the same
of_a_private_method : form_of family (invoking ByVirtual g) ≡ Other
of_a_private_method = refl

of_a_private_interface_method : form_of family (invoking ByInterface g) ≡ Interface g
of_a_private_interface_method = refl

by_special : form_of family (invoking BySpecial f) ≡ Other
by_special = refl

without_receiver : form_of family (Calls m) ≡ Other
without_receiver = refl

without_method : (throwable : Throwable) → form_of family (Fails throwable) ≡ Other
without_method throwable = refl

that_waits : form_of family (Waits NoSite) ≡ Other
that_waits = refl

selects_by_virtual : selects (Virtual f) ≡ true
selects_by_virtual = refl

selects_by_interface : selects (Interface f) ≡ true
selects_by_interface = refl

other_selects_nothing : selects Other ≡ false
other_selects_nothing = refl

-- ---- the footprints of sites 1, 4 and 7, the last of which rests on nothing

-- a link of which no form is known
abbrev on : List Key → Rests
on keys = record { footprint = keys; form = Other }

abbrev index : List (ℕ × Rests)
index = (1, on (Receivers 1 ∷ [])) ∷ (4, on (Target 0 ∷ Valid 2 ∷ [])) ∷ (7, on []) ∷ []

first_site : rests_at index 1 ≡ Some (on (Receivers 1 ∷ []))
first_site = refl

rests_on_nothing : rests_at index 7 ≡ Some (on [])
rests_on_nothing = refl

site_without : rests_at index 2 ≡ None
site_without = refl

-- ---- what keys touch

one_key : touched_by index (Receivers 1 ∷ []) ≡ 1 ∷ []
one_key = refl

two_keys_of_one : touched_by index (Target 0 ∷ Valid 2 ∷ []) ≡ 4 ∷ []
two_keys_of_one = refl

by_rising_site : touched_by index (Valid 2 ∷ Receivers 1 ∷ []) ≡ 1 ∷ 4 ∷ []
by_rising_site = refl

other_keys : touched_by index (Receivers 0 ∷ Receivers 2 ∷ Target 1 ∷ Valid 1 ∷ []) ≡ []
other_keys = refl

no_keys : touched_by index [] ≡ []
no_keys = refl

-- ---- which of them are together

-- on the receivers of A: two that select f as an invokevirtual, one of which rests on a call site, too, one that selects g, one that selects f
-- as an invokeinterface, and one of no such form; on those of class 2 one that selects f
abbrev grouped : List (ℕ × Rests)
grouped = (2, record { footprint = Receivers 1 ∷ []; form = Virtual f })
    ∷ (3, record { footprint = Receivers 1 ∷ Target 0 ∷ []; form = Virtual f })
    ∷ (5, record { footprint = Receivers 1 ∷ []; form = Virtual g })
    ∷ (6, record { footprint = Receivers 1 ∷ []; form = Interface f })
    ∷ (7, on (Receivers 1 ∷ []))
    ∷ (8, record { footprint = Receivers 2 ∷ []; form = Virtual f })
    ∷ (9, on (Receivers 1 ∷ []))
    ∷ []

alike : are_together grouped 2 3 ≡ true
alike = refl

turned : are_together grouped 3 2 ≡ true
turned = refl

itself : are_together grouped 2 2 ≡ true
itself = refl

other_method : are_together grouped 2 5 ≡ false
other_method = refl

other_instruction : are_together grouped 2 6 ≡ false
other_instruction = refl

other_class : are_together grouped 2 8 ≡ false
other_class = refl

-- sites that don't select are together with none
select_nothing : are_together grouped 7 9 ≡ false
select_nothing = refl

not_there : are_together grouped 2 4 ≡ false
not_there = refl

asked_itself : is_asked grouped (7 ∷ []) 7 ≡ true
asked_itself = refl

asked_by_another : is_asked grouped (7 ∷ 3 ∷ []) 2 ≡ true
asked_by_another = refl

asked_by_none : is_asked grouped (7 ∷ 3 ∷ []) 5 ≡ false
asked_by_none = refl

-- one of each group, and all that don't select
abbrev AreRowsAsked : List ℕ → Type 0
AreRowsAsked = AreAsked grouped (Receivers 1 ∷ [])

touched_alone : ¬ AreRowsAsked (2 ∷ 5 ∷ 6 ∷ 7 ∷ 8 ∷ 9 ∷ [])
touched_alone h = let e = h.touched 8 refl in cc

each_is_asked : ¬ AreRowsAsked (2 ∷ 5 ∷ 6 ∷ 7 ∷ [])
each_is_asked h = let e = h.all 9 refl in cc

each_group_is_asked : ¬ AreRowsAsked (2 ∷ 6 ∷ 7 ∷ 9 ∷ [])
each_group_is_asked h = let e = h.all 5 refl in cc

asked_rise : ¬ AreRowsAsked (5 ∷ 2 ∷ 6 ∷ 7 ∷ 9 ∷ [])
asked_rise h = let lt : 5 < 2 = h.rising.0.0 in omega (arith, lt)

all_forms : touched_by grouped (Receivers 1 ∷ []) ≡ 2 ∷ 3 ∷ 5 ∷ 6 ∷ 7 ∷ 9 ∷ []
all_forms = refl

-- ---- order

rising : AreRising index
rising = sites_rise ((7, on []) ∷ (4, on (Target 0 ∷ Valid 2 ∷ [])) ∷ (1, on (Receivers 1 ∷ [])) ∷ [])

falling : ¬ AreRising ((4, on []) ∷ (1, on []) ∷ [])
falling h = let lt = h 0 1 (0, on []) (omega arith) (omega arith) in omega arith

site_twice : ¬ AreRising ((1, on []) ∷ (1, on (Target 0 ∷ [])) ∷ [])
site_twice h = let lt = h 0 1 (0, on []) (omega arith) (omega arith) in omega arith

-- ---- site 0 is an invokedynamic, bound to a call site with a target

abbrev with_target : target.Target → World
with_target t = world_after (begun ++ NewCallSite Mutable (codes "()V") t ∷ Bind 0 0 ∷ [])

abbrev runs_m : World
runs_m = with_target (target.Method m)

abbrev none : ℕ → Option Link
none s = None

abbrev plain : ℕ → Option Link
plain s = Some (link.Plain m)

-- how many keys there are
abbrev how_many : Option Rests → ℕ
how_many None = 0
how_many (Some r) = length r.footprint

-- a number of the form
abbrev kind_by : Form → ℕ
kind_by (Virtual method) = 0
kind_by Other = 1
kind_by (Interface method) = 2

abbrev kind_of : Option Rests → ℕ
kind_of None = 3
kind_of (Some r) = kind_by r.form

nothing_linked : IsIndex runs_m none []
nothing_linked s = refl

-- site 1 alone, which nobody requested, so that it rests on nothing
abbrev one_linked : ℕ → Option Link
one_linked s = if 1 == s then Some (link.Plain m) else None

one_site : IsIndex runs_m one_linked ((1, on []) ∷ [])
one_site s = by_site (1 == s) refl
  where
    by_site : (b : Bool) → (1 == s) ≡ b → option_map (λ row. row.1) (cond {A = Option (ℕ × Rests)} b (Some (1, on [])) None)
        ≡ rests_if runs_m s (if b then Some (link.Plain m) else None)
    by_site true is = ap (λ (k : ℕ). Some (rests runs_m k)) ((Decides-eqb 1 s).0 is)
    by_site false is = refl

linked_site_missing : ¬ IsIndex runs_m plain []
linked_site_missing h = let e = h 0 in cc

pending_site_there : ¬ IsIndex runs_m none ((0, on (Target 0 ∷ [])) ∷ [])
pending_site_there h = let e = h 0 in cc

other_footprint : ¬ IsIndex runs_m plain ((0, on []) ∷ [])
other_footprint h = let e : 0 ≡ 1 = ap how_many (h 0) in omega (arith, e)

other_form : ¬ IsIndex runs_m plain ((0, record { footprint = Target 0 ∷ []; form = Virtual f }) ∷ [])
other_form h = let e : 0 ≡ 1 = ap kind_of (h 0) in omega (arith, e)

-- ---- what an event leaves

stays : StaysIndexed runs_m NewSwitch plain ((0, on (Target 0 ∷ [])) ∷ []) 0
stays = record { link = refl; rests_on = refl }

pending_stays : StaysIndexed runs_m (SetTarget 0 (target.Method n)) none [] 0
pending_stays = record { link = refl; rests_on = refl }

link_goes : ¬ StaysIndexed runs_m (SetTarget 0 (target.Method n)) plain ((0, on (Target 0 ∷ [])) ∷ []) 0
link_goes h = let e = h.link in cc

-- m is run on both ways of the guard, so the link stays, and rests on less
point_goes : ¬ StaysIndexed (with_target (target.Guard 0 (target.Method m) (target.Method m))) (Invalidate (0 ∷ [])) plain
    ((0, on (Target 0 ∷ Valid 0 ∷ [])) ∷ []) 0
point_goes h = let e : 1 ≡ 2 = ap how_many h.rests_on in omega (arith, e)
