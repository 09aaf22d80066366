-- Call sites and switch points, over the whole history.
use Rattle.std.specs.Prelude.{◌≡◌, ℕ, Bool, true, false, zero, suc, List, [], ◌∷◌, ◌++◌, map, length, Some, Ok, Err, codes, refl}
use Rattle.jl_types.specs.Events.Limits.{fixed}
use Rattle.jl_class.specs.Class.{Method}
use Rattle.jl_class.specs.declared.site.Kind.TheVariants.{Dynamic}
use Rattle.jl_class.specs.declared.site.Operand.TheVariants as operand
use Rattle.jl_types.specs.declared.ids.MethodId.{MethodId}
use Rattle.jl_types.specs.declared.answer.Recv.TheVariants.{Null}
use Rattle.jl_types.specs.declared.answer.Answer.TheVariants as answer
use Rattle.jl_types.specs.declared.answer.Unlinked.TheVariants.{Unbound}
use Rattle.jl_types.specs.declared.link.Link.TheVariants.{Plain}
use Rattle.jl_types.specs.declared.target.CallSiteKind.TheVariants.{Constant, Mutable, Volatile}
use Rattle.jl_types.specs.Values.Target as target
use Rattle.jl_types.specs.Values.Target.{Target}
use Rattle.jl_types.specs.Events.Event.{Event}
use Rattle.jl_types.specs.declared.event.EventOf.TheVariants.{Define, Request, NewCallSite, SetTarget, NewSwitch, Invalidate, Bind, Install}
use Rattle.jl_types.specs.declared.event.Made.TheVariants as made
use Rattle.jl_types.specs.declared.refusal.Refusal.TheVariants as refusal
use Rattle.jl_types.specs.declared.refusal.CallSiteFault.TheVariants as fault
use Rattle.std.specs.List.{range_with_len}
use Rattle.jl_types.specs.Linkage.Targets.{is_valid}
use Rattle.jl_types.specs.Linkage.Links.{scratch}
use Rattle.jl_types.specs.Linkage.Calls.{dispatch}
use Rattle.jl_types.specs.Events.Verdict.{verdict}
use Rattle.jl_types.specs.Events.History.{world_after, installed_links, dropped, reply}
use Rattle.jl_types.proofs.Rows.Sketch.{method, file}

-- with an invokedynamic of ()V at pc 0
abbrev pub bootstrapping : Method
bootstrapping = record {
  name = codes "r";
  ty = codes "()V";
  flags = 9;
  sites = record { pc = 0; kind = Dynamic; operand = operand.CallSite (record { bootstrap = 0; name = codes "r"; ty = codes "()V" }) } ∷ [];
}

-- T 1 has static methods m, n and r; its invokedynamic is site 0
abbrev pub begun : List Event
begun = Define 0 (file (codes "java/lang/Object") 33 [])
    ∷ Define 0 (record (file (codes "T") 33 (method 9 (codes "m") ∷ method 9 (codes "n") ∷ bootstrapping ∷ []))
    { superclass = Some (codes "java/lang/Object") })
    ∷ Request (record { class = 1; method = 2; pc = 0 })
    ∷ NewSwitch
    ∷ []

abbrev pub m : MethodId
m = record { class = 1; index = 0 }

abbrev pub n : MethodId
n = record { class = 1; index = 1 }

unbound : dispatch (world_after begun) 0 Null ≡ answer.Unlinked Unbound
unbound = refl

-- a mutable call site with this target, bound
abbrev bound : Target → List Event
bound t = begun ++ NewCallSite Mutable (codes "()V") t ∷ Bind 0 0 ∷ []

prepared : scratch (world_after (bound (target.Method m))) 0 ≡ Ok (Plain m)
prepared = refl

bound_for_good : verdict (fixed 65536) (world_after (bound (target.Method m))) (Bind 0 0) ≡ Err (refusal.AlreadyBound 0)
bound_for_good = refl

-- a new target drops the link, and the old target doesn't bring it back
abbrev linked : List Event
linked = bound (target.Method m) ++ SetTarget 0 (target.Method n) ∷ SetTarget 0 (target.Method m) ∷ Install ((0, Plain m) ∷ []) ∷ []

retargeted : dropped linked (SetTarget 0 (target.Method n)) ≡ 0 ∷ []
retargeted = refl

old_target : dropped (linked ++ SetTarget 0 (target.Method n) ∷ []) (SetTarget 0 (target.Method m)) ≡ []
old_target = refl

stays_pending : installed_links (linked ++ SetTarget 0 (target.Method n) ∷ SetTarget 0 (target.Method m) ∷ []) ≡ []
stays_pending = refl

-- a guard on point 0 with m first
abbrev guard : MethodId → Target
guard fallback = target.Guard 0 (target.Method m) (target.Method fallback)

abbrev guarded : MethodId → List Event
guarded fallback = bound (guard fallback) ++ Install ((0, Plain m) ∷ []) ∷ []

same_fallback : dropped (guarded m) (Invalidate (0 ∷ [])) ≡ []
same_fallback = refl

still_linked : installed_links (guarded m ++ Invalidate (0 ∷ []) ∷ []) ≡ (0, Plain m) ∷ []
still_linked = refl

other_fallback : dropped (guarded n) (Invalidate (0 ∷ [])) ≡ 0 ∷ []
other_fallback = refl

runs_fallback : dispatch (world_after (guarded n ++ Invalidate (0 ∷ []) ∷ [])) 0 Null ≡ answer.Run n
runs_fallback = refl

invalid_for_good : dropped (guarded n ++ Invalidate (0 ∷ []) ∷ []) (Invalidate (0 ∷ [])) ≡ []
invalid_for_good = refl

no_point : verdict (fixed 65536) (world_after begun) (Invalidate (0 ∷ 1 ∷ [])) ≡ Err (refusal.CallSite fault.UnknownSwitch)
no_point = refl

-- ---- targets that aren't taken

abbrev constant : List Event
constant = begun ++ NewCallSite Constant (codes "()V") (target.Method m) ∷ []

kept_constant : verdict (fixed 65536) (world_after constant) (SetTarget 0 (target.Method n)) ≡ Err (refusal.CallSite fault.Constant)
kept_constant = refl

wrong_type : verdict (fixed 65536) (world_after begun) (NewCallSite Mutable (codes "()I") (target.Method m)) ≡ Err (refusal.CallSite fault.WrongType)
wrong_type = refl

no_method : verdict (fixed 65536) (world_after begun) (NewCallSite Mutable (codes "()V") (target.Method (record { class = 1; index = 3 }))) ≡ Err
    (refusal.CallSite fault.UnknownMethod)
no_method = refl

-- so many guards, one in the other
abbrev deep : ℕ → Target
deep zero = target.Method m
deep (suc k) = target.Guard 0 (deep k) (target.Method n)

deepest : verdict (fixed 65536) (world_after begun) (NewCallSite Mutable (codes "()V") (deep 63)) ≡ Ok (made.CallSite 0)
deepest = refl

too_deep : verdict (fixed 65536) (world_after begun) (NewCallSite Mutable (codes "()V") (deep 64)) ≡ Err (refusal.CallSite fault.TooDeep)
too_deep = refl

-- guards within guards, each in the other's fallback
abbrev deep_fallback : ℕ → Target
deep_fallback zero = target.Method m
deep_fallback (suc k) = target.Guard 0 (target.Method n) (deep_fallback k)

deepest_fallback : verdict (fixed 65536) (world_after begun) (NewCallSite Mutable (codes "()V") (deep_fallback 63)) ≡ Ok (made.CallSite 0)
deepest_fallback = refl

too_deep_fallback : verdict (fixed 65536) (world_after begun) (NewCallSite Mutable (codes "()V") (deep_fallback 64)) ≡ Err (refusal.CallSite fault.TooDeep)
too_deep_fallback = refl

-- ---- new targets that are taken

retargets : reply (fixed 65536) linked (SetTarget 0 (target.Method n)) ≡ Ok (record { made = made.Nothing; dropped = 0 ∷ [] })
retargets = refl

-- a volatile call site, bound
abbrev volatile : List Event → List Event
volatile more = begun ++ NewCallSite Volatile (codes "()V") (target.Method m) ∷ Bind 0 0 ∷ more

takes_a_target : verdict (fixed 65536) (world_after (volatile [])) (SetTarget 0 (target.Method n)) ≡ Ok made.Nothing
takes_a_target = refl

takes_a_second : verdict (fixed 65536) (world_after (volatile (SetTarget 0 (target.Method n) ∷ []))) (SetTarget 0 (target.Method m)) ≡ Ok made.Nothing
takes_a_second = refl

runs_the_first : dispatch (world_after (volatile (SetTarget 0 (target.Method n) ∷ []))) 0 Null ≡ answer.Run n
runs_the_first = refl

runs_the_second : dispatch (world_after (volatile (SetTarget 0 (target.Method n) ∷ SetTarget 0 (target.Method m) ∷ []))) 0 Null ≡ answer.Run m
runs_the_second = refl

-- of two call sites the one that is named
other_keeps_its_target : dispatch (world_after (volatile (NewCallSite Mutable (codes "()V") (target.Method m) ∷ SetTarget 1 (target.Method n) ∷ []))) 0 Null
    ≡ answer.Run m
other_keeps_its_target = refl

-- ---- invalid points

-- point 0, and two more
abbrev three : List Event → List Event
three more = begun ++ NewSwitch ∷ NewSwitch ∷ more

abbrev left_by : List Event → List Bool
left_by events = let sites = (world_after (three events)).sites in map (is_valid sites) (range_with_len 0 (length sites.switches))

invalidates : reply (fixed 65536) (guarded n) (Invalidate (0 ∷ [])) ≡ Ok (record { made = made.Nothing; dropped = 0 ∷ [] })
invalidates = refl

none_is_accepted : verdict (fixed 65536) (world_after (three [])) (Invalidate []) ≡ Ok made.Nothing
none_is_accepted = refl

invalid_is_accepted : verdict (fixed 65536) (world_after (three (Invalidate (1 ∷ []) ∷ []))) (Invalidate (1 ∷ [])) ≡ Ok made.Nothing
invalid_is_accepted = refl

twice_is_accepted : verdict (fixed 65536) (world_after (three [])) (Invalidate (1 ∷ 1 ∷ [])) ≡ Ok made.Nothing
twice_is_accepted = refl

none_is_made_invalid : left_by (Invalidate [] ∷ []) ≡ true ∷ true ∷ true ∷ []
none_is_made_invalid = refl

one_is_made_invalid : left_by (Invalidate (1 ∷ []) ∷ []) ≡ true ∷ false ∷ true ∷ []
one_is_made_invalid = refl

both_are_made_invalid : left_by (Invalidate (2 ∷ 0 ∷ []) ∷ []) ≡ false ∷ true ∷ false ∷ []
both_are_made_invalid = refl

twice_is_once : left_by (Invalidate (1 ∷ 1 ∷ []) ∷ []) ≡ true ∷ false ∷ true ∷ []
twice_is_once = refl

none_is_made_valid : left_by (Invalidate (1 ∷ []) ∷ Invalidate (1 ∷ []) ∷ Invalidate (2 ∷ []) ∷ Invalidate [] ∷ []) ≡ true ∷ false ∷ false ∷ []
none_is_made_valid = refl

-- a new point is valid, whatever the others are
new_is_valid : left_by (Invalidate (0 ∷ 1 ∷ 2 ∷ []) ∷ NewSwitch ∷ []) ≡ false ∷ false ∷ false ∷ true ∷ []
new_is_valid = refl
