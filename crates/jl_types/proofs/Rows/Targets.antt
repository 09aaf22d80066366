-- Why targets and bindings aren't taken (java.lang.invoke), each reason once, and in their order.
use Rattle.std.specs.Prelude.{◌≡◌, ℕ, zero, suc, List, [], ◌∷◌, ◌++◌, Some, Ok, Err, Result, codes, refl}
use Rattle.jl_types.specs.Events.Limits.{fixed}
use Rattle.jl_class.specs.Class.{Method}
use Rattle.jl_class.specs.declared.site.Kind.TheVariants.{Dynamic, Static}
use Rattle.jl_class.specs.declared.site.Operand.TheVariants as operand
use Rattle.jl_types.specs.declared.target.CallSiteKind.TheVariants.{Constant, Mutable}
use Rattle.jl_types.specs.Values.Target as target
use Rattle.jl_types.specs.Values.Target.{Target}
use Rattle.jl_types.specs.Events.Event.{Event}
use Rattle.jl_types.specs.declared.event.EventOf.TheVariants.{Define, Request, NewCallSite, SetTarget, NewSwitch, Bind}
use Rattle.jl_types.specs.declared.event.Made.{Made}
use Rattle.jl_types.specs.declared.event.Made.TheVariants as made
use Rattle.jl_types.specs.declared.refusal.Refusal.{Refusal}
use Rattle.jl_types.specs.declared.refusal.Refusal.TheVariants as refusal
use Rattle.jl_types.specs.declared.refusal.CallSiteFault.TheVariants as fault
use Rattle.jl_types.specs.Events.Verdict.{verdict}
use Rattle.jl_types.specs.Events.History.{world_after}
use Rattle.jl_types.proofs.Rows.Sketch.{method, file, calling, class_ref}

abbrev typed : ℕ → List ℕ → List ℕ → Method
typed flags name ty = record { name = name; ty = ty; flags = flags; sites = [] }

abbrev bootstrapping : Method
bootstrapping = record {
  name = codes "r";
  ty = codes "()V";
  flags = 9;
  sites = record { pc = 0; kind = Dynamic; operand = operand.CallSite (record { bootstrap = 0; name = codes "r"; ty = codes "()V" }) } ∷ [];
}

abbrev methods : List Method
methods = method 9 (codes "m")
    ∷ method 1 (codes "g")
    ∷ typed 9 (codes "i") (codes "()I")
    ∷ method 9 (codes "<clinit>")
    ∷ bootstrapping
    ∷ calling 9 (codes "s") Static (class_ref (codes "T") (codes "m"))
    ∷ []

-- T 1 has a static m, an instance g, a static i that gives a number, a class initializer, an invokedynamic (site 0) and an
-- invokestatic (site 1); call site 0 of ()V is mutable, 1 of ()V constant, 2 of ()I mutable; point 0 is valid
abbrev before : List Event
before = Define 0 (file (codes "java/lang/Object") 33 [])
    ∷ Define 0 (record (file (codes "T") 33 methods) { superclass = Some (codes "java/lang/Object") })
    ∷ Request (record { class = 1; method = 4; pc = 0 })
    ∷ Request (record { class = 1; method = 5; pc = 0 })
    ∷ NewSwitch
    ∷ NewCallSite Mutable (codes "()V") (target.Method (record { class = 1; index = 0 }))
    ∷ NewCallSite Constant (codes "()V") (target.Method (record { class = 1; index = 0 }))
    ∷ NewCallSite Mutable (codes "()I") (target.Method (record { class = 1; index = 2 }))
    ∷ []

abbrev answers : Event → Result Made Refusal
answers e = verdict (fixed 65536) (world_after before) e

abbrev of : ℕ → Target
of index = target.Method (record { class = 1; index = index })

-- ---- methods

instance_method : answers (SetTarget 0 (of 1)) ≡ Err (refusal.CallSite fault.NotStatic)
instance_method = refl

other_type : answers (SetTarget 0 (of 2)) ≡ Err (refusal.CallSite fault.WrongType)
other_type = refl

initializer : answers (SetTarget 0 (of 3)) ≡ Err (refusal.CallSite fault.UnknownMethod)
initializer = refl

no_class : answers (SetTarget 0 (target.Method (record { class = 9; index = 0 }))) ≡ Err (refusal.CallSite fault.UnknownMethod)
no_class = refl

-- not static comes before another type
static_before_type : answers (SetTarget 2 (of 1)) ≡ Err (refusal.CallSite fault.NotStatic)
static_before_type = refl

-- ---- guards

no_point : answers (SetTarget 0 (target.Guard 1 (of 0) (of 0))) ≡ Err (refusal.CallSite fault.UnknownSwitch)
no_point = refl

point_before_parts : answers (SetTarget 0 (target.Guard 1 (of 9) (of 9))) ≡ Err (refusal.CallSite fault.UnknownSwitch)
point_before_parts = refl

first_before_fallback : answers (SetTarget 0 (target.Guard 0 (of 1) (of 9))) ≡ Err (refusal.CallSite fault.NotStatic)
first_before_fallback = refl

untaken_part : answers (SetTarget 0 (target.Guard 0 (of 0) (of 2))) ≡ Err (refusal.CallSite fault.WrongType)
untaken_part = refl

-- ---- the call site

no_call_site : answers (SetTarget 3 (of 1)) ≡ Err (refusal.CallSite fault.UnknownCallSite)
no_call_site = refl

constant_before_target : answers (SetTarget 1 (of 1)) ≡ Err (refusal.CallSite fault.Constant)
constant_before_target = refl

-- ---- size: 127 guards and 128 methods, eight deep, and one guard more

abbrev tree : ℕ → Target
tree zero = of 0
tree (suc k) = target.Guard 0 (tree k) (tree k)

many_parts : answers (NewCallSite Mutable (codes "()V") (tree 7)) ≡ Ok (made.CallSite 3)
many_parts = refl

too_many_parts : answers (NewCallSite Mutable (codes "()V") (target.Guard 0 (tree 7) (of 0))) ≡ Err (refusal.CallSite fault.TooDeep)
too_many_parts = refl

size_before_parts : answers (SetTarget 0 (target.Guard 9 (tree 7) (of 0))) ≡ Err (refusal.CallSite fault.TooDeep)
size_before_parts = refl

-- ---- bindings

may_bind : answers (Bind 0 0) ≡ Ok made.Nothing
may_bind = refl

no_site : answers (Bind 9 9) ≡ Err (refusal.UnknownSite 9)
no_site = refl

no_invokedynamic : answers (Bind 1 9) ≡ Err refusal.NotDynamic
no_invokedynamic = refl

unknown_call_site : answers (Bind 0 9) ≡ Err (refusal.CallSite fault.UnknownCallSite)
unknown_call_site = refl

another_type : answers (Bind 0 2) ≡ Err refusal.TypeMismatch
another_type = refl

-- once it is bound, that comes first
bound_before_unknown : verdict (fixed 65536) (world_after (before ++ Bind 0 1 ∷ [])) (Bind 0 9) ≡ Err (refusal.AlreadyBound 1)
bound_before_unknown = refl

bound_before_type : verdict (fixed 65536) (world_after (before ++ Bind 0 1 ∷ [])) (Bind 0 2) ≡ Err (refusal.AlreadyBound 1)
bound_before_type = refl
