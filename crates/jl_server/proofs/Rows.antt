-- That the condition matters: answers at once to what is no receiver.
use Rattle.std.specs.Prelude.{◌≡◌, ℕ, true, false, List, [], ◌∷◌, Some, None, codes, refl}
use Rattle.std.proofs.Common.{subst}
use Rattle.std.proofs.lemmas.Option.{same_Some}
use Rattle.jl_class.specs.declared.site.Kind.{Kind}
use Rattle.jl_class.specs.declared.site.Kind.TheVariants.{Virtual, Interface}
use Rattle.jl_pool.specs.declared.reference.Reference.{Reference}
use Rattle.jl_types.specs.declared.answer.Outcome.TheVariants.{Run}
use Rattle.jl_types.specs.declared.answer.Throwable.TheVariants.{IncompatibleClassChangeError}
use Rattle.jl_types.specs.declared.answer.Recv.{Recv}
use Rattle.jl_types.specs.declared.answer.Recv.TheVariants.{Null, Of}
use Rattle.jl_types.specs.declared.answer.Answer.TheVariants as answer
use Rattle.jl_types.specs.declared.answer.Fast.TheVariants.{Now}
use Rattle.jl_types.specs.declared.link.Link.{Link}
use Rattle.jl_types.specs.declared.link.Link.TheVariants.{Fault, Plain, Direct, Table, Mega}
use Rattle.jl_types.specs.declared.link.TableKind.TheVariants as kind
use Rattle.jl_types.specs.Events.Event.{Event}
use Rattle.jl_types.specs.declared.event.EventOf.TheVariants.{Request, Install}
use Rattle.jl_types.specs.Values.World.{World}
use Rattle.jl_types.specs.Linkage.Stages.{ResolvedCall, ByVirtual, Selects}
use Rattle.jl_types.specs.Linkage.Calls.{dispatch, fits_named}
use Rattle.jl_types.specs.Events.Fast.{fast_answer}
use Rattle.jl_types.specs.Events.History.{world_after, installed}
use Rattle.jl_types.proofs.Rows.Sketch.{method, first, calling, class_ref, itf_ref}
use Rattle.jl_types.proofs.Rows.Histories.{object, below}
use Rattle.jl_server.specs.Receivers.{FitsLink, FitsInstalled}
use Rattle.jl_server.proofs.FastLaws.{now_is_dispatch}

-- Object 0, the class 1 that is called, B 2 below it, M 3 with the call, its request, and the install of its link
abbrev history : Event → Event → Kind → Reference (List ℕ) → Link → List Event
history called child kind ref link = object
    ∷ called
    ∷ child
    ∷ below (codes "java/lang/Object") (codes "M") 33 (calling 9 (codes "run") kind ref ∷ [])
    ∷ Request (record { class = 3; method = 0; pc = 0 })
    ∷ Install ((0, link) ∷ [])
    ∷ []

-- ---- a direct link at invokevirtual: A 1 with f, an abstract B 2 below A

abbrev runs_f : Link
runs_f = Direct (Run (first 1))

abbrev direct : List Event
direct = history (below (codes "java/lang/Object") (codes "A") 33 (method 1 (codes "f") ∷ [])) (below (codes "A") (codes "B") 1057 [])
    Virtual (class_ref (codes "A") (codes "f")) runs_f

is_installed : installed direct 0 ≡ Some runs_f
is_installed = refl

-- an object of M, a concrete class that isn't below A: answered at once, though the call has no such receiver
beside_at_once : fast_answer (installed direct 0) 4 (Of 3) ≡ Now (answer.Run (first 1))
beside_at_once = refl

beside_by_call : dispatch (world_after direct) 0 (Of 3) ≡ answer.BadReceiver
beside_by_call = refl

-- one of B, which is abstract: so, too
abstract_at_once : fast_answer (installed direct 0) 4 (Of 2) ≡ Now (answer.Run (first 1))
abstract_at_once = refl

abstract_by_call : dispatch (world_after direct) 0 (Of 2) ≡ answer.BadReceiver
abstract_by_call = refl

-- and one of a class that isn't there, where the caller knows of more classes
absent_at_once : fast_answer (installed direct 0) 5 (Of 4) ≡ Now (answer.Run (first 1))
absent_at_once = refl

absent_by_call : dispatch (world_after direct) 0 (Of 4) ≡ answer.BadReceiver
absent_by_call = refl

-- what the site selects by
abbrev invocation : ResolvedCall
invocation = record { selector = ByVirtual; caller = 3; named = 1; ref = class_ref (codes "A") (codes "f"); method = first 1 }

-- M isn't below A, so its objects don't fit
beside_is_unfit : FitsLink (world_after direct) 0 runs_f (Of 3) → ⊥
beside_is_unfit fits = let named : false ≡ true = fits.1 invocation refl in cc

-- nor do those of the abstract B
abstract_is_unfit : FitsLink (world_after direct) 0 runs_f (Of 2) → ⊥
abstract_is_unfit fits = let concrete : false ≡ true = fits.0 in cc

-- those of A do, so the law gives the call's answer
named_fits : FitsLink (world_after direct) 0 runs_f (Of 1)
named_fits = (refl, λ i selects. subst (λ (j : ResolvedCall). fits_named (world_after direct).classes j j.selector 1 ≡ true) (same invocation i selects) refl)
  where
    same : (i j : ResolvedCall) → Selects i ≡ Selects j → i ≡ j
    same i j e = cc

named_fits_installed : FitsInstalled direct 0 (Of 1)
named_fits_installed link there = subst (λ (l : Link). FitsLink (world_after direct) 0 l (Of 1)) (same_Some runs_f link there) named_fits

named_by_law : dispatch (world_after direct) 0 (Of 1) ≡ answer.Run (first 1)
named_by_law = now_is_dispatch direct 0 4 (Of 1) (Now (answer.Run (first 1))) (answer.Run (first 1)) refl refl named_fits_installed

-- ---- tables without an entry: the called class has no objects, nor has the abstract B below it

abbrev at_interface : List Event
at_interface = history (below (codes "java/lang/Object") (codes "I") 1537 (method 1025 (codes "f") ∷ [])) (below (codes "java/lang/Object") (codes "B") 1057 [])
    Interface (itf_ref (codes "I") (codes "f")) (Table kind.Interface [])

-- at invokeinterface an object of the abstract B would be answered at once
interface_at_once : fast_answer (installed at_interface 0) 4 (Of 2) ≡ Now (answer.Throws IncompatibleClassChangeError)
interface_at_once = refl

interface_by_call : dispatch (world_after at_interface) 0 (Of 2) ≡ answer.BadReceiver
interface_by_call = refl

abbrev at_virtual : List Event
at_virtual = history (below (codes "java/lang/Object") (codes "A") 1057 (method 1025 (codes "f") ∷ [])) (below (codes "A") (codes "B") 1057 [])
    Virtual (class_ref (codes "A") (codes "f")) (Table kind.Virtual [])

-- at invokevirtual the table has the call's answer for it: there the law asks for more than is needed
virtual_at_once : fast_answer (installed at_virtual 0) 4 (Of 2) ≡ Now answer.BadReceiver
virtual_at_once = refl

virtual_by_call : dispatch (world_after at_virtual) 0 (Of 2) ≡ answer.BadReceiver
virtual_by_call = refl

-- an object of M, a concrete class, fits each table; one of the abstract B fits none
table_fits : FitsLink (world_after at_interface) 0 (Table kind.Interface []) (Of 3)
table_fits = refl

table_fits_installed : FitsInstalled at_virtual 0 (Of 3)
table_fits_installed link there =
    subst (λ (l : Link). FitsLink (world_after at_virtual) 0 l (Of 3)) (same_Some (Table kind.Virtual []) link there) refl

abstract_is_unfit_at_table : FitsLink (world_after at_interface) 0 (Table kind.Interface []) (Of 2) → ⊥
abstract_is_unfit_at_table fits = let concrete : false ≡ true = fits in cc

-- nor does one of a class that isn't there
absent_is_unfit_at_table : FitsLink (world_after at_interface) 0 (Table kind.Interface []) (Of 4) → ⊥
absent_is_unfit_at_table fits = let concrete : false ≡ true = fits in cc

-- ---- in each world

-- null fits each link
null_fits : (w : World) (s : ℕ) (link : Link) → FitsLink w s link Null
null_fits w s (Fault throwable) = tt
null_fits w s (Plain m) = tt
null_fits w s (Direct outcome) = tt
null_fits w s (Table kind rows) = tt
null_fits w s Mega = tt

-- and each receiver fits a site whose link looks at none
all_fit_mega : (w : World) (s : ℕ) (recv : Recv) → FitsLink w s Mega recv
all_fit_mega w s recv = tt

all_fit_none : (h : List Event) (s : ℕ) (recv : Recv) → installed h s ≡ None → FitsInstalled h s recv
all_fit_none h s recv none link there = absurd (cc (none, there))
