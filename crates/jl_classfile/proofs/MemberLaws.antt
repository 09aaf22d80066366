-- All fields and methods: what the tests of each one tell of them.
use Rattle.std.proofs.Common.{◌≡◌, ℕ, ◌+◌, ◌<◌, ◌≤◌, Bool, List, [], ◌∷◌, length, get_or}
use Rattle.std.proofs.Common.{Option, Some, sym, ap, subst, ◌∙◌, inl, inr}
use Rattle.std.specs.Prelude.{MatchOption, IfSome, slice_get, All}
use Rattle.std.specs.List.{AllByRecursion, Contains}
use Rattle.std.proofs.lemmas.Option.{slice_get-get_or, slice_get_within, get_or_from_slice_get}
use Rattle.std.proofs.lemmas.List.Elements.{Contains-append_left, Contains-append_right, recursion_from_All}
use Rattle.jl_classfile.specs.declared.body.Member.{Member}
use Rattle.jl_classfile.specs.declared.body.Body.{Body}
use Rattle.jl_classfile.specs.declared.fault.ClassFault.{ClassFault}
use Rattle.jl_classfile.specs.declared.fault.ClassFault.TheVariants.{BadLink, BadMember, DuplicateMethod, TwoCodes}
use Rattle.jl_classfile.specs.Faults.{MembersFault}
use Rattle.jl_names.proofs.Tests.{All-both}
use Rattle.jl_pool.specs.Pools.{Pool}
use Rattle.jl_classfile.specs.Conditions.{FieldFits, MethodFits}
use Rattle.jl_classfile.specs.Conditions.{MemberLinks, codes_of, is_interface, Members}
use Rattle.jl_classfile.specs.ForProofs.Members.{is_at, FieldTested, MethodTested, IsFieldFault, IsMethodFault, IsTwin, IsFirstTwin}
use Rattle.jl_classfile.proofs.TwinLaws.{distinct_unless, twin_at}

contains_at : {X : Type 0} (xs : List X) (i : ℕ) (x : X) → slice_get xs i ≡ Some x → Contains xs x
contains_at xs i x e = (i, slice_get_within xs i x e, get_or_from_slice_get xs i x x e)

field_fault : (pool : Pool) (b : Body) (i : ℕ) (m : Member) (f : ClassFault) → slice_get b.fields i ≡ Some m → IsFieldFault pool i m f → MembersFault pool b f
field_fault pool b i m (BadLink n) e x = (m, Contains-append_left b.fields b.methods m (contains_at b.fields i m e), x.0, x.1)
field_fault pool b i m (BadMember k) e x = inl (m, ap (λ (j : ℕ). slice_get b.fields j) x.0 ∙ e, x.1)
field_fault pool b i m _ e x = absurd x

method_fault : (pool : Pool) (b : Body) (found : Option ℕ) (i : ℕ) (m : Member) (f : ClassFault)
    → MatchOption found ((k : ℕ) → ¬ IsTwin pool b.methods k) (IsFirstTwin pool b.methods)
    → slice_get b.methods i ≡ Some m → IsMethodFault pool (is_interface b) (length b.fields + i) i (is_at found i) m f → MembersFault pool b f
method_fault pool b found i m (BadLink n) t e x = (m, Contains-append_right b.fields b.methods m (contains_at b.methods i m e), x.0, x.1)
method_fault pool b found i m (BadMember k) t e x = inr (i, m, x.0, e, x.1)
method_fault pool b found i m (DuplicateMethod k) t e x =
    let twin = twin_at pool b.methods found i t x.1 in
    rw x.0 (twin.earlier, twin.one, twin.other, twin.before, twin.one_stands, twin.other_stands, twin.same)
method_fault pool b found i m (TwoCodes k) t e x = rw x.0 (m, e, x.1)
method_fault pool b found i m _ t e x = absurd x

members_hold : (pool : Pool) (b : Body) (found : Option ℕ) → All (FieldTested pool) b.fields → All (MethodTested pool (is_interface b)) b.methods
    → MatchOption found ((k : ℕ) → ¬ IsTwin pool b.methods k) (IsFirstTwin pool b.methods) → IfSome found (λ t. length b.methods ≤ t) → Members pool b
members_hold pool b found fields methods t past = record {
  links = All-both (MemberLinks pool) b.fields b.methods (of_fields b.fields (recursion_from_All (FieldTested pool) b.fields fields))
      (of_methods b.methods tested);
  fields = fitting b.fields (recursion_from_All (FieldTested pool) b.fields fields);
  methods = fitted b.methods tested;
  distinct = distinct_unless pool b.methods found t past;
  one_code = coded b.methods tested;
} where
  tested : AllByRecursion (MethodTested pool (is_interface b)) b.methods
  tested = recursion_from_All (MethodTested pool (is_interface b)) b.methods methods

  of_fields : (ms : List Member) → AllByRecursion (FieldTested pool) ms → AllByRecursion (MemberLinks pool) ms
  of_fields [] h = tt
  of_fields (m ∷ ms) h = (h.0.links, of_fields ms h.1)

  of_methods : (ms : List Member) → AllByRecursion (MethodTested pool (is_interface b)) ms → AllByRecursion (MemberLinks pool) ms
  of_methods [] h = tt
  of_methods (m ∷ ms) h = (h.0.links, of_methods ms h.1)

  fitting : (ms : List Member) → AllByRecursion (FieldTested pool) ms → AllByRecursion (FieldFits pool) ms
  fitting [] h = tt
  fitting (m ∷ ms) h = (h.0.fits, fitting ms h.1)

  fitted : (ms : List Member) → AllByRecursion (MethodTested pool (is_interface b)) ms → AllByRecursion (MethodFits pool (is_interface b)) ms
  fitted [] h = tt
  fitted (m ∷ ms) h = (h.0.fits, fitted ms h.1)

  coded : (ms : List Member) → AllByRecursion (MethodTested pool (is_interface b)) ms → AllByRecursion (λ m. length (codes_of pool m) ≤ 1) ms
  coded [] h = tt
  coded (m ∷ ms) h = (h.0.one_code, coded ms h.1)

pub members_of : (pool : Pool) (b : Body) (found : Option ℕ) (fields methods : List Member) (interface : Bool) → fields ≡ b.fields → methods ≡ b.methods
    → interface ≡ is_interface b
    → All (FieldTested pool) fields → All (MethodTested pool interface) methods
    → MatchOption found ((k : ℕ) → ¬ IsTwin pool methods k) (IsFirstTwin pool methods) → IfSome found (λ t. length methods ≤ t) → Members pool b
members_of pool b found fields methods interface ef em ei fs ms t past =
    members_hold pool b found (subst (λ (xs : List Member). All (FieldTested pool) xs) ef fs)
    (subst (λ (i : Bool). All (MethodTested pool i) b.methods) ei (subst (λ (xs : List Member). All (MethodTested pool interface) xs) em ms))
    (subst (λ (xs : List Member). MatchOption found ((k : ℕ) → ¬ IsTwin pool xs k) (IsFirstTwin pool xs)) em t)
    (subst (λ (xs : List Member). IfSome found (λ t. length xs ≤ t)) em past)

pub method_fault_of : (pool : Pool) (b : Body) (found : Option ℕ) (fields methods : List Member) (interface : Bool) (f : ClassFault) → fields ≡ b.fields
    → methods ≡ b.methods → interface ≡ is_interface b
    → MatchOption found ((k : ℕ) → ¬ IsTwin pool methods k) (IsFirstTwin pool methods)
    → (i : ℕ) × (m : Member) × (slice_get methods i ≡ Some m) × IsMethodFault pool interface (length fields + i) i (is_at found i) m f → MembersFault pool b f
method_fault_of pool b found fields methods interface f ef em ei t x =
    method_fault pool b found x.0 x.1 f (subst (λ (xs : List Member). MatchOption found ((k : ℕ) → ¬ IsTwin pool xs k) (IsFirstTwin pool xs)) em t)
    (ap (λ (xs : List Member). slice_get xs x.0) (sym em) ∙ x.2)
    (subst (λ (xs : List Member). IsMethodFault pool (is_interface b) (length xs + x.0) x.0 (is_at found x.0) x.1 f) ef
    (subst (λ (i : Bool). IsMethodFault pool i (length fields + x.0) x.0 (is_at found x.0) x.1 f) ei x.3))

pub whichever : {X : Type 0} (P : X → Type 0) (xs : List X) (i : ℕ) (x d : X) → i < length xs → P (get_or xs i x) → P (get_or xs i d)
whichever P xs i x d h p = subst P (sym (get_or_from_slice_get xs i (get_or xs i x) d (slice_get-get_or xs i x h))) p
