-- Parameters one after another, and a whole method descriptor.
use Rattle.std.proofs.Common.{◌≡◌, ◌≢◌, ℕ, zero, suc, ◌-◌, ◌<◌, ◌≤◌, Bool, true, false, eqb, List, [], ◌∷◌, ◌++◌, length, Option}
use Rattle.std.proofs.Common.{Some, None, Result, Ok, Err, refl, sym, ap, subst, ◌∙◌, append_assoc, length-append, arith, inl, inr}
use Rattle.std.specs.Prelude.{IfSome, codes, replicate}
use Rattle.jl_names.specs.declared.descriptor.Element.{Element}
use Rattle.jl_names.specs.declared.descriptor.Element.TheVariants.{Byte, Char, Double, Float, Int, Long, Short, Boolean, Class}
use Rattle.std.specs.List.{flat_map, AllByRecursion}
use Rattle.std.proofs.lemmas.List.{append-nil, nil_from_length}
use Rattle.std.proofs.lemmas.Bool.{eqb-true}
use Rattle.jl_names.specs.declared.descriptor.FieldType.{FieldType}
use Rattle.jl_names.specs.Descriptors.{element_text, field_text, IsFieldType, StopsAt}
use Rattle.jl_names.specs.MethodTypes.{Signature, return_text, method_text, IsSignature, IsMethodText, IsMethodDescriptor, IsMethodFault, slots}
use Rattle.jl_names.specs.ForProofs.Steps.{◌>>=◌}
use Rattle.jl_names.specs.ForProofs.Descriptors.{field_at, element_at}
use Rattle.jl_names.specs.ForProofs.MethodTypes.{after_byte, Stand, StopsAfter, return_at, MethodStands, IsBroken, IsStopped}
use Rattle.jl_names.specs.declared.method_type.Broken.{Broken}
use Rattle.jl_names.specs.declared.method_type.Broken.TheVariants as broken
use Rattle.jl_names.specs.declared.fault.NameFault.{NameFault}
use Rattle.jl_names.specs.declared.fault.NameFault.TheVariants.{BadByte, Truncated, BadDescriptor, TooManySlots, Memory}
use Rattle.jl_names.proofs.Bytes.{opening, closing, bracket, letter_v, chosen, bind_ok, ok_is}
use Rattle.jl_names.proofs.Tests.{All-push, texts-push}
use Rattle.jl_names.proofs.DescriptorLaws.{field_again, field_takes, field_stops, field_left, stops_at, not_empty}

pub Stand-more : (text : List ℕ) (ts : List FieldType) (rest : List ℕ) (t : FieldType) (after : List ℕ)
    → Stand text ts rest → field_at rest ≡ Ok (t, after) → Stand text (ts ++ t ∷ []) after
Stand-more text ts rest t after s e =
    let r = field_takes rest (t, after) e in
    record {
      each = All-push IsFieldType ts t s.each r.1;
      bytes = s.bytes ∙ ap (λ (x : List ℕ). flat_map field_text ts ++ x) r.0
          ∙ sym (texts-push field_text ts t after);
    }

-- ---- two lists of types at the front of one text

-- no field type stands there
abbrev pub NoField : List ℕ → Type 0
NoField text = (x : FieldType × List ℕ) → field_at text ≢ Ok x

abbrev read : FieldType × List ℕ → Result (FieldType × List ℕ) (List ℕ)
read x = Ok x

field_first : (t : FieldType) (ts : List FieldType) (y : List ℕ) → IsFieldType t
    → field_at (flat_map field_text (t ∷ ts) ++ y) ≡ Ok (t, flat_map field_text ts ++ y)
field_first t ts y h = ap field_at (append_assoc (field_text t) (flat_map field_text ts) y)
    ∙ field_again t (flat_map field_text ts ++ y) h

-- if no type follows the second list, the first is a part of it
pub types_front : (ts us : List FieldType) (x y : List ℕ) → AllByRecursion IsFieldType ts
    → AllByRecursion IsFieldType us → NoField y
    → flat_map field_text ts ++ x ≡ flat_map field_text us ++ y
    → (vs : List FieldType) × AllByRecursion IsFieldType vs × (us ≡ ts ++ vs) × (x ≡ flat_map field_text vs ++ y)
types_front [] us x y ht hu ny e = (us, hu, refl, e)
types_front (t ∷ ts) [] x y ht hu ny e =
    absurd (ny (t, flat_map field_text ts ++ x) (ap field_at (sym e) ∙ field_first t ts x ht.0))
types_front (t ∷ ts) (u ∷ us) x y ht hu ny e =
    let both : read (t, flat_map field_text ts ++ x) ≡ read (u, flat_map field_text us ++ y) =
    sym (field_first t ts x ht.0) ∙ ap field_at e ∙ field_first u us y hu.0 in
    let pairs = ok_is {E = List ℕ} (t, flat_map field_text ts ++ x) (u, flat_map field_text us ++ y) both in
    let more = types_front ts us x y ht.1 hu.1 ny (ap (λ (p : FieldType × List ℕ). p.1) pairs) in
    let first : t ≡ u = ap (λ (p : FieldType × List ℕ). p.0) pairs in
    (more.0, more.1, cc (first, more.2), more.3)

-- no type at the front, so no list of types but the empty one
pub no_types : (vs : List FieldType) (x y : List ℕ) → AllByRecursion IsFieldType vs → NoField x
    → x ≡ flat_map field_text vs ++ y → vs ≡ []
no_types [] x y h nx e = refl
no_types (v ∷ vs) x y h nx e = absurd (nx (v, flat_map field_text vs ++ y) (ap field_at e ∙ field_first v vs y h.0))

same_types : (ts us : List FieldType) (x y : List ℕ) → AllByRecursion IsFieldType ts → AllByRecursion IsFieldType us
    → NoField x → NoField y
    → flat_map field_text ts ++ x ≡ flat_map field_text us ++ y → (ts ≡ us) × (x ≡ y)
same_types ts us x y ht hu nx ny e =
    let front = types_front ts us x y ht hu ny e in
    let none = no_types front.0 x y front.1 nx front.3 in (
      sym (front.2 ∙ ap (λ (vs : List FieldType). ts ++ vs) none ∙ append-nil ts),
      front.3
          ∙ ap (λ (vs : List FieldType). flat_map field_text vs ++ y) none,
    )

-- a closing bracket is no field type
pub no_close : (rest : List ℕ) → NoField (closing ∷ rest)
unfolding field_at element_at
no_close rest = λ x e. absurd cc

pub no_err : (text left : List ℕ) → field_at text ≡ Err left → NoField text
no_err text left e = λ x h. let clash : Err left ≡ read x = sym e ∙ h in absurd cc

no_ok : (text : List ℕ) (b : ℕ) (more : List ℕ) → field_at text ≡ Err (b ∷ more) → NoField text
no_ok text b more e = no_err text (b ∷ more) e

-- ---- results

begins_v : List ℕ → Bool
begins_v [] = false
begins_v (b ∷ bs) = eqb b letter_v

return_else : (text : List ℕ) → begins_v text ≡ false → return_at text ≡ (field_at text >>= λ x. Ok (Some x.0, x.1))
unfolding return_at begins_v
return_else [] e = refl
return_else (b ∷ bs) e = rw e refl

field_no_v : (n : ℕ) (e : Element) (rest : List ℕ) → begins_v ((replicate n bracket ++ element_text e) ++ rest) ≡ false
unfolding begins_v
field_no_v (suc n) e rest = refl
field_no_v zero Byte rest = refl
field_no_v zero Char rest = refl
field_no_v zero Double rest = refl
field_no_v zero Float rest = refl
field_no_v zero Int rest = refl
field_no_v zero Long rest = refl
field_no_v zero Short rest = refl
field_no_v zero Boolean rest = refl
field_no_v zero (Class name) rest = refl

return_again : (r : Option FieldType) (rest : List ℕ) → IfSome r IsFieldType
    → return_at (return_text r ++ rest) ≡ Ok (r, rest)
unfolding return_at
return_again None rest h = refl
return_again (Some ty) rest h =
    return_else (field_text ty ++ rest) (field_no_v ty.dimensions ty.element rest) ∙ rw (field_again ty rest h) refl

return_takes : (text : List ℕ) (x : Option FieldType × List ℕ) → return_at text ≡ Ok x
    → (text ≡ return_text x.0 ++ x.1) × IfSome x.0 IsFieldType
unfolding return_at
return_takes [] x e =
    let r = bind_ok (field_at []) (λ y. Ok (Some y.0, y.1)) x e in
    let t = field_takes [] r.0 r.1 in
    subst (λ (y : Option FieldType × List ℕ). ([] ≡ return_text y.0 ++ y.1) × IfSome y.0 IsFieldType)
    (ok_is {E = List ℕ} (Some r.0.0, r.0.1) x r.2) (t.0, t.1)
return_takes (b ∷ bs) x e =
    elim (chosen (eqb b letter_v) (Ok (None, bs)) (field_at (b ∷ bs) >>= λ y. Ok (Some y.0, y.1)) (Ok x) e) [
      | inl p ↦ let same : b ≡ letter_v = eqb-true b letter_v p.0 in
          subst (λ (y : Option FieldType × List ℕ). (b ∷ bs ≡ return_text y.0 ++ y.1) × IfSome y.0 IsFieldType)
          (ok_is {E = List ℕ} (None, bs) x p.1) (cc same, tt)
      | inr p ↦
          let r = bind_ok (field_at (b ∷ bs)) (λ y. Ok (Some y.0, y.1)) x p.1 in
          let t = field_takes (b ∷ bs) r.0 r.1 in
          subst (λ (y : Option FieldType × List ℕ). (b ∷ bs ≡ return_text y.0 ++ y.1) × IfSome y.0 IsFieldType)
          (ok_is {E = List ℕ} (Some r.0.0, r.0.1) x r.2) (t.0, t.1)
    ]

as_return : Result (FieldType × List ℕ) (List ℕ) → Result (Option FieldType × List ℕ) (List ℕ)
as_return r = r >>= λ y. Ok (Some y.0, y.1)

bind_stops : (r : Result (FieldType × List ℕ) (List ℕ)) (left : List ℕ) → as_return r ≡ Err left → r ≡ Err left
unfolding as_return
bind_stops (Ok x) left e = absurd cc
bind_stops (Err d) left e = cc

-- where a result stops a field type does
return_stops : (text left : List ℕ) → return_at text ≡ Err left → (field_at text ≡ Err left) × (begins_v text ≡ false)
unfolding return_at begins_v as_return
return_stops [] left e = (bind_stops (field_at []) left e, refl)
return_stops (b ∷ bs) left e =
    elim (chosen (eqb b letter_v) (Ok (None, bs)) (field_at (b ∷ bs) >>= λ y. Ok (Some y.0, y.1)) (Err left) e) [
      | inl p ↦ absurd cc
      | inr p ↦ (bind_stops (field_at (b ∷ bs)) left p.1, p.0)
    ]

same_head : (front : List ℕ) (b : ℕ) (old more : List ℕ) → begins_v (front ++ b ∷ old) ≡ begins_v (front ++ b ∷ more)
unfolding begins_v
same_head [] b old more = refl
same_head (c ∷ front) b old more = refl

abbrev read_return : Option FieldType × List ℕ → Result (Option FieldType × List ℕ) (List ℕ)
read_return x = Ok x

-- ---- a whole method descriptor

split : (m : Signature) (rest : List ℕ)
    → method_text m ++ rest ≡ opening ∷ (flat_map field_text m.parameters
    ++ (closing ∷ (return_text m.returns ++ rest)))
split m rest = ap (λ (x : List ℕ). opening ∷ x)
    (append_assoc (flat_map field_text m.parameters) (closing ∷ return_text m.returns) rest)

-- two readings of one text have the same parameters
pub same_rest : (m : Signature) (ts : List FieldType) (x : List ℕ) → IsSignature m → AllByRecursion IsFieldType ts
    → NoField x
    → opening ∷ (flat_map field_text ts ++ x) ≡ method_text m
    → (ts ≡ m.parameters) × (x ≡ closing ∷ return_text m.returns)
same_rest m ts x hm ht nx e =
    let inner : flat_map field_text ts ++ x
    ≡ flat_map field_text m.parameters ++ (closing ∷ return_text m.returns) = cc in
    same_types ts m.parameters x (closing ∷ return_text m.returns) ht hm.parameters nx
    (no_close (return_text m.returns)) inner

return_one : (q r : Option FieldType) (x y : List ℕ) → IfSome q IsFieldType → IfSome r IsFieldType
    → return_text q ++ x ≡ return_text r ++ y → (q ≡ r) × (x ≡ y)
return_one q r x y hq hr e =
    let both : read_return (q, x) ≡ read_return (r, y) =
    sym (return_again q x hq) ∙ ap return_at e ∙ return_again r y hr in
    let pairs = ok_is {E = List ℕ} (q, x) (r, y) both in
    (ap (λ (p : Option FieldType × List ℕ). p.0) pairs, ap (λ (p : Option FieldType × List ℕ). p.1) pairs)

return_whole : (r : Option FieldType) (text : List ℕ) → IfSome r IsFieldType → text ≡ return_text r
    → return_at text ≡ Ok (r, [])
return_whole r text h e = ap return_at (e ∙ sym (append-nil (return_text r))) ∙ return_again r [] h

tail_of : (x y : List ℕ) → closing ∷ x ≡ closing ∷ y → x ≡ y
tail_of x y e = cc

-- the first byte decides whether it opens
opened : (text : List ℕ) (m : Signature) → text ≡ method_text m → after_byte opening text ≢ None
unfolding after_byte
opened text m e = λ h. let some = ap (after_byte opening) e in absurd (let clash = sym some ∙ h in cc)

no_open : (b : ℕ) (old more : List ℕ) → after_byte opening (b ∷ old) ≡ None → after_byte opening (b ∷ more) ≡ None
unfolding after_byte
no_open b old more h = elim (chosen (eqb b opening) (Some old) None None h) [ inl p ↦ absurd cc | inr p ↦ rw p.0 refl ]

opens_with : (middle ret : List ℕ) → middle ≡ closing ∷ ret → after_byte closing middle ≢ None
unfolding after_byte
opens_with middle ret e = λ h. let some = ap (after_byte closing) e in absurd (let clash = sym some ∙ h in cc)

no_head : (front : List ℕ) (b : ℕ) (old more ret : List ℕ) → after_byte closing (front ++ b ∷ old) ≡ None
    → front ++ b ∷ more ≢ closing ∷ ret
unfolding after_byte
no_head [] b old more ret h = λ e. let same : b ≡ closing = cc in absurd (let some = rw same at h in cc)
no_head (c ∷ front) b old more ret h = λ e. let same : c ≡ closing = cc in absurd (let some = rw same at h in cc)

no_return : (text left : List ℕ) (x : Option FieldType × List ℕ) → begins_v text ≡ false → field_at text ≡ Err left
    → return_at text ≢ Ok x
no_return text left x v e = λ h. let stop : return_at text ≡ Err left = return_else text v ∙ rw e refl in
    absurd (let clash = sym stop ∙ h in cc)

trailing_none : (m n : Signature) (x : List ℕ) → IsSignature m → IsSignature n → method_text m ++ x ≡ method_text n
    → x ≡ []
trailing_none m n x hm hn e =
    let same = same_rest n m.parameters (closing ∷ (return_text m.returns ++ x)) hn hm.parameters
    (no_close (return_text m.returns ++ x)) (sym (split m x) ∙ e) in
    (return_one m.returns n.returns x [] hm.returns hn.returns
    (tail_of _ _ same.1 ∙ sym (append-nil (return_text n.returns)))).1

-- nothing opens
pub open_stops : (text : List ℕ) → after_byte opening text ≡ None → StopsAt IsMethodText text (length text - length text)
unfolding after_byte
open_stops text e =
    stops_at IsMethodText text [] text refl
    (codes "()V", (record { parameters = []; returns = None }, record { parameters = tt; returns = tt }, refl))
    (λ b old more h m.
    let same : after_byte opening (b ∷ more) ≡ None = no_open b old more (ap (after_byte opening) (sym h) ∙ e) in
    opened (b ∷ more) m.0 m.2 same)
    (λ m. opened text m.0 m.2 e)

-- a parameter stops
pub parameter_stops : (text inner left : List ℕ) → text ≡ opening ∷ inner → StopsAfter inner left
    → StopsAt IsMethodText text (length text - length left)
parameter_stops text inner left e s =
    let ts = s.types in
    let f = field_stops s.middle left s.stops in
    let ty : FieldType = f.alive.1.0 in
    let before : List ℕ = flat_map field_text ts in
    stops_at IsMethodText text (opening ∷ (before ++ f.front)) left
    (e ∙ ap (λ (x : List ℕ). opening ∷ x)
    (s.stand.bytes ∙ ap (λ (x : List ℕ). before ++ x) f.whole ∙ sym (append_assoc before f.front left))) (
      f.alive.0 ++ codes ")V",
      (
        record { parameters = ts ++ ty ∷ []; returns = None },
        record { parameters = All-push IsFieldType ts ty s.stand.each f.alive.1.1; returns = tt },
        ap (λ (x : List ℕ). opening ∷ x)
            (append_assoc before f.front (f.alive.0 ++ codes ")V")
            ∙ ap (λ (x : List ℕ). before ++ x)
            (sym (append_assoc f.front f.alive.0 (codes ")V")) ∙ ap (λ (x : List ℕ). x ++ codes ")V") f.alive.1.2)
            ∙ sym (texts-push field_text ts ty (codes ")V"))),
      ),
    )
    (λ b old more h m.
    let whole : opening ∷ (before ++ (f.front ++ b ∷ more)) ≡ method_text m.0 =
    ap (λ (x : List ℕ). opening ∷ x) (sym (append_assoc before f.front (b ∷ more))) ∙ m.2 in
    let same = same_rest m.0 ts (f.front ++ b ∷ more) m.1 s.stand.each
    (no_ok (f.front ++ b ∷ more) b more (f.dead b old more h)) whole in
    no_head f.front b old more (return_text m.0.returns)
    (ap (after_byte closing) (sym (f.whole ∙ ap (λ (x : List ℕ). f.front ++ x) h)) ∙ s.goes_on) same.1)
    (λ m.
    let whole : opening ∷ (before ++ s.middle) ≡ method_text m.0 =
    ap (λ (x : List ℕ). opening ∷ x) (sym s.stand.bytes) ∙ sym e ∙ m.2 in
    let same = same_rest m.0 ts s.middle m.1 s.stand.each (no_err s.middle left s.stops) whole in
    opens_with s.middle (return_text m.0.returns) same.1 s.goes_on)

-- the result stops
pub result_stops : (text inner middle left : List ℕ) (ts : List FieldType) → text ≡ opening ∷ inner
    → Stand inner ts (closing ∷ middle) → return_at middle ≡ Err left
    → StopsAt IsMethodText text (length text - length left)
result_stops text inner middle left ts e s h =
    let r = return_stops middle left h in
    let f = field_stops middle left r.0 in
    let ty : FieldType = f.alive.1.0 in
    let before : List ℕ = flat_map field_text ts in
    stops_at IsMethodText text (opening ∷ (before ++ closing ∷ f.front)) left
    (e ∙ ap (λ (x : List ℕ). opening ∷ x)
    (s.bytes ∙ ap (λ (x : List ℕ). before ++ closing ∷ x) f.whole
    ∙ sym (append_assoc before (closing ∷ f.front) left))) (
      f.alive.0,
      (
        record { parameters = ts; returns = Some ty },
        record { parameters = s.each; returns = f.alive.1.1 },
        ap (λ (x : List ℕ). opening ∷ x)
            (append_assoc before (closing ∷ f.front) f.alive.0
            ∙ ap (λ (x : List ℕ). before ++ closing ∷ x) f.alive.1.2),
      ),
    )
    (λ b old more at m.
    let whole : opening ∷ (before ++ closing ∷ (f.front ++ b ∷ more)) ≡ method_text m.0 =
    ap (λ (x : List ℕ). opening ∷ x) (sym (append_assoc before (closing ∷ f.front) (b ∷ more))) ∙ m.2 in
    let same = same_rest m.0 ts (closing ∷ (f.front ++ b ∷ more)) m.1 s.each (no_close (f.front ++ b ∷ more)) whole in
    let result = return_whole m.0.returns (f.front ++ b ∷ more) m.1.returns (tail_of _ _ same.1) in
    let no_v : begins_v (f.front ++ b ∷ more) ≡ false =
    sym (same_head f.front b old more) ∙ ap begins_v (sym (f.whole ∙ ap (λ (x : List ℕ). f.front ++ x) at)) ∙ r.1 in
    no_return (f.front ++ b ∷ more) (b ∷ more) (m.0.returns, []) no_v (f.dead b old more at) result)
    (λ m.
    let whole : opening ∷ (before ++ closing ∷ middle) ≡ method_text m.0 =
    ap (λ (x : List ℕ). opening ∷ x) (sym s.bytes) ∙ sym e ∙ m.2 in
    let same = same_rest m.0 ts (closing ∷ middle) m.1 s.each (no_close middle) whole in
    let result = return_whole m.0.returns middle m.1.returns (tail_of _ _ same.1) in
    no_return middle left (m.0.returns, []) r.1 r.0 result)

pub method_stands : (text inner middle left : List ℕ) (ts : List FieldType) (r : Option FieldType)
    → text ≡ opening ∷ inner → Stand inner ts (closing ∷ middle) → return_at middle ≡ Ok (r, left)
    → MethodStands text (record { parameters = ts; returns = r }) left
method_stands text inner middle left ts r e s h =
    let t = return_takes middle (r, left) h in
    record {
      signature = record { parameters = s.each; returns = t.1 };
      bytes = e ∙ ap (λ (x : List ℕ). opening ∷ x)
          (s.bytes ∙ ap (λ (x : List ℕ). flat_map field_text ts ++ closing ∷ x) t.0)
          ∙ sym (split (record { parameters = ts; returns = r }) left);
    }

-- bytes stand after it
pub method_trailing : (text left : List ℕ) (m : Signature) → MethodStands text m left → eqb (length left) 0 ≡ false
    → StopsAt IsMethodText text (length text - length left)
method_trailing text left m s some =
    stops_at IsMethodText text (method_text m) left s.bytes ([], (m, s.signature, append-nil (method_text m)))
    (λ b old more h n. let none = trailing_none m n.0 (b ∷ more) s.signature n.1 n.2 in absurd cc)
    (λ n. not_empty left (sym (trailing_none m n.0 left s.signature n.1 (sym s.bytes ∙ n.2))) some)

pub method_whole : (text left : List ℕ) (m : Signature) → MethodStands text m left → eqb (length left) 0 ≡ true
    → IsSignature m × (text ≡ method_text m)
method_whole text left m s none = (
  s.signature,
  s.bytes ∙ ap (λ (x : List ℕ). method_text m ++ x) (nil_from_length left (eqb-true _ _ none))
      ∙ append-nil (method_text m),
)

-- ---- what the functions need

pub after_byte_is : (byte : ℕ) (text rest : List ℕ) → after_byte byte text ≡ Some rest → text ≡ byte ∷ rest
unfolding after_byte
after_byte_is byte [] rest e = absurd cc
after_byte_is byte (b ∷ bs) rest e =
    elim (chosen (eqb b byte) (Some bs) None (Some rest) e)
    [ inl p ↦ let same : b ≡ byte = eqb-true b byte p.0 in cc (same, p.1) | inr p ↦ absurd cc ]

pub Stand-closed : (text : List ℕ) (ts : List FieldType) (rest after : List ℕ) → Stand text ts rest
    → after_byte closing rest ≡ Some after → Stand text ts (closing ∷ after)
Stand-closed text ts rest after s e = subst (λ (x : List ℕ). Stand text ts x) (after_byte_is closing rest after e) s

pub broken_stops : (text inner : List ℕ) (e : Broken) → text ≡ opening ∷ inner → IsBroken inner e → IsStopped text e
broken_stops text inner (broken.At left) e s = (
  parameter_stops text inner left.now e s,
  omega (
    arith,
    ap length e,
    ap length s.stand.bytes,
    length-append (flat_map field_text s.types) s.middle,
    field_left s.middle left.now s.stops,
  ),
)
broken_stops text inner broken.Memory e s = tt

pub result_left : (text inner middle left : List ℕ) (ts : List FieldType) → text ≡ opening ∷ inner
    → Stand inner ts (closing ∷ middle) → return_at middle ≡ Err left → length left ≤ length text
result_left text inner middle left ts e s h =
    omega (
      arith,
      ap length e,
      ap length s.bytes,
      length-append (flat_map field_text ts) (closing ∷ middle),
      field_left middle left (return_stops middle left h).0,
    )

pub too_many : (text left : List ℕ) (m : Signature) (n : ℕ) → MethodStands text m left → eqb (length left) 0 ≡ true
    → 255 < n → slots m ≡ n → IsMethodFault text TooManySlots
too_many text left m n s none over is = let w = method_whole text left m s none in (n, over, (m, w.0, w.1, is))

-- ---- one reading, and no fault

abbrev signature : List FieldType → Option FieldType → Signature
signature parameters returns = record { parameters = parameters; returns = returns }

pub method_one : (a b : Signature) → IsSignature a → IsSignature b → method_text a ≡ method_text b → a ≡ b
method_one a b ha hb e =
    let same = same_rest b a.parameters (closing ∷ return_text a.returns) hb ha.parameters
    (no_close (return_text a.returns)) e in
    let texts : return_text a.returns ++ [] ≡ return_text b.returns ++ [] =
    ap (λ (x : List ℕ). x ++ []) (tail_of _ _ same.1) in
    let returns = return_one a.returns b.returns [] [] ha.returns hb.returns texts in
    let pairs : (a.parameters, a.returns) ≡ (b.parameters, b.returns) = cc (same.0, returns.0) in
    ap (λ (p : List FieldType × Option FieldType). signature p.0 p.1) pairs

pub method_no_fault : (text : List ℕ) (f : NameFault) → IsMethodDescriptor text → f ≢ Memory → ¬ IsMethodFault text f
method_no_fault text (BadDescriptor at) d m = λ p. p.none (d.2.0, d.2.1, d.2.2)
method_no_fault text TooManySlots d m = λ p.
    let same = method_one p.2.0 d.2.0 p.2.1 d.2.1 (sym p.2.2 ∙ d.2.2) in
    absurd (omega (arith, ap slots same, p.2.3, d.2.3))
method_no_fault text (BadByte at) d m = λ p. p
method_no_fault text Truncated d m = λ p. p
method_no_fault text Memory d m = λ p. m refl
