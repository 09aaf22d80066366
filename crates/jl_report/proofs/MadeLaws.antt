-- What invokedynamics make, and marks of the classes that it may be.
use Rattle.std.proofs.Common.{◌≡◌, ◌∙◌, ◌≤◌, sym, ap, subst, refl, arith, length-append, ℕ, zero, suc, ◌<◌, ◌+◌, ◌-◌, ◌==◌, ◌&&◌, ◌||◌}
use Rattle.std.proofs.Common.{List, [], ◌∷◌, ◌++◌, append_assoc, take, length, map, replicate, get_or}
use Rattle.std.specs.Prelude.{Bool, true, false, not, Option, Some, None, option_to_list, if◌then◌else◌}
use Rattle.std.specs.Prelude.{option_and_then}
use Rattle.std.specs.List.{list_any, range_with_len, cons_option, flat_map, AllByRecursion}
use Rattle.std.proofs.lemmas.Bool.{and_parts}
use Rattle.std.proofs.lemmas.List.{length-replicate}
use Rattle.std.proofs.lemmas.Option.{slice_get_past}
use Rattle.std.specs.Str.{byte}
use Rattle.std.proofs.lemmas.List.Folds.{list_any-append}
use Rattle.jl_names.specs.declared.descriptor.Element.{Element}
use Rattle.jl_names.specs.declared.descriptor.Element.TheVariants as element
use Rattle.jl_names.specs.declared.descriptor.FieldType.{FieldType}
use Rattle.jl_names.specs.Descriptors.{element_text, field_text, IsElement, IsFieldType}
use Rattle.jl_names.specs.MethodTypes.{Signature, return_text, method_text, IsSignature}
use Rattle.jl_names.specs.ForProofs.Descriptors.{is_stop}
use Rattle.jl_names.proofs.ClassNameLaws.{is_name, is_name-parts}
use Rattle.jl_types.specs.declared.key.Key.{Key}
use Rattle.jl_types.specs.declared.key.Key.TheVariants as key
use Rattle.jl_types.specs.Values.World.{Classes}
use Rattle.jl_types.specs.Values.Members.{is_interface}
use Rattle.jl_types.specs.Values.Ancestry.{AreOrdered, ancestors, is_ancestor}
use Rattle.jl_types.proofs.Grown.{among_ancestors}
use Rattle.jl_report.specs.Made.{class_of_element, class_of, made, is_above}
use Rattle.jl_report.specs.ForProofs.Results.{closes, still_in_name, after_parameters, class_named, result_class}
use Rattle.jl_report.specs.Made.{may_be_made, made_receivers, marks_of, is_marked, marked_receivers}
use Rattle.jl_report.proofs.MethodLaws.{take_front, any_none, no_ancestor}
use Rattle.jl_report.specs.ForProofs.Marking.{AreMarked}

-- ---- after the parameters

pub one_on : (in_name : Bool) (b : ℕ) (bs : List ℕ) → closes in_name b ≡ false
    → after_parameters in_name (b ∷ bs) ≡ after_parameters (still_in_name in_name b) bs
one_on in_name b bs e = ap (λ (t : Bool). if t then bs else after_parameters (still_in_name in_name b) bs) e

pub one_closes : (in_name : Bool) (b : ℕ) (bs : List ℕ) → closes in_name b ≡ true → after_parameters in_name (b ∷ bs) ≡ bs
one_closes in_name b bs e = ap (λ (t : Bool). if t then bs else after_parameters (still_in_name in_name b) bs) e

-- ---- marks

none_more : (b : Bool) → b ≡ (b || false)
none_more true = refl
none_more false = refl

assoc : (a b c : Bool) → ((a || b) || c) ≡ (a || (b || c))
assoc true b c = refl
assoc false b c = refl

pub marked_none : (reaches : ℕ → ℕ → Bool) (marks : List Bool) → AreMarked reaches [] marks marks
marked_none reaches marks = record { many = refl; each = λ c lt. none_more (is_marked marks c) }

pub marked_both : (reaches : ℕ → ℕ → Bool) (ds es : List ℕ) (a b c : List Bool) → AreMarked reaches ds a b → AreMarked reaches es b c
    → AreMarked reaches (ds ++ es) a c
marked_both reaches ds es a b c first second = record {
  many = second.many ∙ first.many;
  each = λ k lt.
      second.each k (subst (λ n. k < n) (sym first.many) lt)
      ∙ ap (λ (t : Bool). t || list_any (reaches k) es) (first.each k lt)
      ∙ assoc (is_marked a k) (list_any (reaches k) ds) (list_any (reaches k) es)
      ∙ ap (λ (t : Bool). is_marked a k || t) (sym (list_any-append (reaches k) ds es));
}

above_is : (a b : Bool) → a ≡ true → b ≡ ((a && b) || false)
above_is true true e = refl
above_is true false e = refl
above_is false b e = cc

not_above : (a b t : Bool) → a ≡ false → t ≡ (t || ((a && b) || false))
not_above true b t e = cc
not_above false b true e = refl
not_above false b false e = refl

pub marked_above : (cs : Classes) → AreOrdered cs.rows → (d : ℕ) (old new : List Bool) → is_interface cs d ≡ true
    → AreMarked (λ c k. k == c) (ancestors cs.rows d) old new → AreMarked (is_above cs) (d ∷ []) old new
marked_above cs ordered d old new is marked = record {
  many = marked.many;
  each = λ c lt.
      marked.each c lt
      ∙ ap (λ (t : Bool). is_marked old c || t)
      (sym (among_ancestors cs ordered c d) ∙ above_is (is_interface cs d) (is_ancestor cs c d) is);
}

pub unmarked : (cs : Classes) (d : ℕ) (marks : List Bool) → is_interface cs d ≡ false → AreMarked (is_above cs) (d ∷ []) marks marks
unmarked cs d marks isnt =
    record { many = refl; each = λ c lt. not_above (is_interface cs d) (is_ancestor cs c d) (is_marked marks c) isnt }

-- once those that are left are marked, too, all are
abbrev pub Leads : (ℕ → ℕ → Bool) → List ℕ → List ℕ → List Bool → List Bool → Type 0
Leads reaches left all old now = (new : List Bool) → AreMarked reaches left now new → AreMarked reaches all old new

pub led_one : (reaches : ℕ → ℕ → Bool) (ds left all : List ℕ) (old now next : List Bool) → Leads reaches (ds ++ left) all old now
    → AreMarked reaches ds now next → Leads reaches left all old next
led_one reaches ds left all old now next leads marked = λ new rest. leads new (marked_both reaches ds left now next new marked rest)

pub led_by_option : (reaches : ℕ → ℕ → Bool) (o : Option ℕ) (left all : List ℕ) (old now next : List Bool)
    → Leads reaches (cons_option o left) all old now → AreMarked reaches (option_to_list o) now next → Leads reaches left all old next
led_by_option reaches None left all old now next leads marked = led_one reaches [] left all old now next leads marked
led_by_option reaches (Some d) left all old now next leads marked = led_one reaches (d ∷ []) left all old now next leads marked

pub led_all : (reaches : ℕ → ℕ → Bool) (all : List ℕ) (old now : List Bool) → Leads reaches [] all old now → AreMarked reaches all old now
led_all reaches all old now leads = leads now (marked_none reaches now)

-- ---- the marks of all classes

by_place : (f : ℕ → Bool) (a : ℕ) (xs : List Bool) → ((c : ℕ) → c < length xs → get_or xs c false ≡ f (a + c)) → xs ≡ map f (range_with_len a (length xs))
by_place f a [] each = refl
by_place f a (x ∷ xs) each =
    let first : x ≡ f a = each 0 (omega arith) ∙ ap f (omega arith) in
    let rest = by_place f (a + 1) xs (λ c lt. each (suc c) (omega (arith, lt)) ∙ ap f (omega arith)) in
    λ i. first i ∷ rest i

none_set : (n c : ℕ) → get_or (replicate {A = Bool} n false) c false ≡ false
none_set zero c = refl
none_set (suc n) zero = refl
none_set (suc n) (suc c) = none_set n c

pub all_marked : (cs : Classes) (old new : List Bool) → old ≡ replicate (length cs.rows) false → AreMarked (is_above cs) (made cs) old new
    → new ≡ marks_of cs
all_marked cs old new is marked =
    let many : length old ≡ length cs.rows = ap length is ∙ length-replicate (length cs.rows) false in
    by_place (may_be_made cs) 0 new (λ c lt. marked.each c (subst (λ n. c < n) marked.many lt)
    ∙ ap (λ (b : Bool). b || may_be_made cs c) (ap (λ (xs : List Bool). is_marked xs c) is ∙ none_set (length cs.rows) c) ∙ ap (may_be_made cs) (omega arith))
    ∙ ap (λ (n : ℕ). map (may_be_made cs) (range_with_len 0 n)) (marked.many ∙ many)

-- of a test that fails from the end on
mark_at : (f : ℕ → Bool) (a n c : ℕ) → ((k : ℕ) → n ≤ k → f (a + k) ≡ false) → get_or (map f (range_with_len a n)) c false ≡ f (a + c)
mark_at f a zero c past = sym (past c (omega arith))
mark_at f a (suc n) zero past = ap f (omega arith)
mark_at f a (suc n) (suc c) past =
    mark_at f (a + 1) n c (λ k le. ap f (omega arith) ∙ past (suc k) (omega (arith, le))) ∙ ap f (omega arith)

none_above : (a b : Bool) → b ≡ false → (a && b) ≡ false
none_above true b e = e
none_above false b e = refl

-- a class that isn't there is above none
not_made : (cs : Classes) (c : ℕ) → length cs.rows ≤ c → may_be_made cs c ≡ false
not_made cs c le =
    any_none (is_above cs c) (λ d. none_above (is_interface cs d) (is_ancestor cs c d) (no_ancestor cs.rows c (slice_get_past cs.rows c le) (d + 1) d))
    (made cs)

marked_is : (cs : Classes) (c : ℕ) → is_marked (marks_of cs) c ≡ may_be_made cs c
marked_is cs c = mark_at (may_be_made cs) 0 (length cs.rows) c (λ k le. ap (may_be_made cs) (omega arith) ∙ not_made cs k le)
    ∙ ap (may_be_made cs) (omega arith)

key_is : (cs : Classes) (k : Key) → marked_receivers (marks_of cs) k ≡ made_receivers cs k
key_is cs (key.Receivers c) = marked_is cs c
key_is cs (key.Target c) = refl
key_is cs (key.Valid p) = refl

pub marks_tell : (cs : Classes) (keys : List Key) → list_any (marked_receivers (marks_of cs)) keys ≡ list_any (made_receivers cs) keys
marks_tell cs [] = refl
marks_tell cs (k ∷ keys) = λ i. key_is cs k i || marks_tell cs keys i

-- ---- a signature's result

skip_brackets : (n : ℕ) (text : List ℕ) → after_parameters false (replicate n (byte "[") ++ text) ≡ after_parameters false text
skip_brackets zero text = refl
skip_brackets (suc n) text = skip_brackets n text

second : (a s r : Bool) → not (a || (s || r)) ≡ true → s ≡ false
second true s r e = cc
second false true r e = cc
second false false r e = refl

skip_name : (fresh : Bool) (name rest : List ℕ) → is_name fresh name ≡ true
    → after_parameters true ((name ++ byte ";" ∷ []) ++ rest) ≡ after_parameters false rest
skip_name fresh [] rest e = refl
skip_name fresh (b ∷ bs) rest e =
    let parts = and_parts (not (is_stop fresh b)) (is_name (b == byte "/") bs) e in
    ap (λ (t : Bool). after_parameters (not t) ((bs ++ byte ";" ∷ []) ++ rest))
    (second (b == byte ".") (b == byte ";") ((b == byte "[") || ((b == byte "/") && fresh)) parts.0)
    ∙ skip_name (b == byte "/") bs rest parts.1

skip_element : (e : Element) → IsElement e → (rest : List ℕ) → after_parameters false (element_text e ++ rest) ≡ after_parameters false rest
skip_element element.Byte h rest = refl
skip_element element.Char h rest = refl
skip_element element.Double h rest = refl
skip_element element.Float h rest = refl
skip_element element.Int h rest = refl
skip_element element.Long h rest = refl
skip_element element.Short h rest = refl
skip_element element.Boolean h rest = refl
skip_element (element.Class name) h rest = skip_name true name rest ((is_name-parts name).0 ∙ h)

skip_field : (ty : FieldType) → IsFieldType ty → (rest : List ℕ) → after_parameters false (field_text ty ++ rest) ≡ after_parameters false rest
skip_field ty h rest =
    ap (after_parameters false) (append_assoc (replicate ty.dimensions (byte "[")) (element_text ty.element) rest)
    ∙ skip_brackets ty.dimensions (element_text ty.element ++ rest)
    ∙ skip_element ty.element h.element rest

skip_all : (types : List FieldType) → AllByRecursion IsFieldType types → (rest : List ℕ)
    → after_parameters false (flat_map field_text types ++ rest) ≡ after_parameters false rest
skip_all [] h rest = refl
skip_all (ty ∷ types) h rest =
    ap (after_parameters false) (append_assoc (field_text ty) (flat_map field_text types) rest)
    ∙ skip_field ty h.0 (flat_map field_text types ++ rest)
    ∙ skip_all types h.1 rest

without_end : (name : List ℕ) (b : ℕ) → take (length (name ++ b ∷ []) - 1) (name ++ b ∷ []) ≡ name
without_end name b =
    let e = length-append name (b ∷ []) in
    take_front name (b ∷ []) (length (name ++ b ∷ []) - 1) (omega (arith, e)) (omega (arith, e))

named_type : (n : ℕ) (e : Element) → class_named (replicate n (byte "[") ++ element_text e) ≡ class_of_element n e
named_type (suc n) e = refl
named_type zero element.Byte = refl
named_type zero element.Char = refl
named_type zero element.Double = refl
named_type zero element.Float = refl
named_type zero element.Int = refl
named_type zero element.Long = refl
named_type zero element.Short = refl
named_type zero element.Boolean = refl
named_type zero (element.Class name) = ap (λ (xs : List ℕ). Some xs) (without_end name (byte ";"))

named_return : (o : Option FieldType) → class_named (return_text o) ≡ option_and_then class_of o
named_return None = refl
named_return (Some ty) = named_type ty.dimensions ty.element

pub result_is : (m : Signature) → IsSignature m → result_class (method_text m) ≡ option_and_then class_of m.returns
result_is m h =
    ap class_named (skip_all m.parameters h.parameters (byte ")" ∷ return_text m.returns)) ∙ named_return m.returns
