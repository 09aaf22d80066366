-- What the marks of a text tell of names and descriptors.
use Rattle.std.proofs.Common.{◌≡◌, ◌≢◌, ℕ, zero, suc, Bool, true, false, eqb, not, ◌&&◌, ◌||◌, List, [], ◌∷◌, ◌++◌, length, Option, refl, sym, ap}
use Rattle.std.proofs.Common.{subst, ◌∙◌, arith}
use Rattle.std.specs.Prelude.{replicate}
use Rattle.std.specs.List.{list_all, list_any, slice_split, onto_first, AllByRecursion}
use Rattle.std.proofs.lemmas.Bool.{false_from_ne_true, and_parts}
use Rattle.std.proofs.lemmas.Bool.Decides.{nat_tests}
use Rattle.std.proofs.lemmas.List.Elements.{All-from_recursion}
use Rattle.std.proofs.lemmas.List.Splits.{slice_split_none}
use Rattle.jl_names.specs.declared.descriptor.Element.{Element}
use Rattle.jl_names.specs.declared.descriptor.Element.TheVariants.{Byte, Char, Double, Float, Int, Long, Short, Boolean, Class}
use Rattle.jl_names.specs.ClassNames.{is_reserved, is_unqualified, is_class_name}
use Rattle.jl_names.specs.Descriptors.{element_text}
use Rattle.jl_pool.specs.declared.form.Form.{Form}
use Rattle.jl_pool.specs.declared.form.Marks.{Marks}
use Rattle.jl_pool.specs.Pools.{has_angle}
use Rattle.jl_pool.specs.ForProofs.Forms.{is_field, method_slots, form_of}
use Rattle.jl_pool.specs.ForProofs.Marks.{is_barred, is_slash, marks_of}
use Rattle.jl_pool.proofs.FormLaws.{is_field-is, class_name_of}

pub neither : (x y : Bool) → (x || y) ≡ false → (x ≡ false) × (y ≡ false)
neither true y h = absurd cc
neither false y h = (refl, h)

-- ---- unqualified names

last_first : (d s k l : Bool) → (d || (s || (k || l))) ≡ ((d || (s || k)) || l)
last_first true s k l = refl
last_first false true k l = refl
last_first false false k l = refl

reserved_is : (b : ℕ) → is_reserved b ≡ (is_barred b || is_slash b)
reserved_is b = last_first (eqb b 46) (eqb b 59) (eqb b 91) (eqb b 47)

none_of_four : (x y u v : Bool) → not ((x || u) || (y || v)) ≡ (not (x || y) && not (u || v))
none_of_four true y u v = refl
none_of_four false true true v = refl
none_of_four false true false v = refl
none_of_four false false u v = refl

none_reserved : (text : List ℕ) → not (list_any is_barred text || list_any is_slash text) ≡ list_all (λ b. not (is_reserved b)) text
none_reserved [] = refl
none_reserved (b ∷ text) =
    none_of_four (is_barred b) (is_slash b) (list_any is_barred text) (list_any is_slash text)
    ∙ rw (sym (reserved_is b), sym (none_reserved text)) refl

some_is_some : (b : ℕ) (text : List ℕ) → eqb (length (b ∷ text)) 0 ≡ false
some_is_some b text = grind (arith, nat_tests)

pub unqualified_by_marks : (text : List ℕ) → not (eqb (length text) 0 || (list_any is_barred text || list_any is_slash text)) ≡ is_unqualified text
unqualified_by_marks [] = refl
unqualified_by_marks (b ∷ text) = rw (some_is_some b text) (none_reserved (b ∷ text))

-- ---- class names

abbrev is_clean : List ℕ → Bool
is_clean part = not (list_any is_barred part)

clean_more : (x y : Bool) → not (x || y) ≡ (not x && not y)
clean_more true y = refl
clean_more false y = refl

and_assoc : (x y z : Bool) → ((x && y) && z) ≡ (x && (y && z))
and_assoc true y z = refl
and_assoc false y z = refl

clean_first : (b : ℕ) (parts : List (List ℕ)) → list_all is_clean (onto_first b parts) ≡ (not (is_barred b) && list_all is_clean parts)
clean_first b [] = rw (clean_more (is_barred b) false) (and_assoc (not (is_barred b)) true true)
clean_first b (part ∷ parts) =
    rw (clean_more (is_barred b) (list_any is_barred part)) (and_assoc (not (is_barred b)) (is_clean part) (list_all is_clean parts))

slash_clean : (b : ℕ) → is_slash b ≡ true → is_barred b ≡ false
slash_clean b e = grind (arith, nat_tests)

clean_parts : (text : List ℕ) → list_all is_clean (slice_split is_slash text) ≡ is_clean text
clean_parts [] = refl
clean_parts (b ∷ text) = by_slash (clean_parts text) (is_slash b) refl where
  by_slash : list_all is_clean (slice_split is_slash text) ≡ is_clean text → (s : Bool) → is_slash b ≡ s
      → list_all is_clean (slice_split is_slash (b ∷ text)) ≡ is_clean (b ∷ text)
  by_slash rest true e = rw (e, slash_clean b e) rest
  by_slash rest false e = rw e (clean_first b (slice_split is_slash text) ∙ rw rest (sym (clean_more (is_barred b) (list_any is_barred text))))

unbarred : (text : List ℕ) → list_all (λ b. not (is_reserved b)) text ≡ true → is_clean text ≡ true
unbarred text h = by_marks (list_any is_barred text) (list_any is_slash text) (none_reserved text ∙ h) where
  by_marks : (x y : Bool) → not (x || y) ≡ true → not x ≡ true
  by_marks true y e = e
  by_marks false y e = refl

part_clean : (part : List ℕ) → is_unqualified part ≡ true → is_clean part ≡ true
part_clean [] h = refl
part_clean (b ∷ part) h = unbarred (b ∷ part) h

parts_clean : (parts : List (List ℕ)) → list_all is_unqualified parts ≡ true → list_all is_clean parts ≡ true
parts_clean [] h = refl
parts_clean (part ∷ parts) h =
    let both = and_parts (is_unqualified part) (list_all is_unqualified parts) h in
    rw (part_clean part both.0) (parts_clean parts both.1)

-- a class name has no barred byte
pub barred_none : (text : List ℕ) → list_any is_barred text ≡ true → is_class_name text ≡ false
barred_none text barred =
    false_from_ne_true (is_class_name text) (λ e. let clean : is_clean text ≡ true = sym (clean_parts text) ∙ parts_clean (slice_split is_slash text) e in
    absurd (let no : false ≡ true = ap not (sym barred) ∙ clean in cc))

no_slashes : (text : List ℕ) → list_any is_slash text ≡ false → AllByRecursion (λ b. is_slash b ≡ false) text
no_slashes [] h = tt
no_slashes (b ∷ text) h = let both = neither (is_slash b) (list_any is_slash text) h in (both.0, no_slashes text both.1)

and_yes : (b : Bool) → (b && true) ≡ b
and_yes true = refl
and_yes false = refl

-- without a slash it is one part
pub one_part : (text : List ℕ) → list_any is_slash text ≡ false → is_class_name text ≡ is_unqualified text
one_part text h =
    ap (list_all is_unqualified) (slice_split_none is_slash text (All-from_recursion (λ b. is_slash b ≡ false) text (no_slashes text h)))
    ∙ and_yes (is_unqualified text)

barred_unqualified : (text : List ℕ) → list_any is_barred text ≡ true → is_unqualified text ≡ false
barred_unqualified text barred = false_from_ne_true (is_unqualified text)
    (λ e. absurd (let no : true ≡ false = sym (class_name_of text e) ∙ barred_none text barred in cc))

or_no : (b : Bool) → (b || false) ≡ b
or_no true = refl
or_no false = refl

pub qualified_barred : (text : List ℕ) → list_any is_barred text ≡ true → (is_unqualified text || false) ≡ is_class_name text
qualified_barred text barred = rw (barred_unqualified text barred) (sym (barred_none text barred))

pub qualified_one : (text : List ℕ) → list_any is_slash text ≡ false → (is_unqualified text || false) ≡ is_class_name text
qualified_one text h = or_no (is_unqualified text) ∙ sym (one_part text h)

pub qualified_tested : (text : List ℕ) → (is_unqualified text || is_class_name text) ≡ is_class_name text
qualified_tested text = by_first (is_unqualified text) refl where
  by_first : (u : Bool) → is_unqualified text ≡ u → (u || is_class_name text) ≡ is_class_name text
  by_first true e = sym (class_name_of text e)
  by_first false e = refl

-- ---- field descriptors

or_yes : (b : Bool) → (b || true) ≡ true
or_yes true = refl
or_yes false = refl

any_back : (front : List ℕ) (b : ℕ) (rest : List ℕ) → is_barred b ≡ true → list_any is_barred (front ++ b ∷ rest) ≡ true
any_back [] b rest h = rw h refl
any_back (x ∷ front) b rest h = rw (any_back front b rest h) (or_yes (is_barred x))

element_marked : (element : Element) → list_any is_barred (element_text element) ≡ false → length (element_text element) ≡ 1
element_marked Byte h = refl
element_marked Char h = refl
element_marked Double h = refl
element_marked Float h = refl
element_marked Int h = refl
element_marked Long h = refl
element_marked Short h = refl
element_marked Boolean h = refl
element_marked (Class name) h = absurd (let no : false ≡ true = sym h ∙ any_back name 59 [] refl in cc)

descriptor_marked : (dimensions : ℕ) (element : Element) → list_any is_barred (replicate dimensions 91 ++ element_text element) ≡ false
    → length (replicate dimensions 91 ++ element_text element) ≡ 1
descriptor_marked zero element h = element_marked element h
descriptor_marked (suc n) element h = absurd cc

-- a field's descriptor of more than one byte has a semicolon or a bracket
pub field_marked : (text : List ℕ) → list_any is_barred text ≡ false → length text ≢ 1 → is_field text ≡ false
field_marked text h long =
    false_from_ne_true (is_field text) (λ e. let d = (is_field-is text).0 e in
    long (ap length d.2 ∙ descriptor_marked d.0.dimensions d.0.element (ap (list_any is_barred) (sym d.2) ∙ h)))

pub field_unmarked : (text : List ℕ) → (list_any is_barred text || eqb (length text) 1) ≡ false → is_field text ≡ false
field_unmarked text h = let both = neither (list_any is_barred text) (eqb (length text) 1) h in
    field_marked text both.0 (λ e. let no = both.1 in grind (arith, nat_tests))

-- ---- the form

abbrev made : Bool → Bool → Bool → Bool → Option ℕ → Form
made class_name unqualified plain field slots = record { class_name = class_name; unqualified = unqualified; plain = plain; field = field; slots = slots }

pub form_by_marks : (text : List ℕ) (marks : Marks) (u q f : Bool) (slots : Option ℕ) → marks ≡ marks_of text → u ≡ is_unqualified text
    → (is_unqualified text || q) ≡ is_class_name text
    → f ≡ is_field text → slots ≡ method_slots text → made (u || q) u (u && not marks.angle) f slots ≡ form_of text
unfolding form_of
form_by_marks text marks u q f slots m un cl fi sl =
    subst (λ (k : Marks). made (u || q) u (u && not k.angle) f slots ≡ form_of text) (sym m)
    (rw (un, fi, sl) (ap (λ (b : Bool). made b (is_unqualified text) (is_unqualified text && not (has_angle text)) (is_field text) (method_slots text)) cl))
