-- What a pool keeps of its constants shows them.
use Rattle.std.proofs.Common.{◌≡◌, ℕ, zero, suc, ◌+◌, ◌*◌, ◌^◌, ◌<◌, ◌≤◌, Bool, true, false, cond, ltb, List, [], ◌∷◌, ◌++◌, length, map, take, drop}
use Rattle.std.proofs.Common.{slice_get, Option, Some, None, refl, sym, ap, subst, ◌∙◌}
use Rattle.std.proofs.Common.{append_assoc, length-append, arith}
use Rattle.std.specs.Prelude.{option_map, nat_le}
use Rattle.std.specs.Option.{option_and_then, unwrap_or}
use Rattle.std.specs.List.{flat_map, list_all, AllByRecursion}
use Rattle.std.proofs.lemmas.Bool.{le-leb, and_parts}
use Rattle.std.proofs.lemmas.List.{take_at, drop_at, map-append, flat_map_more}
use Rattle.std.proofs.lemmas.List.Folds.{list_all-append}
use Rattle.std.proofs.lemmas.Option.{slice_get-map}
use Rattle.byteorder.specs.Endian.{big_number}
use Rattle.jl_names.proofs.Tests.{texts-push}
use Rattle.jl_pool.specs.declared.constant.Constant.{Constant}
use Rattle.jl_pool.specs.declared.constant.Constant.TheVariants.{Utf8, Integer, Float, Long, Double, Class, String, Fieldref, Methodref}
use Rattle.jl_pool.specs.declared.constant.Constant.TheVariants.{InterfaceMethodref, NameAndType}
use Rattle.jl_pool.specs.declared.constant.Constant.TheVariants.{MethodHandle, MethodType, Dynamic, InvokeDynamic, Module, Package}
use Rattle.jl_pool.specs.declared.kept_constant.KeptConstant.{KeptConstant}
use Rattle.jl_pool.specs.declared.kept_constant.KeptConstant.TheVariants as kept
use Rattle.jl_pool.specs.declared.form.Form.{Form}
use Rattle.jl_pool.specs.Numbers.{u2, u8}
use Rattle.jl_pool.specs.Constants.{constant_text, IsSized, is_double}
use Rattle.jl_pool.specs.Pools.{places, places_of, constant_at, text_of, text_at}
use Rattle.jl_pool.specs.ForProofs.Forms.{form_of, forms_of}
use Rattle.jl_pool.specs.ForProofs.Table.{shown, pool_of, is_within, form_in, IsTable, Shows, entry_at, entry_of, entries_of}
use Rattle.jl_pool.proofs.Fields.{guard_some, u8_again}
use Rattle.jl_pool.proofs.EntryLaws.{form_kept}

-- ---- the entry of one constant, after some bytes and before others

text_there : (front head text after : List ℕ) (n : ℕ) → length front + length head ≡ n → take (length text) (drop n (front ++ (head ++ (text ++ after)))) ≡ text
text_there front head text after n e =
    subst (λ (t : List ℕ). take (length text) (drop n t) ≡ text) (append_assoc front head (text ++ after))
    (rw (drop_at (front ++ head) (text ++ after) n (length-append front head ∙ e)) (take_at text after (length text) refl))

wide_there : (front after : List ℕ) (t bits n : ℕ) → length front + 1 ≡ n → bits < 2 ^ 64 → big_number 8 (drop n (front ++ (t ∷ (u8 bits ++ after)))) ≡ bits
wide_there front after t bits n e lt =
    let there : drop n (front ++ (t ∷ (u8 bits ++ after))) ≡ u8 bits ++ after =
    subst (λ (x : List ℕ). drop n x ≡ u8 bits ++ after) (append_assoc front (t ∷ []) (u8 bits ++ after))
    (drop_at (front ++ t ∷ []) (u8 bits ++ after) n (length-append front (t ∷ []) ∙ e))
    in
    let read = guard_some (ltb (length (u8 bits ++ after)) 8) (big_number 8 (u8 bits ++ after), drop 8 (u8 bits ++ after)) (bits, after)
    (u8_again bits after lt) in
    ap (λ (x : List ℕ). big_number 8 x) there ∙ ap (λ (x : ℕ × List ℕ). x.0) read.1

module _ (front after : List ℕ) where
  abbrev around : Constant → List ℕ
  around c = front ++ (constant_text c ++ after)

  in_block : (c : Constant) (n : ℕ) → n ≤ length front + length (constant_text c) → nat_le n (length (around c)) ≡ true
  in_block c n le = le-leb _ _ (omega (arith, le, length-append front (constant_text c ++ after), length-append (constant_text c) after))

  -- it shows the constant, within the block
  shown_of : (c : Constant) (start : ℕ) → IsSized c → start ≡ length front → (shown (around c) (entry_of c start) ≡ Some c)
      × (is_within (length (around c)) (entry_of c start) ≡ true)
  shown_of (Utf8 text) start sized e = (
    ap (λ (t : List ℕ). Some (Utf8 t)) (text_there front (1 ∷ u2 (length text)) text after (start + 3) (omega (arith, e))),
    in_block (Utf8 text) (start + 3 + length text) (omega (arith, e)),
  )
  shown_of (Integer bits) start sized e = (refl, refl)
  shown_of (Float bits) start sized e = (refl, refl)
  shown_of (Long bits) start sized e = (
    ap (λ (n : ℕ). Some (Long n)) (wide_there front after 5 bits (start + 1) (omega (arith, e)) sized),
    in_block (Long bits) (start + 1 + 8)
        (omega (arith, e)),
  )
  shown_of (Double bits) start sized e = (
    ap (λ (n : ℕ). Some (Double n)) (wide_there front after 6 bits (start + 1) (omega (arith, e)) sized),
    in_block (Double bits) (start + 1 + 8)
        (omega (arith, e)),
  )
  shown_of (Class name) start sized e = (refl, refl)
  shown_of (String text) start sized e = (refl, refl)
  shown_of (Fieldref owner signed) start sized e = (refl, refl)
  shown_of (Methodref owner signed) start sized e = (refl, refl)
  shown_of (InterfaceMethodref owner signed) start sized e = (refl, refl)
  shown_of (NameAndType name ty) start sized e = (refl, refl)
  shown_of (MethodHandle kind reference) start sized e = (refl, refl)
  shown_of (MethodType ty) start sized e = (refl, refl)
  shown_of (Dynamic bootstrap signed) start sized e = (refl, refl)
  shown_of (InvokeDynamic bootstrap signed) start sized e = (refl, refl)
  shown_of (Module name) start sized e = (refl, refl)
  shown_of (Package name) start sized e = (refl, refl)

-- ---- the entries of one constant more

second : (bytes : List ℕ) (double : Bool) → pool_of bytes (cond double (kept.Nothing ∷ []) []) ≡ cond double (None ∷ []) []
second bytes true = refl
second bytes false = refl

second_within : (size : ℕ) (double : Bool) → list_all (is_within size) (cond double (kept.Nothing ∷ []) []) ≡ true
second_within size true = refl
second_within size false = refl

second_formed : (double : Bool) → map form_in (cond double (kept.Nothing ∷ []) []) ≡ forms_of (cond double (None ∷ []) [])
second_formed true = refl
second_formed false = refl

pub table_none : (bytes : List ℕ) → IsTable bytes (kept.Nothing ∷ []) []
table_none bytes = record { by_number = refl; within = refl; formed = refl }

pub places-push : (cs : List Constant) (c : Constant) → places (cs ++ c ∷ []) ≡ places cs ++ places_of c
places-push cs c = sym (flat_map_more places_of (None ∷ []) cs c)

forms_push : (cs : List Constant) (c : Constant) → forms_of (places cs) ++ forms_of (places_of c) ≡ forms_of (places (cs ++ c ∷ []))
forms_push cs c = sym (map-append (λ place. option_map form_of (option_and_then text_of place)) (places cs) (places_of c))
    ∙ ap forms_of (sym (places-push cs c))

module _ (cs : List Constant) (c : Constant) (entries : List KeptConstant) (more : List ℕ) (start : ℕ) (sized : IsSized c)
    (there : start ≡ length (flat_map constant_text cs)) where
  abbrev front : List ℕ
  front = flat_map constant_text cs

  abbrev block : List ℕ
  block = front ++ (constant_text c ++ more)

  shown_more : pool_of block (entries_of c start) ≡ places_of c
  shown_more = rw ((shown_of front more c start sized there).0, second block (is_double c)) refl

  within_more : list_all (is_within (length block)) (entries_of c start) ≡ true
  within_more = rw ((shown_of front more c start sized there).1) (second_within (length block) (is_double c))

  formed_more : map form_in (entries_of c start) ≡ forms_of (places_of c)
  formed_more = rw (form_kept c start, second_formed (is_double c)) refl

  pub table_more : IsTable block entries cs → IsTable (flat_map constant_text (cs ++ c ∷ []) ++ more) (entries ++ entries_of c start) (cs ++ c ∷ [])
  table_more t =
      subst (λ (b : List ℕ). IsTable b (entries ++ entries_of c start) (cs ++ c ∷ [])) (sym (texts-push constant_text cs c more)) (record {
        by_number = map-append (shown block) entries (entries_of c start) ∙ rw (t.by_number, shown_more) (sym (places-push cs c));
        within = list_all-append (is_within (length block)) entries (entries_of c start) ∙ rw (t.within, within_more) refl;
        formed = map-append form_in entries (entries_of c start) ∙ rw (t.formed, formed_more) (forms_push cs c);
      })

-- ---- where a constant begins is a number of 32 bits

pub text_short : (c : Constant) → IsSized c → length (constant_text c) ≤ 65538
text_short (Utf8 text) sized = omega (arith, sized)
text_short (Integer bits) sized = omega arith
text_short (Float bits) sized = omega arith
text_short (Long bits) sized = omega arith
text_short (Double bits) sized = omega arith
text_short (Class name) sized = omega arith
text_short (String text) sized = omega arith
text_short (Fieldref owner signed) sized = omega arith
text_short (Methodref owner signed) sized = omega arith
text_short (InterfaceMethodref owner signed) sized = omega arith
text_short (NameAndType name ty) sized = omega arith
text_short (MethodHandle kind reference) sized = omega arith
text_short (MethodType ty) sized = omega arith
text_short (Dynamic bootstrap signed) sized = omega arith
text_short (InvokeDynamic bootstrap signed) sized = omega arith
text_short (Module name) sized = omega arith
text_short (Package name) sized = omega arith

pub texts_short : (cs : List Constant) → AllByRecursion IsSized cs → length (flat_map constant_text cs) ≤ 65538 * length (flat_map places_of cs)
texts_short [] h = omega arith
texts_short (c ∷ cs) h =
    let rest = texts_short cs h.1 in
    let one = text_short c h.0 in
    omega (arith, rest, one, length-append (constant_text c) (flat_map constant_text cs), length-append (places_of c) (flat_map places_of cs))

-- ---- what stands at a number

constant_here : (bytes : List ℕ) (place : Option KeptConstant) → option_and_then (λ p. p) (option_map (shown bytes) place) ≡ shown bytes
    (unwrap_or place kept.Nothing)
constant_here bytes None = refl
constant_here bytes (Some entry) = refl

pub shown_at : (bytes : List ℕ) (entries : List KeptConstant) (n : ℕ) → shown bytes (entry_at entries n) ≡ constant_at (pool_of bytes entries) n
shown_at bytes entries n = sym (ap (option_and_then (λ p. p)) (slice_get-map (shown bytes) entries n) ∙ constant_here bytes (slice_get entries n))

pub within_at : (size : ℕ) (entries : List KeptConstant) (n : ℕ) → list_all (is_within size) entries ≡ true → is_within size (entry_at entries n) ≡ true
within_at size [] n h = refl
within_at size (entry ∷ entries) zero h = (and_parts (is_within size entry) (list_all (is_within size) entries) h).0
within_at size (entry ∷ entries) (suc n) h = within_at size entries n (and_parts (is_within size entry) (list_all (is_within size) entries) h).1

formed_here : (place : Option KeptConstant) → form_in (unwrap_or place kept.Nothing) ≡ option_and_then (λ p. p) (option_map form_in place)
formed_here None = refl
formed_here (Some entry) = refl

form_here : (place : Option (Option Constant)) → option_and_then (λ p. p) (option_map (λ q. option_map form_of (option_and_then text_of q)) place)
    ≡ option_map form_of (option_and_then text_of (option_and_then (λ p. p) place))
form_here None = refl
form_here (Some place) = refl

pub formed_at : (bytes : List ℕ) (entries : List KeptConstant) (n : ℕ) → map form_in entries ≡ forms_of (pool_of bytes entries)
    → form_in (entry_at entries n) ≡ option_map form_of (text_at (pool_of bytes entries) n)
formed_at bytes entries n h =
    formed_here (slice_get entries n) ∙ ap (option_and_then (λ p. p)) (sym (slice_get-map form_in entries n)
    ∙ ap (λ (forms : List (Option Form)). slice_get forms n) h
    ∙ slice_get-map (λ q. option_map form_of (option_and_then text_of q)) (pool_of bytes entries) n)
    ∙ form_here (slice_get (pool_of bytes entries) n)

shows : (bytes : List ℕ) (entry : KeptConstant) → form_in entry ≡ option_map form_of (option_and_then text_of (shown bytes entry))
    → Shows entry (shown bytes entry)
shows bytes kept.Nothing e = refl
shows bytes (kept.Utf8 at len form) e = (take len (drop at bytes), refl, cc)
shows bytes (kept.Long at) e = (big_number 8 (drop at bytes), refl)
shows bytes (kept.Double at) e = (big_number 8 (drop at bytes), refl)
shows bytes (kept.Integer bits) e = refl
shows bytes (kept.Float bits) e = refl
shows bytes (kept.Class name) e = refl
shows bytes (kept.String text) e = refl
shows bytes (kept.Fieldref owner signed) e = refl
shows bytes (kept.Methodref owner signed) e = refl
shows bytes (kept.InterfaceMethodref owner signed) e = refl
shows bytes (kept.NameAndType name ty) e = refl
shows bytes (kept.MethodHandle kind reference) e = refl
shows bytes (kept.MethodType ty) e = refl
shows bytes (kept.Dynamic bootstrap signed) e = refl
shows bytes (kept.InvokeDynamic bootstrap signed) e = refl
shows bytes (kept.Module name) e = refl
shows bytes (kept.Package name) e = refl

pub shows_at : (bytes : List ℕ) (entries : List KeptConstant) (n : ℕ) → map form_in entries ≡ forms_of (pool_of bytes entries)
    → Shows (entry_at entries n) (constant_at (pool_of bytes entries) n)
shows_at bytes entries n h =
    let there = shown_at bytes entries n in
    subst (Shows (entry_at entries n)) there
    (shows bytes (entry_at entries n) (formed_at bytes entries n h ∙ ap (λ (o : Option Constant). option_map form_of (option_and_then text_of o)) (sym there)))
