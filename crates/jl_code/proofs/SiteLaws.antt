-- The tests of an invocation say what the definition says.
use Rattle.std.proofs.Common.{◌≡◌, ℕ, ◌≤◌, Bool, true, false, ◌&&◌, List, Option, Some, None, refl, sym, ap, subst, ◌∙◌, arith}
use Rattle.std.specs.Prelude.{nat_le, ◌==◌, is_some, option_map}
use Rattle.std.specs.List.{list_any}
use Rattle.std.specs.Option.{option_map_or, option_and_then}
use Rattle.std.specs.Str.{bytes_eq}
use Rattle.std.proofs.lemmas.Bool.Decides.{nat_tests}
use Rattle.std.proofs.lemmas.Slice.Eq.{bytes_eq-Decides}
use Rattle.std.proofs.lemmas.Bool.{and_parts}
use Rattle.jl_names.specs.MethodTypes.{TakesSlots}
use Rattle.jl_pool.specs.declared.constant.Constant.{Constant}
use Rattle.jl_pool.specs.declared.constant.Constant.TheVariants.{Methodref, InterfaceMethodref, InvokeDynamic}
use Rattle.jl_class.specs.declared.site.Operand.{Operand}
use Rattle.jl_class.specs.declared.site.Operand.TheVariants.{Method, CallSite}
use Rattle.jl_code.specs.Known.{InvokeRow, invoke_rows}
use Rattle.jl_pool.specs.Constants.{tag}
use Rattle.jl_pool.specs.Pools.{Pool, constant_at, Signed, both, reference, signed_at, class_text_at, reference_of, call_site_of}
use Rattle.jl_code.specs.Instructions.{invoke_row_in}
use Rattle.jl_code.specs.Codes.{operand_name, operand_type, may_name, most_slots, tail_of, Invokes}
use Rattle.jl_class.specs.Operands.{either_operand}
use Rattle.jl_pool.specs.ForProofs.Forms.{method_slots}
use Rattle.jl_code.specs.ForProofs.Sites.{may_name_tag, fits, signed_fits, names_method, is_invoked_of, is_invoked}
use Rattle.jl_pool.proofs.FormLaws.{SlotsAre, method_slots-is, one_slots}

-- ---- tests

mapped : {X : Type 0} (f : X → Bool) (o : Option X) → option_map_or f o false ≡ true → (x : X) × (o ≡ Some x) × (f x ≡ true)
mapped f None e = absurd cc
mapped f (Some x) e = (x, refl, e)

takes_found : (text : List ℕ) (found : Option ℕ) (n : ℕ) → SlotsAre text found → found ≡ Some n → TakesSlots text n
takes_found text None n h e = absurd cc
takes_found text (Some m) n h e = let same : m ≡ n = cc in subst (λ (k : ℕ). TakesSlots text k) same h.takes

found_takes : (text : List ℕ) (found : Option ℕ) (n : ℕ) → SlotsAre text found → n ≤ 255 → TakesSlots text n → found ≡ Some n
found_takes text None n h few t = absurd (h (n, few, t))
found_takes text (Some m) n h few t = ap (λ (k : ℕ). Some k) (one_slots text m n h.takes t)

few_most : (opcode : ℕ) → most_slots opcode ≤ 255
few_most opcode = grind (arith, nat_tests)

below : (a b : ℕ) → nat_le a b ≡ true → a ≤ b
below a b h = grind (arith, nat_tests)

above : (a b : ℕ) → a ≤ b → nat_le a b ≡ true
above a b h = grind (arith, nat_tests)

abbrev signed : Operand (List ℕ) → Signed
signed o = record { name = operand_name o; ty = operand_type o }

-- ---- an invocation

module _ (pool : Pool) (opcode number : ℕ) (tail : List ℕ) where
  -- what the tests found is invoked
  invokes : (c : Constant) (o : Operand (List ℕ)) → constant_at pool number ≡ Some c → may_name_tag opcode (tag c) ≡ true
      → either_operand (reference_of pool c) (call_site_of pool c) ≡ Some o → signed_fits opcode tail (Some (signed o)) ≡ true → Invokes pool opcode number tail
  invokes c o is may there e =
      let row = mapped (λ row. list_any (λ t. t == tag c) row.tags) (invoke_row_in invoke_rows opcode) may in
      let counted = mapped (fits opcode tail (operand_name o)) (method_slots (operand_type o)) e in
      let named = and_parts (may_name opcode (operand_name o)) (nat_le counted.0 (most_slots opcode) && bytes_eq tail (tail_of opcode counted.0)) counted.2 in
      let few = and_parts (nat_le counted.0 (most_slots opcode)) (bytes_eq tail (tail_of opcode counted.0)) named.1 in
      record {
        row = row.0;
        found = row.1;
        tagged = ap (λ (p : Option Constant). option_map_or (λ c. list_any (λ t. t == tag c) row.0.tags) p false) is ∙ row.2;
        operand = o;
        there = ap (λ (p : Option Constant). either_operand (option_and_then (reference_of pool) p) (option_and_then (call_site_of pool) p)) is ∙ there;
        named = named.0;
        slots = counted.0;
        counted = takes_found (operand_type o) (method_slots (operand_type o)) counted.0 (method_slots-is (operand_type o)) counted.1;
        few = below counted.0 (most_slots opcode) few.0;
        later = (bytes_eq-Decides tail (tail_of opcode counted.0)).0 few.1;
      }

  method_named : (itf : Bool) (owner : Option (List ℕ)) (s : Option Signed) → (is_some owner && signed_fits opcode tail s) ≡ true
      → (o : Operand (List ℕ)) × (either_operand (both (reference itf) owner s) None ≡ Some o) × (signed_fits opcode tail (Some (signed o)) ≡ true)
  method_named itf None s e = absurd cc
  method_named itf (Some owner) None e = absurd cc
  method_named itf (Some owner) (Some s) e = (Method (reference itf owner s), refl, e)

  call_site_named : (bootstrap : ℕ) (s : Option Signed) → signed_fits opcode tail s ≡ true
      → (o : Operand (List ℕ)) × (option_map CallSite (option_map (λ s. record { bootstrap = bootstrap; name = s.name; ty = s.ty }) s) ≡ Some o)
      × (signed_fits opcode tail (Some (signed o)) ≡ true)
  call_site_named bootstrap None e = absurd cc
  call_site_named bootstrap (Some s) e = (CallSite (record { bootstrap = bootstrap; name = s.name; ty = s.ty }), refl, e)

  of_constant : (c : Constant) → constant_at pool number ≡ Some c → is_invoked_of pool opcode tail c ≡ true → Invokes pool opcode number tail
  of_constant (Methodref owner nt) is e =
      let may = and_parts (may_name_tag opcode 10) (names_method pool opcode tail owner nt) e in
      let m = method_named false (class_text_at pool owner) (signed_at pool nt) may.1 in invokes (Methodref owner nt) m.0 is may.0 m.1 m.2
  of_constant (InterfaceMethodref owner nt) is e =
      let may = and_parts (may_name_tag opcode 11) (names_method pool opcode tail owner nt) e in
      let m = method_named true (class_text_at pool owner) (signed_at pool nt) may.1 in invokes (InterfaceMethodref owner nt) m.0 is may.0 m.1 m.2
  of_constant (InvokeDynamic bootstrap nt) is e =
      let may = and_parts (may_name_tag opcode 18) (signed_fits opcode tail (signed_at pool nt)) e in
      let k = call_site_named bootstrap (signed_at pool nt) may.1 in invokes (InvokeDynamic bootstrap nt) k.0 is may.0 k.1 k.2
  of_constant _ is e = absurd cc

  pub invoked-true : is_invoked pool opcode number tail ≡ true → Invokes pool opcode number tail
  invoked-true e = let c = mapped (is_invoked_of pool opcode tail) (constant_at pool number) e in of_constant c.0 c.1 c.2

  -- what is invoked the tests find
  is_signed : (h : Invokes pool opcode number tail) → signed_fits opcode tail (Some (signed h.operand)) ≡ true
  is_signed h =
      let slots : method_slots (operand_type h.operand) ≡ Some h.slots =
      found_takes (operand_type h.operand) (method_slots (operand_type h.operand)) h.slots (method_slots-is (operand_type h.operand))
      (let most = few_most opcode in omega (arith, most, h.few)) h.counted
      in
      let tail_same : bytes_eq tail (tail_of opcode h.slots) ≡ true = (bytes_eq-Decides tail (tail_of opcode h.slots)).1 h.later in
      let few : nat_le h.slots (most_slots opcode) ≡ true = above h.slots (most_slots opcode) h.few in
      let may : may_name opcode (operand_name h.operand) ≡ true = h.named in
      rw (slots, may, few, tail_same) refl

  method_found : (itf : Bool) (owner : Option (List ℕ)) (s : Option Signed) (o : Operand (List ℕ)) → signed_fits opcode tail (Some (signed o)) ≡ true
      → either_operand (both (reference itf) owner s) None ≡ Some o → (is_some owner && signed_fits opcode tail s) ≡ true
  method_found itf None s o fit e = absurd cc
  method_found itf (Some owner) None o fit e = absurd cc
  method_found itf (Some owner) (Some s) o fit e =
      subst (λ (p : Operand (List ℕ)). signed_fits opcode tail (Some (signed p)) ≡ true) (let same : o ≡ Method (reference itf owner s) = cc in same) fit

  call_site_found : (bootstrap : ℕ) (s : Option Signed) (o : Operand (List ℕ)) → signed_fits opcode tail (Some (signed o)) ≡ true
      → option_map CallSite (option_map (λ s. record { bootstrap = bootstrap; name = s.name; ty = s.ty }) s) ≡ Some o → signed_fits opcode tail s ≡ true
  call_site_found bootstrap None o fit e = absurd cc
  call_site_found bootstrap (Some s) o fit e =
      subst (λ (p : Operand (List ℕ)). signed_fits opcode tail (Some (signed p)) ≡ true)
      (let same : o ≡ CallSite (record { bootstrap = bootstrap; name = s.name; ty = s.ty }) = cc in same) fit

  constant_found : (c : Constant) (o : Operand (List ℕ)) → may_name_tag opcode (tag c) ≡ true → signed_fits opcode tail (Some (signed o)) ≡ true
      → either_operand (reference_of pool c) (call_site_of pool c) ≡ Some o → is_invoked_of pool opcode tail c ≡ true
  constant_found (Methodref owner nt) o may fit e = rw (may, method_found false (class_text_at pool owner) (signed_at pool nt) o fit e) refl
  constant_found (InterfaceMethodref owner nt) o may fit e = rw (may, method_found true (class_text_at pool owner) (signed_at pool nt) o fit e) refl
  constant_found (InvokeDynamic bootstrap nt) o may fit e = rw (may, call_site_found bootstrap (signed_at pool nt) o fit e) refl
  constant_found _ o may fit e = absurd cc

  invoked-all : Invokes pool opcode number tail → is_invoked pool opcode number tail ≡ true
  invoked-all h = by (constant_at pool number) h.tagged h.there where
    by : (c : Option Constant) → option_map_or (λ c. list_any (λ t. t == tag c) h.row.tags) c false ≡ true
        → either_operand (option_and_then (reference_of pool) c) (option_and_then (call_site_of pool) c) ≡ Some h.operand
        → option_map_or (is_invoked_of pool opcode tail) c false ≡ true
    by None tagged e = absurd cc
    by (Some c) tagged e =
        constant_found c h.operand (ap (λ (r : Option InvokeRow). option_map_or (λ q. list_any (λ t. t == tag c) q.tags) r false) h.found ∙ tagged)
        (is_signed h) e

  pub invoked-false : is_invoked pool opcode number tail ≡ false → ¬ Invokes pool opcode number tail
  invoked-false e = λ h. absurd (let clash : true ≡ false = sym (invoked-all h) ∙ e in cc)
