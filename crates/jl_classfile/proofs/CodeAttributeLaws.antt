-- A Code attribute holds one code at most.
use Rattle.std.proofs.Common.{◌≡◌, ℕ, ◌*◌, ◌<◌, ◌≤◌, ◌^◌, Bool, true, false, eqb, ◌||◌, List, [], ◌++◌, length, Option, Some, None}
use Rattle.std.proofs.Common.{refl, sym, ap, subst, ◌∙◌, arith}
use Rattle.std.specs.Prelude.{MatchOption, nat_lt, if◌then◌else◌}
use Rattle.std.proofs.lemmas.Bool.{eqb-true}
use Rattle.std.proofs.lemmas.Bool.Decides.{nat_tests}
use Rattle.std.proofs.lemmas.List.{append-nil, nil_from_length}
use Rattle.jl_classfile.specs.declared.body.Attribute.{Attribute}
use Rattle.jl_pool.specs.Numbers.{u2, u4, counted}
use Rattle.jl_classfile.specs.Layouts.{attribute_text, AttributeSized, Countable}
use Rattle.jl_classfile.specs.CodeAttributes.{HoldsCode}
use Rattle.jl_pool.specs.ForProofs.Fields.{◌>>=◌, number_at, bytes_at}
use Rattle.jl_classfile.specs.ForProofs.Bodies.{counted_at, attribute_at, if_filled, after_code, code_in}
use Rattle.jl_pool.proofs.Fields.{IsBytes, bind_some, some_is, u2_takes, u2_again, u4_takes, u4_again, bytes_takes, bytes_again}
use Rattle.jl_classfile.proofs.PartLaws.{attribute-takes, attribute-again}
use Rattle.jl_classfile.proofs.ListLaws.{counted-takes, counted-again}

-- ---- what an attribute holds is read

in_range : (n : ℕ) → 1 ≤ n → n ≤ 65535 → ((eqb n 0) || nat_lt 65535 n) ≡ false
in_range n some few = grind (arith, nat_tests)

after_again : (code : List ℕ) (exceptions : ℕ) (table : List ℕ) (attributes : List Attribute) → exceptions < 2 ^ 16 → length table ≡ 8 * exceptions
    → Countable AttributeSized attributes
    → after_code (code, u2 exceptions ++ (table ++ counted attribute_text attributes)) ≡ Some code
after_again code exceptions table attributes size rows sized =
    let all =
    ap (λ (r : List ℕ). counted_at attribute_at r) (sym (append-nil (counted attribute_text attributes)))
    ∙ counted-again attribute_at attribute_text AttributeSized attribute-again attributes [] sized
    in
    ap (λ (o : Option (ℕ × List ℕ)). o >>= λ n. bytes_at (8 * n.0) n.1 >>= λ t. counted_at attribute_at t.1 >>= λ a. if_filled code a.1)
    (u2_again exceptions (table ++ counted attribute_text attributes) size)
    ∙ ap (λ (o : Option (List ℕ × List ℕ)). o >>= λ t. counted_at attribute_at t.1 >>= λ a. if_filled code a.1)
    (bytes_again (8 * exceptions) table (counted attribute_text attributes) rows)
    ∙ ap (λ (o : Option (List Attribute × List ℕ)). o >>= λ a. if_filled code a.1) all

abbrev if_length : ℕ × List ℕ → Option (List ℕ)
if_length n = if (eqb n.0 0) || nat_lt 65535 n.0 then None else (bytes_at n.0 n.1 >>= after_code)

pub held_again : (info code : List ℕ) → HoldsCode info code → code_in info ≡ Some code
unfolding code_in
held_again info code h =
    let last : List ℕ = u2 h.exceptions ++ (h.table ++ counted attribute_text h.attributes) in
    ap (λ (b : List ℕ). number_at 2 b >>= λ s. number_at 2 s.1 >>= λ l. number_at 4 l.1 >>= if_length) h.spelled
    ∙ ap (λ (o : Option (ℕ × List ℕ)). o >>= λ s. number_at 2 s.1 >>= λ l. number_at 4 l.1 >>= if_length)
    (u2_again h.max_stack (u2 h.max_locals ++ (u4 (length code) ++ (code ++ last))) h.max_stack_size)
    ∙ ap (λ (o : Option (ℕ × List ℕ)). o >>= λ l. number_at 4 l.1 >>= if_length) (u2_again h.max_locals (u4 (length code) ++ (code ++ last)) h.max_locals_size)
    ∙ ap (λ (o : Option (ℕ × List ℕ)). o >>= if_length) (u4_again (length code) (code ++ last) (let few = h.few in omega (arith, few)))
    ∙ ap (λ (b : Bool). if b then None else (bytes_at (length code) (code ++ last) >>= after_code)) (in_range (length code) h.some h.few)
    ∙ ap (λ (o : Option (List ℕ × List ℕ)). o >>= after_code) (bytes_again (length code) code last refl)
    ∙ after_again code h.exceptions h.table h.attributes h.exceptions_size h.rows h.attributes_sized

pub one_held : (info a b : List ℕ) → HoldsCode info a → HoldsCode info b → a ≡ b
one_held info a b ha hb = some_is a b (sym (held_again info a ha) ∙ held_again info b hb)

-- ---- what is read the attribute holds

filled_is : (code left got : List ℕ) → if_filled code left ≡ Some got → (code ≡ got) × (left ≡ [])
filled_is code left got e = by_length (eqb (length left) 0) refl e where
  by_length : (b : Bool) → eqb (length left) 0 ≡ b → (if b then Some code else None) ≡ Some got → (code ≡ got) × (left ≡ [])
  by_length true none e = (some_is code got e, nil_from_length left (eqb-true _ _ none))
  by_length false some e = absurd cc

low : (k : ℕ) → ((eqb k 0) || nat_lt 65535 k) ≡ false → 1 ≤ k
low k h = grind (arith, nat_tests)

high : (k : ℕ) → ((eqb k 0) || nat_lt 65535 k) ≡ false → k ≤ 65535
high k h = grind (arith, nat_tests)

length_is : (n : ℕ × List ℕ) (got : List ℕ) → if_length n ≡ Some got → (1 ≤ n.0) × (n.0 ≤ 65535) × ((bytes_at n.0 n.1 >>= after_code) ≡ Some got)
length_is n got e = by_test ((eqb n.0 0) || nat_lt 65535 n.0) refl e where
  by_test : (b : Bool) → ((eqb n.0 0) || nat_lt 65535 n.0) ≡ b → (if b then None else (bytes_at n.0 n.1 >>= after_code)) ≡ Some got
      → (1 ≤ n.0) × (n.0 ≤ 65535) × ((bytes_at n.0 n.1 >>= after_code) ≡ Some got)
  by_test true out e = absurd cc
  by_test false within e = (low n.0 within, high n.0 within, e)

pub held_takes : (info code : List ℕ) → IsBytes info → code_in info ≡ Some code → HoldsCode info code
unfolding code_in
held_takes info code fits e =
    let s = bind_some (number_at 2 info) (λ s. number_at 2 s.1 >>= λ l. number_at 4 l.1 >>= if_length) code e in
    let l = bind_some (number_at 2 s.0.1) (λ l. number_at 4 l.1 >>= if_length) code s.2 in
    let n = bind_some (number_at 4 l.0.1) if_length code l.2 in
    let k = length_is n.0 code n.2 in
    let b = bind_some (bytes_at n.0.0 n.0.1) after_code code k.2 in
    let x = bind_some (number_at 2 b.0.1) (λ m. bytes_at (8 * m.0) m.1 >>= λ t. counted_at attribute_at t.1 >>= λ a. if_filled b.0.0 a.1) code b.2 in
    let t = bind_some (bytes_at (8 * x.0.0) x.0.1) (λ t. counted_at attribute_at t.1 >>= λ a. if_filled b.0.0 a.1) code x.2 in
    let a = bind_some (counted_at attribute_at t.0.1) (λ a. if_filled b.0.0 a.1) code t.2 in
    let filled = filled_is b.0.0 a.0.1 code a.2 in
    let s_is = u2_takes info s.0 fits s.1 in
    let l_is = u2_takes s.0.1 l.0 s_is.0.bytes_left l.1 in
    let n_is = u4_takes l.0.1 n.0 l_is.0.bytes_left n.1 in
    let b_is = bytes_takes n.0.0 n.0.1 b.0 n_is.0.bytes_left b.1 in
    let x_is = u2_takes b.0.1 x.0 b_is.0.bytes_left x.1 in
    let t_is = bytes_takes (8 * x.0.0) x.0.1 t.0 x_is.0.bytes_left t.1 in
    let a_is = counted-takes attribute_at attribute_text AttributeSized attribute-takes t.0.1 a.0 t_is.0.bytes_left a.1 in
    let table_end : t.0.1 ≡ counted attribute_text a.0.0 = a_is.0.parts ∙ ap (λ (r : List ℕ). counted attribute_text a.0.0 ++ r) filled.1
    ∙ append-nil (counted attribute_text a.0.0) in
    subst (λ (c : List ℕ). HoldsCode info c) filled.0
    (record {
      max_stack = s.0.0;
      max_locals = l.0.0;
      exceptions = x.0.0;
      table = t.0.0;
      attributes = a.0.0;
      spelled =
          spelled_by info s.0.0 l.0.0 n.0.0 x.0.0 b.0.0 t.0.0 (counted attribute_text a.0.0) s.0.1 l.0.1 n.0.1 b.0.1 x.0.1 t.0.1 s_is.0.parts l_is.0.parts
          n_is.0.parts
          (sym b_is.1) b_is.0.parts x_is.0.parts t_is.0.parts table_end;
      max_stack_size = s_is.1;
      max_locals_size = l_is.1;
      some = omega (arith, b_is.1, k.0);
      few = omega (arith, b_is.1, k.1);
      exceptions_size = x_is.1;
      rows = t_is.1;
      attributes_sized = a_is.1;
    })
  where
    spelled_by : (info : List ℕ) (s l n x : ℕ) (code table last r1 r2 r3 r4 r5 r6 : List ℕ) → info ≡ u2 s ++ r1 → r1 ≡ u2 l ++ r2 → r2 ≡ u4 n ++ r3
        → n ≡ length code → r3 ≡ code ++ r4 → r4 ≡ u2 x ++ r5 → r5 ≡ table ++ r6 → r6 ≡ last
        → info ≡ u2 s ++ (u2 l ++ (u4 (length code) ++ (code ++ (u2 x ++ (table ++ last)))))
    spelled_by info s l n x code table last r1 r2 r3 r4 r5 r6 e1 e2 e3 e4 e5 e6 e7 e8 =
        e1
        ∙ ap (λ (r : List ℕ). u2 s ++ r)
        (e2
        ∙ ap (λ (r : List ℕ). u2 l ++ r)
        (e3
        ∙ ap (λ (k : ℕ). u4 k ++ r3) e4
        ∙ ap (λ (r : List ℕ). u4 (length code) ++ r)
        (e5 ∙ ap (λ (r : List ℕ). code ++ r) (e6 ∙ ap (λ (r : List ℕ). u2 x ++ r) (e7 ∙ ap (λ (r : List ℕ). table ++ r) e8)))))

-- what reading answers
pub held_decides : (info : List ℕ) (read : Option (List ℕ)) → IsBytes info → code_in info ≡ read
    → MatchOption read ((code : List ℕ) → ¬ HoldsCode info code) (λ code. HoldsCode info code)
held_decides info None fits e = λ code h. absurd (let clash = sym (held_again info code h) ∙ e in cc)
held_decides info (Some code) fits e = held_takes info code fits e
