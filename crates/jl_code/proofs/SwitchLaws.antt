-- Switches.
use Rattle.std.proofs.Common.{◌≡◌, ◌≢◌, ℕ, ◌+◌, ◌*◌, ◌-◌, ◌%◌, ◌<◌, ◌≤◌, ◌^◌, Bool, true, false, cond, leb, ltb, List}
use Rattle.std.proofs.Common.{◌∷◌, ◌++◌, length, Option, Some, None, Result, refl, sym, ap, subst, ◌∙◌, append_assoc, arith, inl, inr}
use Rattle.std.proofs.lemmas.Bool.{ltb-true, ltb-false, lt-ltb, le-ltb, leb-true, leb-false, le-leb, lt-leb}
use Rattle.jl_code.specs.declared.instruction.Instruction.TheVariants.{TableSwitch, LookupSwitch}
use Rattle.jl_code.specs.declared.instruction.Stop.{Stop}
use Rattle.jl_code.specs.declared.instruction.Stop.TheVariants.{Cut, Opcode, Switch}
use Rattle.jl_pool.specs.Numbers.{u4}
use Rattle.jl_code.specs.Instructions.{instruction_text, from_least, Pads, IsTableSwitch, IsLookupSwitch}
use Rattle.jl_code.specs.Faults.{IsBadSwitch}
use Rattle.jl_pool.specs.ForProofs.Fields.{◌>>=◌, number_at, bytes_at}
use Rattle.jl_code.specs.ForProofs.Instructions.{with_part, padding_at, head_at, offsets_at, table_switch_at, pairs_at, lookup_switch_at}
use Rattle.jl_pool.proofs.Fields.{IsBytes, Takes, bind_some, some_is, u4_takes, u4_again, bytes_takes, bytes_again}
use Rattle.jl_code.proofs.StopLaws.{Read, found, stopped, Spelled, with_part-some, ok_some, other_some, guarded-ok, guarded-bad, guarded-opcode}

-- ---- the padding, and the numbers that give a switch's size

padding_count : (pc n : ℕ) → n ≡ 3 - pc % 4 → (n < 4) × ((pc + 1 + n) % 4 ≡ 0)
padding_count pc n e = (omega arith, omega arith)

count_padding : (pc n : ℕ) → n < 4 → (pc + 1 + n) % 4 ≡ 0 → n ≡ 3 - pc % 4
count_padding pc n few aligned = omega arith

padding_takes : (pc : ℕ) (bytes : List ℕ) (x : List ℕ × List ℕ) → IsBytes bytes → padding_at pc bytes ≡ Some x → Takes bytes x.0 x.1 × Pads x.0 pc
unfolding padding_at
padding_takes pc bytes x fits e =
    let t = bytes_takes (3 - pc % 4) bytes x fits e in
    let n = padding_count pc (length x.0) t.1 in
    (t.0, record { few = n.0; aligned = n.1 })

padding_again : (pc : ℕ) (padding rest : List ℕ) → Pads padding pc → padding_at pc (padding ++ rest) ≡ Some (padding, rest)
unfolding padding_at
padding_again pc padding rest p = bytes_again (3 - pc % 4) padding rest (count_padding pc (length padding) p.few p.aligned)

record IsHead (pc : ℕ) (bytes padding : List ℕ) (default number : ℕ) (rest : List ℕ) : Type 0 where
  parts : bytes ≡ padding ++ (u4 default ++ (u4 number ++ rest))
  bytes_left : IsBytes rest
  pads : Pads padding pc
  default_size : default < 2 ^ 32
  number_size : number < 2 ^ 32

three_parts : (bytes one after two left three rest : List ℕ) → bytes ≡ one ++ after → after ≡ two ++ left → left ≡ three ++ rest → bytes ≡ one
    ++ (two ++ (three ++ rest))
three_parts bytes one after two left three rest e f g = e ∙ ap (λ (y : List ℕ). one ++ y) (f ∙ ap (λ (y : List ℕ). two ++ y) g)

head_takes : (pc : ℕ) (bytes : List ℕ) (x : (List ℕ × ℕ × ℕ) × List ℕ) → IsBytes bytes → head_at pc bytes ≡ Some x → IsHead pc bytes x.0.0 x.0.1 x.0.2 x.1
unfolding head_at
head_takes pc bytes x fits e =
    let p = bind_some (padding_at pc bytes) (λ p. number_at 4 p.1 >>= λ d. number_at 4 d.1 >>= λ n. Some ((p.0, d.0, n.0), n.1)) x e in
    let d = bind_some (number_at 4 p.0.1) (λ d. number_at 4 d.1 >>= λ n. Some ((p.0.0, d.0, n.0), n.1)) x p.2 in
    let n = bind_some (number_at 4 d.0.1) (λ n. Some ((p.0.0, d.0.0, n.0), n.1)) x d.2 in
    let s = padding_takes pc bytes p.0 fits p.1 in
    let t = u4_takes p.0.1 d.0 s.0.bytes_left d.1 in
    let u = u4_takes d.0.1 n.0 t.0.bytes_left n.1 in
    subst (λ (y : (List ℕ × ℕ × ℕ) × List ℕ). IsHead pc bytes y.0.0 y.0.1 y.0.2 y.1) {x = ((p.0.0, d.0.0, n.0.0), n.0.1)}
    (some_is ((p.0.0, d.0.0, n.0.0), n.0.1) x n.2)
    (record {
      parts = three_parts bytes p.0.0 p.0.1 (u4 d.0.0) d.0.1 (u4 n.0.0) n.0.1 s.0.parts t.0.parts u.0.parts;
      bytes_left = u.0.bytes_left;
      pads = s.1;
      default_size = t.1;
      number_size = u.1;
    })

-- whatever is read as the default
head_again : (pc : ℕ) (padding : List ℕ) (default read number : ℕ) (rest : List ℕ) → Pads padding pc
    → number_at 4 (u4 default ++ (u4 number ++ rest)) ≡ Some (read, u4 number ++ rest) → number < 2 ^ 32
    → head_at pc (padding ++ (u4 default ++ (u4 number ++ rest))) ≡ Some ((padding, read, number), rest)
unfolding head_at
head_again pc padding default read number rest pads d size =
    ap (λ (o : Option (List ℕ × List ℕ)). o >>= λ p. number_at 4 p.1 >>= λ d. number_at 4 d.1 >>= λ n. Some ((p.0, d.0, n.0), n.1))
    (padding_again pc padding (u4 default ++ (u4 number ++ rest)) pads)
    ∙ ap (λ (o : Option (ℕ × List ℕ)). o >>= λ d. number_at 4 d.1 >>= λ n. Some ((padding, d.0, n.0), n.1)) d
    ∙ ap (λ (o : Option (ℕ × List ℕ)). o >>= λ n. Some ((padding, read, n.0), n.1)) (u4_again number rest size)

-- four bytes are some number
some_number : (n : ℕ) (rest : List ℕ) → (read : ℕ) × (number_at 4 (u4 n ++ rest) ≡ Some (read, rest))
some_number n rest = by (ltb (length (u4 n ++ rest)) 4) _ (le-ltb (length (u4 n ++ rest)) 4 (omega arith)) where
  by : (short : Bool) (k : ℕ) → short ≡ false → (read : ℕ) × (cond {A = Option (ℕ × List ℕ)} short None (Some (k, rest)) ≡ Some (read, rest))
  by true k e = absurd cc
  by false k e = (k, refl)

-- ---- tableswitch

-- how many bytes its offsets take
offsets_count : (least most n : ℕ) → least ≤ most → n ≡ 4 * (most - least + 1) → n + 4 * least ≡ 4 * (most + 1)
offsets_count least most n order e = omega arith

count_offsets : (least most n : ℕ) → least ≤ most → n + 4 * least ≡ 4 * (most + 1) → n ≡ 4 * (most - least + 1)
count_offsets least most n order e = omega arith

pub table_text : (padding : List ℕ) (default low high : ℕ) (offsets rest : List ℕ)
    → instruction_text (TableSwitch padding default low high offsets) ++ rest ≡ 170 ∷ (padding ++ (u4 default ++ (u4 low ++ (u4 high ++ (offsets ++ rest)))))
table_text padding default low high offsets rest = ap (λ (x : List ℕ). 170 ∷ x) (append_assoc padding (u4 default ++ (u4 low ++ (u4 high ++ offsets))) rest)

table_reads : (pc : ℕ) (padding : List ℕ) (default read low high : ℕ) (rest : List ℕ) → Pads padding pc
    → number_at 4 (u4 default ++ (u4 low ++ (u4 high ++ rest))) ≡ Some (read, u4 low ++ (u4 high ++ rest)) → low < 2 ^ 32 → high < 2 ^ 32
    → table_switch_at pc (padding ++ (u4 default ++ (u4 low ++ (u4 high ++ rest)))) ≡ offsets_at (padding, read, low) high rest
unfolding table_switch_at
table_reads pc padding default read low high rest pads d low_size high_size =
    ap (λ (o : Option ((List ℕ × ℕ × ℕ) × List ℕ)). with_part o (λ head. with_part (number_at 4 head.1) (λ n. offsets_at head.0 n.0 n.1)))
    (head_again pc padding default read low (u4 high ++ rest) pads d low_size)
    ∙ ap (λ (o : Option (ℕ × List ℕ)). with_part o (λ n. offsets_at (padding, read, low) n.0 n.1)) (u4_again high rest high_size)

offsets_again : (padding : List ℕ) (default low high least most : ℕ) (offsets rest : List ℕ) → from_least low ≡ least → from_least high ≡ most
    → least ≤ most → length offsets + 4 * least ≡ 4 * (most + 1)
    → offsets_at (padding, default, low) high (offsets ++ rest) ≡ found (TableSwitch padding default low high offsets, rest)
offsets_again padding default low high least most offsets rest l h order count =
    rw (l, h, le-ltb most least order, bytes_again (4 * (most - least + 1)) offsets rest (count_offsets least most (length offsets) order count)) refl

pub table_again : (pc : ℕ) (padding : List ℕ) (default low high : ℕ) (offsets rest : List ℕ) → IsTableSwitch pc padding default low high offsets
    → table_switch_at pc (padding ++ (u4 default ++ (u4 low ++ (u4 high ++ (offsets ++ rest))))) ≡ found (TableSwitch padding default low high offsets, rest)
table_again pc padding default low high offsets rest m =
    table_reads pc padding default default low high (offsets ++ rest) m.pads (u4_again default (u4 low ++ (u4 high ++ (offsets ++ rest))) m.default_size)
    m.low_size m.high_size
    ∙ offsets_again padding default low high (from_least low) (from_least high) offsets rest refl refl m.order m.count

pub table_bad_again : (pc : ℕ) (padding : List ℕ) (default low high : ℕ) (rest : List ℕ) → Pads padding pc → low < 2 ^ 32 → high < 2 ^ 32
    → from_least high < from_least low
    → table_switch_at pc (padding ++ (u4 default ++ (u4 low ++ (u4 high ++ rest)))) ≡ stopped Switch
table_bad_again pc padding default low high rest pads low_size high_size bad =
    let d = some_number default (u4 low ++ (u4 high ++ rest)) in
    table_reads pc padding default d.0 low high rest pads d.1 low_size high_size
    ∙ rw (lt-ltb (from_least high) (from_least low) bad) refl

-- what its numbers tell
record HasTable (pc : ℕ) (bytes : List ℕ) (r : Result Read Stop) : Type 0 where
  padding : List ℕ
  default : ℕ
  low : ℕ
  high : ℕ
  rest : List ℕ
  parts : bytes ≡ padding ++ (u4 default ++ (u4 low ++ (u4 high ++ rest)))
  bytes_left : IsBytes rest
  pads : Pads padding pc
  default_size : default < 2 ^ 32
  low_size : low < 2 ^ 32
  high_size : high < 2 ^ 32
  gives : offsets_at (padding, default, low) high rest ≡ r

has_table : (pc : ℕ) (bytes : List ℕ) (r : Result Read Stop) → IsBytes bytes → r ≢ stopped Cut → table_switch_at pc bytes ≡ r → HasTable pc bytes r
unfolding table_switch_at
has_table pc bytes r fits some e =
    let head = with_part-some (head_at pc bytes) (λ head. with_part (number_at 4 head.1) (λ n. offsets_at head.0 n.0 n.1)) r some e in
    let n = with_part-some (number_at 4 head.0.1) (λ n. offsets_at head.0.0 n.0 n.1) r some head.2 in
    let h = head_takes pc bytes head.0 fits head.1 in
    let t = u4_takes head.0.1 n.0 h.bytes_left n.1 in
    record {
      padding = head.0.0.0;
      default = head.0.0.1;
      low = head.0.0.2;
      high = n.0.0;
      rest = n.0.1;
      parts = h.parts ∙ ap (λ (y : List ℕ). head.0.0.0 ++ (u4 head.0.0.1 ++ (u4 head.0.0.2 ++ y))) t.0.parts;
      bytes_left = t.0.bytes_left;
      pads = h.pads;
      default_size = h.default_size;
      low_size = h.number_size;
      high_size = t.1;
      gives = n.2;
    }

spelled_table : (pc : ℕ) (bytes : List ℕ) (x : Read) → HasTable pc bytes (found x) → Spelled pc (170 ∷ bytes) x.0 x.1
spelled_table pc bytes x h =
    let least = from_least h.low in
    let most = from_least h.high in
    let g = guarded-ok (ltb most least) (bytes_at (4 * (most - least + 1)) h.rest >>= λ o. Some (TableSwitch h.padding h.default h.low h.high o.0, o.1)) x
    h.gives in
    let b = bind_some (bytes_at (4 * (most - least + 1)) h.rest) (λ o. Some (TableSwitch h.padding h.default h.low h.high o.0, o.1)) x g.1 in
    let o = bytes_takes (4 * (most - least + 1)) h.rest b.0 h.bytes_left b.1 in
    subst (λ (y : Read). Spelled pc (170 ∷ bytes) y.0 y.1) (some_is (TableSwitch h.padding h.default h.low h.high b.0.0, b.0.1) x b.2)
    (record {
      taken = record {
        parts =
            ap (λ (y : List ℕ). 170 ∷ y) (h.parts ∙ ap (λ (y : List ℕ). h.padding ++ (u4 h.default ++ (u4 h.low ++ (u4 h.high ++ y)))) o.0.parts)
            ∙ sym (table_text h.padding h.default h.low h.high b.0.0 b.0.1);
        bytes_left = o.0.bytes_left;
      };
      stands = record {
        pads = h.pads;
        default_size = h.default_size;
        low_size = h.low_size;
        high_size = h.high_size;
        order = ltb-false most least g.0;
        count = offsets_count least most (length b.0.0) (ltb-false most least g.0) o.1;
      };
    })

pub table_takes : (pc : ℕ) (bytes : List ℕ) (x : Read) → IsBytes bytes → table_switch_at pc bytes ≡ found x → Spelled pc (170 ∷ bytes) x.0 x.1
table_takes pc bytes x fits e = spelled_table pc bytes x (has_table pc bytes (found x) fits (ok_some x) e)

bad_table : (pc : ℕ) (bytes : List ℕ) → HasTable pc bytes (stopped Switch) → IsBadSwitch pc (170 ∷ bytes)
bad_table pc bytes h =
    let bad =
    guarded-bad (ltb (from_least h.high) (from_least h.low))
    (bytes_at (4 * (from_least h.high - from_least h.low + 1)) h.rest >>= λ o. Some (TableSwitch h.padding h.default h.low h.high o.0, o.1)) h.gives
    in (
      h.padding,
      h.default,
      h.rest,
      h.pads,
      inl (
        h.low,
        h.high,
        ap (λ (y : List ℕ). 170 ∷ y) h.parts,
        h.low_size,
        h.high_size,
        ltb-true (from_least h.high) (from_least h.low) bad,
      ),
    )

pub table_bad : (pc : ℕ) (bytes : List ℕ) → IsBytes bytes → table_switch_at pc bytes ≡ stopped Switch → IsBadSwitch pc (170 ∷ bytes)
table_bad pc bytes fits e = bad_table pc bytes (has_table pc bytes (stopped Switch) fits (other_some Switch (λ e. absurd cc)) e)

pub table_no_opcode : (pc : ℕ) (bytes : List ℕ) → IsBytes bytes → table_switch_at pc bytes ≢ stopped Opcode
table_no_opcode pc bytes fits = λ e.
    let h = has_table pc bytes (stopped Opcode) fits (other_some Opcode (λ e. absurd cc)) e in
    guarded-opcode (ltb (from_least h.high) (from_least h.low))
    (bytes_at (4 * (from_least h.high - from_least h.low + 1)) h.rest >>= λ o. Some (TableSwitch h.padding h.default h.low h.high o.0, o.1)) h.gives

-- ---- lookupswitch

pub look_up_text : (padding : List ℕ) (default count : ℕ) (pairs rest : List ℕ)
    → instruction_text (LookupSwitch padding default count pairs) ++ rest ≡ 171 ∷ (padding ++ (u4 default ++ (u4 count ++ (pairs ++ rest))))
look_up_text padding default count pairs rest = ap (λ (x : List ℕ). 171 ∷ x) (append_assoc padding (u4 default ++ (u4 count ++ pairs)) rest)

look_up_reads : (pc : ℕ) (padding : List ℕ) (default read count : ℕ) (rest : List ℕ) → Pads padding pc
    → number_at 4 (u4 default ++ (u4 count ++ rest)) ≡ Some (read, u4 count ++ rest) → count < 2 ^ 32
    → lookup_switch_at pc (padding ++ (u4 default ++ (u4 count ++ rest))) ≡ pairs_at (padding, read, count) rest
unfolding lookup_switch_at
look_up_reads pc padding default read count rest pads d size =
    ap (λ (o : Option ((List ℕ × ℕ × ℕ) × List ℕ)). with_part o (λ head. pairs_at head.0 head.1)) (head_again pc padding default read count rest pads d size)

pub look_up_again : (pc : ℕ) (padding : List ℕ) (default count : ℕ) (pairs rest : List ℕ) → IsLookupSwitch pc padding default count pairs
    → lookup_switch_at pc (padding ++ (u4 default ++ (u4 count ++ (pairs ++ rest)))) ≡ found (LookupSwitch padding default count pairs, rest)
look_up_again pc padding default count pairs rest m =
    look_up_reads pc padding default default count (pairs ++ rest) m.pads (u4_again default (u4 count ++ (pairs ++ rest)) m.default_size)
    (let below = m.not_negative in omega arith)
    ∙ rw (lt-leb (2 ^ 31) count m.not_negative, bytes_again (8 * count) pairs rest m.sizes) refl

pub look_up_bad_again : (pc : ℕ) (padding : List ℕ) (default count : ℕ) (rest : List ℕ) → Pads padding pc → count < 2 ^ 32 → 2 ^ 31 ≤ count
    → lookup_switch_at pc (padding ++ (u4 default ++ (u4 count ++ rest))) ≡ stopped Switch
look_up_bad_again pc padding default count rest pads size bad =
    let d = some_number default (u4 count ++ rest) in
    look_up_reads pc padding default d.0 count rest pads d.1 size
    ∙ rw (le-leb (2 ^ 31) count bad) refl

record HasLookUp (pc : ℕ) (bytes : List ℕ) (r : Result Read Stop) : Type 0 where
  padding : List ℕ
  default : ℕ
  count : ℕ
  rest : List ℕ
  head : IsHead pc bytes padding default count rest
  gives : pairs_at (padding, default, count) rest ≡ r

has_look_up : (pc : ℕ) (bytes : List ℕ) (r : Result Read Stop) → IsBytes bytes → r ≢ stopped Cut → lookup_switch_at pc bytes ≡ r → HasLookUp pc bytes r
unfolding lookup_switch_at
has_look_up pc bytes r fits some e =
    let head = with_part-some (head_at pc bytes) (λ head. pairs_at head.0 head.1) r some e in
    record { padding = head.0.0.0; default = head.0.0.1; count = head.0.0.2; rest = head.0.1; head = head_takes pc bytes head.0 fits head.1; gives = head.2 }

spelled_look_up : (pc : ℕ) (bytes : List ℕ) (x : Read) → HasLookUp pc bytes (found x) → Spelled pc (171 ∷ bytes) x.0 x.1
spelled_look_up pc bytes x h =
    let g = guarded-ok (leb (2 ^ 31) h.count) (bytes_at (8 * h.count) h.rest >>= λ p. Some (LookupSwitch h.padding h.default h.count p.0, p.1)) x h.gives in
    let b = bind_some (bytes_at (8 * h.count) h.rest) (λ p. Some (LookupSwitch h.padding h.default h.count p.0, p.1)) x g.1 in
    let p = bytes_takes (8 * h.count) h.rest b.0 h.head.bytes_left b.1 in
    subst (λ (y : Read). Spelled pc (171 ∷ bytes) y.0 y.1) (some_is (LookupSwitch h.padding h.default h.count b.0.0, b.0.1) x b.2)
    (record {
      taken = record {
        parts =
            ap (λ (y : List ℕ). 171 ∷ y) (h.head.parts ∙ ap (λ (y : List ℕ). h.padding ++ (u4 h.default ++ (u4 h.count ++ y))) p.0.parts)
            ∙ sym (look_up_text h.padding h.default h.count b.0.0 b.0.1);
        bytes_left = p.0.bytes_left;
      };
      stands = record { pads = h.head.pads; default_size = h.head.default_size; not_negative = leb-false (2 ^ 31) h.count g.0; sizes = p.1 };
    })

pub look_up_takes : (pc : ℕ) (bytes : List ℕ) (x : Read) → IsBytes bytes → lookup_switch_at pc bytes ≡ found x → Spelled pc (171 ∷ bytes) x.0 x.1
look_up_takes pc bytes x fits e = spelled_look_up pc bytes x (has_look_up pc bytes (found x) fits (ok_some x) e)

bad_look_up : (pc : ℕ) (bytes : List ℕ) → HasLookUp pc bytes (stopped Switch) → IsBadSwitch pc (171 ∷ bytes)
bad_look_up pc bytes h =
    let bad = guarded-bad (leb (2 ^ 31) h.count) (bytes_at (8 * h.count) h.rest >>= λ p. Some (LookupSwitch h.padding h.default h.count p.0, p.1)) h.gives in
    (h.padding, h.default, h.rest, h.head.pads, inr (h.count, ap (λ (y : List ℕ). 171 ∷ y) h.head.parts, h.head.number_size, leb-true (2 ^ 31) h.count bad))

pub look_up_bad : (pc : ℕ) (bytes : List ℕ) → IsBytes bytes → lookup_switch_at pc bytes ≡ stopped Switch → IsBadSwitch pc (171 ∷ bytes)
look_up_bad pc bytes fits e = bad_look_up pc bytes (has_look_up pc bytes (stopped Switch) fits (other_some Switch (λ e. absurd cc)) e)

pub look_up_no_opcode : (pc : ℕ) (bytes : List ℕ) → IsBytes bytes → lookup_switch_at pc bytes ≢ stopped Opcode
look_up_no_opcode pc bytes fits = λ e.
    let h = has_look_up pc bytes (stopped Opcode) fits (other_some Opcode (λ e. absurd cc)) e in
    guarded-opcode (leb (2 ^ 31) h.count) (bytes_at (8 * h.count) h.rest >>= λ p. Some (LookupSwitch h.padding h.default h.count p.0, p.1)) h.gives
