-- One instruction after another: what a scan has found so far.
use Rattle.std.proofs.Common.{◌≡◌, ℕ, ◌+◌, ◌-◌, ◌<◌, ◌≤◌, true, false, eqb, List, [], ◌∷◌, ◌++◌, length, Ok, Err, refl, sym, ap}
use Rattle.std.proofs.Common.{subst, ◌∙◌, append_assoc, length-append, arith}
use Rattle.std.specs.List.{AllByRecursion}
use Rattle.std.proofs.lemmas.Grind.{flat_map-append}
use Rattle.std.proofs.lemmas.List.{append-nil, nil_from_length}
use Rattle.std.proofs.lemmas.Bool.{eqb-true}
use Rattle.jl_names.proofs.Tests.{All-push}
use Rattle.jl_code.specs.declared.code_fault.CodeFault.{CodeFault}
use Rattle.jl_code.specs.declared.code_fault.CodeFault.TheVariants.{BadOpcode, CutShort, BadSwitch, BadOperand, BadLayout, Memory}
use Rattle.jl_code.specs.declared.instruction.Instruction.{Instruction}
use Rattle.jl_code.specs.declared.instruction.Instruction.TheVariants.{Plain, Wide, Invoke, TableSwitch, LookupSwitch}
use Rattle.jl_code.specs.declared.instruction.Stop.TheVariants.{Cut, Opcode, Switch}
use Rattle.jl_class.specs.Site.{Site}
use Rattle.jl_pool.specs.Pools.{Pool}
use Rattle.jl_code.specs.Instructions.{instruction_text, MayStand}
use Rattle.jl_code.specs.Codes.{code_bytes, MayStandFrom, site_at, sites_from, OperandFits, IsCode}
use Rattle.jl_code.specs.Faults.{Runs, IsScanFault}
use Rattle.jl_code.specs.ForProofs.Instructions.{instruction_at}
use Rattle.jl_code.specs.ForProofs.Sites.{IsSiteFault}
use Rattle.jl_pool.proofs.Fields.{IsBytes}
use Rattle.jl_code.proofs.InstructionLaws.{instruction_again, instruction_takes, instruction_cut, instruction_unknown, instruction_bad}

-- whole instructions that were scanned, their sites, and what is left
pub record Scanned (pool : Pool) (code rest : List ℕ) (sites : List Site) : Type 0 where
  pub is : List Instruction
  pub bytes_are : code ≡ code_bytes is ++ rest
  pub places : MayStandFrom 0 is
  pub operands : AllByRecursion (OperandFits pool) is
  pub sites_are : sites ≡ sites_from pool 0 is
  pub bytes_left : IsBytes rest

pub Scanned-none : (pool : Pool) (code : List ℕ) → IsBytes code → Scanned pool code code []
Scanned-none pool code fits = record { is = []; bytes_are = refl; places = tt; operands = tt; sites_are = refl; bytes_left = fits }

bytes-push : (is : List Instruction) (i : Instruction) → code_bytes (is ++ i ∷ []) ≡ code_bytes is ++ instruction_text i
bytes-push is i = flat_map-append instruction_text is (i ∷ []) ∙ ap (λ (x : List ℕ). code_bytes is ++ x) (append-nil (instruction_text i))

places-push : (pc at : ℕ) (is : List Instruction) (i : Instruction) → at ≡ pc + length (code_bytes is) → MayStandFrom pc is → MayStand at i
    → MayStandFrom pc (is ++ i ∷ [])
places-push pc at [] i e h m = (subst (λ (n : ℕ). MayStand n i) (let same : at ≡ pc = omega (arith, e) in same) m, tt)
places-push pc at (j ∷ is) i e h m =
    (h.0, places-push (pc + length (instruction_text j)) at is i (omega (arith, e, length-append (instruction_text j) (code_bytes is))) h.1 m)

sites-push : (pool : Pool) (pc at : ℕ) (is : List Instruction) (i : Instruction) → at ≡ pc + length (code_bytes is)
    → sites_from pool pc (is ++ i ∷ []) ≡ sites_from pool pc is ++ site_at pool at i
sites-push pool pc at [] i e = append-nil (site_at pool pc i) ∙ ap (λ (n : ℕ). site_at pool n i) (let same : pc ≡ at = omega (arith, e) in same)
sites-push pool pc at (j ∷ is) i e =
    ap (λ (x : List Site). site_at pool pc j ++ x) (sites-push pool (pc + length (instruction_text j)) at is i
    (omega (arith, e, length-append (instruction_text j) (code_bytes is))))
    ∙ sym (append_assoc (site_at pool pc j) (sites_from pool (pc + length (instruction_text j)) is) (site_at pool at i))

pub place_of : (pool : Pool) (code rest : List ℕ) (sites : List Site) (s : Scanned pool code rest sites) → length code - length rest ≡ length (code_bytes s.is)
place_of pool code rest sites s = omega (arith, ap length s.bytes_are, length-append (code_bytes s.is) rest)

pub Scanned-more : (pool : Pool) (code rest after : List ℕ) (sites : List Site) (at : ℕ) (i : Instruction) → at ≡ length code - length rest
    → Scanned pool code rest sites → instruction_at at rest ≡ Ok (i, after)
    → OperandFits pool i → Scanned pool code after (sites ++ site_at pool at i)
Scanned-more pool code rest after sites at i place s e fits =
    let t = instruction_takes at rest (i, after) s.bytes_left e in
    let here : at ≡ 0 + length (code_bytes s.is) = omega (arith, place, place_of pool code rest sites s) in
    record {
      is = s.is ++ i ∷ [];
      bytes_are =
          s.bytes_are
          ∙ ap (λ (x : List ℕ). code_bytes s.is ++ x) t.taken.parts
          ∙ sym (ap (λ (x : List ℕ). x ++ after) (bytes-push s.is i) ∙ append_assoc (code_bytes s.is) (instruction_text i) after);
      places = places-push 0 at s.is i here s.places t.stands;
      operands = All-push (OperandFits pool) s.is i s.operands fits;
      sites_are = ap (λ (x : List Site). x ++ site_at pool at i) s.sites_are ∙ sym (sites-push pool 0 at s.is i here);
      bytes_left = t.taken.bytes_left;
    }

pub Scanned-done : (pool : Pool) (code rest : List ℕ) (sites : List Site) → Scanned pool code rest sites → eqb (length rest) 0 ≡ true
    → (is : List Instruction) × IsCode pool code is × (sites ≡ sites_from pool 0 is)
Scanned-done pool code rest sites s none = (
  s.is,
  record {
    bytes_are = s.bytes_are ∙ ap (λ (x : List ℕ). code_bytes s.is ++ x) (nil_from_length rest (eqb-true _ _ none)) ∙ append-nil (code_bytes s.is);
    places = s.places;
    operands = s.operands;
  },
  s.sites_are,
)

runs : (pool : Pool) (code rest : List ℕ) (sites : List Site) (at : ℕ) (s : Scanned pool code rest sites) → at ≡ length code - length rest
    → Runs code s.is at rest
runs pool code rest sites at s place = record { bytes_are = s.bytes_are; places = s.places; place = omega (arith, place, place_of pool code rest sites s) }

pub Scanned-unknown : (pool : Pool) (code rest : List ℕ) (sites : List Site) (at : ℕ) → at ≡ length code - length rest → Scanned pool code rest sites
    → instruction_at at rest ≡ Err Opcode → IsScanFault pool code (BadOpcode at)
Scanned-unknown pool code rest sites at place s e = (s.is, rest, runs pool code rest sites at s place, instruction_unknown at rest s.bytes_left e)

pub Scanned-switch : (pool : Pool) (code rest : List ℕ) (sites : List Site) (at : ℕ) → at ≡ length code - length rest → Scanned pool code rest sites
    → instruction_at at rest ≡ Err Switch → IsScanFault pool code (BadSwitch at)
Scanned-switch pool code rest sites at place s e =
    let bad = instruction_bad at rest s.bytes_left e in
    (s.is, rest, runs pool code rest sites at s place, bad.begins, bad.switch)

pub Scanned-cut : (pool : Pool) (code rest : List ℕ) (sites : List Site) (at : ℕ) → at ≡ length code - length rest → Scanned pool code rest sites
    → eqb (length rest) 0 ≡ false → instruction_at at rest ≡ Err Cut
    → IsScanFault pool code (CutShort at)
Scanned-cut pool code [] sites at place s some e = absurd cc
Scanned-cut pool code (b ∷ rest) sites at place s some e =
    let cut = instruction_cut at b rest e in (
      s.is,
      b ∷ rest,
      runs pool code (b ∷ rest) sites at s place,
      λ h. absurd cc,
      cut.begins,
      cut.no_switch,
      λ i after m h. absurd (let read = ap (instruction_at at) h ∙ instruction_again at i after m in cc),
    )

pub Scanned-operand : (pool : Pool) (code rest after : List ℕ) (sites : List Site) (at : ℕ) (i : Instruction) (f : CodeFault) → at ≡ length code - length rest
    → Scanned pool code rest sites
    → instruction_at at rest ≡ Ok (i, after) → IsSiteFault pool at i f → IsScanFault pool code f
Scanned-operand pool code rest after sites at i (BadOperand here) place s e bad =
    let t = instruction_takes at rest (i, after) s.bytes_left e in
    let there : Scanned pool code (instruction_text i ++ after) sites = subst (λ (x : List ℕ). Scanned pool code x sites) t.taken.parts s in (
      there.is,
      i,
      after,
      subst (λ (n : ℕ). Runs code there.is n (instruction_text i ++ after)) (sym bad.0)
          (runs pool code (instruction_text i ++ after) sites at there (place ∙ ap (λ (x : List ℕ). length code - length x) t.taken.parts)),
      subst (λ (n : ℕ). MayStand n i) (sym bad.0) t.stands,
      bad.1,
    )
Scanned-operand pool code rest after sites at i Memory place s e bad = tt
Scanned-operand pool code rest after sites at i (BadOpcode here) place s e bad = absurd bad
Scanned-operand pool code rest after sites at i (CutShort here) place s e bad = absurd bad
Scanned-operand pool code rest after sites at i (BadSwitch here) place s e bad = absurd bad
Scanned-operand pool code rest after sites at i BadLayout place s e bad = absurd bad

pub text-some : (i : Instruction) → 1 ≤ length (instruction_text i)
text-some (Plain opcode operands) = omega arith
text-some (Wide opcode operands) = omega arith
text-some (Invoke opcode number tail) = omega arith
text-some (TableSwitch padding default low high offsets) = omega arith
text-some (LookupSwitch padding default count pairs) = omega arith

pub shorter : (pool : Pool) (code rest after : List ℕ) (sites : List Site) (at : ℕ) (i : Instruction) → Scanned pool code rest sites
    → instruction_at at rest ≡ Ok (i, after) → length after < length rest
shorter pool code rest after sites at i s e =
    let t = instruction_takes at rest (i, after) s.bytes_left e in
    omega (arith, ap length t.taken.parts, length-append (instruction_text i) after, text-some i)
