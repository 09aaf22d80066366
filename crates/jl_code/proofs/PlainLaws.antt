-- Plain instructions are skipped by the table of their lengths.
use Rattle.std.proofs.Common.{◌≡◌, ◌≢◌, ℕ, suc, ◌+◌, ◌-◌, ◌<◌, ◌≤◌, List, [], ◌∷◌, ◌++◌, length, take, drop, map, get_or, Option, Some, None, refl}
use Rattle.std.proofs.Common.{sym, ap, subst, ◌∙◌, append_assoc, length-append, arith}
use Rattle.std.specs.List.{AllByRecursion, range_with_len}
use Rattle.std.specs.Option.{option_map_or}
use Rattle.std.proofs.lemmas.Grind.{flat_map-append}
use Rattle.std.proofs.lemmas.List.{append-nil, take-append-drop, length-take-le}
use Rattle.std.proofs.lemmas.List.FromFn.{get_or-map-range_with_len}
use Rattle.jl_names.proofs.Tests.{All-both}
use Rattle.jl_code.specs.declared.instruction.Instruction.{Instruction}
use Rattle.jl_code.specs.declared.instruction.Instruction.TheVariants.{Plain}
use Rattle.jl_code.specs.declared.plain.TheConstants.{LENGTHS}
use Rattle.jl_class.specs.Site.{Site}
use Rattle.jl_class.specs.declared.site.KeptSite.{KeptSite}
use Rattle.jl_pool.specs.Pools.{Pool}
use Rattle.jl_code.specs.Known.{plain_opcodes}
use Rattle.jl_code.specs.Instructions.{instruction_text, operands_in}
use Rattle.jl_code.specs.Codes.{code_bytes}
use Rattle.jl_code.specs.ForProofs.Plain.{plain_length, IsPlain, IsAfterPlain}
use Rattle.jl_code.proofs.InstructionLaws.{instruction_again}
use Rattle.jl_code.proofs.CodeLaws.{Scanned, Scanned-more}
use Rattle.jl_code.proofs.KeptLaws.{KeptSoFar}

table : LENGTHS ≡ map plain_length (range_with_len 0 256)
table = refl

pub entry_of : (opcode : ℕ) → opcode < 256 → get_or LENGTHS opcode 0 ≡ plain_length opcode
entry_of opcode h = ap (λ t. get_or t opcode 0) table ∙ get_or-map-range_with_len plain_length 0 256 opcode opcode 0 h (omega arith)

-- ---- one, and one after another

stands_by : (opcode : ℕ) (bytes : List ℕ) (row : Option ℕ) (n : ℕ) → operands_in plain_opcodes opcode ≡ row → n ≡ option_map_or (λ k. k + 1) row 0
    → n ≢ 0 → n ≤ length (opcode ∷ bytes) → IsAfterPlain (opcode ∷ bytes) (drop n (opcode ∷ bytes))
stands_by opcode bytes None n row e some fits = absurd (some e)
stands_by opcode bytes (Some k) n row e some fits = rw (let up : n ≡ suc k = omega (arith, e) in up) (record {
  is = Plain opcode (take k bytes) ∷ [];
  bytes_are = ap (λ (x : List ℕ). opcode ∷ x) (sym (ap (λ (x : List ℕ). x ++ drop k bytes) (append-nil (take k bytes)) ∙ take-append-drop k bytes));
  plain = (row ∙ ap (λ (m : ℕ). Some m) (let few : k ≤ length bytes = omega (arith, e, fits) in sym (length-take-le k bytes few)), tt);
})

pub stands : (bytes : List ℕ) (n : ℕ) → n ≡ plain_length (get_or bytes 0 0) → n ≢ 0 → n ≤ length bytes → IsAfterPlain bytes (drop n bytes)
stands [] n e some fits = absurd (some (omega (arith, fits)))
stands (opcode ∷ bytes) n e some fits = stands_by opcode bytes (operands_in plain_opcodes opcode) n refl e some fits

pub more_skipped : (a b c : List ℕ) → IsAfterPlain a b → IsAfterPlain b c → IsAfterPlain a c
more_skipped a b c h k = record {
  is = h.is ++ k.is;
  bytes_are =
      h.bytes_are ∙ ap (λ (x : List ℕ). code_bytes h.is ++ x) k.bytes_are
      ∙ sym (ap (λ (x : List ℕ). x ++ c) (flat_map-append instruction_text h.is k.is) ∙ append_assoc (code_bytes h.is) (code_bytes k.is) c);
  plain = All-both IsPlain h.is k.is h.plain k.plain;
}

pub no_longer : (a b : List ℕ) → IsAfterPlain a b → length b ≤ length a
no_longer a b h = omega (arith, ap length h.bytes_are, length-append (code_bytes h.is) b)

-- ---- a scan over them

plain_scanned : (pool : Pool) (code rest : List ℕ) (sites : List Site) (is : List Instruction) → AllByRecursion IsPlain is
    → Scanned pool code (code_bytes is ++ rest) sites → Scanned pool code rest sites
plain_scanned pool code rest sites [] h s = s
plain_scanned pool code rest sites (Plain opcode operands ∷ is) h s =
    let later = code_bytes is ++ rest in
    let here : Scanned pool code (instruction_text (Plain opcode operands) ++ later) sites =
    subst (λ (x : List ℕ). Scanned pool code x sites) (append_assoc (instruction_text (Plain opcode operands)) (code_bytes is) rest) s
    in
    let at = length code - length (instruction_text (Plain opcode operands) ++ later) in
    let one = Scanned-more pool code (instruction_text (Plain opcode operands) ++ later) later sites at (Plain opcode operands) refl here
    (instruction_again at (Plain opcode operands) later h.0) tt
    in
    plain_scanned pool code rest sites is h.1 (subst (λ (l : List Site). Scanned pool code later l) (append-nil sites) one)
plain_scanned pool code rest sites (_ ∷ is) h s = absurd h.0

pub KeptSoFar-plain : (pool : Pool) (code rest after : List ℕ) (before now : List KeptSite) → KeptSoFar pool code rest before now → IsAfterPlain rest after
    → KeptSoFar pool code after before now
KeptSoFar-plain pool code rest after before now s h = record {
  made = s.made;
  later = s.later;
  sites = s.sites;
  kept = s.kept;
  scanned = plain_scanned pool code after s.sites h.is h.plain (subst (λ (x : List ℕ). Scanned pool code x s.sites) h.bytes_are s.scanned);
}
