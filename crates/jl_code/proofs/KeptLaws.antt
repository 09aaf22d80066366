-- What a scan keeps of the invocations, after what was there.
use Rattle.std.proofs.Common.{◌≡◌, ℕ, ◌-◌, true, eqb, List, [], ◌∷◌, ◌++◌, length, Option, Some, Ok, refl, sym, ap, subst}
use Rattle.std.proofs.Common.{◌∙◌, append_assoc}
use Rattle.std.specs.Prelude.{option_to_list, take, ◌==◌}
use Rattle.std.specs.List.{list_all}
use Rattle.std.proofs.lemmas.List.{append-nil, map-append}
use Rattle.std.proofs.lemmas.List.Folds.{list_all-append}
use Rattle.std.proofs.Math.Seq.{take-append_seam}
use Rattle.jl_code.specs.declared.instruction.Instruction.{Instruction}
use Rattle.jl_class.specs.declared.site.KeptSite.{KeptSite}
use Rattle.jl_class.specs.declared.site.Operand.{Operand}
use Rattle.jl_class.specs.Site.{Site}
use Rattle.jl_pool.specs.Pools.{Pool}
use Rattle.jl_code.specs.Codes.{kind_of, site_list, site_at, sites_from, OperandFits, IsCode}
use Rattle.jl_class.specs.Operands.{operand_at}
use Rattle.jl_code.specs.Kept.{IsKeptOf, Adds}
use Rattle.jl_class.specs.Kept.{is_named, site_in}
use Rattle.jl_code.specs.ForProofs.Instructions.{instruction_at}
use Rattle.jl_pool.proofs.Fields.{IsBytes}
use Rattle.jl_code.proofs.CodeLaws.{Scanned, Scanned-none, Scanned-more, Scanned-done}

-- ---- one invocation

pub kept_one : (pool : Pool) (pc opcode number : ℕ) (o : Operand (List ℕ)) → operand_at pool number ≡ Some o
    → IsKeptOf pool (record { pc = pc; kind = kind_of opcode; number = number } ∷ []) (site_list pc opcode (operand_at pool number))
kept_one pool pc opcode number o e = record { named = rw e refl; shown = rw e refl }

pub kept_none : (pool : Pool) → IsKeptOf pool [] []
kept_none pool = record { named = refl; shown = refl }

both_named : (pool : Pool) (xs ys : List KeptSite) → list_all (is_named pool) xs ≡ true → list_all (is_named pool) ys ≡ true
    → list_all (is_named pool) (xs ++ ys) ≡ true
both_named pool xs ys h k = list_all-append (is_named pool) xs ys ∙ rw (h, k) refl

pub kept_both : (pool : Pool) (xs ys : List KeptSite) (a b : List Site) → IsKeptOf pool xs a → IsKeptOf pool ys b → IsKeptOf pool (xs ++ ys) (a ++ b)
kept_both pool xs ys a b h k = record { named = both_named pool xs ys h.named k.named; shown = map-append (site_in pool) xs ys ∙ rw (h.shown, k.shown) refl }

-- ---- what a scan has kept so far

pub record KeptSoFar (pool : Pool) (code rest : List ℕ) (before now : List KeptSite) : Type 0 where
  pub made : List KeptSite
  pub later : now ≡ before ++ made
  pub sites : List Site
  pub kept : IsKeptOf pool made sites
  pub scanned : Scanned pool code rest sites

pub KeptSoFar-none : (pool : Pool) (code : List ℕ) (before : List KeptSite) → IsBytes code → KeptSoFar pool code code before before
KeptSoFar-none pool code before fits = record {
  made = [];
  later = sym (append-nil before);
  sites = [];
  kept = kept_none pool;
  scanned = Scanned-none pool code fits;
}

pub KeptSoFar-more : (pool : Pool) (code rest after : List ℕ) (before now : List KeptSite) (at : ℕ) (i : Instruction) (site : Option KeptSite)
    → at ≡ length code - length rest
    → KeptSoFar pool code rest before now → instruction_at at rest ≡ Ok (i, after)
    → OperandFits pool i × IsKeptOf pool (option_to_list site) (site_at pool at i) → KeptSoFar pool code after before (now ++ option_to_list site)
KeptSoFar-more pool code rest after before now at i site place s e found = record {
  made = s.made ++ option_to_list site;
  later = ap (λ (l : List KeptSite). l ++ option_to_list site) s.later ∙ append_assoc before s.made (option_to_list site);
  sites = s.sites ++ site_at pool at i;
  kept = kept_both pool s.made (option_to_list site) s.sites (site_at pool at i) s.kept found.1;
  scanned = Scanned-more pool code rest after s.sites at i place s.scanned e found.0;
}

pub KeptSoFar-done : (pool : Pool) (code rest : List ℕ) (before now : List KeptSite) → KeptSoFar pool code rest before now → eqb (length rest) 0 ≡ true
    → (is : List Instruction) × IsCode pool code is × Adds pool before now (sites_from pool 0 is)
KeptSoFar-done pool code rest before now s none =
    let d = Scanned-done pool code rest s.sites s.scanned none in
    (d.0, d.1, record { made = s.made; later = s.later; kept = subst (λ (l : List Site). IsKeptOf pool s.made l) d.2 s.kept })

-- ---- what was there is left

pub left : (before now made : List KeptSite) → now ≡ before ++ made → take (length before) now ≡ before
left before now made e = rw e (take-append_seam before made)
