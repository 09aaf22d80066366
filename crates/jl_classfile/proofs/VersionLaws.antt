-- What another newest version changes: a file above it has the fault BadVersion and no other, and all else stays.
use Rattle.std.proofs.Common.{◌≡◌, ℕ, ◌<◌, ◌≤◌, List, ◌++◌, length, take, refl, ap, arith}
use Rattle.jl_classfile.specs.declared.fault.ClassFault.{ClassFault}
use Rattle.jl_classfile.specs.declared.fault.ClassFault.TheVariants.{BadMagic, BadVersion, Truncated}
use Rattle.jl_pool.specs.Pools.{pool_text}
use Rattle.jl_classfile.specs.Layouts.{body_text, head_text}
use Rattle.jl_classfile.specs.Parts.{Parts}
use Rattle.jl_classfile.specs.ClassFiles.{IsClassUpTo}
use Rattle.jl_classfile.specs.Faults.{Pass, HeadFault, FailsWith, rank, IsFaultUpTo}
use Rattle.jl_classfile.specs.Faults.{Sizing, Heading, Pooling, Laying, Linking, Membership, Attribution, Coding}
use Rattle.jl_classfile.proofs.FaultLaws.{no_size}
use Rattle.jl_classfile.proofs.ReadLaws.{head_first}

-- all but the version is asked without the newest one
bounded : (m n : ℕ) (bytes : List ℕ) (p : Parts) → p.layout.major ≤ n → IsClassUpTo m bytes p → IsClassUpTo n bytes p
bounded m n bytes p le h = record {
  few = h.few;
  spelled = h.spelled;
  laid = h.laid;
  version = record { from = h.version.from; to = le; plain = h.version.plain };
  pool = h.pool;
  links = h.links;
  members = h.members;
  attributes = h.attributes;
  nest = h.nest;
  codes = h.codes;
}

pub later : (m n : ℕ) (bytes : List ℕ) (p : Parts) → m ≤ n → IsClassUpTo m bytes p → IsClassUpTo n bytes p
later m n bytes p le h = bounded m n bytes p (let to = h.version.to in omega (arith, to, le)) h

pub earlier : (m n : ℕ) (bytes : List ℕ) (p : Parts) → p.layout.major ≤ m → IsClassUpTo n bytes p → IsClassUpTo m bytes p
earlier m n = bounded n m

-- of a file whose head is whole and has its magic number no fault of the head is left but that of its version
of_version : (newest : ℕ) (bytes rest : List ℕ) (minor major : ℕ) (f : ClassFault) → bytes ≡ head_text minor major ++ rest → HeadFault newest bytes f
    → f ≡ BadVersion
of_version newest bytes rest minor major Truncated e short = absurd (omega (arith, short, ap length e))
of_version newest bytes rest minor major BadMagic e fault = absurd (fault.1 (ap (λ (t : List ℕ). take 4 t) e))
of_version newest bytes rest minor major BadVersion e fault = refl
of_version newest bytes rest minor major _ e fault = absurd fault

module _ (m n : ℕ) (bytes : List ℕ) (p : Parts) (lt : m < p.layout.major) (h : IsClassUpTo n bytes p) where
  too_late : HeadFault m bytes BadVersion
  too_late = (
    p.layout.minor,
    p.layout.major,
    pool_text p.layout.constants ++ body_text p.layout.body,
    h.spelled,
    h.laid.minor,
    h.laid.major,
    λ v. let to = v.to in omega (arith, to, lt),
  )

  pub refused : IsFaultUpTo m bytes BadVersion
  refused = head_first m bytes BadVersion h.few too_late

  of_pass : (pass : Pass) (f : ClassFault) → FailsWith m pass bytes f
      → ((earlier : Pass) (g : ClassFault) → rank earlier < rank pass → ¬ FailsWith m earlier bytes g) → f ≡ BadVersion
  of_pass Sizing f fault first = absurd (no_size bytes f h.few fault)
  of_pass Heading f fault first =
      of_version m bytes (pool_text p.layout.constants ++ body_text p.layout.body) p.layout.minor p.layout.major f h.spelled fault
  of_pass Pooling f fault first = absurd (first Heading BadVersion (omega arith) too_late)
  of_pass Laying f fault first = absurd (first Heading BadVersion (omega arith) too_late)
  of_pass Linking f fault first = absurd (first Heading BadVersion (omega arith) too_late)
  of_pass Membership f fault first = absurd (first Heading BadVersion (omega arith) too_late)
  of_pass Attribution f fault first = absurd (first Heading BadVersion (omega arith) too_late)
  of_pass Coding f fault first = absurd (first Heading BadVersion (omega arith) too_late)

  pub only : (f : ClassFault) → IsFaultUpTo m bytes f → f ≡ BadVersion
  only f fault = of_pass fault.pass f fault.fails fault.first
