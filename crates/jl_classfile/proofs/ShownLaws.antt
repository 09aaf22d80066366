-- What a class file shows of its methods.
use Rattle.std.proofs.Common.{◌≡◌, ℕ, ◌≤◌, List, [], ◌∷◌, ◌++◌, length, Option, Some, refl, sym, ap, subst, ◌∙◌, suc}
use Rattle.std.proofs.Common.{◌+◌, ◌-◌, ◌<◌, true, get_or, map, take, drop, length-append, arith}
use Rattle.std.specs.Prelude.{slice_range, nat_le, codes}
use Rattle.std.specs.List.{list_all}
use Rattle.std.proofs.Math.Seq.{take-suc, take-append-le, drop-append-le}
use Rattle.std.proofs.lemmas.Bool.{le-leb, leb-true, and_parts}
use Rattle.std.proofs.lemmas.List.{map-append, length-drop, length-map}
use Rattle.std.proofs.lemmas.List.Folds.{list_all-append}
use Rattle.jl_class.specs.declared.site.KeptSite.{KeptSite}
use Rattle.jl_class.specs.Kept.{is_named, site_in}
use Rattle.jl_class.specs.declared.class.KeptMethod.{KeptMethod}
use Rattle.jl_class.specs.Kept.{method_in, is_ranged}
use Rattle.jl_classfile.specs.declared.body.Attribute.{Attribute}
use Rattle.jl_classfile.specs.declared.body.Member.{Member}
use Rattle.jl_class.specs.Class.{Method}
use Rattle.jl_code.specs.declared.instruction.Instruction.{Instruction}
use Rattle.jl_code.specs.declared.code_fault.CodeFault.{CodeFault}
use Rattle.jl_code.specs.declared.code_fault.CodeFault.TheVariants as code
use Rattle.jl_classfile.specs.declared.fault.ClassFault.TheVariants.{Code}
use Rattle.jl_pool.specs.Pools.{Pool}
use Rattle.jl_code.specs.Codes.{IsCode, sites_from}
use Rattle.jl_classfile.specs.CodeAttributes.{HoldsCode, IsCodeOf}
use Rattle.jl_classfile.specs.Conditions.{codes_of, HasCode, HaveCodes}
use Rattle.jl_code.specs.Faults.{IsScanFault}
use Rattle.jl_classfile.specs.Shown.{shown_method, shown_methods}
use Rattle.jl_class.specs.Kept.{text_or_nothing}
use Rattle.jl_classfile.specs.ForProofs.Passes.{fault_of_code, IsMethodFault, SitesShown, MethodShown, MethodsShown, MethodAdded, MethodsKept}

-- ---- one method

-- the method has this Code attribute and no other
pub record HasInfo (p : Pool) (m : Member) (info : List ℕ) : Type 0 where
  pub attribute : Attribute
  pub only : codes_of p m ≡ attribute ∷ []
  pub is : attribute.info ≡ info

pub has_info : (p : Pool) (m : Member) (a : Attribute) (more : List Attribute) (info : List ℕ) → length (codes_of p m) ≤ 1 → codes_of p m ≡ a ∷ more
    → info ≡ a.info → HasInfo p m info
has_info p m a [] info few e is = record { attribute = a; only = e; is = sym is }
has_info p m a (b ∷ more) info few e is = absurd (omega (arith, few, ap length e))

code_of : (p : Pool) (info bytes : List ℕ) (is : List Instruction) → HoldsCode info bytes → IsCode p bytes is → IsCodeOf p info is
code_of p info bytes is holds c = record {
  holds = subst (λ (t : List ℕ). HoldsCode info t) c.bytes_are holds;
  code = subst (λ (t : List ℕ). IsCode p t is) c.bytes_are c;
}

pub sites_some : (p : Pool) (m : Member) (info bytes : List ℕ) (is : List Instruction) → HasInfo p m info → HoldsCode info bytes → IsCode p bytes is
    → SitesShown p m (sites_from p 0 is)
sites_some p m info bytes is h holds c = record {
  code = Some is;
  has = subst (λ (l : List Attribute). HasCode p l (Some is)) (sym h.only)
      (subst (λ (t : List ℕ). IsCodeOf p t is) (sym h.is) (code_of p info bytes is holds c));
  shown = refl;
}

pub bad_layout : (p : Pool) (m : Member) (index : ℕ) (info : List ℕ) → HasInfo p m info → ((bytes : List ℕ) → ¬ HoldsCode info bytes)
    → IsMethodFault p index m (Code index code.BadLayout)
bad_layout p m index info h none = (h.attribute, refl, h.only, (λ e. absurd cc), λ bytes. subst (λ (t : List ℕ). ¬ HoldsCode t bytes) (sym h.is) (none bytes))

pub bad_code : (p : Pool) (m : Member) (index : ℕ) (info bytes : List ℕ) (f : CodeFault) → HasInfo p m info → HoldsCode info bytes → IsScanFault p bytes f
    → IsMethodFault p index m (fault_of_code index f)
bad_code p m index info bytes code.Memory h holds fault = tt
bad_code p m index info bytes code.BadLayout h holds fault = absurd fault
bad_code p m index info bytes (code.BadOpcode pc) h holds fault = (
  h.attribute,
  refl,
  h.only,
  (λ e. absurd cc),
  (bytes, subst (λ (t : List ℕ). HoldsCode t bytes) (sym h.is) holds, fault),
)
bad_code p m index info bytes (code.BadSwitch pc) h holds fault = (
  h.attribute,
  refl,
  h.only,
  (λ e. absurd cc),
  (bytes, subst (λ (t : List ℕ). HoldsCode t bytes) (sym h.is) holds, fault),
)
bad_code p m index info bytes (code.CutShort pc) h holds fault = (
  h.attribute,
  refl,
  h.only,
  (λ e. absurd cc),
  (bytes, subst (λ (t : List ℕ). HoldsCode t bytes) (sym h.is) holds, fault),
)
bad_code p m index info bytes (code.BadOperand pc) h holds fault = (
  h.attribute,
  refl,
  h.only,
  (λ e. absurd cc),
  (bytes, subst (λ (t : List ℕ). HoldsCode t bytes) (sym h.is) holds, fault),
)

-- ---- what is kept of a method, over the sites of those before it and its own

ranged : (before made : List KeptSite) (flags name ty : ℕ)
    → is_ranged (length (before ++ made)) (record { flags = flags; name = name; ty = ty; from = length before; to = length (before ++ made) }) ≡ true
ranged before made flags name ty = rw (
  le-leb (length before) (length (before ++ made)) (omega (arith, length-append before made)),
  le-leb (length (before ++ made)) (length (before ++ made)) (omega arith),
) refl

-- ---- what is kept of earlier methods stays, when sites are added

range_stays : (sites more : List KeptSite) (from to : ℕ) → from ≤ to → to ≤ length sites → slice_range (sites ++ more) from to ≡ slice_range sites from to
range_stays sites more from to h k =
    ap (λ (l : List KeptSite). take (to - from) l) (drop-append-le from sites more (omega arith))
    ∙ take-append-le (to - from) (drop from sites) more (omega (arith, length-drop from sites))

in_range : (size : ℕ) (m : KeptMethod) → is_ranged size m ≡ true → (m.from ≤ m.to) × (m.to ≤ size)
in_range size m h = let b = and_parts (nat_le m.from m.to) (nat_le m.to size) h in (leb-true m.from m.to b.0, leb-true m.to size b.1)

methods_stay : (p : Pool) (sites more : List KeptSite) (ms : List KeptMethod) → list_all (is_ranged (length sites)) ms ≡ true
    → (map (method_in p (sites ++ more)) ms ≡ map (method_in p sites) ms) × (list_all (is_ranged (length (sites ++ more))) ms ≡ true)
methods_stay p sites more [] h = (refl, refl)
methods_stay p sites more (m ∷ ms) h =
    let b = and_parts (is_ranged (length sites) m) (list_all (is_ranged (length sites)) ms) h in
    let r = in_range (length sites) m b.0 in
    let rest = methods_stay p sites more ms b.1 in
    let same : method_in p (sites ++ more) m ≡ method_in p sites m =
    ap (λ (l : List KeptSite). record { flags = m.flags; name = text_or_nothing p m.name; ty = text_or_nothing p m.ty; sites = map (site_in p) l })
    (range_stays sites more m.from m.to r.0 r.1)
    in (
      rw (same, rest.0) refl,
      rw (le-leb m.from m.to r.0, le-leb m.to (length (sites ++ more)) (omega (arith, length-append sites more, r.1)), rest.1) refl,
    )

-- ---- all methods

pub none_shown : (p : Pool) → MethodsShown p [] []
none_shown p = record { codes = []; have = tt; shown = refl }

have_more : (p : Pool) (ms : List Member) (codes : List (Option (List Instruction))) (m : Member) (c : Option (List Instruction)) → HaveCodes p ms codes
    → HasCode p (codes_of p m) c → HaveCodes p (ms ++ m ∷ []) (codes ++ c ∷ [])
have_more p [] [] m c h k = (k, tt)
have_more p [] (d ∷ codes) m c h k = absurd h
have_more p (n ∷ ms) [] m c h k = absurd h
have_more p (n ∷ ms) (d ∷ codes) m c h k = (h.0, have_more p ms codes m c h.1 k)

shown_more : (p : Pool) (ms : List Member) (codes : List (Option (List Instruction))) (m : Member) (c : Option (List Instruction)) → HaveCodes p ms codes
    → shown_methods p (ms ++ m ∷ []) (codes ++ c ∷ []) ≡ shown_methods p ms codes ++ shown_method p m c ∷ []
shown_more p [] [] m c h = refl
shown_more p [] (d ∷ codes) m c h = absurd h
shown_more p (n ∷ ms) [] m c h = absurd h
shown_more p (n ∷ ms) (d ∷ codes) m c h = ap (λ (l : List Method). shown_method p n d ∷ l) (shown_more p ms codes m c h.1)

shown_count : (p : Pool) (ms : List Member) (codes : List (Option (List Instruction))) → HaveCodes p ms codes → length (shown_methods p ms codes) ≡ length ms
shown_count p [] codes h = refl
shown_count p (m ∷ ms) [] h = absurd h
shown_count p (m ∷ ms) (c ∷ codes) h = ap (λ (n : ℕ). suc n) (shown_count p ms codes h.1)

-- a class file shows as many methods as it has
pub as_many : (p : Pool) (ms : List Member) (methods : List Method) → MethodsShown p ms methods → length methods ≡ length ms
as_many p ms methods s = ap (λ (l : List Method). length l) s.shown ∙ shown_count p ms s.codes s.have

pub one_more_shown : (p : Pool) (ms : List Member) (methods : List Method) (m : Member) (method : Method) → MethodsShown p ms methods → MethodShown p m method
    → MethodsShown p (ms ++ m ∷ []) (methods ++ method ∷ [])
one_more_shown p ms methods m method s k = record {
  codes = s.codes ++ k.code ∷ [];
  have = have_more p ms s.codes m k.code s.have k.has;
  shown = ap (λ (l : List Method). l ++ method ∷ []) s.shown ∙ ap (λ (x : Method). shown_methods p ms s.codes ++ x ∷ []) k.shown
      ∙ sym (shown_more p ms s.codes m k.code s.have);
}

pub methods_step : (p : Pool) (ms : List Member) (methods : List Method) (i : ℕ) (d : Member) (method : Method) → i < length ms
    → MethodsShown p (take i ms) methods
    → MethodShown p (get_or ms i d) method
    → MethodsShown p (take (i + 1) ms) (methods ++ method ∷ [])
methods_step p ms methods i d method h s k =
    let next : i + 1 ≡ suc i = omega arith in
    subst (λ (l : List Member). MethodsShown p l (methods ++ method ∷ [])) (sym (ap (λ (n : ℕ). take n ms) next ∙ take-suc ms i d h))
    (one_more_shown p (take i ms) methods (get_or ms i d) method s k)

-- ---- all methods, as they are kept

pub none_kept : (p : Pool) → MethodsKept p [] [] []
none_kept p = record { kept = record { named = refl; ranged = refl }; shown = none_shown p }

pub as_many_kept : (p : Pool) (ms : List Member) (sites : List KeptSite) (methods : List KeptMethod) → MethodsKept p ms sites methods
    → length methods ≡ length ms
as_many_kept p ms sites methods s = sym (length-map methods (method_in p sites)) ∙ as_many p ms (map (method_in p sites) methods) s.shown

pub kept_step : (p : Pool) (ms : List Member) (before after : List KeptSite) (methods : List KeptMethod) (i : ℕ) (d : Member) (method : KeptMethod)
    → i < length ms
    → MethodsKept p (take i ms) before methods → MethodAdded p (get_or ms i d) before after method
    → MethodsKept p (take (i + 1) ms) after (methods ++ method ∷ [])
kept_step p ms before after methods i d method h s a =
    let stay = methods_stay p before a.made methods s.kept.ranged in
    let after_stay : (map (method_in p after) methods ≡ map (method_in p before) methods) × (list_all (is_ranged (length after)) methods ≡ true) =
    subst (λ (l : List KeptSite). (map (method_in p l) methods ≡ map (method_in p before) methods) × (list_all (is_ranged (length l)) methods ≡ true))
    (sym a.later) stay
    in
    record {
      kept = record {
        named = ap (λ (l : List KeptSite). list_all (is_named p) l) a.later ∙ list_all-append (is_named p) before a.made ∙ rw (s.kept.named, a.named) refl;
        ranged = list_all-append (is_ranged (length after)) methods (method ∷ []) ∙ rw (after_stay.1, a.ranged) refl;
      };
      shown =
          subst (λ (l : List Method). MethodsShown p (take (i + 1) ms) l)
          (sym (map-append (method_in p after) methods (method ∷ []) ∙ ap (λ (l : List Method). l ++ method_in p after method ∷ []) after_stay.0))
          (methods_step p ms (map (method_in p before) methods) i d (method_in p after method) h s.shown a.shown);
    }
