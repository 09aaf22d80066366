-- What the walks over a class's methods, and over its superclasses upward, tell of FINAL methods.
use Rattle.std.specs.Prelude.{◌≡◌, ℕ, ◌+◌, ◌<◌, ◌≤◌, Bool, true, false, ◌||◌, List, [], ◌∷◌, ◌++◌, length, slice_get, Option, Some, None, IfSome}
use Rattle.std.specs.List.{list_any, range_with_len}
use Rattle.std.specs.Option.{option_map_or}
use Rattle.std.proofs.Common.{ap, sym, subst, ◌∙◌, arith, zero-add, inl, inr}
use Rattle.std.proofs.lemmas.List.Folds.{list_any-append}
use Rattle.std.proofs.lemmas.Option.{slice_get_within, slice_get_cases}
use Rattle.jl_class.specs.Class.{Method}
use Rattle.jl_types.specs.Values.World.{Classes}
use Rattle.jl_types.specs.Values.Members.{methods_of}
use Rattle.jl_types.specs.Values.Ancestry.{superclass_of, superclasses, AreOrdered}
use Rattle.jl_types.proofs.Bools.{any-map, any-range-from}
use Rattle.jl_types.proofs.Lists.{range_end}
use Rattle.jl_hierarchy.proofs.Chains.{chain_there}
use Rattle.jl_select.proofs.Bridges.{superclass_there}
use Rattle.jl_report.specs.Finals.{superclasses_above, overrides_above, overrides_final}

-- ---- upward

module _ (cs : Classes) (o : AreOrdered cs.rows) (test : ℕ → Bool) (c : ℕ) where
  above_is : (s : ℕ) → superclass_of cs c ≡ Some s → superclasses_above cs c ≡ s ∷ superclasses_above cs s
  above_is s e =
      ap (λ (p : Option ℕ). option_map_or (superclasses cs) p []) e
      ∙ chain_there cs o s (subst (λ (p : Option ℕ). IfSome p (λ k. k < length cs.rows)) e (superclass_there cs o c))

  pub passes_next : (s : ℕ) → superclass_of cs c ≡ Some s → test s ≡ true → true ≡ list_any test (superclasses_above cs c)
  passes_next s e is = sym (ap (list_any test) (above_is s e) ∙ ap (λ (b : Bool). b || list_any test (superclasses_above cs s)) is)

  pub goes_on : (s : ℕ) → superclass_of cs c ≡ Some s → test s ≡ false → list_any test (superclasses_above cs s) ≡ list_any test (superclasses_above cs c)
  goes_on s e is = sym (ap (list_any test) (above_is s e) ∙ ap (λ (b : Bool). b || list_any test (superclasses_above cs s)) is)

-- ---- over methods

module _ (cs : Classes) (c : ℕ) where
  abbrev here : ℕ → Bool
  here i = overrides_above cs (record { class = c; index = i })

  -- none of the first so many
  abbrev pub NoneOf : ℕ → Type 0
  NoneOf i = list_any (λ j. overrides_above cs (record { class = c; index = j })) (range_with_len 0 i) ≡ false

  of_all : overrides_final cs c ≡ list_any here (range_with_len 0 (length (methods_of cs c)))
  of_all = any-map (overrides_above cs) (λ j. record { class = c; index = j }) (range_with_len 0 (length (methods_of cs c)))

  module _ (methods : List Method) (own : methods_of cs c ≡ methods) (i : ℕ) where
    pub one_does : (method : Method) → slice_get methods i ≡ Some method → overrides_above cs (record { class = c; index = i }) ≡ true
        → true ≡ overrides_final cs c
    one_does method e is =
        let within = slice_get_within methods i method e in
        sym
        (of_all ∙ ap (λ (ms : List Method). list_any here (range_with_len 0 (length ms))) own
        ∙ any-range-from here 0 (length methods) i (omega arith) (omega arith) is)

    pub one_more_not : NoneOf i → overrides_above cs (record { class = c; index = i }) ≡ false → NoneOf (i + 1)
    one_more_not none is =
        ap (list_any here) (range_end 0 i ∙ ap (λ (k : ℕ). range_with_len 0 i ++ k ∷ []) (zero-add i))
        ∙ list_any-append here (range_with_len 0 i) (i ∷ [])
        ∙ (λ j. none j || (is j || false))

    pub none_does : NoneOf i → i ≤ length methods → slice_get methods i ≡ None → false ≡ overrides_final cs c
    none_does none le e =
        sym
        (of_all ∙ ap (λ (ms : List Method). list_any here (range_with_len 0 (length ms))) own
        ∙ ap (λ (k : ℕ). list_any here (range_with_len 0 k)) (sym count) ∙ none)
      where
        count : i ≡ length methods
        count = elim ((slice_get_cases methods i).1) [
          | inl there ↦ let other : Some there.0 ≡ None = sym there.2 ∙ e in cc
          | inr past ↦ let over = past.0 in omega arith
        ]
