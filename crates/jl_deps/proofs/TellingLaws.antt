-- Where a link tells that receivers are looked at, they are those of the class that the reference names.
use Rattle.std.specs.Prelude.{◌≡◌, ◌⊎◌, ℕ, Bool, true, false, not, List, [], ◌∷◌, map, Option, Some, None, option_to_list, Result, Ok, Err, if◌then◌else◌}
use Rattle.std.proofs.Common.{refl, ap, ◌∙◌, inl, inr}
use Rattle.jl_pool.specs.declared.reference.Reference.{Reference}
use Rattle.jl_class.specs.declared.site.Kind.{Kind}
use Rattle.jl_class.specs.declared.site.Kind.TheVariants.{Virtual, Interface, Special, Static, Dynamic}
use Rattle.jl_types.specs.declared.answer.Chosen.TheVariants.{Method as Picked}
use Rattle.jl_types.specs.declared.answer.Outcome.TheVariants.{Run, Throws}
use Rattle.jl_types.specs.declared.answer.ResolveAnswer.{ResolveAnswer}
use Rattle.jl_types.specs.declared.answer.ResolveAnswer.TheVariants as resolve
use Rattle.jl_types.specs.declared.answer.Throwable.TheVariants.{AbstractMethodError, IncompatibleClassChangeError}
use Rattle.jl_types.specs.declared.answer.Unlinked.{Unlinked}
use Rattle.jl_types.specs.declared.ids.MethodId.{MethodId}
use Rattle.jl_types.specs.declared.key.Key.TheVariants as key
use Rattle.jl_types.specs.declared.link.Link.{Link}
use Rattle.jl_types.specs.declared.link.Link.TheVariants.{Fault, Direct}
use Rattle.jl_types.specs.Values.World.{Classes}
use Rattle.jl_types.specs.Values.Members.{method_at, is_abstract, is_private, is_static}
use Rattle.jl_types.specs.Linkage.Resolution.{naming, named_class, resolved, resolved_at, resolved_in}
use Rattle.jl_types.specs.Linkage.Selection.{chosen_of, ending, virtual_outcome}
use Rattle.jl_types.specs.Linkage.Stages.{Fails, Selects, Selector, ByVirtual, ByInterface, ResolvedCall, by_resolution}
use Rattle.jl_types.specs.Linkage.Links.{link_of, table_rows, virtual_link}
use Rattle.jl_types.specs.Events.Footprints.{of_stage}
use Rattle.jl_deps.specs.ForProofs.Telling.{tells_receivers}

module _ (cs : Classes) (d : ℕ) (ref : Reference (List ℕ)) (l : Link) (tells : tells_receivers cs l ≡ true) where
  abbrev call : Selector → ℕ → MethodId → ResolvedCall
  call selector named m = record { selector = selector; caller = d; named = named; ref = ref; method = m }

  not_so : {A : Type 0} (other : Link) → ◌≡◌ {A = Result Link Unlinked} (Ok other) (Ok l) → tells_receivers cs other ≡ false → A
  not_so other e none = absurd (both (ap (tells_receivers cs) same))
    where
      same : other ≡ l
      same = cc

      both : tells_receivers cs other ≡ tells_receivers cs l → ⊥
      both is = cc

  -- a private method runs itself, or is abstract
  private_tells_none : (named : ℕ) (m : MethodId) → is_private cs m ≡ true → tells_receivers cs (Direct (virtual_outcome cs named m)) ≡ false
  private_tells_none named m is =
      ap (λ (b : Bool). tells_receivers cs (Direct (ending cs (if b then Picked m else chosen_of cs named m (method_at cs m))))) is
      ∙ by_abstract (is_abstract cs m)
    where
      by_abstract : (b : Bool) → tells_receivers cs (Direct (if b then Throws AbstractMethodError else Run m)) ≡ false
      by_abstract true = refl
      by_abstract false = ap not is

  virtual_receivers : (named : ℕ) (m : MethodId) → link_of cs (Selects (call ByVirtual named m)) ≡ Ok l
      → of_stage cs (Selects (call ByVirtual named m)) ≡ key.Receivers named ∷ []
  virtual_receivers named m = by_private (is_private cs m) refl
    where
      by_private : (b : Bool) → is_private cs m ≡ b
          → ◌≡◌ {A = Result Link Unlinked}
          (Ok (if b then Direct (virtual_outcome cs named m) else virtual_link (table_rows cs (call ByVirtual named m)))) (Ok l)
          → (if b then [] else key.Receivers named ∷ []) ≡ key.Receivers named ∷ []
      by_private true is e = not_so (Direct (virtual_outcome cs named m)) e (private_tells_none named m is)
      by_private false is e = refl

  -- what is no static method is selected
  unless_static : (b : Bool) (named : ℕ) (i : ResolvedCall) → (link_of cs (Selects i) ≡ Ok l → of_stage cs (Selects i) ≡ key.Receivers named ∷ [])
      → link_of cs (if b then Fails IncompatibleClassChangeError else Selects i) ≡ Ok l
      → of_stage cs (if b then Fails IncompatibleClassChangeError else Selects i) ≡ key.Receivers named ∷ []
  unless_static true named i rests e = not_so (Fault IncompatibleClassChangeError) e refl
  unless_static false named i rests e = rests e

  of_method : (kind : Kind) → (kind ≡ Virtual) ⊎ (kind ≡ Interface) → (named : ℕ) (r : Result MethodId ResolveAnswer)
      → link_of cs (by_resolution cs kind d ref (naming named r)) ≡ Ok l
      → of_stage cs (by_resolution cs kind d ref (naming named r)) ≡ key.Receivers named ∷ []
  of_method kind selects named (Err (resolve.NotReady missing)) e = cc
  of_method kind selects named (Err (resolve.Fault throwable)) e = not_so (Fault throwable) e refl
  of_method Virtual selects named (Ok m) e = unless_static (is_static cs m) named (call ByVirtual named m) (virtual_receivers named m) e
  of_method Interface selects named (Ok m) e = unless_static (is_static cs m) named (call ByInterface named m) (λ linked. refl) e
  of_method Special (inl is) named (Ok m) e = cc
  of_method Special (inr is) named (Ok m) e = cc
  of_method Static (inl is) named (Ok m) e = cc
  of_method Static (inr is) named (Ok m) e = cc
  of_method Dynamic (inl is) named (Ok m) e = cc
  of_method Dynamic (inr is) named (Ok m) e = cc

  pub of_named : (kind : Kind) → (kind ≡ Virtual) ⊎ (kind ≡ Interface)
      → link_of cs (by_resolution cs kind d ref (resolved cs d ref)) ≡ Ok l
      → of_stage cs (by_resolution cs kind d ref (resolved cs d ref)) ≡ map key.Receivers (option_to_list (named_class cs d ref))
  of_named kind selects = by_class (named_class cs d ref)
    where
      by_class : (o : Option ℕ) → link_of cs (by_resolution cs kind d ref (resolved_at cs d ref o)) ≡ Ok l
          → of_stage cs (by_resolution cs kind d ref (resolved_at cs d ref o)) ≡ map key.Receivers (option_to_list o)
      by_class None e = cc
      by_class (Some named) e = of_method kind selects named (resolved_in cs d ref named) e
