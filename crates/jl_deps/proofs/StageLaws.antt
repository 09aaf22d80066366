-- What an invokespecial, an invokestatic and an invokedynamic rest on, whatever their reference resolves to.
use Rattle.std.specs.Prelude.{◌≡◌, ℕ, Bool, true, false, not, ◌&&◌, ◌==◌, if◌then◌else◌, List, [], Option, Some, None, Result, Ok, Err}
use Rattle.std.proofs.Common.{refl, ap, sym, ◌∙◌}
use Rattle.jl_pool.specs.declared.reference.CallSiteSpecifier.{CallSiteSpecifier}
use Rattle.jl_pool.specs.declared.reference.Reference.{Reference}
use Rattle.jl_class.specs.declared.site.Kind.{Kind}
use Rattle.jl_class.specs.declared.site.Kind.TheVariants.{Special, Static, Dynamic}
use Rattle.jl_class.specs.declared.site.Operand.{Operand}
use Rattle.jl_class.specs.declared.site.Operand.TheVariants as operand
use Rattle.jl_types.specs.declared.answer.ResolveAnswer.{ResolveAnswer}
use Rattle.jl_types.specs.declared.answer.ResolveAnswer.TheVariants as resolve
use Rattle.jl_types.specs.declared.answer.Throwable.TheVariants.{NoSuchMethodError, IncompatibleClassChangeError}
use Rattle.jl_types.specs.declared.ids.MethodId.{MethodId}
use Rattle.jl_types.specs.declared.key.Key.{Key}
use Rattle.jl_types.specs.Values.World.{World, Classes}
use Rattle.jl_types.specs.Values.Members.{is_static}
use Rattle.jl_types.specs.Linkage.Selection.{is_init}
use Rattle.jl_types.specs.Linkage.Resolution.{Resolved}
use Rattle.jl_types.specs.Linkage.Targets.{method_of}
use Rattle.jl_types.specs.Linkage.Stages.{Stage, Fails, Calls, Selects, Selector, BySpecial, ResolvedCall, selecting, by_resolution}
use Rattle.jl_types.specs.Linkage.Stages.{by_operand, by_binding, by_method, bound_to}
use Rattle.jl_types.specs.Events.Footprints.{of_stage, of_operand, of_binding, of_call_site}
use Rattle.jl_deps.specs.declared.form.Form.TheVariants.{Other}
use Rattle.jl_deps.specs.declared.form.Rests.{Rests}
use Rattle.jl_deps.specs.Forms.{form_of}

none_by : (cs : Classes) (b : Bool) (x y : Stage) → of_stage cs x ≡ [] → of_stage cs y ≡ [] → of_stage cs (if b then x else y) ≡ []
none_by cs true x y first second = first
none_by cs false x y first second = second

module _ (cs : Classes) (d : ℕ) (ref : Reference (List ℕ)) where
  abbrev call : Selector → Resolved → ResolvedCall
  call selector r = record { selector = selector; caller = d; named = r.named; ref = ref; method = r.method }

  pub none_of_special : (r : Result Resolved ResolveAnswer) → of_stage cs (by_resolution cs Special d ref r) ≡ []
  none_of_special (Err (resolve.NotReady missing)) = refl
  none_of_special (Err (resolve.Fault throwable)) = refl
  none_of_special (Ok r) =
      none_by cs (is_init ref.name && not (r.method.class == r.named)) (Fails NoSuchMethodError) (selecting cs BySpecial d ref r) refl
      (none_by cs (is_static cs r.method) (Fails IncompatibleClassChangeError) (Selects (call BySpecial r)) refl refl)

  pub none_of_static : (r : Result Resolved ResolveAnswer) → of_stage cs (by_resolution cs Static d ref r) ≡ []
  none_of_static (Err (resolve.NotReady missing)) = refl
  none_of_static (Err (resolve.Fault throwable)) = refl
  none_of_static (Ok r) =
      none_by cs (is_static cs r.method) (Calls r.method) (Fails IncompatibleClassChangeError) refl refl

  pub none_of_dynamic : (r : Result Resolved ResolveAnswer) → of_stage cs (by_resolution cs Dynamic d ref r) ≡ []
  none_of_dynamic (Err (resolve.NotReady missing)) = refl
  none_of_dynamic (Err (resolve.Fault throwable)) = refl
  none_of_dynamic (Ok r) = refl

-- an invokedynamic that is bound selects by no receiver
pub of_bound : (w : World) (s d : ℕ) (kind : Kind) (o : Operand (List ℕ)) (specifier : CallSiteSpecifier (List ℕ)) → o ≡ operand.CallSite specifier
    → (c : ℕ) → bound_to w s ≡ Some c → (keys : List Key) → keys ≡ of_call_site w.sites c
    → ◌≡◌ {A = Rests} (record { footprint = keys; form = Other })
    (record { footprint = of_operand w s d kind o; form = form_of w.classes (by_operand w s d kind o) })
of_bound w s d kind o specifier is c bound keys same = λ i. record { footprint = footprint_is i; form = form_is i }
  where
    by_run : (m : Option MethodId) → Other ≡ form_of w.classes (by_method m)
    by_run None = refl
    by_run (Some m) = refl

    footprint_is : keys ≡ of_operand w s d kind o
    footprint_is = same ∙ ap (of_binding w.sites) (sym bound) ∙ ap (of_operand w s d kind) (sym is)

    form_is : Other ≡ form_of w.classes (by_operand w s d kind o)
    form_is =
        by_run (method_of w.sites c) ∙ ap (λ o. form_of w.classes (by_binding w.sites o)) (sym bound)
        ∙ ap (λ o. form_of w.classes (by_operand w s d kind o)) (sym is)
