-- Nothing changes at a site that the index doesn't give.
use Rattle.std.specs.Prelude.{◌≡◌, ℕ, ◌&&◌, Bool, true, false, if◌then◌else◌, List, [], ◌∷◌, Option, Some, None, Ok, IsOk, is_some}
use Rattle.std.specs.Option.{option_map_or}
use Rattle.std.proofs.Common.{refl, ap, sym, ◌∙◌}
use Rattle.jl_types.specs.declared.limits.Limits.{Limits}
use Rattle.jl_types.specs.Events.Event.{Event}
use Rattle.jl_types.specs.declared.link.Link.{Link}
use Rattle.jl_types.specs.Values.World.{World}
use Rattle.jl_types.specs.Values.Members.{is_private}
use Rattle.jl_types.specs.Linkage.Stages.{Selector, ByVirtual, ByInterface, BySpecial, Stage, Waits, Fails, Calls, Selects, stage}
use Rattle.jl_types.specs.Linkage.Links.{scratch}
use Rattle.jl_types.specs.Events.Verdict.{verdict, step}
use Rattle.jl_types.specs.Events.History.{kept}
use Rattle.jl_hierarchy.proofs.Rising.{has}
use Rattle.jl_types.specs.declared.key.Key.{Key}
use Rattle.jl_types.specs.declared.key.Key.TheVariants as key
use Rattle.jl_types.specs.Events.Footprints.{meets, of_selector, footprint, keys, retires, touches}
use Rattle.jl_relink.specs.Laws.{IsInOrder}
use Rattle.jl_relink.proofs.KeyLaws.{untouched_stays, rests_on_stage}
use Rattle.jl_deps.specs.declared.form.Rests.{Rests}
use Rattle.jl_deps.specs.declared.form.Form.TheVariants.{Virtual, Other}
use Rattle.jl_deps.specs.Forms.{form_by, form_of, rests}
use Rattle.jl_deps.specs.Indexes.{AreRising, rests_if, IsIndex, StaysIndexed, touched_by}
use Rattle.jl_types.proofs.BySite.{rises_of}
use Rattle.jl_types.proofs.Installed.{kept_none, kept_link}
use Rattle.jl_deps.proofs.TouchLaws.{passing}

-- what a site rests on is the same with its form, where it selects as before and has the same keys
pub same_rests : (w after : World) (s : ℕ) → stage after s ≡ stage w s → footprint after s ≡ footprint w s → rests after s ≡ rests w s
same_rests w after s same keys = λ i. record { footprint = keys i; form = form_same (stage w s) refl i }
  where
    form_same : (t : Stage) → stage w s ≡ t → form_of after.classes (stage after s) ≡ form_of w.classes t
    form_same (Waits reason) is = ap (form_of after.classes) (same ∙ is)
    form_same (Fails throwable) is = ap (form_of after.classes) (same ∙ is)
    form_same (Calls m) is = ap (form_of after.classes) (same ∙ is)
    form_same (Selects call) is = ap (form_of after.classes) (same ∙ is) ∙ by_selector call.selector of_keys
      where
        of_keys : of_selector after.classes call call.selector ≡ of_selector w.classes call call.selector
        of_keys = sym (rests_on_stage after s call (same ∙ is)) ∙ keys ∙ rests_on_stage w s call is

        -- a private method looks at no receivers
        by_private : (a b : Bool) → (if a then [] else key.Receivers call.named ∷ []) ≡ (if b then [] else key.Receivers call.named ∷ [])
            → (if a then Other else Virtual call.method) ≡ (if b then Other else Virtual call.method)
        by_private true true e = refl
        by_private false false e = refl
        by_private true false e = cc
        by_private false true e = cc

        by_selector : (selector : Selector) → of_selector after.classes call selector ≡ of_selector w.classes call selector
            → form_by after.classes call selector ≡ form_by w.classes call selector
        by_selector ByVirtual e = by_private (is_private after.classes call.method) (is_private w.classes call.method) e
        by_selector ByInterface e = refl
        by_selector BySpecial e = refl

module _ (w : World) (e : Event) (links : ℕ → Option Link) (index : List (ℕ × Rests)) (rising : AreRising index) (is_index : IsIndex w links index) where
  pub touched_of : (s : ℕ) → has s (touched_by index (keys w e)) ≡ (is_some (links s) && touches w e s)
  touched_of s =
      passing (λ (r : Rests). meets r.footprint (keys w e)) s index (rises_of index rising)
      ∙ ap (λ (o : Option Rests). option_map_or (λ (r : Rests). meets r.footprint (keys w e)) o false) (is_index s)
      ∙ by_link (links s)
    where
      by_link : (o : Option Link) → option_map_or (λ (r : Rests). meets r.footprint (keys w e)) (rests_if w s o) false ≡ (is_some o && touches w e s)
      by_link None = refl
      by_link (Some l) = refl

  pub others_stay : (limits : Limits) → IsInOrder w → IsOk (verdict limits w e) → ((s : ℕ) (l : Link) → links s ≡ Some l → scratch w s ≡ Ok l)
      → ((s : ℕ) (l : Link) → links s ≡ Some l → retires w e s ≡ false) → (s : ℕ) → has s (touched_by index (keys w e)) ≡ false
      → StaysIndexed w e links index s
  others_stay limits order accepted linked left s none = by_link (links s) refl (sym (touched_of s) ∙ none)
    where
      by_link : (o : Option Link) → links s ≡ o → (is_some o && touches w e s) ≡ false → StaysIndexed w e links index s
      by_link None is h = record {
        link = ap (λ (o : Option Link). kept false o (scratch (step w e) s)) is ∙ kept_none (scratch (step w e) s) ∙ sym is;
        rests_on = ap (rests_if (step w e) s) is ∙ sym (is_index s ∙ ap (rests_if w s) is);
      }
      by_link (Some l) is h =
          let stays = untouched_stays limits w order e s l accepted (left s l is) h (linked s l is) in
          record {
            link = (λ i. kept false (is i) (stays.link i)) ∙ kept_link l ∙ sym is;
            rests_on =
                ap (rests_if (step w e) s) is ∙ ap Some (same_rests w (step w e) s stays.selects stays.rests_on)
                ∙ sym (is_index s ∙ ap (rests_if w s) is);
          }
