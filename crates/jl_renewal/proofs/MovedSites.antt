-- Events of call sites, switch points, places and bindings are accepted in the fresh core, and lead there to what they have led to in the
-- old one.
use Rattle.std.specs.Prelude.{◌≡◌, ℕ, zero, suc, ◌≤◌, ◌==◌, ◌&&◌, ◌||◌, not, nat_le, Bool, true, false, List, [], ◌∷◌, ◌++◌, map, filter_map}
use Rattle.std.specs.Prelude.{length, slice_get, slice_set, find, position, get_or, Option, Some, None, option_map, option_and_then, is_some, is_none, is_ok}
use Rattle.std.specs.Prelude.{Err, IsOk, if◌then◌else◌}
use Rattle.std.specs.Bool.{then_some}
use Rattle.std.specs.List.{cons_option, list_any}
use Rattle.std.specs.Option.{option_map_or}
use Rattle.std.proofs.Common.{refl, sym, ap, ◌∙◌, arith}
use Rattle.std.proofs.lemmas.Bool.{lt-leb, or_from, or_parts, both_ways}
use Rattle.std.proofs.lemmas.Cmp.{nat_eq_equiv}
use Rattle.std.proofs.lemmas.List.{length-map, map_push}
use Rattle.std.proofs.lemmas.List.Elements.{filter_map-append}
use Rattle.std.proofs.lemmas.List.Quantifiers.{position-Some}
use Rattle.std.proofs.lemmas.Map.Keys.{any_passes_from_place}
use Rattle.std.proofs.lemmas.Option.{slice_get-map, slice_get-get_or}
use Rattle.jl_types.specs.declared.limits.Limits.{Limits}
use Rattle.jl_class.specs.Site.{Site}
use Rattle.jl_class.specs.declared.site.Operand.TheVariants as operand
use Rattle.jl_types.specs.declared.ids.Place.{Place}
use Rattle.jl_types.specs.declared.event.EventOf.TheVariants as event
use Rattle.jl_types.specs.declared.event.Made.{Made}
use Rattle.jl_types.specs.declared.event.Made.TheVariants as made
use Rattle.jl_types.specs.declared.refusal.CallSiteFault.TheVariants as fault
use Rattle.jl_types.specs.declared.refusal.Refusal.{Refusal}
use Rattle.jl_types.specs.declared.refusal.Refusal.TheVariants.{CallSite, UnknownClass, NotLinkable, SitesFull, UnknownSite, AlreadyBound, TypeMismatch}
use Rattle.jl_types.specs.declared.refusal.NotLinkable.TheVariants.{ArrayReceiver, PolymorphicSignature}
use Rattle.jl_types.specs.declared.target.CallSiteKind.{CallSiteKind}
use Rattle.jl_types.specs.Values.Target.{Target}
use Rattle.jl_types.specs.Values.World.{World, CallSite as CallSiteRow, unreleased, is_missing}
use Rattle.jl_types.specs.Values.Members.{is_present}
use Rattle.jl_types.specs.Linkage.Resolution.{first_of}
use Rattle.jl_types.specs.Linkage.Stages.{invocation_at, bound_to}
use Rattle.jl_types.specs.Linkage.Targets.{target_fault}
use Rattle.jl_types.specs.Events.Limits.{AreNoFewer}
use Rattle.jl_types.specs.Events.Verdict.{verdict, unless, same_place, names_array, is_polymorphic, new_place_fault, request_place, if_invoked}
use Rattle.jl_types.specs.Events.Verdict.{is_constant, new_call_site_fault, set_target_fault, invalidate_fault, invalidated}
use Rattle.jl_types.specs.Events.Verdict.{type_fault, operand_fault, bind_at, bind_fault, with_call_sites, with_switches}
use Rattle.jl_types.proofs.Firsts.{first_none, test_none}
use Rattle.jl_types.proofs.Within.{room_below}
use Rattle.jl_events.proofs.CallSiteLaws.{free_to_bind, no_fault as no_refusal}
use Rattle.jl_relink.proofs.Closing.{no_fault}
use Rattle.jl_renewal.specs.Moved.{Flags, Rests, moved, kept, moved_place, moved_binding, moved_call_site, moved_world, target_there}
use Rattle.jl_renewal.proofs.MovedFollows.{Follows}
use Rattle.jl_renewal.proofs.Fit.{IsBinding}
use Rattle.jl_renewal.proofs.FitParts.{none_placed}
use Rattle.jl_renewal.proofs.MovedLists.{shifted_is, same_numbers, other_moved, kept_at, kept_more, kept_fewer, kept_set, kept_unset}
use Rattle.jl_renewal.proofs.MovedLists.{moved_end, map_set, there_is}
use Rattle.jl_renewal.proofs.MovedClasses.{present_same, invocation_same}
use Rattle.jl_renewal.proofs.ReleasedRows.{row_kept}
use Rattle.jl_renewal.proofs.MovedTargets.{target_is, target_free, call_site_at}

-- ---- one element more, and another one in its place

pub pushed : {A B : Type 0} (f : A → B) (stays : List Bool) (xs : List A) (x : A) → length stays ≤ length xs
    → map f (kept stays (xs ++ x ∷ [])) ≡ map f (kept stays xs) ++ f x ∷ []
pushed f stays xs x le = ap (map f) (kept_more stays xs x le) ∙ map_push f (kept stays xs) x

pub placed : {A B : Type 0} (f : A → B) (stays : List Bool) (xs : List A) (j i : ℕ) (x : A) → moved stays j ≡ Some i
    → map f (kept stays (slice_set xs j x)) ≡ slice_set (map f (kept stays xs)) i (f x)
placed f stays xs j i x e = ap (map f) (kept_set stays xs j i x e) ∙ map_set f (kept stays xs) i x

pub map_kept_fewer : {A B : Type 0} (f : A → B) (stays : List Bool) (xs : List A) → length (map f (kept stays xs)) ≤ length xs
map_kept_fewer f stays xs = let a = length-map (kept stays xs) f in let b = kept_fewer stays xs in omega (arith, a, b)

-- an event of which there is no fault is accepted
pub allowed : {A : Type 0} (F : A → Refusal) (o : Option A) (m : Made) → o ≡ None → IsOk (unless (option_map F o) m)
allowed F None m e = refl
allowed F (Some a) m e = cc

pub allowed_by : (b : Bool) (r : Refusal) (m : Made) → b ≡ false → IsOk (unless (then_some b r) m)
allowed_by true r m e = cc
allowed_by false r m e = refl

-- ---- switch points

invalid_same : (stays : List Bool) (switches : List (Option Bool)) (points : List ℕ)
    → invalidated (kept stays switches) (filter_map (moved stays) points) ≡ kept stays (invalidated switches points)
invalid_same stays switches [] = refl
invalid_same stays switches (p ∷ points) = by_number (moved stays p) refl (invalid_same stays (slice_set switches p (Some false)) points)
  where
    by_number : (o : Option ℕ) → moved stays p ≡ o
        → invalidated (kept stays (slice_set switches p (Some false))) (filter_map (moved stays) points)
        ≡ kept stays (invalidated (slice_set switches p (Some false)) points)
        → invalidated (kept stays switches) (cons_option o (filter_map (moved stays) points))
        ≡ kept stays (invalidated (slice_set switches p (Some false)) points)
    by_number None is rest =
        ap (λ (s : List (Option Bool)). invalidated s (filter_map (moved stays) points)) (sym (kept_unset stays switches p (Some false) is)) ∙ rest
    by_number (Some q) is rest =
        ap (λ (s : List (Option Bool)). invalidated s (filter_map (moved stays) points)) (sym (kept_set stays switches p q (Some false) is)) ∙ rest

-- those that aren't released are there
pub all_there : {A : Type 0} (stays : List Bool) (rows : List (Option A)) (ks : List ℕ) → list_any (is_missing rows) ks ≡ false
    → list_any (is_missing (kept stays rows)) (filter_map (moved stays) ks) ≡ false
all_there stays rows [] e = refl
all_there {A = A} stays rows (p ∷ ks) e =
    let parts = or_parts (is_missing rows p) (list_any (is_missing rows) ks) e in
    by_number (moved stays p) refl parts.0 (all_there stays rows ks parts.1)
  where
    by_number : (o : Option ℕ) → moved stays p ≡ o → is_missing rows p ≡ false
        → list_any (is_missing (kept stays rows)) (filter_map (moved stays) ks) ≡ false
        → list_any (is_missing (kept stays rows)) (cons_option o (filter_map (moved stays) ks)) ≡ false
    by_number None is there rest = rest
    by_number (Some q) is there rest =
        or_from (is_missing (kept stays rows) q) (list_any (is_missing (kept stays rows)) (filter_map (moved stays) ks))
        (ap (λ (o : Option A). is_none o) (row_kept stays rows p q is) ∙ there) rest

module _ (k : Flags) (w : World) (rests : Rests k w) (limits more : Limits) (most : AreNoFewer limits more) where
  abbrev v : World
  v = moved_world k w

  pub switch_follows : IsOk (verdict limits w event.NewSwitch) → Follows more k w event.NewSwitch event.NewSwitch
  switch_follows accepted =
      let lt = room_below limits.switches (length w.sites.switches) (CallSite fault.Full)
      (no_refusal (then_some (nat_le limits.switches (length w.sites.switches)) (CallSite fault.Full)) _ accepted) in
      let fewer = kept_fewer k.switches w.sites.switches in
      let up = most.switches in
      record {
        accepted = allowed_by (nat_le more.switches (length v.sites.switches)) (CallSite fault.Full) _
            (lt-leb more.switches (length v.sites.switches) (omega (arith, lt, fewer, up)));
        after = ap (with_switches v) (sym (kept_more k.switches w.sites.switches (Some true) rests.few_switches));
      }

  pub invalidation_follows : (points : List ℕ) → IsOk (verdict limits w (event.Invalidate points))
      → Follows more k w (event.Invalidate points) (event.Invalidate (filter_map (moved k.switches) points))
  invalidation_follows points accepted =
      let none = no_fault CallSite (invalidate_fault w points) _ accepted in
      let there = test_none (list_any (is_missing w.sites.switches) points) fault.UnknownSwitch none in
      record {
        accepted = allowed CallSite (invalidate_fault v (filter_map (moved k.switches) points)) _
            (ap (λ (b : Bool). then_some b fault.UnknownSwitch) (all_there k.switches w.sites.switches points there));
        after = ap (with_switches v) (invalid_same k.switches w.sites.switches points);
      }

  -- ---- call sites

  pub call_site_follows : (kind : CallSiteKind) (ty : List ℕ) (t u : Target) → target_there k t ≡ Some u
      → IsOk (verdict limits w (event.NewCallSite kind ty t)) → Follows more k w (event.NewCallSite kind ty t) (event.NewCallSite kind ty u)
  call_site_follows kind ty t u there accepted =
      let none = no_fault CallSite (new_call_site_fault limits.call_sites w ty t) _ accepted in
      let full = first_none (then_some (nat_le limits.call_sites (length w.sites.call_sites)) fault.Full) _ none in
      let free = first_none (target_fault w (length w.sites.call_sites) ty t) [] full.1 in
      let lt = room_below limits.call_sites (length w.sites.call_sites) fault.Full full.0 in
      let fewer = map_kept_fewer (option_map (moved_call_site k)) k.call_sites w.sites.call_sites in
      let at = moved_end k.call_sites w.sites.call_sites rests.few_call_sites
      ∙ ap Some (sym (length-map (kept k.call_sites w.sites.call_sites) (option_map (moved_call_site k)))) in
      let up = most.call_sites in
      let room = lt-leb more.call_sites (length v.sites.call_sites) (omega (arith, lt, fewer, up)) in
      let taken = target_free k w rests (length w.sites.call_sites) (length v.sites.call_sites) at ty t u there free.0 in
      record {
        accepted = allowed CallSite (new_call_site_fault more.call_sites v ty u) _ (λ i. first_of (then_some (room i) fault.Full ∷ taken i ∷ []));
        after = ap (with_call_sites v)
            (ap (λ (x : Target). v.sites.call_sites ++ Some (record { kind = kind; ty = ty; target = x }) ∷ []) (sym (target_is k t u there))
            ∙ sym (pushed (option_map (moved_call_site k)) k.call_sites w.sites.call_sites (Some (record { kind = kind; ty = ty; target = t }))
            rests.few_call_sites));
      }

  pub target_follows : (c d : ℕ) (t u : Target) → moved k.call_sites c ≡ Some d → target_there k t ≡ Some u
      → IsOk (verdict limits w (event.SetTarget c t)) → Follows more k w (event.SetTarget c t) (event.SetTarget d u)
  target_follows c d t u at there accepted =
      by_site (unreleased w.sites.call_sites c) refl (no_fault CallSite (set_target_fault w c (unreleased w.sites.call_sites c) t) _ accepted)
    where
      by_kind : (site : CallSiteRow) (b : Bool) → (if b then Some fault.Constant else target_fault w c site.ty t) ≡ None
          → (if b then Some fault.Constant else target_fault v d site.ty u) ≡ None
      by_kind site true none = cc
      by_kind site false none = target_free k w rests c d at site.ty t u there none

      by_site : (o : Option CallSiteRow) → unreleased w.sites.call_sites c ≡ o → set_target_fault w c o t ≡ None
          → Follows more k w (event.SetTarget c t) (event.SetTarget d u)
      by_site None is none = cc
      by_site (Some site) is none =
          let here = call_site_at k w rests c d at ∙ ap (option_map (moved_call_site k)) is in
          record {
            accepted = allowed CallSite (set_target_fault v d (unreleased v.sites.call_sites d) u) _
                (ap (λ (o : Option CallSiteRow). set_target_fault v d o u) here ∙ by_kind site (is_constant site.kind) none);
            after = ap (with_call_sites v)
                (ap (λ (o : Option CallSiteRow).
                option_map_or (λ row. slice_set v.sites.call_sites d (Some (record row { target = u }))) o v.sites.call_sites) here
                ∙ (ap (λ (x : Target). slice_set v.sites.call_sites d (Some (record { kind = site.kind; ty = site.ty; target = x })))
                (sym (target_is k t u there))
                ∙ (sym (placed (option_map (moved_call_site k)) k.call_sites w.sites.call_sites c d (Some (record site { target = t })) at)
                ∙ ap (λ (o : Option CallSiteRow). map (option_map (moved_call_site k)) (kept k.call_sites
                (option_map_or (λ row. slice_set w.sites.call_sites c (Some (record row { target = t }))) o w.sites.call_sites))) (sym is))));
          }

-- ---- places

any_false : {A : Type 0} (p : A → Bool) (xs : List A) → ((i : ℕ) (x : A) → slice_get xs i ≡ Some x → p x ≡ false) → list_any p xs ≡ false
any_false p [] h = refl
any_false p (x ∷ xs) h = or_from (p x) (list_any p xs) (h zero x refl) (any_false p xs (λ i. h (suc i)))

-- none passes where there is no place of one that does
pub none_any : {A : Type 0} (p : A → Bool) (xs : List A) → position p xs ≡ None → list_any p xs ≡ false
none_any p xs none = any_false p xs (none_placed p xs none)

some_up : (o : Option ℕ) → is_some (option_map suc o) ≡ is_some o
some_up None = refl
some_up (Some a) = refl

module _ (k : Flags) (place : Place) (d : ℕ) (at : moved k.classes place.class ≡ Some d) where
  abbrev here : Place
  here = record place { class = d }

  same_kept : (q : Place) → is_some (moved k.classes q.class) ≡ true → same_place here (moved_place k q) ≡ same_place place q
  same_kept q stays =
      let e = there_is (moved k.classes q.class) stays in
      ap (λ (c : ℕ). (d == c) && ((place.method == q.method) && (place.pc == q.pc))) (shifted_is k.classes q.class e.0 e.1)
      ∙ ap (λ (b : Bool). b && ((place.method == q.method) && (place.pc == q.pc))) (same_numbers k.classes place.class q.class d e.0 at e.1)

  same_gone : (q : Place) → is_some (moved k.classes q.class) ≡ false → same_place place q ≡ false
  same_gone q gone = by_number (moved k.classes q.class) refl gone
    where
      by_number : (o : Option ℕ) → moved k.classes q.class ≡ o → is_some o ≡ false → same_place place q ≡ false
      by_number None e gone = ap (λ (b : Bool). b && ((place.method == q.method) && (place.pc == q.pc)))
          (nat_eq_equiv.symm place.class q.class ∙ other_moved k.classes q.class place.class d e at)
      by_number (Some c) e gone = cc

  -- a place is among those that stay where it was among all
  pub any_place : (stays : List Bool) (xs : List Place)
      → ((s : ℕ) (q : Place) → slice_get xs s ≡ Some q → is_some (moved stays s) ≡ is_some (moved k.classes q.class))
      → list_any (same_place here) (map (moved_place k) (kept stays xs)) ≡ list_any (same_place place) xs
  any_place [] [] h = refl
  any_place [] (q ∷ qs) h =
      let first = same_kept q (sym (h zero q refl)) in
      let rest = any_place [] qs (λ s. h (suc s)) in
      λ i. first i || rest i
  any_place (b ∷ stays) [] h = refl
  any_place (true ∷ stays) (q ∷ qs) h =
      let first = same_kept q (sym (h zero q refl)) in
      let rest = any_place stays qs (λ s x is. sym (some_up (moved stays s)) ∙ h (suc s) x is) in
      λ i. first i || rest i
  any_place (false ∷ stays) (q ∷ qs) h =
      any_place stays qs (λ s. h (suc s))
      ∙ sym (ap (λ (b : Bool). b || list_any (same_place place) qs) (same_gone q (sym (h zero q refl))))

module _ (k : Flags) (w : World) (rests : Rests k w) (limits more : Limits) (most : AreNoFewer limits more) (place : Place) (d : ℕ)
    (at : moved k.classes place.class ≡ Some d) (accepted : IsOk (verdict limits w (event.Request place))) where
  abbrev u : World
  u = moved_world k w

  abbrev there : Place
  there = record place { class = d }

  among : list_any (same_place there) u.places ≡ list_any (same_place place) w.places
  among = any_place k place d at k.sites w.places rests.sites

  -- a place that is found is among the others
  known : (s : ℕ) → position (same_place place) w.places ≡ Some s → list_any (same_place place) w.places ≡ true
  known s is =
      let found = position-Some (same_place place) w.places s place is in
      any_passes_from_place (same_place place) w.places s (get_or w.places s place) (slice_get-get_or w.places s place found.0) found.1

  by_new : (site : Site) → new_place_fault limits w site ≡ None → new_place_fault more u site ≡ None
  by_new site none =
      let array = first_none (then_some (names_array site.operand) (NotLinkable ArrayReceiver)) _ none in
      let polymorphic = first_none (then_some (is_polymorphic site.operand) (NotLinkable PolymorphicSignature)) _ array.1 in
      let full = first_none (then_some (nat_le limits.sites (length w.places)) SitesFull) [] polymorphic.1 in
      let lt = room_below limits.sites (length w.places) SitesFull full.0 in
      let fewer = map_kept_fewer (moved_place k) k.sites w.places in
      let up = most.sites in
      let room = lt-leb more.sites (length u.places) (omega (arith, lt, fewer, up)) in
      (λ i. first_of (array.0 i ∷ polymorphic.0 i ∷ then_some (room i) SitesFull ∷ []))

  by_old : (o : Option ℕ) (site : Site) → position (same_place place) w.places ≡ o → position (same_place there) u.places ≡ None
      → IsOk (request_place limits w o site) → new_place_fault more u site ≡ None
  by_old (Some s) site is none ok = absurd (both_ways (list_any (same_place there) u.places) (none_any (same_place there) u.places none) (among ∙ known s is))
  by_old None site is none ok = by_new site (no_refusal (new_place_fault limits w site) (made.Site (length w.places)) ok)

  by_place : (o : Option ℕ) (site : Site) → position (same_place there) u.places ≡ o
      → IsOk (request_place limits w (position (same_place place) w.places) site)
      → IsOk (request_place more u o site)
  by_place (Some s) site is ok = refl
  by_place None site is ok =
      ap (λ (o : Option Refusal). is_ok (unless o (made.Site (length u.places)))) (by_old (position (same_place place) w.places) site refl is ok)

  by_site : (o : Option Site) → invocation_at w.classes place ≡ o → IsOk (if_invoked limits w place o)
      → IsOk (if_invoked more u there (invocation_at u.classes there))
  by_site None is ok = cc
  by_site (Some site) is ok =
      ap (λ (o : Option Site). is_ok (if_invoked more u there o)) (invocation_same k w rests place d at ∙ is)
      ∙ by_place (position (same_place there) u.places) site refl ok

  by_class : (b : Bool) → is_present w.classes place.class ≡ b
      → IsOk (if b then if_invoked limits w place (invocation_at w.classes place) else Err UnknownClass)
      → IsOk (verdict more u (event.Request there))
  by_class false is ok = cc
  by_class true is ok =
      ap (λ (b : Bool). is_ok (if b then if_invoked more u there (invocation_at u.classes there) else Err UnknownClass))
      (present_same k w rests place.class d at ∙ is)
      ∙ by_site (invocation_at w.classes place) refl ok

  by_test : (b : Bool) → (if b then u.places else u.places ++ there ∷ []) ≡ map (moved_place k) (kept k.sites (if b then w.places else w.places ++ place ∷ []))
  by_test true = refl
  by_test false =
      ap (λ (c : ℕ). u.places ++ record place { class = c } ∷ []) (sym (shifted_is k.classes place.class d at))
      ∙ sym (pushed (moved_place k) k.sites w.places place rests.few_sites)

  pub request_follows : Follows more k w (event.Request place) (event.Request there)
  request_follows = record {
    accepted = by_class (is_present w.classes place.class) refl accepted;
    after = ap (λ (places : List Place). record u { places = places })
        (ap (λ (b : Bool). if b then u.places else u.places ++ there ∷ []) among ∙ by_test (list_any (same_place place) w.places));
  }

-- ---- bindings

module _ (k : Flags) (w : World) (rests : Rests k w) (limits more : Limits) (s c t d : ℕ)
    (s_at : moved k.sites s ≡ Some t) (c_at : moved k.call_sites c ≡ Some d)
    (accepted : IsOk (verdict limits w (event.Bind s c))) (bound : IsBinding w (s, c)) where
  abbrev x : World
  x = moved_world k w

  none : bind_fault w s c (slice_get w.places s) ≡ None
  none = no_refusal (bind_fault w s c (slice_get w.places s)) made.Nothing accepted

  class_there : is_present w.classes bound.place.class ≡ true
  class_there = by_class (is_present w.classes bound.place.class) refl (sym (ap (bind_fault w s c) bound.requested) ∙ none)
    where
      by_class : (b : Bool) → is_present w.classes bound.place.class ≡ b
          → (if b then bind_at w s c (invocation_at w.classes bound.place) else Some (UnknownSite s)) ≡ None → b ≡ true
      by_class true is e = refl
      by_class false is e = cc

  -- the call site isn't released
  row_there : (row : CallSiteRow) × (unreleased w.sites.call_sites c ≡ Some row)
  row_there =
      by_row (unreleased w.sites.call_sites c) refl
      (first_none (type_fault bound.specifier.ty (unreleased w.sites.call_sites c)) [] (first_none (option_map AlreadyBound (bound_to w s)) _ free).1).0
    where
      free : operand_fault w s c (operand.CallSite bound.specifier) ≡ None
      free =
          sym (ap (bind_fault w s c) bound.requested
          ∙ ((λ i. if class_there i then bind_at w s c (bound.at i) else Some (UnknownSite s))
          ∙ ap (operand_fault w s c) bound.dynamic))
          ∙ none

      by_row : (o : Option CallSiteRow) → unreleased w.sites.call_sites c ≡ o → type_fault bound.specifier.ty o ≡ None
          → (row : CallSiteRow) × (unreleased w.sites.call_sites c ≡ Some row)
      by_row None is e = cc
      by_row (Some row) is e = (row, is)

  -- no site is bound twice
  none_bound : (bs : List (ℕ × ℕ)) → option_map (λ (b : ℕ × ℕ). b.1) (find (λ b. b.0 == s) bs) ≡ None
      → option_map (λ (b : ℕ × ℕ). b.1) (find (λ b. b.0 == t) (filter_map (moved_binding k) bs)) ≡ None
  none_bound [] e = refl
  none_bound (b ∷ bs) e = by_test (b.0 == s) refl e (none_bound bs)
    where
      by_binding : (x y : Option ℕ) → moved k.sites b.0 ≡ x → (b.0 == s) ≡ false
          → option_map (λ (b : ℕ × ℕ). b.1) (find (λ b. b.0 == t) (filter_map (moved_binding k) bs)) ≡ None
          → option_map (λ (b : ℕ × ℕ). b.1) (find (λ b. b.0 == t)
          (cons_option (option_and_then (λ (s : ℕ). option_map (λ (c : ℕ). (s, c)) y) x) (filter_map (moved_binding k) bs))) ≡ None
      by_binding None y is other rest = rest
      by_binding (Some j) None is other rest = rest
      by_binding (Some j) (Some i) is other rest =
          ap (λ (x : Bool). option_map (λ (b : ℕ × ℕ). b.1) (if x then Some (j, i) else find (λ b. b.0 == t) (filter_map (moved_binding k) bs)))
          (same_numbers k.sites b.0 s j t is s_at ∙ other)
          ∙ rest

      by_test : (x : Bool) → (b.0 == s) ≡ x → option_map (λ (b : ℕ × ℕ). b.1) (if x then Some b else find (λ b. b.0 == s) bs) ≡ None
          → (option_map (λ (b : ℕ × ℕ). b.1) (find (λ b. b.0 == s) bs) ≡ None
          → option_map (λ (b : ℕ × ℕ). b.1) (find (λ b. b.0 == t) (filter_map (moved_binding k) bs)) ≡ None)
          → option_map (λ (b : ℕ × ℕ). b.1) (find (λ b. b.0 == t) (filter_map (moved_binding k) (b ∷ bs))) ≡ None
      by_test true is e rest = cc
      by_test false is e rest = by_binding (moved k.sites b.0) (moved k.call_sites b.1) refl is (rest e)

  class_number : (j : ℕ) × (moved k.classes bound.place.class ≡ Some j)
  class_number = there_is (moved k.classes bound.place.class) (sym (rests.sites s bound.place bound.requested) ∙ ap is_some s_at)

  abbrev j : ℕ
  j = class_number.0

  place_at : slice_get x.places t ≡ Some (record bound.place { class = j })
  place_at =
      slice_get-map (moved_place k) (kept k.sites w.places) t
      ∙ (ap (option_map (moved_place k)) (kept_at k.sites w.places s t s_at ∙ bound.requested)
      ∙ ap (λ (c : ℕ). Some (record bound.place { class = c })) (shifted_is k.classes bound.place.class j class_number.1))

  still_none : bind_fault x t d (slice_get x.places t) ≡ None
  still_none =
      let present = present_same k w rests bound.place.class j class_number.1 ∙ class_there in
      let here = invocation_same k w rests bound.place j class_number.1 ∙ bound.at in
      let there = call_site_at k w rests c d c_at ∙ ap (option_map (moved_call_site k)) row_there.1 in
      let unbound = none_bound w.bindings (free_to_bind w s c none) in
      ap (bind_fault x t d) place_at
      ∙ ((λ i. if present i then bind_at x t d (here i) else Some (UnknownSite t))
      ∙ (ap (operand_fault x t d) bound.dynamic
      ∙ ((λ i. first_of (option_map AlreadyBound (unbound i) ∷ type_fault bound.specifier.ty (there i) ∷ []))
      ∙ ap (λ (t : Bool). first_of (then_some (not t) TypeMismatch ∷ [])) (bound.type row_there.0 row_there.1))))

  pub binding_follows : Follows more k w (event.Bind s c) (event.Bind t d)
  binding_follows = record {
    accepted = ap (λ (o : Option Refusal). is_ok (unless o made.Nothing)) still_none;
    after = ap (λ (bindings : List (ℕ × ℕ)). record x { bindings = bindings })
        (sym (filter_map-append (moved_binding k) w.bindings ((s, c) ∷ [])
        ∙ ap (λ (o : Option (ℕ × ℕ)). x.bindings ++ cons_option o [])
        (ap (option_and_then (λ s. option_map (λ c. (s, c)) (moved k.call_sites c))) s_at ∙ ap (option_map (λ (e : ℕ). (t, e))) c_at)));
  }
