-- The events of a renewal without its links install nothing, nor does one that is carried over.
use Rattle.std.specs.Prelude.{◌≡◌, ℕ, zero, suc, Bool, true, false, List, [], ◌∷◌, ◌++◌, filter_map, drop, length, not, ◌==◌, Option, Some}
use Rattle.std.specs.Prelude.{None, option_map, option_and_then, option_to_list}
use Rattle.std.specs.List.{cons_option, range_with_len}
use Rattle.std.specs.Option.{option_map_or}
use Rattle.std.specs.Bool.{then_some}
use Rattle.std.proofs.Common.{refl}
use Rattle.jl_types.specs.declared.link.Link.{Link}
use Rattle.jl_types.specs.declared.ids.Place.{Place}
use Rattle.jl_types.specs.declared.event.EventOf.TheVariants as event
use Rattle.jl_types.specs.Events.Event.{Event}
use Rattle.jl_types.specs.Events.History.{installs, installed, installed_at}
use Rattle.jl_types.specs.Values.World.{World, Sites, CallSite, unreleased}
use Rattle.jl_types.proofs.Installed.{installed_to}
use Rattle.jl_renewal.specs.Numbers.{Numbers, new_number, renumbered_target}
use Rattle.jl_renewal.specs.Renewal.{definer, class_event, new_loaders, new_switches, new_call_site, new_call_sites, request, binding, invalid_points}
use Rattle.jl_renewal.specs.Renewal.{invalidation, site_events, renewal_by}
use Rattle.jl_renewal.specs.Carries.{carried, carried_target}

module _ (k : ℕ) where
  -- none of these events installs a link at site k
  abbrev pub IsQuiet : List Event → Type 0
  IsQuiet es = (i : ℕ) → installed_at es i k ≡ false

  none : IsQuiet []
  none zero = refl
  none (suc i) = refl

  more : (e : Event) (es : List Event) → installs k e ≡ false → IsQuiet es → IsQuiet (e ∷ es)
  more e es first rest zero = first
  more e es first rest (suc i) = rest i

  both : (es fs : List Event) → IsQuiet es → IsQuiet fs → IsQuiet (es ++ fs)
  both [] fs first second = second
  both (e ∷ es) fs first second = more e (es ++ fs) (first zero) (both es fs (λ i. first (suc i)) second)

  -- of an event, if there is one
  abbrev IsCalm : Option Event → Type 0
  IsCalm o = option_map_or (installs k) o false ≡ false

  calm_map : {A : Type 0} (g : A → Event) → ((a : A) → installs k (g a) ≡ false) → (o : Option A) → IsCalm (option_map g o)
  calm_map g calm None = refl
  calm_map g calm (Some a) = calm a

  calm_then : {A : Type 0} (g : A → Option Event) → ((a : A) → IsCalm (g a)) → (o : Option A) → IsCalm (option_and_then g o)
  calm_then g calm None = refl
  calm_then g calm (Some a) = calm a

  cons : (o : Option Event) (es : List Event) → IsCalm o → IsQuiet es → IsQuiet (cons_option o es)
  cons None es calm quiet = quiet
  cons (Some e) es calm quiet = more e es calm quiet

  of_some : {A : Type 0} (f : A → Option Event) → ((a : A) → IsCalm (f a)) → (xs : List A) → IsQuiet (filter_map f xs)
  of_some f calm [] = none
  of_some f calm (x ∷ xs) = cons (f x) (filter_map f xs) (calm x) (of_some f calm xs)

  of_class : (w : World) (n : Numbers) (e : Event) → IsCalm (class_event w n e)
  of_class w n event.NewLoader = refl
  of_class w n (event.Define loader file) = calm_map (λ l. event.Define l file) (λ l. refl) (new_number n.loaders loader)
  of_class w n (event.Delegate loader name to) =
      calm_then (λ l. option_map (event.Delegate l name) (option_and_then (new_number n.loaders) (definer w.classes loader name)))
      (λ l. calm_map (event.Delegate l name) (λ d. refl) (option_and_then (new_number n.loaders) (definer w.classes loader name)))
      (new_number n.loaders loader)
  of_class w n (event.Request place) = refl
  of_class w n (event.NewCallSite kind ty target) = refl
  of_class w n (event.SetTarget c target) = refl
  of_class w n event.NewSwitch = refl
  of_class w n (event.Invalidate points) = refl
  of_class w n (event.Bind s c) = refl
  of_class w n (event.Install rows) = refl
  of_class w n (event.Retire loader) = refl
  of_class w n (event.RetireAll loaders) = refl
  of_class w n (event.Release call_sites points) = refl

  of_loaders : (numbers : List (Option ℕ)) → IsQuiet (new_loaders numbers)
  of_loaders numbers =
      of_some (option_map (λ (m : ℕ). event.NewLoader)) (λ number. calm_map (λ (m : ℕ). event.NewLoader) (λ m. refl) number) (drop 1 numbers)

  of_switches : (numbers : List (Option ℕ)) → IsQuiet (new_switches numbers)
  of_switches numbers =
      of_some (option_map (λ (m : ℕ). event.NewSwitch)) (λ number. calm_map (λ (m : ℕ). event.NewSwitch) (λ m. refl) number) numbers

  of_points : (b : Bool) (points : List ℕ) → IsQuiet (option_to_list (then_some b (event.Invalidate points)))
  of_points true points = more (event.Invalidate points) [] refl none
  of_points false points = none

  of_places : (n : Numbers) (places : List Place) → IsQuiet (filter_map (request n) places)
  of_places n places =
      of_some (request n) (λ place. calm_map (λ (c : ℕ). event.Request (record place { class = c })) (λ c. refl) (new_number n.classes place.class)) places

  of_bindings : (n : Numbers) (bindings : List (ℕ × ℕ)) → IsQuiet (filter_map (binding n) bindings)
  of_bindings n bindings =
      of_some (binding n)
      (λ b. calm_then (λ (s : ℕ). option_map (event.Bind s) (new_number n.call_sites b.1))
      (λ s. calm_map (event.Bind s) (λ c. refl) (new_number n.call_sites b.1)) (new_number n.sites b.0)) bindings

  of_call_site : (sites : Sites) (n : Numbers) (c : ℕ) → IsCalm (new_call_site sites n c)
  of_call_site sites n c =
      calm_then
      (λ (k : ℕ). option_map (λ (site : CallSite). event.NewCallSite site.kind site.ty (renumbered_target n site.target)) (unreleased sites.call_sites c))
      (λ k. calm_map (λ (site : CallSite). event.NewCallSite site.kind site.ty (renumbered_target n site.target)) (λ site. refl)
      (unreleased sites.call_sites c))
      (new_number n.call_sites c)

  abbrev last : World → Numbers → List Event
  last w n = filter_map (request n) w.places ++ filter_map (binding n) w.bindings

  abbrev later : World → Numbers → List Event
  later w n = new_call_sites w.sites n ++ last w n

  of_sites : (w : World) (n : Numbers) → IsQuiet (site_events w n)
  of_sites w n =
      both (new_switches n.switches) (invalidation (invalid_points w.sites n) ++ later w n) (of_switches n.switches)
      (both (invalidation (invalid_points w.sites n)) (later w n)
      (of_points (not (length (invalid_points w.sites n) == 0)) (invalid_points w.sites n))
      (both (new_call_sites w.sites n) (last w n) (of_some (new_call_site w.sites n) (of_call_site w.sites n) (range_with_len 0 (length w.sites.call_sites)))
      (both (filter_map (request n) w.places) (filter_map (binding n) w.bindings) (of_places n w.places) (of_bindings n w.bindings))))

  pub is_quiet : (w : World) (n : Numbers) (es : List Event) → IsQuiet (renewal_by w n es)
  is_quiet w n es =
      both (new_loaders n.loaders) (filter_map (class_event w n) es ++ site_events w n) (of_loaders n.loaders)
      (both (filter_map (class_event w n) es) (site_events w n) (of_some (class_event w n) (of_class w n) es) (of_sites w n))

  -- nor does an event that is carried over
  pub of_carried : (n : Numbers) (e : Event) → IsCalm (carried n e)
  of_carried n event.NewLoader = refl
  of_carried n (event.Define loader file) = calm_map (λ (l : ℕ). event.Define l file) (λ l. refl) (new_number n.loaders loader)
  of_carried n (event.Delegate loader name to) =
      calm_then (λ (l : ℕ). option_map (event.Delegate l name) (new_number n.loaders to))
      (λ l. calm_map (event.Delegate l name) (λ d. refl) (new_number n.loaders to)) (new_number n.loaders loader)
  of_carried n (event.Request place) =
      calm_map (λ (c : ℕ). event.Request (record place { class = c })) (λ c. refl) (new_number n.classes place.class)
  of_carried n (event.NewCallSite kind ty target) = calm_map (event.NewCallSite kind ty) (λ t. refl) (carried_target n target)
  of_carried n (event.SetTarget c target) =
      calm_then (λ (d : ℕ). option_map (event.SetTarget d) (carried_target n target))
      (λ d. calm_map (event.SetTarget d) (λ t. refl) (carried_target n target)) (new_number n.call_sites c)
  of_carried n event.NewSwitch = refl
  of_carried n (event.Invalidate points) = refl
  of_carried n (event.Bind s c) =
      calm_then (λ (t : ℕ). option_map (event.Bind t) (new_number n.call_sites c))
      (λ t. calm_map (event.Bind t) (λ d. refl) (new_number n.call_sites c)) (new_number n.sites s)
  of_carried n (event.Install rows) = refl
  of_carried n (event.Retire loader) = calm_map event.Retire (λ l. refl) (new_number n.loaders loader)
  of_carried n (event.RetireAll loaders) = refl
  of_carried n (event.Release call_sites points) = refl

  -- where nothing was installed there is no link
  pub none_there : (h : List Event) → IsQuiet h → installed h k ≡ None
  none_there h quiet = by_link (installed h k) refl
    where
      by_link : (o : Option Link) → installed h k ≡ o → o ≡ None
      by_link None e = refl
      by_link (Some l) e =
          let settled = installed_to h k l e in
          let no = quiet settled.since in
          let yes = settled.installed in
          cc (no, yes)
