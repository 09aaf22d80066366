-- Sites that select alike on one key have one link, before the event and after it.
use Rattle.std.specs.Prelude.{◌≡◌, ◌≢◌, ℕ, ◌==◌, ◌&&◌, ◌||◌, ◌⊎◌, Bool, true, false, if◌then◌else◌, List, [], ◌∷◌, map}
use Rattle.std.proofs.Common.{refl, ap, sym, ◌∙◌}
use Rattle.std.proofs.lemmas.Bool.{both_ways}
use Rattle.std.proofs.lemmas.Bool.Decides.{Decides-eqb}
use Rattle.jl_types.specs.declared.ids.MethodId.{MethodId}
use Rattle.jl_types.specs.declared.link.Link.{Link}
use Rattle.jl_types.specs.declared.link.Link.TheVariants.{Direct}
use Rattle.jl_types.specs.declared.link.TableKind.TheVariants as table
use Rattle.jl_types.specs.declared.event.EventOf.TheVariants as event
use Rattle.jl_types.specs.declared.key.Key.{Key}
use Rattle.jl_types.specs.declared.key.Key.TheVariants as key
use Rattle.jl_types.specs.Values.World.{World, Classes}
use Rattle.jl_types.specs.Values.Members.{is_private}
use Rattle.jl_types.specs.Values.Ancestry.{receivers}
use Rattle.jl_types.specs.Linkage.Selection.{virtual_outcome, interface_outcome}
use Rattle.jl_types.specs.Linkage.Stages.{Selector, ByVirtual, ByInterface, BySpecial, ResolvedCall, Stage, Waits, Fails, Calls, Selects, stage}
use Rattle.jl_types.specs.Linkage.Links.{outcome, outcome_by, table_rows, table_or_mega, virtual_link, link_by}
use Rattle.jl_types.specs.Events.Event.{Event}
use Rattle.jl_types.specs.Events.Footprints.{same_key, has_key, meets, of_selector, footprint, still_valid, keys}
use Rattle.jl_relink.specs.Laws.{changes_receivers}
use Rattle.jl_relink.proofs.KeyLaws.{rests_on_stage}
use Rattle.jl_deps.specs.declared.form.Form.{Form}
use Rattle.jl_deps.specs.declared.form.Form.TheVariants as form
use Rattle.jl_deps.specs.Forms.{selects, form_by, form_of}

-- ---- the link of all that select so

abbrev pub link_alike : Classes → ℕ → Form → Link
link_alike cs c (form.Virtual m) =
    if is_private cs m then Direct (virtual_outcome cs c m) else virtual_link (map (λ x. (x, virtual_outcome cs x m)) (receivers cs c))
link_alike cs c (form.Interface m) = table_or_mega table.Interface (map (λ x. (x, interface_outcome cs x c m)) (receivers cs c))
link_alike cs c form.Other = virtual_link []

-- the site selects so, on the receivers of this class
pub record IsSelecting (w : World) (s : ℕ) (f : Form) : Type 0 where
  pub invocation : ResolvedCall
  pub is : stage w s ≡ Selects invocation
  pub rests_on : footprint w s ≡ key.Receivers invocation.named ∷ []
  pub link : (cs : Classes) → link_by cs invocation invocation.selector ≡ link_alike cs invocation.named f

pub selecting : (w : World) (s : ℕ) → selects (form_of w.classes (stage w s)) ≡ true → IsSelecting w s (form_of w.classes (stage w s))
selecting w s h = by_stage (stage w s) refl h
  where
    rows_by : (cs : Classes) (i : ResolvedCall) (selector : Selector) → i.selector ≡ selector
        → table_rows cs i ≡ map (λ x. (x, outcome_by cs i selector x)) (receivers cs i.named)
    rows_by cs i selector is = λ k. map (λ x. (x, outcome_by cs i (is k) x)) (receivers cs i.named)

    by_private : (i : ResolvedCall) → stage w s ≡ Selects i → i.selector ≡ ByVirtual → (b : Bool) → is_private w.classes i.method ≡ b
        → selects (if b then form.Other else form.Virtual i.method) ≡ true → IsSelecting w s (if b then form.Other else form.Virtual i.method)
    by_private i at is true private h = cc
    by_private i at is false shared h = record {
      invocation = i;
      is = at;
      rests_on =
          rests_on_stage w s i at ∙ ap (of_selector w.classes i) is ∙ ap (λ (b : Bool). if b then [] else key.Receivers i.named ∷ []) shared;
      link = λ cs.
          ap (link_by cs i) is
          ∙ ap (λ rows. if is_private cs i.method then Direct (virtual_outcome cs i.named i.method) else virtual_link rows) (rows_by cs i ByVirtual is);
    }

    by_selector : (i : ResolvedCall) → stage w s ≡ Selects i → (selector : Selector) → i.selector ≡ selector
        → selects (form_by w.classes i selector) ≡ true → IsSelecting w s (form_by w.classes i selector)
    by_selector i at ByVirtual is h = by_private i at is (is_private w.classes i.method) refl h
    by_selector i at ByInterface is h = record {
      invocation = i;
      is = at;
      rests_on = rests_on_stage w s i at ∙ ap (of_selector w.classes i) is;
      link = λ cs. ap (link_by cs i) is ∙ ap (table_or_mega table.Interface) (rows_by cs i ByInterface is);
    }
    by_selector i at BySpecial is h = cc

    by_stage : (t : Stage) → stage w s ≡ t → selects (form_of w.classes t) ≡ true → IsSelecting w s (form_of w.classes t)
    by_stage (Waits reason) is h = cc
    by_stage (Fails throwable) is h = cc
    by_stage (Calls m) is h = cc
    by_stage (Selects i) is h = by_selector i is i.selector refl h

-- two of one form that have a key in common select on one class
pub one_class : (w : World) (s t : ℕ) (f g : Form) (a : IsSelecting w s f) (b : IsSelecting w t g) → meets (footprint w t) (footprint w s) ≡ true
    → a.invocation.named ≡ b.invocation.named
one_class w s t f g a b h =
    (Decides-eqb a.invocation.named b.invocation.named).0
    (alone (a.invocation.named == b.invocation.named) (sym (λ i. meets (b.rests_on i) (a.rests_on i)) ∙ h))
  where
    alone : (e : Bool) → ((e || false) || false) ≡ true → e ≡ true
    alone true h = refl
    alone false h = h

-- ---- the event

receivers_among : (k : ℕ → Key) → ((n c : ℕ) → has_key (k n ∷ []) (key.Receivers c) ≡ false) → (ns : List ℕ) (c : ℕ)
    → has_key (map k ns) (key.Receivers c) ≡ false
receivers_among k other [] c = refl
receivers_among k other (n ∷ ns) c = (λ i. alone (has_one n c) (other n c) i || receivers_among k other ns c i)
  where
    has_one : ℕ → ℕ → Bool
    has_one n c = same_key (k n) (key.Receivers c)

    alone : (b : Bool) → (b || false) ≡ false → b ≡ false
    alone true h = h
    alone false h = refl

-- an event with such a key changes receivers
pub changes : (w : World) (e : Event) (c : ℕ) → has_key (keys w e) (key.Receivers c) ≡ true → changes_receivers e ≡ true
changes w event.NewLoader c h = cc
changes w (event.Define loader file) c h = refl
changes w (event.Delegate loader name to) c h = cc
changes w (event.Request place) c h = cc
changes w (event.NewCallSite kind ty target) c h = cc
changes w (event.SetTarget d target) c h = cc
changes w event.NewSwitch c h = cc
changes w (event.Invalidate points) c h = absurd (both_ways _ (receivers_among key.Valid (λ n c. refl) (still_valid w.sites points) c) h)
changes w (event.Bind s d) c h = cc
changes w (event.Install rows) c h = cc
changes w (event.Retire loader) c h = refl
changes w (event.RetireAll loaders) c h = refl
changes w (event.Release call_sites points) c h = absurd (both_ways _ (receivers_among key.Target (λ n c. refl) call_sites c) h)

-- a touched site of such a form has a key that tells so
pub key_met : (c : ℕ) (ks : List Key) → meets (key.Receivers c ∷ []) ks ≡ true → has_key ks (key.Receivers c) ≡ true
key_met c ks h = alone (has_key ks (key.Receivers c)) h
  where
    alone : (b : Bool) → (b || false) ≡ true → b ≡ true
    alone true h = refl
    alone false h = h

-- what an invokevirtual comes to for a receiver, by the method that its form tells
pub virtual_by : (cs : Classes) (i : ResolvedCall) (m : MethodId) (x : ℕ) → form.Virtual m ≡ form_of cs (Selects i) → outcome cs i x ≡ virtual_outcome cs x m
virtual_by cs i m x e = by_selector i.selector refl e
  where
    by_private : i.selector ≡ ByVirtual → (b : Bool) → form.Virtual m ≡ (if b then form.Other else form.Virtual i.method)
        → outcome cs i x ≡ virtual_outcome cs x m
    by_private is true e = cc
    by_private is false e =
        let same : m ≡ i.method = cc in
        ap (λ selector. outcome_by cs i selector x) is ∙ ap (virtual_outcome cs x) (sym same)

    by_selector : (selector : Selector) → i.selector ≡ selector → form.Virtual m ≡ form_by cs i selector → outcome cs i x ≡ virtual_outcome cs x m
    by_selector ByVirtual is e = by_private is (is_private cs i.method) e
    by_selector ByInterface is e = cc
    by_selector BySpecial is e = cc
