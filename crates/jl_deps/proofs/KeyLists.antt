-- The sites that are listed under each key, key by key.
use Rattle.std.specs.Prelude.{◌≡◌, ℕ, zero, suc, ◌==◌, ◌&&◌, ◌||◌, not, Bool, true, false, List, [], ◌∷◌, ◌++◌, take, Option, Some, None, if◌then◌else◌}
use Rattle.std.specs.Option.{option_map_or}
use Rattle.std.proofs.Common.{refl, ap, sym, ◌∙◌}
use Rattle.std.proofs.lemmas.Bool.Decides.{Decides-eqb}
use Rattle.std.proofs.lemmas.List.Folds.{list_any-append}
use Rattle.std.proofs.lemmas.Bool.{and_parts}
use Rattle.indexmap.specs.IndexMap.{IndexMap}
use Rattle.jl_types.specs.declared.ids.MethodId.{MethodId}
use Rattle.jl_types.specs.declared.key.Key.{Key}
use Rattle.jl_types.specs.declared.key.Key.TheVariants as key
use Rattle.jl_types.specs.Events.Footprints.{same_key, has_key}
use Rattle.jl_deps.specs.declared.form.Form.{Form}
use Rattle.jl_deps.specs.declared.form.Form.TheVariants as forms
use Rattle.jl_deps.specs.declared.form.Rests.{Rests}
use Rattle.jl_relink.proofs.Untouched.{same_key_is}
use Rattle.jl_deps.specs.Indexes.{rests_at, form_eq}
use Rattle.jl_deps.specs.ForProofs.Lists.{key_eq, listed, AreListed, keys_in, form_in}

pub key_same : (k j : Key) → key_eq k j ≡ same_key k j
key_same (key.Receivers c) (key.Receivers d) = refl
key_same (key.Receivers c) (key.Target d) = refl
key_same (key.Receivers c) (key.Valid d) = refl
key_same (key.Target c) (key.Receivers d) = refl
key_same (key.Target c) (key.Target d) = refl
key_same (key.Target c) (key.Valid d) = refl
key_same (key.Valid c) (key.Receivers d) = refl
key_same (key.Valid c) (key.Target d) = refl
key_same (key.Valid c) (key.Valid d) = refl

-- ---- one key more

has_more : (front : List Key) (key k : Key) → has_key (front ++ key ∷ []) k ≡ (has_key front k || same_key key k)
has_more front key k = list_any-append (λ other. same_key other k) front (key ∷ []) ∙ ap (λ (b : Bool). has_key front k || b) (alone (same_key key k))
  where
    alone : (b : Bool) → (b || false) ≡ b
    alone true = refl
    alone false = refl

-- the first so many of the keys have none that they don't have
pub has_front : (keys : List Key) (n : ℕ) (k : Key) → has_key keys k ≡ false → has_key (take n keys) k ≡ false
has_front keys zero k h = refl
has_front [] (suc n) k h = refl
has_front (key ∷ keys) (suc n) k h = by_key (same_key key k) (has_front keys n k) h
  where
    by_key : (b : Bool) → (has_key keys k ≡ false → has_key (take n keys) k ≡ false) → (b || has_key keys k) ≡ false → (b || has_key (take n keys) k) ≡ false
    by_key true on h = cc
    by_key false on h = on h

-- what isn't among the keys is listed as before, where the first so many of them are listed
pub others_listed : (keys : List Key) (n : ℕ) (k : Key) (b now old : Bool) → now ≡ ((b && has_key (take n keys) k) || old) → (b && has_key keys k) ≡ false
    → now ≡ old
others_listed keys n k true now old is h = is ∙ ap (λ (d : Bool). d || old) (has_front keys n k h)
others_listed keys n k false now old is h = is

-- one key more is listed
pub all_more : (front : List Key) (key k : Key) (b next now old : Bool) → next ≡ ((key_eq key k && b) || now)
    → now ≡ ((b && has_key front k) || old) → next ≡ ((b && has_key (front ++ key ∷ []) k) || old)
all_more front key k b next now old step before =
    step ∙ (λ i. (key_same key k i && b) || before i)
    ∙ by_tests (same_key key k) (has_key front k) b
    ∙ ap (λ (d : Bool). (b && d) || old) (sym (has_more front key k))
  where
    by_tests : (e h b : Bool) → ((e && b) || ((b && h) || old)) ≡ ((b && (h || e)) || old)
    by_tests true true true = refl
    by_tests true false true = refl
    by_tests false true true = refl
    by_tests false false true = refl
    by_tests true h false = refl
    by_tests false h false = refl

-- one key less
pub gone_more : (kept front : List Key) (key k : Key) (b next now old : Bool) → has_key kept key ≡ false
    → next ≡ (not (key_eq key k && b) && now) → now ≡ (not (b && (has_key front k && not (has_key kept k))) && old)
    → next ≡ (not (b && (has_key (front ++ key ∷ []) k && not (has_key kept k))) && old)
gone_more kept front key k b next now old absent step before =
    step ∙ (λ i. not (key_same key k i && b) && before i)
    ∙ by_key (same_key key k) refl
    ∙ ap (λ (d : Bool). not (b && (d && not (has_key kept k))) && old) (sym (has_more front key k))
  where
    here : (b h : Bool) → (not b && (not (b && (h && true)) && old)) ≡ (not (b && ((h || true) && true)) && old)
    here true h = by_front h
      where
        by_front : (h : Bool) → false ≡ (not ((h || true) && true) && old)
        by_front true = refl
        by_front false = refl
    here false h = refl

    there : (b h d : Bool) → (not (b && (h && d)) && old) ≡ (not (b && ((h || false) && d)) && old)
    there b true d = refl
    there b false d = refl

    by_key : (e : Bool) → same_key key k ≡ e
        → (not (e && b) && (not (b && (has_key front k && not (has_key kept k))) && old)) ≡ (not (b && ((has_key front k || e) && not (has_key kept k))) && old)
    by_key true is =
        let gone : not (has_key kept k) ≡ true = ap not (ap (has_key kept) (sym (same_key_is key k is)) ∙ absent) in
        ap (λ (d : Bool). not b && (not (b && (has_key front k && d)) && old)) gone ∙ here b (has_key front k)
        ∙ sym (ap (λ (d : Bool). not (b && ((has_key front k || true) && d)) && old) gone)
    by_key false is = there b (has_key front k) (not (has_key kept k))

-- a key that stays
pub stays_more : (kept front : List Key) (key k : Key) (b now old : Bool) → has_key kept key ≡ true
    → now ≡ (not (b && (has_key front k && not (has_key kept k))) && old)
    → now ≡ (not (b && (has_key (front ++ key ∷ []) k && not (has_key kept k))) && old)
stays_more kept front key k b now old present before =
    before ∙ by_key (same_key key k) refl ∙ ap (λ (d : Bool). not (b && (d && not (has_key kept k))) && old) (sym (has_more front key k))
  where
    never : (b h : Bool) → (not (b && (h && false)) && old) ≡ (not (b && ((h || true) && false)) && old)
    never b true = refl
    never b false = refl

    there : (b h d : Bool) → (not (b && (h && d)) && old) ≡ (not (b && ((h || false) && d)) && old)
    there b true d = refl
    there b false d = refl

    by_key : (e : Bool) → same_key key k ≡ e
        → (not (b && (has_key front k && not (has_key kept k))) && old) ≡ (not (b && ((has_key front k || e) && not (has_key kept k))) && old)
    by_key true is =
        let stays : not (has_key kept k) ≡ false = ap not (ap (has_key kept) (sym (same_key_is key k is)) ∙ present) in
        ap (λ (d : Bool). not (b && (has_key front k && d)) && old) stays ∙ never b (has_key front k)
        ∙ sym (ap (λ (d : Bool). not (b && ((has_key front k || true) && d)) && old) stays)
    by_key false is = there b (has_key front k) (not (has_key kept k))

-- ---- the footprints and the lists

pub put_listed : {S T : Type 0} (old new : List (ℕ × Rests)) (before after : IndexMap Key (IndexMap Form (List ℕ) S) T) (site : ℕ) (r : Rests)
    → ((s : ℕ) → rests_at new s ≡ (if site == s then Some r else rests_at old s))
    → AreListed old before
    → ((k : Key) (f : Form) (s : ℕ) → listed after k f s ≡ (if site == s then form_eq r.form f && has_key r.footprint k else listed before k f s))
    → AreListed new after
put_listed old new before after site r puts were anew s k f =
    anew k f s ∙ by_site (site == s)
    ∙ ap (λ (o : Option Rests). option_map_or (λ (q : Rests). form_eq q.form f && has_key q.footprint k) o false) (sym (puts s))
  where
    by_site : (b : Bool) → (if b then form_eq r.form f && has_key r.footprint k else listed before k f s)
        ≡ option_map_or (λ (q : Rests). form_eq q.form f && has_key q.footprint k) (if b then Some r else rests_at old s) false
    by_site true = refl
    by_site false = were s k f

-- what was listed of the site, by what it rested on
pub was_listed : {S T : Type 0} (sites : List (ℕ × Rests)) (lists : IndexMap Key (IndexMap Form (List ℕ) S) T) (site : ℕ) → AreListed sites lists
    → (k : Key) (f : Form) → listed lists k f site ≡ (form_eq (form_in (rests_at sites site)) f && has_key (keys_in (rests_at sites site)) k)
was_listed sites lists site are k f = are site k f ∙ by_rests (rests_at sites site)
  where
    never : (b : Bool) → false ≡ (b && false)
    never true = refl
    never false = refl

    by_rests : (o : Option Rests) → option_map_or (λ (q : Rests). form_eq q.form f && has_key q.footprint k) o false
        ≡ (form_eq (form_in o) f && has_key (keys_in o) k)
    by_rests None = never (form_eq (form_in None) f)
    by_rests (Some r) = refl

-- ---- the site is listed anew

-- in the place of the old keys and form
pub listed_anew : (b e g other h all next now before : Bool) → (b ≡ true → before ≡ (e && h)) → (e ≡ true → other ≡ g)
    → now ≡ (((b && g) && all) || before) → next ≡ (not ((b && e) && (h && not (other && all))) && now)
    → next ≡ (if b then g && all else before)
listed_anew false e g other h all next now before was same listed less = less ∙ listed
listed_anew true e g other h all next now before was same listed less =
    less ∙ ap (λ (d : Bool). not (e && (h && not (other && all))) && d) (listed ∙ ap (λ (d : Bool). (g && all) || d) (was refl)) ∙ by_form e refl
  where
    there : (h n : Bool) → (not (h && not n) && (n || h)) ≡ n
    there true true = refl
    there true false = refl
    there false true = refl
    there false false = refl

    nowhere : (n : Bool) → (n || false) ≡ n
    nowhere true = refl
    nowhere false = refl

    by_form : (d : Bool) → e ≡ d → (not (d && (h && not (other && all))) && ((g && all) || (d && h))) ≡ (g && all)
    by_form true is = ap (λ (o : Bool). not (h && not (o && all)) && ((g && all) || h)) (same is) ∙ there h (g && all)
    by_form false is = nowhere (g && all)

method_is : (m n : MethodId) → ((m.class == n.class) && (m.index == n.index)) ≡ true → m ≡ n
method_is m n e = λ k. record {
  class = (Decides-eqb m.class n.class).0 (and_parts (m.class == n.class) (m.index == n.index) e).0 k;
  index = (Decides-eqb m.index n.index).0 (and_parts (m.class == n.class) (m.index == n.index) e).1 k;
}

-- forms that are equal by their derived `==`
pub form_is : (f g : Form) → form_eq f g ≡ true → f ≡ g
form_is (forms.Virtual m) (forms.Virtual n) e = ap forms.Virtual (method_is m n e)
form_is (forms.Virtual m) (forms.Interface n) e = cc
form_is (forms.Virtual m) forms.Other e = cc
form_is (forms.Interface m) (forms.Virtual n) e = cc
form_is (forms.Interface m) (forms.Interface n) e = ap forms.Interface (method_is m n e)
form_is (forms.Interface m) forms.Other e = cc
form_is forms.Other (forms.Virtual n) e = cc
form_is forms.Other (forms.Interface n) e = cc
form_is forms.Other forms.Other e = refl

pub form_same : (f : Form) → form_eq f f ≡ true
form_same (forms.Virtual m) = λ i. (Decides-eqb m.class m.class).1 refl i && (Decides-eqb m.index m.index).1 refl i
form_same (forms.Interface m) = λ i. (Decides-eqb m.class m.class).1 refl i && (Decides-eqb m.index m.index).1 refl i
form_same forms.Other = refl
