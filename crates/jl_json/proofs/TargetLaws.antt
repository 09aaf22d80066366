-- A target is read one level at a time, and has no keys but those of its form.
use Rattle.std.proofs.Common.{◌≡◌, ◌≢◌, ◌∙◌, sym, ap, subst, refl, ℕ, ◌^◌, ◌==◌, ◌<◌, ◌≤◌, List, [], ◌∷◌, length, arith}
use Rattle.std.proofs.Common.{Bool, false, if◌then◌else◌, codes}
use Rattle.std.specs.Prelude.{max}
use Rattle.std.proofs.lemmas.Bool.Decides.{nat_tests}
use Rattle.std.proofs.Common.{Option, Some, None, option_map}
use Rattle.std.specs.Ordering.{nat_cmp, match_ordering, is_eq}
use Rattle.std.specs.declared.cmp.Ordering.{Ordering}
use Rattle.std.specs.declared.cmp.Ordering.TheVariants.{Less, Equal, Greater}
use Rattle.std.specs.Cmp.Lexicographic.{slice_cmp}
use Rattle.std.proofs.lemmas.Bool.{eqb-true}
use Rattle.std.proofs.lemmas.Map.Text.{is_eq-slice_cmp}
use Rattle.std.proofs.lemmas.Option.{option_and_then_some, none-some, same_Some}
use Rattle.serde_json.specs.Data.{Data, null, boolean, number, string, array, object, Members, no_members, member}
use Rattle.serde_json.specs.Data.{depth, members_depth}
use Rattle.serde_json.specs.Find.{get, get_member, as_array, as_object}
use Rattle.serde_json.specs.View.{items_view}
use Rattle.serde_json.specs.declared.value.Value.{Value}
use Rattle.jl_types.specs.declared.ids.MethodId.{MethodId}
use Rattle.jl_types.specs.Values.Target.{Target, Method, Guard, Invoker}
use Rattle.jl_json.specs.Members.{number_at, member_count, member_keys, keys_of, AreAmong, ◌>>=◌}
use Rattle.jl_json.specs.Targets.{method_pair, method_at, guard, method_or_invoker, object_target, target_in, target_under, target_at}
use Rattle.jl_json.specs.CommandForms.{target_data}
use Rattle.jl_names.proofs.Tests.{by_test}
use Rattle.jl_json.proofs.KeyLaws.{next_found, number_found, named_alone, mapped}

-- ---- one level

by_order : (o : Ordering) (rest : Option Data) (d : Data) (more : Option Target) → more ≡ (rest >>= target_in)
    → (if is_eq o then target_in d else more) ≡ (match_ordering o rest (Some d) rest >>= target_in)
by_order Less rest d more e = e
by_order Equal rest d more e = refl
by_order Greater rest d more e = e

under : (key : List ℕ) (ms : Members) → target_under key ms ≡ (get_member key ms >>= target_in)
unfolding target_under
under key no_members = refl
under key (member k d ms) =
    ap (λ (b : Bool). if b then target_in d else target_under key ms) (sym (is_eq-slice_cmp key k))
    ∙ by_order (slice_cmp nat_cmp key k) (get_member key ms) d (target_under key ms) (under key ms)

-- of an object of so many members
abbrev pub by_count : Option ℕ → Data → Option Target
by_count count d =
    count >>= (λ n. object_target n d (target_at (codes "target") d) (target_at (codes "fallback") d))

pub level : (d : Data) → target_in d ≡ by_count (option_map member_count (as_object d)) d
unfolding target_in
level null = refl
level (boolean b) = refl
level (number n) = refl
level (string s) = refl
level (array ds) = refl
level (object ms) =
    λ i. object_target (member_count ms) (object ms) (under (codes "target") ms i) (under (codes "fallback") ms i)

-- what was counted tells the target
pub counted : (d : Data) (count : Option ℕ) → count ≡ option_map member_count (as_object d) → by_count count d ≡ target_in d
counted d count is = ap (λ (o : Option ℕ). by_count o d) is ∙ sym (level d)

pub counted_as : (d : Data) (m n : ℕ) → m ≡ n → Some m ≡ option_map member_count (as_object d)
    → by_count (Some n) d ≡ target_in d
counted_as d m n same is = ap (λ (k : ℕ). by_count (Some k) d) (sym same) ∙ counted d (Some m) is

-- of so many members there is no target
pub no_count : (d : Data) (n : ℕ) → n ≢ 1 → n ≢ 3 → by_count (Some n) d ≡ None
no_count d n not_one not_three =
    let one : (n == 1) ≡ false = grind (arith, nat_tests) in
    let three : (n == 3) ≡ false = grind (arith, nat_tests) in
    rw (one, three) refl

-- ---- pairs

pub too_few : (items : List Value) → length items < 2 → method_pair (items_view items) ≡ None
too_few [] few = refl
too_few (a ∷ []) few = refl
too_few (a ∷ b ∷ items) few = absurd (omega arith)

pub too_many : (items : List Value) → 2 < length items → method_pair (items_view items) ≡ None
too_many [] many = refl
too_many (a ∷ []) many = refl
too_many (a ∷ b ∷ []) many = absurd (omega arith)
too_many (a ∷ b ∷ c ∷ items) many = refl

-- ---- depths

placed : (o : Ordering) (rest : Option Data) (d part : Data) (n : ℕ) → (rest ≡ Some part → depth part ≤ n)
    → match_ordering o rest (Some d) rest ≡ Some part → depth part ≤ max (depth d) n
placed Less rest d part n below e = let le = below e in grind (arith, nat_tests, le)
placed Equal rest d part n below e = let same : depth d ≡ depth part = ap depth (same_Some d part e) in grind (arith, nat_tests, same)
placed Greater rest d part n below e = let le = below e in grind (arith, nat_tests, le)

depth_of : (key : List ℕ) (ms : Members) (part : Data) → get_member key ms ≡ Some part → depth part ≤ members_depth ms
depth_of key no_members part e = absurd (none-some part e)
depth_of key (member k d ms) part e =
    placed (slice_cmp nat_cmp key k) (get_member key ms) d part (members_depth ms) (depth_of key ms part) e

-- what is found lies less deep
pub less_deep : (key : List ℕ) (d part : Data) → Some part ≡ get key d → depth part < depth d
less_deep key null part e = absurd (none-some part (sym e))
less_deep key (boolean b) part e = absurd (none-some part (sym e))
less_deep key (number n) part e = absurd (none-some part (sym e))
less_deep key (string s) part e = absurd (none-some part (sym e))
less_deep key (array ds) part e = absurd (none-some part (sym e))
less_deep key (object ms) part e = omega (arith, depth_of key ms part (sym e))

-- ---- keys

-- the keys of the members are among those of the target's form
abbrev IsForm : Members → Target → Type 0
IsForm ms t = AreAmong (member_keys ms) (keys_of (target_data t))

invoker_keys : (ms : Members) (t : Target) → member_count ms ≡ 1
    → option_map Invoker (number_at (2 ^ 32) (codes "invoker") (object ms)) ≡ Some t → IsForm ms t
invoker_keys ms t count e = mapped Invoker (number_at (2 ^ 32) (codes "invoker") (object ms)) t e
    (λ c is made. subst (IsForm ms) made
    (named_alone (codes "invoker" ∷ []) ms (tt, tt) count (number_found (2 ^ 32) (codes "invoker") ms c is, tt)))

method_keys : (ms : Members) (t : Target) → member_count ms ≡ 1
    → method_or_invoker (method_at (codes "method") (object ms)) (number_at (2 ^ 32) (codes "invoker") (object ms)) ≡ Some t → IsForm ms t
method_keys ms t count e = by_method (method_at (codes "method") (object ms)) refl e
  where
    by_method : (o : Option MethodId) → method_at (codes "method") (object ms) ≡ o
        → method_or_invoker o (number_at (2 ^ 32) (codes "invoker") (object ms)) ≡ Some t → IsForm ms t
    by_method None is e = invoker_keys ms t count e
    by_method (Some m) is e =
        subst (IsForm ms) (same_Some (Method m) t e)
        (named_alone (codes "method" ∷ []) ms (tt, tt) count
        (next_found (λ d. as_array d >>= method_pair) (codes "method") ms m is, tt))

guard_keys : (ms : Members) (t : Target) → member_count ms ≡ 3
    → guard (number_at (2 ^ 32) (codes "guard") (object ms)) (target_at (codes "target") (object ms))
    (target_at (codes "fallback") (object ms)) ≡ Some t → IsForm ms t
guard_keys ms t count e = option_and_then_some _ (number_at (2 ^ 32) (codes "guard") (object ms)) t e
    (λ p is next. option_and_then_some _ (target_at (codes "target") (object ms)) t next
    (λ first here last. option_and_then_some _ (target_at (codes "fallback") (object ms)) t last
    (λ fallback there made. subst (IsForm ms) (same_Some (Guard p first fallback) t made)
    (named_alone (codes "fallback" ∷ codes "guard" ∷ codes "target" ∷ []) ms
    ((refl, (refl, tt)), ((refl, tt), (tt, tt))) count (
      next_found target_in (codes "fallback") ms fallback there,
      (
        number_found (2 ^ 32) (codes "guard") ms p is,
        (next_found target_in (codes "target") ms first here, tt),
      ),
    )))))

object_keys : (ms : Members) (t : Target) → by_count (Some (member_count ms)) (object ms) ≡ Some t → IsForm ms t
object_keys ms t e = by_test (member_count ms == 1)
    (λ one. method_keys ms t (eqb-true (member_count ms) 1 one) (rw one at e))
    (λ other. by_test (member_count ms == 3)
    (λ three. guard_keys ms t (eqb-true (member_count ms) 3 three) (rw (other, three) at e))
    (λ neither. absurd (none-some t (rw (other, neither) at e))))

pub target_keys : (d : Data) (t : Target) → target_in d ≡ Some t → AreAmong (keys_of d) (keys_of (target_data t))
unfolding target_in
target_keys null t e = absurd (none-some t e)
target_keys (boolean b) t e = absurd (none-some t e)
target_keys (number n) t e = absurd (none-some t e)
target_keys (string s) t e = absurd (none-some t e)
target_keys (array ds) t e = absurd (none-some t e)
target_keys (object ms) t e = object_keys ms t (sym (level (object ms)) ∙ e)
