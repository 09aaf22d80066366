-- Definitions, delegations and new loaders leave what was there as it was.
use Rattle.std.specs.Prelude.{◌≡◌, ℕ, zero, suc, ◌<◌, ◌&&◌, ◌||◌, not, Bool, true, false, cond, List, []}
use Rattle.std.specs.Prelude.{◌∷◌, ◌++◌, length, find, slice_get, slice_set, Option, Some, None, option_map, option_and_then, if◌then◌else◌}
use Rattle.std.specs.List.{list_any}
use Rattle.std.specs.Option.{option_map_or}
use Rattle.std.specs.Str.{bytes_eq}
use Rattle.std.proofs.Common.{refl, ap, sym, subst, ◌∙◌}
use Rattle.std.proofs.lemmas.List.{append-nil}
use Rattle.std.proofs.lemmas.Option.{same_Some, slice_get_within}
use Rattle.jl_class.specs.Class.{ClassFile}
use Rattle.jl_types.specs.Values.World.{Class, Classes}
use Rattle.jl_types.specs.Values.Members.{is_retired, is_present, recorded, lookup, share_package, is_concrete}
use Rattle.jl_types.specs.Values.Ancestry.{AreOrdered, is_ancestor, receivers}
use Rattle.jl_types.specs.Linkage.Access.{nest_host, host_by, host_if_recorded, host_if_listed}
use Rattle.jl_types.specs.Events.Definitions.{class_made, with_record, defined}
use Rattle.jl_types.proofs.Grown.{old_ancestors, receivers_after}
use Rattle.jl_types.proofs.Lists.{before_end}
use Rattle.jl_types.proofs.Orders.{IsGood, looked_up}
use Rattle.jl_types.specs.Events.Retirement.{is_listed, retired}
use Rattle.jl_types.proofs.Retiring.{retired_after, found_after}
use Rattle.jl_hierarchy.specs.Constancy.{AreInOrder, Stays, AddsReceiver}

-- ---- records

module _ (name : List ℕ) (c : ℕ) (e : List ℕ × ℕ) where
  recorded_stays : (records : List (List ℕ × ℕ)) → recorded name records ≡ Some c → recorded name (records ++ e ∷ []) ≡ Some c
  recorded_stays [] h = cc
  recorded_stays (r ∷ records) h = by_test (bytes_eq r.0 name) (recorded_stays records) h
    where
      by_test : (b : Bool) → (recorded name records ≡ Some c → recorded name (records ++ e ∷ []) ≡ Some c)
          → option_map (λ r. r.1) (cond b (Some r) (find (λ r. bytes_eq r.0 name) records)) ≡ Some c
          → option_map (λ r. r.1) (cond b (Some r) (find (λ r. bytes_eq r.0 name) (records ++ e ∷ []))) ≡ Some c
      by_test true rest h = h
      by_test false rest h = rest h

  set_stays : (records : List (List ℕ × ℕ)) (loaders : List (List (List ℕ × ℕ))) (l k : ℕ) → slice_get loaders l ≡ Some records
      → option_and_then (recorded name) (slice_get loaders k) ≡ Some c
      → option_and_then (recorded name) (slice_get (slice_set loaders l (records ++ e ∷ [])) k) ≡ Some c
  set_stays records [] l k is h = cc
  set_stays records (x ∷ loaders) zero zero is h = recorded_stays records (sym (ap (recorded name) (same_Some x records is)) ∙ h)
  set_stays records (x ∷ loaders) zero (suc k) is h = h
  set_stays records (x ∷ loaders) (suc l) zero is h = h
  set_stays records (x ∷ loaders) (suc l) (suc k) is h = set_stays records loaders l k is h

pub with_record_stays : (loaders : List (List (List ℕ × ℕ))) (loader : ℕ) (recorded_name : List ℕ) (d k : ℕ) (name : List ℕ) (c : ℕ)
    → option_and_then (recorded name) (slice_get loaders k) ≡ Some c → option_and_then (recorded name)
    (slice_get (with_record loaders loader recorded_name d) k) ≡ Some c
with_record_stays loaders loader recorded_name d k name c h = by_loader (slice_get loaders loader) refl
  where
    by_loader : (o : Option (List (List ℕ × ℕ))) → slice_get loaders loader ≡ o
        → option_and_then (recorded name) (slice_get (option_map_or (λ records. slice_set loaders loader (records ++ (recorded_name, d) ∷ [])) o loaders) k)
        ≡ Some c
    by_loader None is = h
    by_loader (Some records) is = set_stays name c (recorded_name, d) records loaders loader k is h

loader_stays : (loaders : List (List (List ℕ × ℕ))) (k : ℕ) (name : List ℕ) (c : ℕ)
    → option_and_then (recorded name) (slice_get loaders k) ≡ Some c → option_and_then (recorded name) (slice_get (loaders ++ [] ∷ []) k) ≡ Some c
loader_stays [] k name c h = cc
loader_stays (x ∷ loaders) zero name c h = h
loader_stays (x ∷ loaders) (suc k) name c h = loader_stays loaders k name c h

-- ---- nest hosts

not_true : (b : Bool) → not b ≡ true → b ≡ false
not_true true e = cc
not_true false e = refl

module _ (old new : Classes) (good : IsGood old) (rows : (c : ℕ) → c < length old.rows → slice_get new.rows c ≡ slice_get old.rows c)
    (records : (loader : ℕ) (name : List ℕ) (c : ℕ) → is_retired new loader ≡ false → lookup old loader name ≡ Some c → lookup new loader name ≡ Some c) where
  listed_stays : (m k : ℕ) (row : Class) → m < length old.rows → k < length old.rows → host_if_listed new m row k ≡ host_if_listed old m row k
  listed_stays m k row low lt =
      λ i. if option_map_or (λ a. option_map_or (share_package a) (rows k lt i) false) (rows m low i) false
      && option_map_or (λ host. list_any (bytes_eq row.file.name) host.file.nest_members) (rows k lt i) false then k else m

  host_stays : (m h : ℕ) (row : Class) → m < length old.rows → is_retired new row.loader ≡ false → (name : Option (List ℕ)) → host_by old m row name ≡ Some h
      → host_by new m row name ≡ Some h
  host_stays m h row low alive None e = e
  host_stays m h row low alive (Some name) e = by_record (lookup old row.loader name) refl e
    where
      by_record : (o : Option ℕ) → lookup old row.loader name ≡ o → host_if_recorded old m row o ≡ Some h
          → host_if_recorded new m row (lookup new row.loader name) ≡ Some h
      by_record None is e = cc
      by_record (Some k) is e =
          ap (host_if_recorded new m row) (records row.loader name k alive is)
          ∙ ap Some (listed_stays m k row low (looked_up old good row.loader name k is))
          ∙ e

  pub hosts_stay : (m h : ℕ) → is_present new m ≡ true → nest_host old m ≡ Some h → nest_host new m ≡ Some h
  hosts_stay m h present e = by_row (slice_get old.rows m) refl e
    where
      by_row : (o : Option Class) → slice_get old.rows m ≡ o → option_and_then (λ row. host_by old m row row.file.nest_host) o ≡ Some h
          → nest_host new m ≡ Some h
      by_row None is e = cc
      by_row (Some row) is e =
          let low = slice_get_within old.rows m row is in
          ap (option_and_then (λ r. host_by new m r r.file.nest_host)) (rows m low ∙ is)
          ∙ host_stays m h row low
          (not_true (is_retired new row.loader) (sym (ap (λ (o : Option Class). option_map_or (λ r. not (is_retired new r.loader)) o false) (rows m low ∙ is))
          ∙ present))
          row.file.nest_host e

-- ---- the changes

pub stays_defined : (cs : Classes) → IsGood cs → (loader : ℕ) (file : ClassFile) → Stays cs (defined cs loader file)
stays_defined cs good loader file = record {
  rows = λ c row e. before_end cs.rows (class_made cs loader file) c (slice_get_within cs.rows c row e) ∙ e;
  records = λ l name c alive h. with_record_stays cs.loaders loader file.name (length cs.rows) l name c h;
  ancestors = λ c lt. old_ancestors cs.rows good.ordered (class_made cs loader file) c lt;
  hosts =
      hosts_stay cs (defined cs loader file) good (λ c lt. before_end cs.rows (class_made cs loader file) c lt)
      (λ l name c alive h. with_record_stays cs.loaders loader file.name (length cs.rows) l name c h);
}

adds_receiver : (cs : Classes) → AreOrdered cs.rows → (loader : ℕ) (file : ClassFile) → AddsReceiver cs (defined cs loader file)
adds_receiver cs o loader file c =
    let new = defined cs loader file in
    receivers_after cs o loader file c ∙ by_test (is_concrete new (length cs.rows) && is_ancestor new c (length cs.rows))
  where
    by_test : (b : Bool) → receivers cs c ++ cond b (length cs.rows ∷ []) [] ≡ (if b then receivers cs c ++ length cs.rows ∷ [] else receivers cs c)
    by_test true = refl
    by_test false = append-nil (receivers cs c)

-- what stays, for classes that are equal to those after the definition
module _ (cs new : Classes) (before : AreInOrder cs) (loader : ℕ) (file : ClassFile) (now : new ≡ defined cs loader file) where
  pub stays_after : Stays cs new
  stays_after = subst (Stays cs) (sym now) (stays_defined cs (record { there = before.there; ordered = before.ordered }) loader file)

  pub receiver_after : AddsReceiver cs new
  receiver_after = subst (AddsReceiver cs) (sym now) (adds_receiver cs before.ordered loader file)

-- only records are added
stays_recorded : (cs : Classes) → IsGood cs → (loaders : List (List (List ℕ × ℕ)))
    → ((k : ℕ) (name : List ℕ) (c : ℕ) → lookup cs k name ≡ Some c → option_and_then (recorded name) (slice_get loaders k) ≡ Some c)
    → Stays cs (record cs { loaders = loaders })
stays_recorded cs good loaders h = record {
  rows = λ c row e. e;
  records = λ k name c alive e. h k name c e;
  ancestors = λ c lt. refl;
  hosts = hosts_stay cs (record cs { loaders = loaders }) good (λ c lt. refl) (λ k name c alive e. h k name c e);
}

pub stays_with_record : (cs : Classes) → IsGood cs → (loader : ℕ) (name : List ℕ) (d : ℕ)
    → Stays cs (record cs { loaders = with_record cs.loaders loader name d })
stays_with_record cs good loader name d =
    stays_recorded cs good (with_record cs.loaders loader name d) (λ k other c h. with_record_stays cs.loaders loader name d k other c h)

pub stays_with_loader : (cs : Classes) → IsGood cs → Stays cs (record cs { loaders = cs.loaders ++ [] ∷ [] })
stays_with_loader cs good = stays_recorded cs good (cs.loaders ++ [] ∷ []) (λ k name c h. loader_stays cs.loaders k name c h)

-- loaders go
pub stays_retired : (cs : Classes) → IsGood cs → (loaders : List ℕ) → Stays cs (retired cs loaders)
stays_retired cs good loaders = record {
  rows = λ c row e. e;
  records = found;
  ancestors = λ c lt. refl;
  hosts = hosts_stay cs (retired cs loaders) good (λ c lt. refl) found;
}
  where
    second : (a b : Bool) → (a || b) ≡ false → b ≡ false
    second true b e = cc
    second false b e = e

    found : (k : ℕ) (name : List ℕ) (c : ℕ) → is_retired (retired cs loaders) k ≡ false → lookup cs k name ≡ Some c
        → lookup (retired cs loaders) k name ≡ Some c
    found k name c alive e = found_after cs loaders k name (second (is_retired cs k) (is_listed loaders k) (sym (retired_after cs loaders k) ∙ alive)) ∙ e
