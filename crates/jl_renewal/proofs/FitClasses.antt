-- What holds of the classes after accepted events, of which a renewal makes use, through each event of classes.
use Rattle.std.specs.Prelude.{◌≡◌, ℕ, zero, suc, Bool, true, false, cond, List, [], ◌∷◌, ◌++◌, length, slice_get, slice_set, find}
use Rattle.std.specs.Prelude.{Option, Some, None, option_map, option_and_then}
use Rattle.std.specs.Option.{option_map_or}
use Rattle.std.specs.Str.{bytes_eq}
use Rattle.std.proofs.Common.{refl, ap, sym, subst, ◌∙◌}
use Rattle.std.proofs.lemmas.Option.{same_Some}
use Rattle.std.proofs.lemmas.Slice.Eq.{bytes_eq-Decides}
use Rattle.jl_class.specs.Class.{ClassFile}
use Rattle.jl_types.specs.Values.World.{Class, Classes}
use Rattle.jl_types.specs.Values.Members.{is_retired, recorded, lookup}
use Rattle.jl_types.specs.Events.Definitions.{class_made, with_record, defined, delegated}
use Rattle.jl_types.specs.Events.Retirement.{retired}
use Rattle.jl_hierarchy.specs.Constancy.{MayDefine}
use Rattle.jl_types.proofs.Lists.{before_end, at_end}
use Rattle.jl_types.proofs.Orders.{IsGood, looked_up}
use Rattle.jl_types.proofs.Retiring.{found_before}
use Rattle.jl_hierarchy.proofs.OwnRecords.{own_with_loader, own_with_record, own_defined, own_retired}

-- what `IsFit` says of the classes alone
pub record AreFit (cs : Classes) : Type 0 where
  pub named : (loader : ℕ) (name : List ℕ) (c : ℕ) (row : Class) → lookup cs loader name ≡ Some c → slice_get cs.rows c ≡ Some row → row.file.name ≡ name
  pub found : (c : ℕ) (row : Class) → slice_get cs.rows c ≡ Some row → is_retired cs row.loader ≡ false → lookup cs row.loader row.file.name ≡ Some c

-- ---- look-ups once one record more is there

-- what holds of each name and what is found under it, and of the record that is added
module _ (P : List ℕ → ℕ → Type 0) (other : List ℕ) (d : ℕ) (added : P other d) where
  record_so : (records : List (List ℕ × ℕ)) (name : List ℕ) (c : ℕ) → (recorded name records ≡ Some c → P name c)
      → recorded name (records ++ (other, d) ∷ []) ≡ Some c → P name c
  record_so [] name c each e = by_test (bytes_eq other name) refl e
    where
      by_test : (b : Bool) → bytes_eq other name ≡ b → option_map (λ (r : List ℕ × ℕ). r.1) (cond b (Some (other, d)) None) ≡ Some c → P name c
      by_test true is e = subst (λ n. P n c) ((bytes_eq-Decides other name).0 is) (subst (P other) (same_Some d c e) added)
      by_test false is e = cc
  record_so (r ∷ records) name c each e = by_test (bytes_eq r.0 name) each e (record_so records name c)
    where
      by_test : (b : Bool) → (option_map (λ r. r.1) (cond b (Some r) (find (λ r. bytes_eq r.0 name) records)) ≡ Some c → P name c)
          → option_map (λ r. r.1) (cond b (Some r) (find (λ r. bytes_eq r.0 name) (records ++ (other, d) ∷ []))) ≡ Some c
          → ((recorded name records ≡ Some c → P name c) → recorded name (records ++ (other, d) ∷ []) ≡ Some c → P name c) → P name c
      by_test true each e rest = each e
      by_test false each e rest = rest each e

  set_so : (records : List (List ℕ × ℕ)) (loaders : List (List (List ℕ × ℕ))) (l k : ℕ) (name : List ℕ) (c : ℕ) → slice_get loaders l ≡ Some records
      → (option_and_then (recorded name) (slice_get loaders k) ≡ Some c → P name c)
      → option_and_then (recorded name) (slice_get (slice_set loaders l (records ++ (other, d) ∷ [])) k) ≡ Some c → P name c
  set_so records [] l k name c is each e = cc
  set_so records (x ∷ loaders) zero zero name c is each e = record_so records name c (λ f. each (ap (recorded name) (same_Some x records is) ∙ f)) e
  set_so records (x ∷ loaders) zero (suc k) name c is each e = each e
  set_so records (x ∷ loaders) (suc l) zero name c is each e = each e
  set_so records (x ∷ loaders) (suc l) (suc k) name c is each e = set_so records loaders l k name c is each e

  found_so : (loaders : List (List (List ℕ × ℕ))) (l k : ℕ) (name : List ℕ) (c : ℕ)
      → (option_and_then (recorded name) (slice_get loaders k) ≡ Some c → P name c)
      → option_and_then (recorded name) (slice_get (with_record loaders l other d) k) ≡ Some c → P name c
  found_so loaders l k name c each = by_loader (slice_get loaders l) refl
    where
      by_loader : (o : Option (List (List ℕ × ℕ))) → slice_get loaders l ≡ o
          → option_and_then (recorded name) (slice_get (option_map_or (λ records. slice_set loaders l (records ++ (other, d) ∷ [])) o loaders) k) ≡ Some c
          → P name c
      by_loader None is e = each e
      by_loader (Some records) is e = set_so records loaders l k name c is each e

-- a loader that is new finds nothing
nothing_more : (loaders : List (List (List ℕ × ℕ))) (k : ℕ) (name : List ℕ) (c : ℕ)
    → option_and_then (recorded name) (slice_get (loaders ++ [] ∷ []) k) ≡ Some c → option_and_then (recorded name) (slice_get loaders k) ≡ Some c
nothing_more [] zero name c e = cc
nothing_more [] (suc k) name c e = cc
nothing_more (x ∷ loaders) zero name c e = e
nothing_more (x ∷ loaders) (suc k) name c e = nothing_more loaders k name c e

-- ---- the events

module _ (cs : Classes) (good : IsGood cs) (fit : AreFit cs) where
  pub fit_with_loader : AreFit (record cs { loaders = cs.loaders ++ [] ∷ [] })
  fit_with_loader = record {
    named = λ k name c row e at. fit.named k name c row (nothing_more cs.loaders k name c e) at;
    found = own_with_loader cs good fit.found;
  }

  -- the name that is recorded is the class's
  fit_with_record : (loader : ℕ) (name : List ℕ) (d : ℕ) → ((row : Class) → slice_get cs.rows d ≡ Some row → row.file.name ≡ name)
      → AreFit (record cs { loaders = with_record cs.loaders loader name d })
  fit_with_record loader name d so = record {
    named = λ k other c row e at. found_so (λ n x. (r : Class) → slice_get cs.rows x ≡ Some r → r.file.name ≡ n) name d so cs.loaders loader k other c
        (λ f r there. fit.named k other c r f there) e row at;
    found = own_with_record cs good fit.found loader name d;
  }

  pub fit_delegated : (loader : ℕ) (name : List ℕ) (to : ℕ) → AreFit (delegated cs loader name to)
  fit_delegated loader name to = by_found (lookup cs to name) refl
    where
      by_found : (o : Option ℕ) → lookup cs to name ≡ o → AreFit (record cs { loaders = option_map_or (with_record cs.loaders loader name) o cs.loaders })
      by_found None is = fit
      by_found (Some c) is = fit_with_record loader name c (λ row at. fit.named to name c row is at)

  pub fit_defined : (loader : ℕ) (file : ClassFile) → MayDefine cs loader file → AreFit (defined cs loader file)
  fit_defined loader file may = record {
    named = λ k name c row e at. found_so Named file.name (length cs.rows) made_so cs.loaders loader k name c (old_so k name c) e row at;
    found = own_defined cs good fit.found loader file may;
  }
    where
      Named : List ℕ → ℕ → Type 0
      Named name c = (row : Class) → slice_get (cs.rows ++ class_made cs loader file ∷ []) c ≡ Some row → row.file.name ≡ name

      made_so : Named file.name (length cs.rows)
      made_so row at = sym (ap (λ (r : Class). r.file.name) (same_Some (class_made cs loader file) row (sym (at_end cs.rows (class_made cs loader file)) ∙ at)))

      old_so : (k : ℕ) (name : List ℕ) (c : ℕ) → lookup cs k name ≡ Some c → Named name c
      old_so k name c e row at =
          fit.named k name c row e (sym (before_end cs.rows (class_made cs loader file) c (looked_up cs good k name c e)) ∙ at)

  pub fit_retired : (loaders : List ℕ) → AreFit (retired cs loaders)
  fit_retired loaders = record {
    named = λ k name c row e at. fit.named k name c row (found_before cs loaders k name c e) at;
    found = own_retired cs good fit.found loaders;
  }
