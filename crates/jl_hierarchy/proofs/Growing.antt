-- What is kept once the classes have what a definition adds.
use Rattle.std.specs.Prelude.{◌≡◌, ℕ, ◌<◌, ◌^◌, ◌&&◌, Bool, true, if◌then◌else◌, List, [], ◌∷◌, ◌++◌, length, slice_get, All}
use Rattle.std.specs.Prelude.{Option, Some, None, option_and_then, IfSome}
use Rattle.std.proofs.Common.{refl, ap, sym, subst, ◌∙◌, inl, inr, Vec, Global}
use Rattle.std.proofs.lemmas.Bool.{and_parts}
use Rattle.std.proofs.lemmas.List.{length-map}
use Rattle.jl_class.specs.Flags.{extends_object}
use Rattle.jl_types.specs.Values.World.{Class, Classes}
use Rattle.jl_types.specs.Values.Members.{lookup, recorded, is_concrete_row}
use Rattle.jl_types.specs.Values.Ancestry.{AreOrdered, ancestors}
use Rattle.jl_types.specs.Events.Definitions.{class_made, defined, with_record}
use Rattle.jl_types.proofs.Orders.{defined_good}
use Rattle.jl_hierarchy.specs.Constancy.{MayDefine}
use Rattle.jl_hierarchy.specs.declared.define.NewClass.{NewClass}
use Rattle.jl_hierarchy.specs.declared.marks.Mark.{Mark}
use Rattle.jl_hierarchy.specs.ForProofs.Kept.{IsKept, IsAppended, lists}
use Rattle.jl_hierarchy.specs.ForProofs.Growing.{IsNewClass, gaining, IsReceived, AreKept, AreAdded}
use Rattle.jl_hierarchy.specs.Redeclared.{Marked, IsIndexed, is_marked, is_listed, is_on, has_method, sees_print, line_above, IsTold}
use Rattle.jl_hierarchy.proofs.FaultLaws.{is_new}
use Rattle.jl_hierarchy.proofs.KeptLaws.{good}
use Rattle.jl_hierarchy.proofs.NewClass.{kept_as, kept_now}
use Rattle.jl_hierarchy.proofs.NewMarks.{still_indexed, indexed_now}
use Rattle.jl_hierarchy.proofs.Objects.{first_defined}

-- nothing has changed, but that more may be marked
pub still_kept : {loaders loaders' : List (List (List ℕ × ℕ))} {rows rows' : List Class} {retired : List ℕ} {over over' under under' : List (List ℕ)}
    {marks marks' : Marked} {are_superclass_chains : Bool}
    → (loaders' ≡ loaders) × (rows' ≡ rows) × (over' ≡ over) × (under' ≡ under) → AreKept marks marks'
    → IsKept (record { loaders = loaders; rows = rows; retired = retired }) over under × IsIndexed rows marks are_superclass_chains
    → IsKept (record { loaders = loaders'; rows = rows'; retired = retired }) over' under' × IsIndexed rows' marks' are_superclass_chains
still_kept {loaders} {loaders'} {rows} {rows'} {retired} {over} {over'} {under} {under'} {marks} {marks'} {are_superclass_chains} same marked old = (
  kept_as (record { loaders = loaders'; rows = rows'; retired = retired }) (record { loaders = loaders; rows = rows; retired = retired })
      over' over under' under (λ i. record { loaders = same.0 i; rows = same.1 i; retired = retired }) same.2 same.3 old.0,
  subst (λ (r : List Class). IsIndexed r marks' are_superclass_chains) (sym same.1)
      (still_indexed rows marks marks' are_superclass_chains are_superclass_chains old.1 marked (λ known. known)),
)

-- the classes inside are those that a clause sees, and a class is added, as its loader makes it of its file
module _ {inside cs : Classes} (same : inside ≡ cs) {row : Class} (none : MayDefine cs row.loader row.file)
    {new_class : NewClass} (grown : IsNewClass cs row new_class) where
  abbrev n : ℕ
  n = length cs.rows

  pub there_inside : All (λ a. a < length inside.rows) (gaining new_class)
  there_inside = subst (λ (k : Classes). All (λ a. a < length k.rows) (gaining new_class)) (sym same) grown.there

  pub fresh_inside : option_and_then (recorded new_class.row.file.name) (slice_get inside.loaders new_class.row.loader) ≡ None
  fresh_inside = (λ i. lookup (same i) (grown.row_is i).loader (grown.row_is i).file.name) ∙ is_new cs row.loader row.file none

  -- what is told of the class: by the marks that were found, or by those of every print at each ancestor
  told_by : (new : Marked) → AreAdded new_class new → (s p : ℕ) → has_method p row.file.methods ≡ true
      → is_on s (line_above cs row) ≡ true → sees_print cs p s ≡ true → IsTold cs p (is_marked new) s
  told_by new added s p h on seen = by_marks new_class.marks grown.marks added.each added.every
    where
      by_marks : (found : Option (Vec Mark Global))
          → IfSome found (λ marks. (s p : ℕ) → has_method p row.file.methods ≡ true → is_on s (line_above cs row) ≡ true → sees_print cs p s ≡ true
          → IsTold cs p (is_listed marks.items) s)
          → IfSome found (λ marks. (s p : ℕ) → is_listed marks.items s p ≡ true → is_marked new s p ≡ true)
          → (found ≡ None → (s p : ℕ) → is_on s new_class.ancestors.items ≡ true → is_marked new s p ≡ true)
          → IsTold cs p (is_marked new) s
      by_marks None told each every = inl (every refl s p (grown.above s on))
      by_marks (Some marks) told each every = elim (told s p h on seen) [
        | inl listed ↦ inl (each s p listed)
        | inr before ↦ inr before
      ]

  module _ (made : row ≡ class_made cs row.loader row.file) (extends : extends_object row.file.flags row.file.superclass ≡ true)
      (room : length cs.rows < 2 ^ 20) {over under : List (List ℕ)} {marks : Marked} {are_superclass_chains : Bool}
      (old : IsKept inside over under × IsIndexed inside.rows marks are_superclass_chains)
      {loaders' : List (List (List ℕ × ℕ))} {rows' : List Class} {over' under' : List (List ℕ)} {marks' : Marked}
      (loaders_are : loaders' ≡ with_record inside.loaders new_class.row.loader new_class.row.file.name new_class.class)
      (rows_are : rows' ≡ inside.rows ++ new_class.row ∷ []) (over_are : over' ≡ over ++ new_class.with_itself ∷ [])
      (received : IsReceived new_class under under')
      (marked : AreKept marks marks') (added : AreAdded new_class marks') where
    kept : IsKept cs over under
    kept = subst (λ (k : Classes). IsKept k over under) same old.0

    rows_now : rows' ≡ cs.rows ++ row ∷ []
    rows_now = rows_are ∙ (λ i. (same i).rows ++ grown.row_is i ∷ [])

    classes_are : ◌≡◌ {A = Classes} (record { loaders = loaders'; rows = rows'; retired = inside.retired }) (defined cs row.loader row.file)
    classes_are = λ i. record {
      loaders = (loaders_are ∙ (λ j. with_record (same j).loaders (grown.row_is j).loader (grown.row_is j).file.name (grown.number j))) i;
      rows = (rows_now ∙ (λ j. cs.rows ++ made j ∷ [])) i;
      retired = (same i).retired;
    }

    own_is : new_class.own.items ≡ (if is_concrete_row (class_made cs row.loader row.file) then n ∷ [] else [])
    own_is = grown.own ∙ (λ i. if is_concrete_row (made i) then n ∷ [] else [])

    appended : IsAppended (if is_concrete_row (class_made cs row.loader row.file) then new_class.ancestors.items else []) n under received.0
    appended =
        subst (λ (k : Bool). IsAppended (if k then new_class.ancestors.items else []) n under received.0) (grown.concrete ∙ ap is_concrete_row made)
        (subst (λ (k : ℕ). IsAppended (gaining new_class) k under received.0) grown.number received.1)

    kept_grown : IsKept (record { loaders = loaders'; rows = rows'; retired = inside.retired }) over' under'
    kept_grown =
        kept_as (record { loaders = loaders'; rows = rows'; retired = inside.retired }) (defined cs row.loader row.file)
        over' (over ++ (new_class.ancestors.items ++ n ∷ []) ∷ []) under'
        (received.0 ++ (if is_concrete_row (class_made cs row.loader row.file) then n ∷ [] else []) ∷ [])
        classes_are (over_are ∙ (λ i. over ++ grown.with_itself i ∷ [])) (received.2 ∙ (λ i. received.0 ++ own_is i ∷ []))
        (kept_now cs over under kept row.loader row.file none room new_class.ancestors.items
        (grown.all ∙ (λ i. ancestors (cs.rows ++ made i ∷ []) n)) received.0 appended
        (first_defined cs kept.object row.loader row.file none extends))

    ordered : AreOrdered (cs.rows ++ row ∷ [])
    ordered =
        subst (λ (r : Class). AreOrdered (cs.rows ++ r ∷ [])) (sym made)
        ((defined_good cs (good inside over under old.0 cs same) row.loader row.file).ordered)

    indexed_grown : IsIndexed rows' marks' (are_superclass_chains && new_class.is_line)
    indexed_grown =
        subst (λ (rows : List Class). IsIndexed rows marks' (are_superclass_chains && new_class.is_line)) (sym rows_now)
        (indexed_now cs.rows row ordered marks marks' are_superclass_chains (are_superclass_chains && new_class.is_line)
        (subst (λ (k : Classes). IsIndexed k.rows marks are_superclass_chains) same old.1) marked (told_by marks' added)
        new_class.ancestors.items grown.all (λ known. (and_parts are_superclass_chains new_class.is_line known).0)
        (λ known. grown.line (and_parts are_superclass_chains new_class.is_line known).1))

    pub all_grown : IsKept (record { loaders = loaders'; rows = rows'; retired = inside.retired }) over' under'
        × IsIndexed rows' marks' (are_superclass_chains && new_class.is_line)
    all_grown = (kept_grown, indexed_grown)

-- those that are there have lists of receivers
pub there_below : (xs : List ℕ) (n : ℕ) (vectors : List (Vec ℕ Global)) → length (lists vectors) ≡ n → All (λ c. c < n) xs → All (λ c. c < length vectors) xs
there_below xs n vectors many there =
    subst (λ k. All (λ c. c < k) xs) (sym many ∙ length-map vectors (λ (v : Vec ℕ Global). v.items)) there
