-- Which class files become classes. Each waits for its parents (JVMS 5.3.5).
use Rattle.std.specs.Prelude.{◌≡◌, ℕ, List, ◌∷◌, ◌++◌, map, slice_get, Some, None}
use Rattle.jl_class.specs.Class.{ClassFile}
use Rattle.jl_types.specs.Values.World.{Classes}
use Rattle.jl_types.specs.Events.Definitions.{define_fault, defined}
use Rattle.jl_report.specs.declared.defining.Refused.{Refused}

-- a report has as many classes as the programs' linkers may have
abbrev pub most_classes : ℕ
most_classes = 65536

abbrev pub numbers : List Refused → List ℕ
numbers refused = map (λ r. r.place) refused

-- The files at the waiting places become classes one after the other, in any order, each when loader 0 may define it. In the end
-- these classes are there, and these places are left.
pub data Gathers (files : List ClassFile) (out : Classes) : Classes → List ℕ → List ℕ → Type 0 where
  ends : {left : List ℕ} → Gathers files out out left left
  defines : {cs : Classes} {waiting left : List ℕ} (front : List ℕ) (n : ℕ) (back : List ℕ) (file : ClassFile)
      → waiting ≡ front ++ n ∷ back → slice_get files n ≡ Some file → define_fault most_classes cs 0 file ≡ None
      → Gathers files out (defined cs 0 file) (front ++ back) left → Gathers files out cs waiting left

-- the file at the place has this fault among all classes
pub record IsRefused (files : List ClassFile) (out : Classes) (r : Refused) : Type 0 where
  pub file : ClassFile
  pub there : slice_get files r.place ≡ Some file
  pub fault : define_fault most_classes out 0 file ≡ Some r.fault
