-- Class files that wait for their definition.
use Rattle.std.specs.Prelude.{◌≡◌, ℕ, List, [], ◌∷◌, ◌++◌, map, reverse, slice_get, is_some, true, Option, Some, None}
use Rattle.std.specs.List.{AllByRecursion}
use Rattle.jl_class.specs.Class.{ClassFile}
use Rattle.jl_types.specs.Values.World.{Classes}
use Rattle.jl_types.specs.Events.Definitions.{define_fault}
use Rattle.jl_report.specs.declared.defining.Waiting.{Waiting}
use Rattle.jl_report.specs.declared.defining.Rounds.{Rounds}
use Rattle.jl_report.specs.Gathering.{most_classes}

abbrev pub places : List Waiting → List ℕ
places waiting = map (λ w. w.place) waiting

-- each is the file at its place
abbrev pub AreOf : List ClassFile → List Waiting → Type 0
AreOf files waiting = AllByRecursion (λ w. slice_get files w.place ≡ Some w.file) waiting

-- loader 0 may define none of them
abbrev pub AreStuck : Classes → List Waiting → Type 0
AreStuck cs waiting = AllByRecursion (λ w. is_some (define_fault most_classes cs 0 w.file) ≡ true) waiting

-- those that wait, the last one's turn first
abbrev pub queue : Rounds → List Waiting
queue rounds = rounds.waiting.items ++ reverse rounds.left.items

-- the file, whose class loader 0 may define, is taken out of those that wait
pub record IsTaken (cs : Classes) (old new : List Waiting) (file : ClassFile) : Type 0 where
  pub front : List Waiting
  pub one : Waiting
  pub back : List Waiting
  pub all : old ≡ front ++ one ∷ back
  pub others : new ≡ front ++ back
  pub same : one.file ≡ file
  pub free : define_fault most_classes cs 0 file ≡ None

-- If no file of this round can be taken out, all have their turn again.
abbrev pub IsNextInRound : Classes → Rounds → Rounds → Option ClassFile → Type 0
IsNextInRound cs old new (Some file) = IsTaken cs (queue old) (queue new) file
IsNextInRound cs old new None = (new.waiting.items ≡ queue old) × (new.left.items ≡ []) × AreStuck cs old.waiting.items

-- all of these have their turn, and loader 0 may define none of them
abbrev pub AreRefused : Classes → Rounds → Type 0
AreRefused cs rounds = (rounds.left.items ≡ []) × AreStuck cs rounds.waiting.items

-- A file is taken out that loader 0 may define. If there is none, all are left.
abbrev pub IsNext : Classes → Rounds → Rounds → Option ClassFile → Type 0
IsNext cs old new (Some file) = IsTaken cs (queue old) (queue new) file
IsNext cs old new None = (new.waiting.items ≡ queue old) × AreRefused cs new
