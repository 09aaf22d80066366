-- Files that become classes, one after the other, the last one of those that wait first.
use Rattle.std.proofs.Common.{◌≡◌, ◌∙◌, sym, ap, subst, refl, append_assoc, append-nil, zero-add, arith}
use Rattle.std.proofs.Common.{ℕ, ◌+◌, ◌<◌, List, [], ◌∷◌, ◌++◌, map, reverse, length}
use Rattle.std.specs.Prelude.{slice_get, Option, Some, None, is_some, is_none, Bool, not, true, false, All}
use Rattle.std.specs.List.{range_with_len}
use Rattle.std.proofs.lemmas.List.{map-append, reverse-append, reverse-reverse, length-append}
use Rattle.std.proofs.lemmas.List.Elements.{All-push}
use Rattle.jl_names.proofs.Tests.{All-front, All-back, All-both}
use Rattle.jl_types.proofs.Lists.{range_end}
use Rattle.jl_class.specs.Class.{ClassFile}
use Rattle.jl_types.specs.Values.World.{Classes}
use Rattle.jl_types.specs.Events.Definitions.{define_fault, defined}
use Rattle.jl_report.specs.declared.defining.Refused.{Refused}
use Rattle.jl_report.specs.declared.defining.Waiting.{Waiting}
use Rattle.jl_report.specs.declared.defining.Rounds.{Rounds}
use Rattle.jl_report.specs.Gathering.{most_classes, Gathers, ends, defines, numbers, IsRefused}
use Rattle.jl_report.specs.ForProofs.Waiting.{AreOf, AreStuck, places, queue, IsTaken, IsNextInRound, IsNext}

-- what leads from these waiting files in the end leads there from those at the beginning
abbrev pub Leads : List ClassFile → Classes → List ℕ → Classes → List ℕ → Type 0
Leads files first before cs waiting = (out : Classes) (left : List ℕ) → Gathers files out cs waiting left → Gathers files out first before left

-- ---- the other way round

one_back : {X : Type 0} (front : List X) (x : X) (back : List X) → reverse (front ++ x ∷ back) ≡ reverse back ++ x ∷ reverse front
one_back front x back =
    reverse-append front (x ∷ back)
    ∙ ap (λ xs. xs ++ reverse front) (reverse-append (x ∷ []) back)
    ∙ append_assoc (reverse back) (x ∷ []) (reverse front)

pub last_first : {X : Type 0} (xs : List X) (x : X) → reverse (xs ++ x ∷ []) ≡ x ∷ reverse xs
last_first xs x = reverse-append xs (x ∷ [])

map_back : {X Y : Type 0} (f : X → Y) (xs : List X) → map f (reverse xs) ≡ reverse (map f xs)
map_back f [] = refl
map_back f (x ∷ xs) =
    ap (map f) (reverse-append (x ∷ []) xs)
    ∙ map-append f (reverse xs) (x ∷ [])
    ∙ ap (λ ys. ys ++ f x ∷ []) (map_back f xs)
    ∙ sym (reverse-append (f x ∷ []) (map f xs))

-- whether the last or the first one comes first makes no difference
pub turned : (files : List ClassFile) (out cs : Classes) (waiting left : List ℕ) → Gathers files out cs waiting left
    → Gathers files out cs (reverse waiting) (reverse left)
turned files out _ _ left ends = ends
turned files out cs waiting left (defines front n back file is there free rest) =
    defines (reverse back) n (reverse front) file (ap reverse is ∙ one_back front n back) there free
    (subst (λ xs. Gathers files out (defined cs 0 file) xs (reverse left)) (reverse-append front back)
    (turned files out (defined cs 0 file) (front ++ back) left rest))

-- ---- a round

-- those that had their turn since are left, and loader 0 may define none of them
pub record HadTurns (cs : Classes) (first before waiting left : List Waiting) : Type 0 where
  pub since : List Waiting
  pub all : first ≡ waiting ++ since
  pub back : reverse left ≡ since ++ reverse before
  pub stuck : AreStuck cs since

pub no_turn : (cs : Classes) (waiting left : List Waiting) → HadTurns cs waiting left waiting left
no_turn cs waiting left = record { since = []; all = sym (append-nil waiting); back = refl; stuck = tt }

module _ (cs : Classes) (first before waiting : List Waiting) (one : Waiting) (left : List Waiting)
    (had : HadTurns cs first before (waiting ++ one ∷ []) left) where
  -- the next one is left
  pub one_left : is_some (define_fault most_classes cs 0 one.file) ≡ true → HadTurns cs first before waiting (left ++ one ∷ [])
  one_left barred = record {
    since = one ∷ had.since;
    all = had.all ∙ append_assoc waiting (one ∷ []) had.since;
    back = last_first left one ∙ ap (λ (xs : List Waiting). one ∷ xs) had.back;
    stuck = (barred, had.stuck);
  }

  -- the next one is taken out
  pub one_taken : define_fault most_classes cs 0 one.file ≡ None
      → IsTaken cs (first ++ reverse before) (waiting ++ reverse left) one.file
  one_taken free = record {
    front = waiting;
    one = one;
    back = reverse left;
    all =
        ap (λ (xs : List Waiting). xs ++ reverse before) had.all
        ∙ append_assoc (waiting ++ one ∷ []) had.since (reverse before)
        ∙ append_assoc waiting (one ∷ []) (had.since ++ reverse before)
        ∙ sym (ap (λ (xs : List Waiting). waiting ++ one ∷ xs) had.back);
    others = refl;
    same = refl;
    free = free;
  }

-- all had their turn
pub all_turned : (cs : Classes) (first before waiting left : List Waiting) → HadTurns cs first before waiting left → waiting ≡ []
    → (reverse left ≡ first ++ reverse before) × AreStuck cs first
all_turned cs first before waiting left had none =
    let same = had.all ∙ ap (λ (xs : List Waiting). xs ++ had.since) none in (
      had.back ∙ sym (ap (λ (xs : List Waiting). xs ++ reverse before) same),
      subst (AreStuck cs) (sym same) had.stuck,
    )

queue_is : (old between : Rounds) → between.waiting.items ≡ queue old → between.left.items ≡ [] → queue between ≡ queue old
queue_is old between all none =
    ap (λ (xs : List Waiting). between.waiting.items ++ reverse xs) none ∙ append-nil between.waiting.items ∙ all

-- one more round, after one in which none was taken out
pub once_more : (cs : Classes) (old between new : Rounds) → IsNextInRound cs old between None
    → (file : Option ClassFile) → IsNextInRound cs between new file → IsNext cs old new file
once_more cs old between new none (Some file) taken =
    subst (λ xs. IsTaken cs xs (queue new) file) (queue_is old between none.0 none.1) taken
once_more cs old between new none None again =
    let same = again.0 ∙ queue_is old between none.0 none.1 in
    (same, (again.1, subst (AreStuck cs) (none.0 ∙ sym same) again.2))

-- ---- one that becomes a class

module _ (cs : Classes) (old new : List Waiting) (file : ClassFile) (taken : IsTaken cs old new file) where
  there : (files : List ClassFile) → AreOf files old → AreOf files taken.front × AreOf files (taken.one ∷ taken.back)
  there files of =
      let all = subst (AreOf files) taken.all of in (
        All-front (λ (w : Waiting). slice_get files w.place ≡ Some w.file) taken.front (taken.one ∷ taken.back) all,
        All-back (λ (w : Waiting). slice_get files w.place ≡ Some w.file) taken.front (taken.one ∷ taken.back) all,
      )

  pub others_of : (files : List ClassFile) → AreOf files old → AreOf files new
  others_of files of =
      let parts = there files of in
      subst (AreOf files) (sym taken.others)
      (All-both (λ (w : Waiting). slice_get files w.place ≡ Some w.file) taken.front taken.back parts.0 parts.1.1)

  pub one_fewer : length new < length old
  one_fewer =
      let a = ap length taken.all ∙ length-append taken.front (taken.one ∷ taken.back) in
      let b = ap length taken.others ∙ length-append taken.front taken.back in
      omega (arith, a, b)

  pub one_defined : (files : List ClassFile) (first made : Classes) (waiting : List ℕ) → AreOf files old → made ≡ defined cs 0 file
      → Leads files first waiting cs (places old) → Leads files first waiting made (places new)
  one_defined files first made waiting of is leads = λ out left rest.
      leads out left
      (defines (places taken.front) taken.one.place (places taken.back) file
      (ap places taken.all ∙ map-append (λ (w : Waiting). w.place) taken.front (taken.one ∷ taken.back))
      ((there files of).1.0 ∙ ap Some taken.same) taken.free
      (subst (λ xs. Gathers files out (defined cs 0 file) xs left)
      (ap places taken.others ∙ map-append (λ (w : Waiting). w.place) taken.front taken.back)
      (subst (λ cs. Gathers files out cs (places new) left) is rest)))

-- ---- all files, each with its place

pub slice_get_here : (xs ys : List ClassFile) (x : ClassFile) → slice_get (xs ++ x ∷ ys) (length xs) ≡ Some x
slice_get_here [] ys x = refl
slice_get_here (y ∷ xs) ys x = slice_get_here xs ys x

-- those so far are of the last files
pub record HavePlaces (files : List ClassFile) (front : List ClassFile) (all : List Waiting) : Type 0 where
  pub back : List ClassFile
  pub split : files ≡ front ++ back
  pub places : places all ++ reverse (range_with_len 0 (length front)) ≡ reverse (range_with_len 0 (length files))
  pub of : AreOf files all

pub one_placed : (files front : List ClassFile) (file : ClassFile) (all : List Waiting) (one : Waiting) → HavePlaces files (front ++ file ∷ []) all
    → one.place ≡ length front → one.file ≡ file → HavePlaces files front (all ++ one ∷ [])
one_placed files front file all one h place is = record {
  back = file ∷ h.back;
  split = files_split;
  places =
      ap (λ (xs : List ℕ). xs ++ reverse (range_with_len 0 (length front))) (map-append (λ (w : Waiting). w.place) all (one ∷ []))
      ∙ append_assoc (places all) (one.place ∷ []) (reverse (range_with_len 0 (length front)))
      ∙ ap (λ (n : ℕ). places all ++ n ∷ reverse (range_with_len 0 (length front))) place
      ∙ sym (ap (λ (xs : List ℕ). places all ++ xs) range_more)
      ∙ h.places;
  of = All-both (λ (w : Waiting). slice_get files w.place ≡ Some w.file) all (one ∷ []) h.of (at, tt);
}
  where
    files_split : files ≡ front ++ file ∷ h.back
    files_split = h.split ∙ append_assoc front (file ∷ []) h.back

    range_more : reverse (range_with_len 0 (length (front ++ file ∷ []))) ≡ length front ∷ reverse (range_with_len 0 (length front))
    range_more =
        ap (λ (n : ℕ). reverse (range_with_len 0 n)) (length-append front (file ∷ []))
        ∙ ap reverse (range_end 0 (length front))
        ∙ last_first (range_with_len 0 (length front)) (0 + length front)
        ∙ ap (λ (n : ℕ). n ∷ reverse (range_with_len 0 (length front))) (zero-add (length front))

    at : slice_get files one.place ≡ Some one.file
    at =
        ap (slice_get files) place
        ∙ ap (λ (xs : List ClassFile). slice_get xs (length front)) files_split
        ∙ slice_get_here front h.back file
        ∙ ap Some (sym is)

-- ---- those that are left in the end

pub record AreToldOf (cs : Classes) (before waiting : List Waiting) (refused : List Refused) : Type 0 where
  pub places : numbers refused ++ reverse (places waiting) ≡ reverse (places before)
  pub stuck : AreStuck cs waiting
  pub told : (files : List ClassFile) → AreOf files before → AreOf files waiting × All (IsRefused files cs) refused

pub one_told : (cs : Classes) (before waiting : List Waiting) (one : Waiting) (refused : List Refused) (r : Refused)
    → AreToldOf cs before (waiting ++ one ∷ []) refused → r.place ≡ one.place
    → ((files : List ClassFile) → slice_get files one.place ≡ Some one.file → IsRefused files cs r) → AreToldOf cs before waiting (refused ++ r ∷ [])
one_told cs before waiting one refused r so place is = record {
  places =
      ap (λ (xs : List ℕ). xs ++ reverse (places waiting)) (map-append (λ (x : Refused). x.place) refused (r ∷ []))
      ∙ append_assoc (numbers refused) (r.place ∷ []) (reverse (places waiting))
      ∙ ap (λ (n : ℕ). numbers refused ++ n ∷ reverse (places waiting)) place
      ∙ sym (ap (λ (xs : List ℕ). numbers refused ++ xs)
      (ap reverse (map-append (λ (w : Waiting). w.place) waiting (one ∷ [])) ∙ last_first (places waiting) one.place))
      ∙ so.places;
  stuck = All-front (λ (w : Waiting). is_some (define_fault most_classes cs 0 w.file) ≡ true) waiting (one ∷ []) so.stuck;
  told = λ files of.
      let both = so.told files of in (
        All-front (λ (w : Waiting). slice_get files w.place ≡ Some w.file) waiting (one ∷ []) both.0,
        All-push (IsRefused files cs) refused r both.1
            (is files (All-back (λ (w : Waiting). slice_get files w.place ≡ Some w.file) waiting (one ∷ []) both.0).0),
      );
}

pub is_stuck : (cs : Classes) (waiting : List Waiting) (one : Waiting) → AreStuck cs (waiting ++ one ∷ [])
    → is_some (define_fault most_classes cs 0 one.file) ≡ true
is_stuck cs waiting one all = (All-back (λ (w : Waiting). is_some (define_fault most_classes cs 0 w.file) ≡ true) waiting (one ∷ []) all).0

pub all_told : (cs : Classes) (before : List Waiting) (refused : List Refused) → AreToldOf cs before [] refused → numbers refused ≡ reverse (places before)
all_told cs before refused told = sym (append-nil (numbers refused)) ∙ told.places

-- ---- the whole

-- what leads to these files in the end leads to those that are told
pub all_gathered : (files : List ClassFile) (out first : Classes) (waiting : List Waiting) (refused : List Refused)
    → Leads files first (reverse (range_with_len 0 (length files))) out (places waiting) → numbers refused ≡ reverse (places waiting)
    → Gathers files out first (range_with_len 0 (length files)) (numbers refused)
all_gathered files out first waiting refused leads told =
    subst (λ xs. Gathers files out first (range_with_len 0 (length files)) xs) (sym told)
    (subst (λ xs. Gathers files out first xs (reverse (places waiting))) (reverse-reverse (range_with_len 0 (length files)))
    (turned files out first (reverse (range_with_len 0 (length files))) (places waiting) (leads out (places waiting) ends)))

pub not_some : {A : Type 0} (o : Option A) → is_some o ≡ false → o ≡ None
not_some None e = refl
not_some (Some x) e = cc

pub is_refused : {A : Type 0} (admits : Bool) (o : Option A) → admits ≡ is_none o → not admits ≡ is_some o
is_refused admits None e = ap not e
is_refused admits (Some x) e = ap not e
