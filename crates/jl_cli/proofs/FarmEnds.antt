-- What a farm over lines leaves.
use Rattle.std.proofs.Common.{◌≡◌, ◌≢◌, ◌∙◌, sym, ap, subst, refl, inl, inr, ℕ, zero, suc, List, [], ◌∷◌, ◌++◌, replicate, length, take, arith}
use Rattle.std.proofs.Common.{append-nil, Option, Some, None, IfSome, Result, Ok, Err}
use Rattle.std.specs.Result.{IsErrAnd}
use Rattle.std.proofs.lemmas.List.{take_all, take-append-le}
use Rattle.std.specs.Io.KnownBytes.{Keeps, Appends}
use Rattle.std.proofs.KnownBytes.{Appends-kept, Appends-trans, Keeps-refl}
use Rattle.std.specs.Prelude.{All}
use Rattle.jl_types.specs.declared.limits.Limits.{Limits}
use mathlib.Core.List.{IsPrefix}
use Rattle.serde_json.specs.Written.{compact_text}
use Rattle.jl_types.specs.Events.History.{site_numbers}
use Rattle.jl_types.specs.Events.Entries.{Entry, IsLegal, events_of}
use Rattle.jl_farm.specs.declared.report.Report.{Report}
use Rattle.jl_farm.specs.Reports.{IsReport, AreOfOneHistory, jobs_of}
use Rattle.jl_lines.specs.declared.line_fault.LineFault.{LineFault}
use Rattle.jl_lines.specs.declared.line_fault.LineFault.TheVariants.{TooLong, Device, Memory}
use Rattle.jl_cli.specs.declared.farm_fault.FarmLineFault.{FarmLineFault}
use Rattle.jl_cli.specs.declared.farm_fault.FarmLineFault.TheVariants.{Line, Farm}
use Rattle.jl_lines.specs.Lines.{lines_of, ended}
use Rattle.jl_lines.specs.Answers.{AreAnswers, AnswersAll, AnswersFirst, AnswersEarlier, LacksFirst, LongIf}
use Rattle.jl_cli.specs.Farms.{IsFarmAnswer, IsLastLine, FarmsAll, FarmsEarlier, FarmLongIf, job_of_each, last_data}
use Rattle.jl_cli.specs.ForProofs.Farms.{IsUnwritten}
use Rattle.jl_lines.proofs.FaultLaws.{Whole, first_of, none_whole, earlier_of}

-- the first lines are answered, but for a failed write, and nothing else is written
abbrev pub FarmWhole : Limits → Option (List ℕ) → Option (List ℕ) → Option (List ℕ) → Type 0 → FarmLineFault → Type 0
FarmWhole limits start old new failed fault =
    (fault ≡ Line Device → ¬ failed) → IfSome start (λ input. (first : AnswersFirst (IsFarmAnswer limits) [] input old new)
    × FarmLongIf fault first.after)

-- all lines are answered, and this is what the caller has seen
abbrev pub Lined : Limits → List Entry → List Entry → Option (List ℕ) → Option (List ℕ) → Option (List ℕ) → Type 0
Lined limits from seen start old new =
    IfSome start (λ input. (all : AnswersAll (IsFarmAnswer limits) from input old new) × (seen ≡ all.last))

-- the last of several empty lists
pub last_same : (n : ℕ) (xs : List (List Entry)) (y : List Entry) → replicate n [] ≡ xs ++ y ∷ [] → y ≡ []
last_same zero [] y e = absurd cc
last_same zero (x ∷ xs) y e = absurd cc
last_same (suc n) [] y e = cc
last_same (suc n) (x ∷ xs) y e = last_same n xs y cc

-- what a vector has once a function was over all of it
pub all_back : {X : Type 0} (P : X → Type 0) (new rest : List X) (len : ℕ) → length new ≡ len → All P new → All P (take len (new ++ rest))
all_back P new rest len whole all = subst (All P) (sym (take-append-le len new rest (omega arith) ∙ take_all len new (omega arith))) all

-- the last line, of the jobs that were made and the reports on them
pub last_line : {K : Type 0} (limits : Limits) {callers : List (List Entry)} (answered asked linked : List Entry) (reports : List (Report K))
    (jobs : List (List ℕ)) (text : List ℕ) → IsPrefix answered asked → jobs_of reports ≡ site_numbers (events_of asked)
    → jobs ≡ job_of_each (site_numbers (events_of asked)) → All (IsReport limits callers jobs) reports → AreOfOneHistory reports
    → IsPrefix asked linked → IsLegal limits linked → text ≡ compact_text (last_data linked reports) → All (IsPrefix answered) callers
    → IsLastLine K limits answered text
last_line limits {callers = callers} answered asked linked reports jobs text later each are shown history grown legal is told = record {
  asked = asked;
  later = later;
  reports = reports;
  each = each;
  callers = callers;
  told = told;
  shown = subst (λ (xs : List (List ℕ)). All (IsReport limits callers xs) reports) are shown;
  history = history;
  linked = linked;
  grown = grown;
  legal = legal;
  is = is;
}

-- a result that is a fault is no other one
pub same_fault : {T E : Type 0} (r : Result T E) (f g : E) → IsErrAnd r (λ h. h ≡ f) → r ≡ Err g → f ≡ g
same_fault (Ok x) f g is e = absurd is
same_fault (Err h) f g is e = let same : h ≡ g = cc e in sym is ∙ same

pub same_line : {T : Type 0} (r : Result T FarmLineFault) (f g : LineFault) → IsErrAnd r (λ h. h ≡ Line f) → r ≡ Err (Line g) → f ≡ g
same_line r f g is e = let same : Line f ≡ Line g = same_fault r (Line f) (Line g) is e in cc same

-- what comes after the answers fails by no device
pub no_device : {T : Type 0} (r : Result T FarmLineFault) (f : FarmLineFault) → IsErrAnd r (λ h. h ≡ f) → IsUnwritten f → r ≡ Err (Line Device) → ⊥
no_device r f is unwritten e =
    let clash : Device ≡ Memory = subst IsUnwritten (same_fault r f (Line Device) is e) unwritten in absurd cc

module _ (limits : Limits) where
  -- a fault of the lines
  pub farm_lines_first : (from seen : List Entry) (start old new : Option (List ℕ)) (failed : Type 0) (f : LineFault) → from ≡ []
      → Whole (IsFarmAnswer limits) from seen start old new failed f → FarmWhole limits start old new failed (Line f)
  farm_lines_first from seen start old new failed f fresh h =
      λ none. first_of (IsFarmAnswer limits) from [] seen start old new failed f fresh h (λ e. none (ap Line e))

  -- nothing was read
  pub farm_none : (start old : Option (List ℕ)) (failed : Type 0) → FarmWhole limits start old old failed (Line Memory)
  farm_none start old failed =
      farm_lines_first [] [] start old old failed Memory refl (none_whole (IsFarmAnswer limits) [] start old failed)

  -- nothing is written after the answers
  unwritten : (from seen : List Entry) (start old middle new : Option (List ℕ)) (failed : Type 0) (fault : FarmLineFault) → from ≡ []
      → Lined limits from seen start old middle → Keeps middle new → FarmLongIf fault [] → FarmWhole limits start old new failed fault
  unwritten from seen None old middle new failed fault fresh h kept long = λ _. tt
  unwritten from seen (Some xs) old middle new failed fault fresh h kept long = λ _. (
    record {
      before = lines_of xs;
      after = [];
      split = sym (append-nil (lines_of xs));
      short = h.0.short;
      output = h.0.output;
      last = h.0.last;
      answers = subst (λ (s : List Entry). AreAnswers (IsFarmAnswer limits) s (lines_of xs) h.0.output h.0.last) fresh h.0.answers;
      written = Appends-kept old middle new h.0.output h.0.written kept;
    },
    long,
  )

  no_long : (fault : FarmLineFault) → IsUnwritten fault → FarmLongIf fault []
  no_long (Line f) is = subst (λ (g : LineFault). LongIf g []) (sym is) tt
  no_long (Farm f) is = refl

  -- a fault of the farm, or want of memory for its last line
  pub farm_unwritten : (from seen : List Entry) (start old new : Option (List ℕ)) (failed : Type 0) (fault : FarmLineFault) → from ≡ []
      → Lined limits from seen start old new → IsUnwritten fault → FarmWhole limits start old new failed fault
  farm_unwritten from seen start old new failed fault fresh h is =
      unwritten from seen start old new new failed fault fresh h (Keeps-refl new) (no_long fault is)

  -- the last line isn't written
  pub farm_last_fault : (from seen : List Entry) (start old middle new : Option (List ℕ)) (failed : Type 0) (f : LineFault) → from ≡ []
      → Lined limits from seen start old middle → (f ≢ Device → (f ≡ Memory) × Keeps middle new) → (f ≡ Device → failed)
      → FarmWhole limits start old new failed (Line f)
  farm_last_fault from seen start old middle new failed TooLong fresh h kept device =
      let clash : TooLong ≡ Memory = (kept (λ e. absurd cc)).0 in absurd cc
  farm_last_fault from seen start old middle new failed Device fresh h kept device = λ none. absurd (none refl (device refl))
  farm_last_fault from seen start old middle new failed Memory fresh h kept device =
      unwritten from seen start old middle new failed (Line Memory) fresh h (kept (λ e. absurd cc)).1 tt

  -- all lines, and the last one
  pub farms_all : (K : Type 0) (from seen : List Entry) (start old middle new : Option (List ℕ)) (text : List ℕ) → from ≡ []
      → Lined limits from seen start old middle → IsLastLine K limits seen text → Appends middle new (ended text)
      → IfSome start (λ input. FarmsAll K limits input old new)
  farms_all K from seen None old middle new text fresh h last written = tt
  farms_all K from seen (Some xs) old middle new text fresh h last written = record {
    short = h.0.short;
    output = h.0.output;
    seen = h.0.last;
    answers = subst (λ (s : List Entry). AreAnswers (IsFarmAnswer limits) s (lines_of xs) h.0.output h.0.last) fresh h.0.answers;
    text = text;
    last = subst (λ (s : List Entry). IsLastLine K limits s text) h.1 last;
    written = Appends-trans old middle new h.0.output (ended text) h.0.written written;
  }

  -- there is no memory for the lines
  pub lines_earlier : (from seen : List Entry) (start unread old new : Option (List ℕ)) → from ≡ []
      → IfSome start (λ input. (earlier : AnswersEarlier (IsFarmAnswer limits) from input unread old new)
      × LacksFirst (IsFarmAnswer limits) earlier.first.last earlier.first.after seen)
      → IfSome start (λ input. FarmsEarlier limits input unread old new)
  lines_earlier from seen None unread old new fresh h = tt
  lines_earlier from seen (Some xs) unread old new fresh h =
      inl (earlier_of (IsFarmAnswer limits) from [] seen (Some xs) unread old new fresh h)

  -- there is no memory after the answers
  pub after_all : (from seen : List Entry) (start unread old middle new : Option (List ℕ)) → from ≡ []
      → Lined limits from seen start old middle → Keeps middle new
      → IfSome start (λ input. FarmsEarlier limits input unread old new)
  after_all from seen None unread old middle new fresh h kept = tt
  after_all from seen (Some xs) unread old middle new fresh h kept =
      inr (record {
        short = h.0.short;
        output = h.0.output;
        last = h.0.last;
        answers = subst (λ (s : List Entry). AreAnswers (IsFarmAnswer limits) s (lines_of xs) h.0.output h.0.last) fresh h.0.answers;
        written = Appends-kept old middle new h.0.output h.0.written kept;
      })
