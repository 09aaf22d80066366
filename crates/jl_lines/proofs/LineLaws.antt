-- Lines, and what stands of an input when some of them are answered.
use Rattle.std.proofs.Common.{◌≡◌, ◌∙◌, sym, ap, subst, refl, ℕ, suc, ◌+◌, ◌<◌, ◌≤◌, List, [], ◌∷◌, ◌++◌}
use Rattle.std.proofs.Common.{length, length-append, drop, Option, Some, None, IfSome, append_assoc, append-nil}
use Rattle.std.proofs.Common.{Result, Ok, Err, MatchResult, arith}
use Rattle.std.specs.Result.{IsErrAnd}
use Rattle.std.proofs.lemmas.Grind.{flat_map-append}
use Rattle.std.proofs.Math.Seq.{drop-append_seam}
use Rattle.std.proofs.KnownBytes.{Appends-trans, Consumes-trans}
use Rattle.std.specs.Io.KnownBytes.{Appends, Consumes, IsAtEnd}
use Rattle.std.specs.List.{flat_map, AllByRecursion}
use Rattle.jl_lines.specs.declared.line_fault.LineFault.{LineFault}
use Rattle.jl_lines.specs.Lines.{newline, most_in_line, onto_first, lines_of, NoNewline, ended}
use Rattle.jl_lines.specs.Answers.{AreAnswers, AreShort, AnswersAll, AnswersFirst, FirstIsLong, Lacks, LacksFirst, LongIf, LeftBy}
use Rattle.jl_lines.specs.ForProofs.Progress.{IsLine, Answered, Gathers, Writes, Runs, IsOver, LacksNext}

pub match_err : {X E : Type 0} (P : X → Type 0) (R : E → Type 0) {Q : Type 0} (r : Result X E) → IsErrAnd r R → Q
    → MatchResult r P (λ _. Q)
match_err P R (Ok x) is q = absurd is
match_err P R (Err e) is q = q

pub all_append : {A : Type 0} (P : A → Type 0) (xs ys : List A) → AllByRecursion P xs → AllByRecursion P ys
    → AllByRecursion P (xs ++ ys)
all_append P [] ys h k = k
all_append P (x ∷ xs) ys h k = (h.0, all_append P xs ys h.1 k)

-- ---- the lines of an input

pub line_first : (line rest : List ℕ) → NoNewline line → lines_of (line ++ newline ∷ rest) ≡ line ∷ lines_of rest
unfolding lines_of
line_first [] rest h = refl
line_first (b ∷ line) rest h = rw (h.0) (ap (onto_first b) (line_first line rest h.1))

line_last : (b : ℕ) (line : List ℕ) → NoNewline (b ∷ line) → lines_of (b ∷ line) ≡ (b ∷ line) ∷ []
unfolding lines_of
line_last b [] h = rw (h.0) refl
line_last b (c ∷ line) h = rw (h.0) (ap (onto_first b) (line_last c line h.1))

lines_whole : (lines : List (List ℕ)) (rest : List ℕ) → AllByRecursion IsLine lines
    → lines_of (flat_map ended lines ++ rest) ≡ lines ++ lines_of rest
lines_whole [] rest h = refl
lines_whole (line ∷ lines) rest h =
    ap lines_of (append_assoc (ended line) (flat_map ended lines) rest
    ∙ append_assoc line (newline ∷ []) (flat_map ended lines ++ rest))
    ∙ (line_first line (flat_map ended lines ++ rest) h.0.one
    ∙ ap (λ (ls : List (List ℕ)). line ∷ ls) (lines_whole lines rest h.1))

lt_le : (a b c : ℕ) → a < b → b ≤ c → a < c
lt_le a b c h k = omega arith

onto : (b : ℕ) (lines : List (List ℕ)) → (first : List ℕ) × (after : List (List ℕ))
    × (onto_first b lines ≡ first ∷ after) × (1 ≤ length first)
onto b [] = (b ∷ [], [], refl, omega arith)
onto b (line ∷ lines) = (b ∷ line, lines, refl, omega arith)

first_long : (b : ℕ) (left more : List ℕ) → NoNewline (b ∷ left)
    → (first : List ℕ) × (after : List (List ℕ)) × (lines_of ((b ∷ left) ++ more) ≡ first ∷ after)
    × (length (b ∷ left) ≤ length first)
unfolding lines_of
first_long b [] more h = let p = onto b (lines_of more) in (p.0, p.1, rw (h.0) p.2, p.3)
first_long b (c ∷ left) more h =
    let p = first_long c left more h.1 in
    (b ∷ p.0, p.1, rw (h.0) (ap (onto_first b) p.2), omega (arith, p.3))

-- what is left when the answered lines are dropped
pub left_after : (bytes done left : List ℕ) (used : ℕ) → bytes ≡ done ++ left → used ≡ length done
    → drop used bytes ≡ left
left_after bytes done left used split is =
    ap (λ k. drop k bytes) is ∙ (ap (drop (length done)) split ∙ drop-append_seam done left)

-- what the run has read, and what it hasn't
pub read_lines : (done held rest xs : List ℕ) (lines : List (List ℕ)) → xs ≡ (done ++ held) ++ rest
    → done ≡ flat_map ended lines → AllByRecursion IsLine lines
    → lines_of xs ≡ lines ++ lines_of (held ++ rest)
read_lines done held rest xs lines is whole each =
    ap lines_of (is ∙ (append_assoc done held rest ∙ ap (λ (l : List ℕ). l ++ (held ++ rest)) whole))
    ∙ lines_whole lines (held ++ rest) each

pub short_each : (lines : List (List ℕ)) → AllByRecursion IsLine lines → AreShort lines
short_each [] h = tt
short_each (line ∷ lines) h = (h.0.short, short_each lines h.1)

-- a line of what is held is no longer than that, but for the newline
pub held_line : (bytes line later : List ℕ) → bytes ≡ line ++ newline ∷ later → length bytes ≤ most_in_line + 1 → NoNewline line
    → IsLine line × (length later < length bytes)
held_line bytes line later split held one =
    let size : length bytes ≡ length line + suc (length later) = ap length split ∙ length-append line (newline ∷ later) in
    (record { one = one; short = omega (arith, size) }, omega (arith, size))

pub over_first : (left rest : List ℕ) → IsOver left → FirstIsLong (lines_of (left ++ rest))
over_first [] rest h = absurd (omega (arith, h.long))
over_first (b ∷ left) rest h =
    let p = first_long b left rest h.one in
    subst FirstIsLong (sym p.2) (lt_le _ _ _ h.long p.3)

short_last : (held : List ℕ) → NoNewline held → length held ≤ most_in_line → AreShort (lines_of held)
unfolding lines_of
short_last [] one short = tt
short_last (b ∷ held) one short = subst AreShort (sym (line_last b held one)) (short, tt)

-- ---- lines that are answered so

module _ {S : Type 0} (says : S → List ℕ → List ℕ → S → Type 0) where
  -- answers to lines, and then to more lines by the session that these leave
  pub answers_append : (from mid last : S) (ls ms : List (List ℕ)) (o p : List ℕ)
      → AreAnswers says from ls o mid → AreAnswers says mid ms p last → AreAnswers says from (ls ++ ms) (o ++ p) last
  answers_append from mid last [] ms o p h k =
      subst (λ (s : S). AreAnswers says s ms (o ++ p) last) h.1
      (subst (λ (l : List ℕ). AreAnswers says mid ms l last) (ap (λ (l : List ℕ). l ++ p) (sym h.0)) k)
  answers_append from mid last (l ∷ ls) ms o p h k = (
    h.0,
    h.1 ++ p,
    h.2,
    h.3,
    ap (λ (l : List ℕ). l ++ p) h.4
        ∙ append_assoc (ended h.0) h.1 p,
    answers_append h.2 mid last ls ms h.1 p h.5 k,
  )

  answered_none : (session : S) → Answered says session [] [] session
  answered_none session = record { lines = []; whole = refl; each = tt; answers = (refl, refl) }

  answered_one : (old new : S) (line : List ℕ) (answer : List ℕ) → IsLine line
      → says old line answer new → Answered says old (ended line) (ended answer) new
  answered_one old new line answer h is = record {
    lines = line ∷ [];
    whole = sym (append-nil (ended line));
    each = (h, tt);
    answers = (answer, [], new, is, sym (append-nil (ended answer)), (refl, refl));
  }

  answered_append : (from mid last : S) (a b x y : List ℕ) → Answered says from a x mid
      → Answered says mid b y last → Answered says from (a ++ b) (x ++ y) last
  answered_append from mid last a b x y h k = record {
    lines = h.lines ++ k.lines;
    whole =
        ap (λ (l : List ℕ). l ++ b) h.whole ∙ ap (λ (l : List ℕ). flat_map ended h.lines ++ l) k.whole
        ∙ sym (flat_map-append ended h.lines k.lines);
    each = all_append IsLine h.lines k.lines h.each k.each;
    answers = answers_append from mid last h.lines k.lines x y h.answers k.answers;
  }

  -- no line is answered yet
  pub gathers_none : (session : S) (bytes old : List ℕ)
      → (g : Gathers says session bytes old old) × (g.left ≡ bytes) × (session ≡ g.last)
  gathers_none session bytes old = (
    record {
      done = [];
      left = bytes;
      output = [];
      last = session;
      split = refl;
      answered = answered_none session;
      added = sym (append-nil old);
    },
    refl,
    refl,
  )

  -- one more line is answered
  pub gathers_more : (from next : S) (bytes old mid new line after : List ℕ) (answer : List ℕ)
      (g : Gathers says from bytes old mid)
      → g.left ≡ line ++ newline ∷ after → IsLine line → says g.last line answer next
      → new ≡ mid ++ ended answer
      → (k : Gathers says from bytes old new) × (k.left ≡ after) × (next ≡ k.last)
  gathers_more from next bytes old mid new line after answer g is short answers grown = (
    record {
      done = g.done ++ ended line;
      left = after;
      output = g.output ++ ended answer;
      last = next;
      split = g.split ∙ (ap (λ (l : List ℕ). g.done ++ l) (is ∙ sym (append_assoc line (newline ∷ []) after))
          ∙ sym (append_assoc g.done (ended line) after));
      answered = answered_append from g.last next g.done (ended line) g.output (ended answer) g.answered
          (answered_one g.last next line answer short answers);
      added = grown ∙ (ap (λ (l : List ℕ). l ++ ended answer) g.added
          ∙ append_assoc old g.output (ended answer));
    },
    refl,
    refl,
  )

  -- there is no memory for the answer to the next line
  pub gathers_stop : (from held session : S) (bytes old mid new rest line later : List ℕ)
      (g : Gathers says from bytes old mid) → g.left ≡ rest → rest ≡ line ++ newline ∷ later → NoNewline line
      → held ≡ g.last → new ≡ mid
      → Lacks says held line session
      → (k : Gathers says from bytes old new) × LacksNext says k.last k.left session
  gathers_stop from held session bytes old mid new rest line later g left is one same stays lacks = (
    record {
      done = g.done;
      left = g.left;
      output = g.output;
      last = g.last;
      split = g.split;
      answered = g.answered;
      added = stays ∙ g.added;
    },
    record {
      line = line;
      later = later;
      is = left ∙ is;
      one = one;
      lacks = subst (λ (s : S). Lacks says s line session) same lacks;
    },
  )

  pub lacks_at : (a b session : S) (x y : List ℕ) → a ≡ b → x ≡ y → LacksNext says b y session
      → LacksNext says a x session
  lacks_at a b session x y same is lacks =
      subst (λ (l : List ℕ). LacksNext says a l session) (sym is)
      (subst (λ (s : S). LacksNext says s y session) (sym same) lacks)

  pub writes : (from : S) (bytes seen old_text text : List ℕ) (old new : Option (List ℕ))
      (g : Gathers says from seen old_text text)
      → seen ≡ bytes → old_text ≡ [] → Appends old new text
      → (w : Writes says from bytes old new) × (w.left ≡ g.left) × (w.done ≡ g.done) × (w.last ≡ g.last)
  writes from bytes seen old_text text old new g is none appended = (
    record {
      done = g.done;
      left = g.left;
      output = g.output;
      last = g.last;
      split = sym is ∙ g.split;
      answered = g.answered;
      written = subst (Appends old new) (g.added ∙ ap (λ (l : List ℕ). l ++ g.output) none) appended;
    },
    refl,
    refl,
    refl,
  )

  pub answers_last : (old new : S) (rest : List ℕ) (answer : List ℕ) → ¬ (rest ≡ [])
      → NoNewline rest → says old rest answer new → AreAnswers says old (lines_of rest) (ended answer) new
  answers_last old new [] answer some one is = absurd (some refl)
  answers_last old new (b ∷ rest) answer some one is =
      subst (λ (ls : List (List ℕ)). AreAnswers says old ls (ended answer) new) (sym (line_last b rest one))
      (answer, [], new, is, sym (append-nil (ended answer)), (refl, refl))

  pub answers_empty : (old new : S) (rest : List ℕ) → rest ≡ [] → new ≡ old
      → AreAnswers says old (lines_of rest) [] new
  unfolding lines_of
  answers_empty old new [] is same = (refl, same)
  answers_empty old new (b ∷ rest) is same = absurd cc

  pub lacks_last : (old new : S) (rest : List ℕ) → ¬ (rest ≡ []) → NoNewline rest
      → Lacks says old rest new → LacksFirst says old (lines_of rest) new
  lacks_last old new [] some one lacks = absurd (some refl)
  lacks_last old new (b ∷ rest) some one lacks =
      subst (λ (ls : List (List ℕ)). LacksFirst says old ls new) (sym (line_last b rest one)) lacks

  pub runs_read : (from last : S) (start now then' : Option (List ℕ)) (held piece : List ℕ)
      (old new : Option (List ℕ)) → Runs says from last start now held old new
      → Consumes now then' piece → Runs says from last start then' (held ++ piece) old new
  runs_read from last start now then' held piece old new r consumed = record {
    done = r.done;
    output = r.output;
    answered = r.answered;
    read = subst (Consumes start then') (append_assoc r.done held piece)
        (Consumes-trans start now then' (r.done ++ held) piece r.read consumed);
    written = r.written;
  }

  pub runs_write : (from last : S) (start now : Option (List ℕ)) (held : List ℕ)
      (old mid new : Option (List ℕ)) → Runs says from last start now held old mid
      → (w : Writes says last held mid new) → Runs says from w.last start now w.left old new
  runs_write from last start now held old mid new r w = record {
    done = r.done ++ w.done;
    output = r.output ++ w.output;
    answered = answered_append from last w.last r.done w.done r.output w.output r.answered w.answered;
    read =
        subst (Consumes start now) (ap (λ (l : List ℕ). r.done ++ l) w.split
        ∙ sym (append_assoc r.done w.done w.left)) r.read;
    written = Appends-trans old mid new r.output w.output r.written w.written;
  }

  pub runs_first : (from last session : S) (start now : Option (List ℕ)) (held : List ℕ)
      (old new : Option (List ℕ)) (f : LineFault) → Runs says from last start now held old new
      → ((ys : List ℕ) → now ≡ Some ys
      → LongIf f (lines_of (held ++ ys)) × LeftBy f says last (lines_of (held ++ ys)) session)
      → IfSome start (λ input. (first : AnswersFirst says from input old new) × LongIf f first.after
      × LeftBy f says first.last first.after session)
  runs_first from last session None now held old new f r stop = tt
  runs_first from last session (Some xs) None held old new f r stop = absurd r.read
  runs_first from last session (Some xs) (Some ys) held old new f r stop = (
    record {
      before = r.answered.lines;
      after = lines_of (held ++ ys);
      split = read_lines r.done held ys xs r.answered.lines r.read r.answered.whole r.answered.each;
      short = short_each r.answered.lines r.answered.each;
      output = r.output;
      last = last;
      answers = r.answered.answers;
      written = r.written;
    },
    (stop ys refl).0,
    (stop ys refl).1,
  )

  pub runs_all : (from mid_session last : S) (start now : Option (List ℕ)) (held output : List ℕ)
      (old mid new : Option (List ℕ)) → Runs says from mid_session start now held old mid
      → IsAtEnd now → NoNewline held → length held ≤ most_in_line
      → AreAnswers says mid_session (lines_of held) output last → Appends mid new output
      → IfSome start (λ input. (all : AnswersAll says from input old new) × (last ≡ all.last))
  runs_all from mid_session last None now held output old mid new r end one short answers appended = tt
  runs_all from mid_session last (Some xs) None held output old mid new r end one short answers appended =
      absurd r.read
  runs_all from mid_session last (Some xs) (Some ys) held output old mid new r end one short answers appended =
      let all : lines_of xs ≡ r.answered.lines ++ lines_of held =
      read_lines r.done held ys xs r.answered.lines r.read r.answered.whole r.answered.each
      ∙ ap (λ (l : List ℕ). r.answered.lines ++ lines_of l) (ap (λ (l : List ℕ). held ++ l) end ∙ append-nil held) in (
        record {
          short = subst AreShort (sym all) (all_append (λ (line : List ℕ). length line ≤ most_in_line)
              r.answered.lines (lines_of held) (short_each r.answered.lines r.answered.each) (short_last held one short));
          output = r.output ++ output;
          last = last;
          answers = subst (λ (ls : List (List ℕ)). AreAnswers says from ls (r.output ++ output) last) (sym all)
              (answers_append from mid_session last r.answered.lines (lines_of held) r.output output
              r.answered.answers answers);
          written = Appends-trans old mid new r.output output r.written appended;
        },
        refl,
      )
