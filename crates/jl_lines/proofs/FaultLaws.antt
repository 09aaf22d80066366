-- What a run leaves that ends with a fault.
use Rattle.std.proofs.Common.{◌≡◌, ◌≢◌, ◌∙◌, sym, ap, subst, refl, inl, ℕ, ◌≤◌, List, [], ◌∷◌, ◌++◌}
use Rattle.std.proofs.Common.{length, append-nil, append_assoc, Option, Some, None, IfSome, Result, Ok, Err}
use Rattle.std.proofs.Common.{IfErr, OnOk, arith}
use Rattle.std.specs.Result.{IsErrAnd}
use Rattle.std.specs.List.{flat_map}
use Rattle.std.specs.Io.KnownBytes.{Keeps, Appends, Consumes, IsAtEnd}
use Rattle.std.proofs.lemmas.Grind.{flat_map-append}
use Rattle.std.proofs.KnownBytes.{Appends-kept, Appends-trans, Consumes-kept, Consumes-trans}
use Rattle.jl_lines.specs.declared.line_fault.LineFault.{LineFault}
use Rattle.jl_lines.specs.declared.line_fault.LineFault.TheVariants.{TooLong, Device, Memory}
use Rattle.jl_lines.specs.Devices.{one_more, HasRisen}
use Rattle.jl_lines.specs.Lines.{newline, most_in_line, lines_of, NoNewline, ended}
use Rattle.jl_lines.specs.Answers.{AreAnswers, LacksFirst, AnswersAll, AnswersFirst, AnswersRead, AnswersEarlier, LongIf, LeftBy}
use Rattle.jl_lines.specs.ForProofs.Progress.{IsLine, Answered, Writes, Runs, LacksNext, StopsBy, Leaves}
use Rattle.jl_lines.proofs.LineLaws.{all_append, line_first, answers_append, read_lines, short_each, over_first, runs_first, runs_read, runs_write, runs_all}

pub risen : (old new : ℕ) → new ≡ one_more old → HasRisen old new
risen old new is = grind arith

-- at the end nothing follows what is held
held_alone : (now : Option (List ℕ)) (held ys : List ℕ) → IsAtEnd now → now ≡ Some ys → held ++ ys ≡ held
held_alone now held ys end is =
    let none : ys ≡ [] = subst IsAtEnd is end in ap (λ (l : List ℕ). held ++ l) none ∙ append-nil held

nothing : (xs : List ℕ) → length xs ≡ 0 → xs ≡ []
nothing [] e = refl
nothing (x ∷ xs) e = absurd (omega (arith, e))

pub exactly : {T E : Type 0} (r : Result T E) (f : E) (P : E → Type 0) → IsErrAnd r (λ g. g ≡ f) → P f → IfErr r P
exactly (Ok x) f P is p = tt
exactly (Err g) f P is p = subst P (sym is) p

nothing_written : (old : Option (List ℕ)) → Appends old old []
nothing_written None = tt
nothing_written (Some xs) = sym (append-nil xs)

-- ---- lines that are answered so

-- the first lines are answered, but for a failed write, and this session is left
abbrev pub Whole : {S : Type 0} → (S → List ℕ → List ℕ → S → Type 0) → S → S → Option (List ℕ) → Option (List ℕ) → Option (List ℕ) → Type 0
    → LineFault → Type 0
Whole says from session start old new failed f =
    (f ≡ Device → ¬ failed) → IfSome start (λ input. (first : AnswersFirst says from input old new)
    × LongIf f first.after × LeftBy f says first.last first.after session)

-- the lines are answered of which the newline had been read when this was left to read, and this session is left
abbrev pub Earlier : {S : Type 0} → (S → List ℕ → List ℕ → S → Type 0) → S → S → Option (List ℕ) → Option (List ℕ) → Option (List ℕ)
    → Option (List ℕ) → Type 0
Earlier says from session start unread old new =
    IfSome start (λ input. (earlier : AnswersEarlier says from input unread old new)
    × LacksFirst says earlier.first.last earlier.first.after session)

module _ {S : Type 0} (says : S → List ℕ → List ℕ → S → Type 0) where
  -- the line for which there was no memory is the first of those that are left
  next_line : (last session : S) (left ys : List ℕ) (l : LacksNext says last left session)
      → lines_of (left ++ ys) ≡ l.line ∷ lines_of (l.later ++ ys)
  next_line last session left ys l =
      ap (λ (bytes : List ℕ). lines_of (bytes ++ ys)) l.is
      ∙ (ap lines_of (append_assoc l.line (newline ∷ l.later) ys) ∙ line_first l.line (l.later ++ ys) l.one)

  stops : (f : LineFault) (last session : S) (left ys : List ℕ) → StopsBy f says last left session
      → LongIf f (lines_of (left ++ ys)) × LeftBy f says last (lines_of (left ++ ys)) session
  stops TooLong last session left ys h = (over_first left ys h.0, h.1)
  stops Device last session left ys h = (tt, h)
  stops Memory last session left ys h = (
    tt,
    subst (λ (ls : List (List ℕ)). LacksFirst says last ls session) (sym (next_line last session left ys h)) h.lacks,
  )

  pub ends : (from last session : S) (start now : Option (List ℕ)) (held : List ℕ)
      (old new : Option (List ℕ)) (failed : Type 0) (f : LineFault) → Runs says from last start now held old new
      → StopsBy f says last held session → Whole says from session start old new failed f
  ends from last session start now held old new failed f r stop =
      λ _. runs_first says from last session start now held old new f r (λ ys is. stops f last session held ys stop)

  pub runs_left : (from last session : S) (start now : Option (List ℕ)) (left held : List ℕ)
      (old new : Option (List ℕ)) → left ≡ held → last ≡ session
      → Runs says from last start now left old new → Runs says from session start now held old new
  runs_left from last session start now left held old new is same r =
      subst (λ (l : List ℕ). Runs says from session start now l old new) is
      (subst (λ (s : S). Runs says from s start now left old new) same r)

  -- all lines of which the newline was read are answered
  pub runs_whole : (from last : S) (start now then' : Option (List ℕ)) (held : List ℕ)
      (old new : Option (List ℕ)) → Runs says from last start now held old new
      → NoNewline held → Keeps now then'
      → IfSome start (λ input. (read : AnswersRead says from input then' old new) × (last ≡ read.last))
  runs_whole from last None now then' held old new r one kept = tt
  runs_whole from last (Some xs) now then' held old new r one kept = (
    record {
      before = r.answered.lines;
      tail = held;
      read =
          subst (λ (l : List ℕ). Consumes (Some xs) then' (l ++ held)) r.answered.whole
          (Consumes-kept (Some xs) now then' (r.done ++ held) r.read kept);
      one = one;
      output = r.output;
      last = last;
      answers = r.answered.answers;
      written = r.written;
    },
    refl,
  )

  unlacked : (session : S) (lines : List (List ℕ)) → LacksFirst says session lines session
  unlacked session [] = refl
  unlacked session (line ∷ lines) = inl refl

  -- there was no memory before anything was read
  pub none_whole : (session : S) (start old : Option (List ℕ)) (failed : Type 0)
      → Whole says session session start old old failed Memory
  none_whole session None old failed = λ _. tt
  none_whole session (Some xs) old failed = λ _. (
    record {
      before = [];
      after = lines_of xs;
      split = refl;
      short = tt;
      output = [];
      last = session;
      answers = (refl, refl);
      written = nothing_written old;
    },
    tt,
    unlacked session (lines_of xs),
  )

  -- of a run with a session that isn't looked at afterwards
  pub all_of : {T E : Type 0} (from fresh session : S) (start now old new : Option (List ℕ))
      (r : Result T E) → from ≡ fresh
      → OnOk r (IsAtEnd now × IfSome start (λ input. (all : AnswersAll says from input old new) × (session ≡ all.last)))
      → OnOk r (IsAtEnd now × IfSome start (λ input. AnswersAll says fresh input old new))
  all_of from fresh session None now old new (Ok x) is h = (h.0, tt)
  all_of from fresh session (Some xs) now old new (Ok x) is h =
      (h.0, subst (λ (s : S). AnswersAll says s xs old new) is h.1.0)
  all_of from fresh session start now old new (Err e) is h = tt

  pub first_of : (from fresh session : S) (start old new : Option (List ℕ)) (failed : Type 0) (f : LineFault)
      → from ≡ fresh → Whole says from session start old new failed f
      → (f ≡ Device → ¬ failed) → IfSome start (λ input. (first : AnswersFirst says fresh input old new) × LongIf f first.after)
  first_of from fresh session None old new failed f is h none = tt
  first_of from fresh session (Some xs) old new failed f is h none =
      subst (λ (s : S). (first : AnswersFirst says s xs old new) × LongIf f first.after) is ((h none).0, (h none).1)

  pub whole_of : {T : Type 0} (from fresh session : S) (start old new : Option (List ℕ)) (failed : Type 0)
      (r : Result T LineFault) → from ≡ fresh → IfErr r (Whole says from session start old new failed)
      → IfErr r (λ f. (f ≡ Device → ¬ failed)
      → IfSome start (λ input. (first : AnswersFirst says fresh input old new) × LongIf f first.after))
  whole_of from fresh session start old new failed (Ok x) is h = tt
  whole_of from fresh session start old new failed (Err f) is h =
      first_of from fresh session start old new failed f is h

  pub read_of : (from fresh session : S) (start now old new : Option (List ℕ)) → from ≡ fresh
      → IfSome start (λ input. (read : AnswersRead says from input now old new) × (session ≡ read.last))
      → IfSome start (λ input. AnswersRead says fresh input now old new)
  read_of from fresh session None now old new is h = tt
  read_of from fresh session (Some xs) now old new is h = subst (λ (s : S). AnswersRead says s xs now old new) is h.0

  -- the first lines of a run, with those of what it then writes
  joined_first : (from last : S) (xs ys bytes done output : List ℕ) (old mid new : Option (List ℕ))
      (a : Answered says from done output last) → Consumes (Some xs) (Some ys) (done ++ bytes) → Appends old mid output
      → (w : Writes says last bytes mid new)
      → (first : AnswersFirst says from xs old new) × (first.before ≡ a.lines ++ w.answered.lines)
      × (first.after ≡ lines_of (w.left ++ ys)) × (first.last ≡ w.last)
  joined_first from last xs ys bytes done output old mid new a read written w = (
    record {
      before = a.lines ++ w.answered.lines;
      after = lines_of (w.left ++ ys);
      split = read_lines (done ++ w.done) w.left ys xs (a.lines ++ w.answered.lines)
          (subst (Consumes (Some xs) (Some ys)) (ap (λ (l : List ℕ). done ++ l) w.split ∙ sym (append_assoc done w.done w.left)) read)
          (ap (λ (l : List ℕ). l ++ w.done) a.whole ∙ ap (λ (l : List ℕ). flat_map ended a.lines ++ l) w.answered.whole
          ∙ sym (flat_map-append ended a.lines w.answered.lines))
          (all_append IsLine a.lines w.answered.lines a.each w.answered.each);
      short = short_each (a.lines ++ w.answered.lines) (all_append IsLine a.lines w.answered.lines a.each w.answered.each);
      output = output ++ w.output;
      last = w.last;
      answers = answers_append says from last w.last a.lines w.answered.lines output w.output a.answers w.answered.answers;
      written = Appends-trans old mid new output w.output written w.written;
    },
    refl,
    refl,
    refl,
  )

  piece_earlier : (from last session : S) (start now then' : Option (List ℕ)) (held piece : List ℕ)
      (old mid new : Option (List ℕ)) → Runs says from last start now held old mid → NoNewline held → Consumes now then' piece
      → (w : Writes says last (held ++ piece) mid new) → LacksNext says w.last w.left session
      → Earlier says from session start now old new
  piece_earlier from last session None now then' held piece old mid new r one consumed w lacks = tt
  piece_earlier from last session (Some xs) now None held piece old mid new r one consumed w lacks =
      absurd (runs_read says from last (Some xs) now None held piece old mid r consumed).read
  piece_earlier from last session (Some xs) now (Some ys) held piece old mid new r one consumed w lacks =
      let read = subst (Consumes (Some xs) (Some ys)) (append_assoc r.done held piece)
      (Consumes-trans (Some xs) now (Some ys) (r.done ++ held) piece r.read consumed) in
      let first = joined_first from last xs ys (held ++ piece) r.done r.output old mid new r.answered read r.written w in (
        record {
          first = first.0;
          lines = r.answered.lines;
          tail = held;
          read = subst (λ (l : List ℕ). Consumes (Some xs) now (l ++ held)) r.answered.whole r.read;
          one = one;
          more = w.answered.lines;
          all = first.1;
        },
        subst (λ (s : S). LacksFirst says s first.0.after session) (sym first.3)
            (subst (λ (ls : List (List ℕ)). LacksFirst says w.last ls session) (sym first.2)
            (stops Memory w.last session w.left ys lacks).1),
      )

  rest_earlier : (from last session : S) (start now then' : Option (List ℕ)) (held piece : List ℕ)
      (old mid new : Option (List ℕ)) → Runs says from last start now held old mid → NoNewline held → Consumes now then' piece
      → IsAtEnd then' → Keeps mid new → LacksFirst says last (lines_of (held ++ piece)) session
      → Earlier says from session start now old new
  rest_earlier from last session None now then' held piece old mid new r one consumed end kept lacks = tt
  rest_earlier from last session (Some xs) now None held piece old mid new r one consumed end kept lacks =
      absurd (runs_read says from last (Some xs) now None held piece old mid r consumed).read
  rest_earlier from last session (Some xs) now (Some ys) held piece old mid new r one consumed end kept lacks =
      let read = subst (Consumes (Some xs) (Some ys)) (append_assoc r.done held piece)
      (Consumes-trans (Some xs) now (Some ys) (r.done ++ held) piece r.read consumed) in (
        record {
          first = record {
            before = r.answered.lines;
            after = lines_of ((held ++ piece) ++ ys);
            split = read_lines r.done (held ++ piece) ys xs r.answered.lines read r.answered.whole r.answered.each;
            short = short_each r.answered.lines r.answered.each;
            output = r.output;
            last = last;
            answers = r.answered.answers;
            written = Appends-kept old mid new r.output r.written kept;
          };
          lines = r.answered.lines;
          tail = held;
          read = subst (λ (l : List ℕ). Consumes (Some xs) now (l ++ held)) r.answered.whole r.read;
          one = one;
          more = [];
          all = sym (append-nil r.answered.lines);
        },
        subst (λ (l : List ℕ). LacksFirst says last (lines_of l) session) (sym (held_alone (Some ys) (held ++ piece) ys end refl)) lacks,
      )

  -- of a run with a session that isn't looked at afterwards
  pub earlier_of : (from fresh session : S) (start unread old new : Option (List ℕ)) → from ≡ fresh
      → Earlier says from session start unread old new → IfSome start (λ input. AnswersEarlier says fresh input unread old new)
  earlier_of from fresh session None unread old new is h = tt
  earlier_of from fresh session (Some xs) unread old new is h =
      subst (λ (s : S). AnswersEarlier says s xs unread old new) is h.0

-- ---- a run that ends

-- a run that holds no whole line, and a piece that was read after what it holds
pub record Reads {S : Type 0} (says : S → List ℕ → List ℕ → S → Type 0) (from last : S) (start now then' : Option (List ℕ))
    (held bytes : List ℕ) (count : ℕ) (old new : Option (List ℕ)) : Type 0 where
  pub ran : Runs says from last start now held old new
  pub one : NoNewline held
  pub piece : List ℕ
  pub size : length piece ≡ count
  pub is : bytes ≡ held ++ piece
  pub read : Consumes now then' piece

module _ {S : Type 0} {says : S → List ℕ → List ℕ → S → Type 0} where
  pub read_on : {from last : S} {start now : Option (List ℕ)} (then' : Option (List ℕ)) {held bytes : List ℕ} {count : ℕ}
      {old new : Option (List ℕ)} → Runs says from last start now held old new → NoNewline held
      → (piece : List ℕ) × (length piece ≡ count) × (bytes ≡ held ++ piece) × Consumes now then' piece
      → Reads says from last start now then' held bytes count old new
  read_on then' r one more = record { ran = r; one = one; piece = more.0; size = more.1; is = more.2; read = more.3 }

  pub ran_on : {from last : S} {start now then' : Option (List ℕ)} {held bytes : List ℕ} {count : ℕ} {old new : Option (List ℕ)}
      → Reads says from last start now then' held bytes count old new → Runs says from last start then' bytes old new
  ran_on {from} {last} {start} {now} {then'} {held} {bytes} {old = old} {new} on =
      subst (λ (l : List ℕ). Runs says from last start then' l old new) (sym on.is)
      (runs_read says from last start now then' held on.piece old new on.ran on.read)

  -- a failed write says nothing of what was answered
  write_failed : {from last : S} {start now unread old new : Option (List ℕ)} {failed : Type 0} → failed
      → Leaves says from last start now unread old new failed Device
  write_failed fail = record { whole = λ none. absurd (none refl fail); read = λ e none. absurd (none fail); memory = λ e. absurd cc }

  -- what is said of want of memory says the rest, too
  memory_lacked : {from last : S} (start : Option (List ℕ)) {now unread old new : Option (List ℕ)} {failed : Type 0}
      → Earlier says from last start unread old new → Leaves says from last start now unread old new failed Memory
  memory_lacked None h = record { whole = λ _. tt; read = λ e none. tt; memory = λ _. tt }
  memory_lacked (Some xs) h = record { whole = λ _. (h.0.first, tt, h.1); read = λ e none. absurd cc; memory = λ _. h }

  -- a read failed, or there were as many as are counted
  pub device_failed : {from last : S} {start now : Option (List ℕ)} {held : List ℕ} {old new : Option (List ℕ)} {failed : Type 0}
      (then' unread : Option (List ℕ)) → Runs says from last start now held old new → NoNewline held → Keeps now then'
      → Leaves says from last start then' unread old new failed Device
  device_failed {from} {last} {start} {now} {held} {old} {new} {failed} then' unread r one kept = record {
    whole = ends says from last last start now held old new failed Device r refl;
    read = λ _ _. runs_whole says from last start now then' held old new r one kept;
    memory = λ e. absurd cc;
  }

  -- the whole lines of what was read aren't all answered
  pub piece_failed : {from last session : S} {start now then' unread : Option (List ℕ)} {held bytes text : List ℕ}
      {count : ℕ} {old mid new : Option (List ℕ)} {failed : Type 0} (f : LineFault)
      → Reads says from last start now then' held bytes count old mid → unread ≡ now
      → (f ≢ Device → (w : Writes says last bytes mid new) × StopsBy f says w.last w.left session × (text ≡ []))
      → (f ≡ Device → failed) → Leaves says from session start then' unread old new failed f
  piece_failed {from} {last} {session} {start} {now} {then'} {unread} {held} {bytes} {text} {old = old} {mid} {new} {failed} TooLong on left h device =
      let w = h (λ e. absurd cc) in
      record {
        whole = ends says from w.0.last session start then' w.0.left old new failed TooLong
            (runs_write says from last start then' bytes old mid new (ran_on on) w.0) w.1;
        read = λ e none. absurd cc;
        memory = λ e. absurd cc;
      }
  piece_failed Device on left h device = write_failed (device refl)
  piece_failed {from} {last} {session} {start} {now} {then'} {unread} {held} {bytes} {text} {old = old} {mid} {new} {failed} Memory on left h device =
      let w = h (λ e. absurd cc) in
      let p = subst (λ (l : List ℕ). (w : Writes says last l mid new) × LacksNext says w.last w.left session) on.is (w.0, w.1) in
      memory_lacked start (subst (λ (u : Option (List ℕ)). Earlier says from session start u old new) (sym left)
      (piece_earlier says from last session start now then' held on.piece old mid new on.ran on.one on.read p.0 p.1))

  -- what is left at the end isn't answered
  rest_at : {from last session : S} {start now then' unread : Option (List ℕ)} {held bytes : List ℕ}
      {count : ℕ} {old mid new : Option (List ℕ)} {failed : Type 0} (f : LineFault)
      → Reads says from last start now then' held bytes count old mid → unread ≡ now → IsAtEnd then'
      → (f ≢ Device → Keeps mid new × (f ≢ TooLong) × LacksFirst says last (lines_of bytes) session)
      → (f ≡ Device → failed) → Leaves says from session start then' unread old new failed f
  rest_at TooLong on left end h device = absurd ((h (λ e. absurd cc)).1 refl)
  rest_at Device on left end h device = write_failed (device refl)
  rest_at {from} {last} {session} {start} {now} {then'} {unread} {held} {bytes} {old = old} {mid} {new} {failed} Memory on left end h device =
      let lacks = h (λ e. absurd cc) in
      memory_lacked start (subst (λ (u : Option (List ℕ)). Earlier says from session start u old new) (sym left)
      (rest_earlier says from last session start now then' held on.piece old mid new on.ran on.one on.read end lacks.0
      (subst (λ (l : List ℕ). LacksFirst says last (lines_of l) session) on.is lacks.2)))

  pub rest_failed : {T : Type 0} {from last : S} (session : S) {start now then' unread : Option (List ℕ)} {held bytes rest : List ℕ}
      {count : ℕ} {old mid : Option (List ℕ)} (new : Option (List ℕ)) {failed : Type 0} (r : Result T LineFault)
      → Reads says from last start now then' held bytes count old mid → unread ≡ now → IsAtEnd then' → rest ≡ bytes
      → IfErr r (λ f. f ≢ Device → Keeps mid new × (f ≢ TooLong) × LacksFirst says last (lines_of rest) session)
      → (r ≡ Err Device → failed) → IfErr r (λ f. Leaves says from session start then' unread old new failed f)
  rest_failed session new (Ok x) on left end is h device = tt
  rest_failed {last = last} session {mid = mid} new (Err f) on left end is h device =
      rest_at f on left end
      (subst (λ (l : List ℕ). f ≢ Device → Keeps mid new × (f ≢ TooLong) × LacksFirst says last (lines_of l) session) is h)
      (λ e. device (ap Err e))

  -- what is left at the end is answered
  pub rest_answered : {T E : Type 0} {from last : S} (session : S) {start now then' : Option (List ℕ)} {held bytes rest : List ℕ}
      {count : ℕ} {old mid : Option (List ℕ)} (new : Option (List ℕ)) (r : Result T E)
      → Reads says from last start now then' held bytes count old mid
      → count ≡ 0 → IsAtEnd then' → rest ≡ bytes → length held ≤ most_in_line
      → OnOk r ((output : List ℕ) × AreAnswers says last (lines_of rest) output session × Appends mid new output)
      → OnOk r (IsAtEnd then' × IfSome start (λ input. (all : AnswersAll says from input old new) × (session ≡ all.last)))
  rest_answered {from = from} {last} session {start} {now} {then'} {held} {bytes} {rest} {old = old} {mid} new (Ok x) on none end is short h =
      let same : rest ≡ held = is ∙ on.is ∙ ap (λ (l : List ℕ). held ++ l) (nothing on.piece (on.size ∙ none)) ∙ append-nil held in
      let answers = subst (λ (l : List ℕ). AreAnswers says last (lines_of l) h.0 session) is h.1 in
      let same_as : held ≡ bytes = sym same ∙ is in (
        end,
        runs_all says from last session start then' bytes h.0 old mid new (ran_on on) end (subst NoNewline same_as on.one)
            (subst (λ (l : List ℕ). length l ≤ most_in_line) same_as short) answers h.2,
      )
  rest_answered session new (Err e) on none end is short h = tt

  -- what a run leaves, of a result that is this fault
  pub left_by : {T : Type 0} {from last : S} {start now unread old new : Option (List ℕ)} {failed : Type 0} {f : LineFault}
      (r : Result T LineFault) → IsErrAnd r (λ g. g ≡ f) → Leaves says from last start now unread old new failed f
      → IfErr r (λ g. Leaves says from last start now unread old new failed g)
  left_by {from = from} {last} {start} {now} {unread} {old} {new} {failed} r is h =
      exactly r _ (λ g. Leaves says from last start now unread old new failed g) is h
