use Rattle.std.proofs.Common.{sym, subst, ℕ, List, drop, Option, Some, None, MatchOption}
use Rattle.memchr.specs.Find.{is_byte, IsFirstByte}
use Rattle.jl_lines.specs.Lines.{NoNewline}
use Rattle.jl_lines.specs.ForProofs.Progress.{IsFirstNewline}
use Rattle.jl_lines.proofs.NewlineLaws.{none_after, found_after, to_end}
use Rattle.jl_lines.proofs.answers.newline_from.Goals as goal

pub returns-in_err-at : goal.returns-in_err-at
returns-in_err-at c =
    let told : IsFirstByte (is_byte 10) (drop c.args.searched c.args.text.now) None =
    subst (λ (l : List ℕ). IsFirstByte (is_byte 10) l None) (to_end c.args.searched c.args.text.now)
    c.in_err-at.ensures in
    subst (λ (o : Option ℕ). MatchOption o (NoNewline c.args.text.now) (IsFirstNewline c.args.text.now))
    (sym c.from_residual.ensures)
    (none_after c.args.text.now c.args.searched c.requires.none told)

pub returns : goal.returns
returns c =
    let told : IsFirstByte (is_byte 10) (drop c.args.searched c.args.text.now) (Some c.in_ok-at.at) =
    subst (λ (l : List ℕ). IsFirstByte (is_byte 10) l (Some c.in_ok-at.at))
    (to_end c.args.searched c.args.text.now) c.in_ok-at.ensures in
    found_after c.args.text.now c.args.searched c.in_ok-at.at c.requires.within c.requires.none told.0 told.1
