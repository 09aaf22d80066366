use Rattle.std.proofs.Common.{◌≡◌, ◌≤◌, length, take}
use Rattle.jl_lines.specs.Lines.{NoNewline}
use Rattle.jl_lines.specs.ForProofs.Progress.{Gathers}
use Rattle.jl_lines.proofs.answers.Answers.answer_lines.Given as goal

abbrev pub invariant-loop-line : goal.invariant-loop-line
invariant-loop-line g l = record {
  within : l.searched ≤ length l.rest;
  short : length l.rest ≤ length l.text;
  none : NoNewline (take l.searched l.rest);
  gathered : (gathered : Gathers g.A.Answer.says l.fn.session l.text l.fn.self.text.items l.self.text.items)
      × (gathered.left ≡ l.rest) × (l.session ≡ gathered.last);
}

abbrev pub decreases-loop-line : goal.decreases-loop-line
decreases-loop-line g l = length l.rest
