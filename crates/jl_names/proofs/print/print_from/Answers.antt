use Rattle.std.proofs.Common.{arith}
use Rattle.std.proofs.lemmas.List.{take_rest}
use Rattle.jl_names.proofs.PrintLaws.{word_more, words_done}
use Rattle.jl_names.proofs.print.print_from.Goals as goal

pub loop-rest-preserved : goal.loop-rest-preserved
loop-rest-preserved c =
    rw (take_rest, c.print_step-print.ensures, c.read_u64.ensures)
    (word_more c.loop-rest.print c.loop-rest.rest.now _ (omega arith) c.loop-rest.invariant)

pub returns : goal.returns
returns c =
    rw (c.print_step.ensures, c.last_word.ensures)
    (words_done c.loop-rest.print c.loop-rest.rest.now _ (omega arith) c.loop-rest.invariant)
