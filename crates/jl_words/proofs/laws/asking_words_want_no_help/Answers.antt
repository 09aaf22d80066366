use Rattle.jl_words.proofs.HelpLaws.{wants_none}
use Rattle.jl_words.proofs.laws.asking_words_want_no_help.Goals as goal

pub returns : goal.returns
returns c = wants_none
