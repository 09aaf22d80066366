use Rattle.std.proofs.Common.{codes}
use Rattle.std.specs.Str.Parse.{ParsesUnsigned, ExplainsUnsignedError, HasUnsignedDigitsIfOk}
use Rattle.clap.specs.Words.{found_of, one_text}
use Rattle.jl_words.proofs.CountLaws.{number_read}
use Rattle.jl_words.proofs.words.count_of.Goals as goal

pub returns : goal.returns
returns c = number_read _
    (λ bs r. ParsesUnsigned 8 10 bs r × ExplainsUnsignedError 10 bs r × HasUnsignedDigitsIfOk bs r)
    (λ text x gives. gives.0) (one_text (found_of c.args.options.now) (codes "workers"))
    c.get_one.result c.get_one.ensures.none c.get_one.ensures.value
