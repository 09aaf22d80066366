use Rattle.std.proofs.Common.{◌∙◌, sym, ap, rules, option_map}
use Rattle.clap.specs.Words.{found_of}
use Rattle.jl_words.specs.declared.words.Words.TheVariants.{Farm}
use Rattle.jl_words.proofs.CountLaws.{asks_farm}
use Rattle.jl_words.proofs.words.asked_by.Goals as goal

pub returns-in_err-count_of-in-farm : goal.returns-in_err-count_of-in-farm
returns-in_err-count_of-in-farm c = c.from_residual-in_err-count_of-in-farm.ensures
    ∙ ap (option_map Farm) (sym c.in_err-count_of-in-farm.was)
    ∙ asks_farm c.args.matches.now c.in_ok-name.name.now (found_of c.in_ok-name.options.now) c.count_of.result
    c.in_ok-name.ensures.name c.in_ok-name.ensures.rows (search rules) c.count_of.ensures

pub returns-in_ok-count_of-in-farm : goal.returns-in_ok-count_of-in-farm
returns-in_ok-count_of-in-farm c = ap (option_map Farm) (sym c.in_ok-count_of-in-farm.was)
    ∙ asks_farm c.args.matches.now c.in_ok-name.name.now (found_of c.in_ok-name.options.now) c.count_of.result
    c.in_ok-name.ensures.name c.in_ok-name.ensures.rows (search rules) c.count_of.ensures
