use Rattle.std.proofs.Common.{◌≡◌, ◌∙◌, sym, subst, map, string_bytes, Option, Some, None}
use Rattle.clap.specs.Words.{app_of, kind_of}
use Rattle.jl_words.specs.declared.words.Words.{Words}
use Rattle.jl_words.specs.Words.{AskFor}
use Rattle.jl_words.proofs.WordsLaws.{asks, asks_nothing}
use Rattle.jl_words.proofs.words.read_words.Goals as goal

same_words : (a b : Words) → Some a ≡ Some b → a ≡ b
same_words a b e = cc

pub returns-in-Some-clause-asked : goal.returns-in-Some-clause-asked
returns-in-Some-clause-asked c =
    let p = asks (app_of c.in_ok-command.field-0) (map string_bytes c.args.words.now) c.in-Ok.matches c.asked_by.result
    c.in_ok-command.ensures c.in-Ok.ensures.kinds c.in-Ok.ensures.matches c.asked_by.ensures in
    subst (λ (asked : Words). AskFor asked (map string_bytes c.args.words.now))
    (same_words p.0 c.in-Some.asked (sym p.2 ∙ c.in-Some.is)) p.1

none_asked : (o : Option Words) (asked : Words) → o ≡ Some asked → o ≡ None → ⊥
none_asked o asked e f = cc

pub returns-in-Ok-clause-refused : goal.returns-in-Ok-clause-refused
returns-in-Ok-clause-refused c =
    let p = asks (app_of c.in_ok-command.field-0) (map string_bytes c.args.words.now) c.in-Ok.matches c.asked_by.result
    c.in_ok-command.ensures c.in-Ok.ensures.kinds c.in-Ok.ensures.matches c.asked_by.ensures in
    absurd (none_asked c.asked_by.result p.0 p.2 c.in-None.is)

pub returns-clause-refused : goal.returns-clause-refused
returns-clause-refused c =
    asks_nothing (app_of c.in_ok-command.field-0) (map string_bytes c.args.words.now) (kind_of c.in-Err.error)
    c.fault_of.result c.in_ok-command.ensures c.in-Err.ensures.kinds c.fault_of.ensures.memory
