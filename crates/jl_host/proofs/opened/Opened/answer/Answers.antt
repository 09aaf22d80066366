use Rattle.jl_session.proofs.GrowLaws.{answer_grows, lacks_grows}
use Rattle.jl_host.proofs.CaughtUp.{grown_behind}
use Rattle.jl_host.proofs.opened.Opened.answer.Goals as goal

pub invariant_of-self : goal.invariant_of-self
invariant_of-self c =
    let said = c.in-Ok.ensures.ok in
    grown_behind c.self.inside.links.value c.self.inside.reached c.self.inside.session.core c.answer_text.new.self.core c.self.invariant
    (answer_grows c.self.inside.session c.args.line.now said.0 c.answer_text.new.self said.1)

pub invariant_of-self-in-Err : goal.invariant_of-self-in-Err
invariant_of-self-in-Err c =
    grown_behind c.self.inside.links.value c.self.inside.reached c.self.inside.session.core c.answer_text.new.self.core c.self.invariant
    (lacks_grows c.self.inside.session c.args.line.now c.answer_text.new.self c.in-Err.ensures.lacks)
