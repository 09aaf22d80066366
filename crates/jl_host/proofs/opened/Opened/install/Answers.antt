use Rattle.std.specs.Prelude.{length, Ok, Err}
use Rattle.std.proofs.Common.{refl, rules}
use Rattle.jl_types.specs.declared.event.EventOf.TheVariants as event
use Rattle.jl_host.proofs.CaughtUp.{accepted_behind}
use Rattle.jl_host.proofs.opened.Opened.install.Goals as goal

pub invariant_of-self : goal.invariant_of-self
invariant_of-self c =
    let has = c.in-Ok.ensures.installed in
    accepted_behind c.self.inside.links.value c.self.inside.reached c.self.inside.session.core c.install.new.self.core (event.Install has.rows) c.in-Ok.reply
    c.self.invariant has.accepted

pub returns-in-Ok : goal.returns-in-Ok
returns-in-Ok c =
    let has = c.in-Ok.ensures.installed in (
      Ok (record { serial = length c.args.self.now.session.core.log; rows = has.rows }),
      record { accepted = search rules; rows = search rules; serial = refl },
      record {
        outcome = Ok c.in-Ok.reply;
        applied = search rules;
        batches = search rules;
        said = search rules;
        named = search rules;
        status_is = search rules;
        told_is = search rules;
      },
    )

pub returns-in-Err : goal.returns-in-Err
returns-in-Err c = (Err c.in-Err.fault, search rules, (search rules, search rules, search rules))
