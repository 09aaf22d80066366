use Rattle.std.proofs.Common.{reverse, length, subst, sym}
use Rattle.std.specs.List.{range_with_len}
use Rattle.std.proofs.lemmas.Result.{IfOk-weaker}
use Rattle.jl_report.specs.Gathering.{Gathers}
use Rattle.jl_report.specs.ForProofs.Waiting.{AreOf, IsNext, places, queue}
use Rattle.jl_report.proofs.GatherLaws.{Leads, others_of, one_fewer, one_defined, all_gathered}
use Rattle.jl_report.proofs.defining.define_all.Goals as goal

pub loop-rounds-init : goal.loop-rounds-init
loop-rounds-init c = record {
  leads = λ out left g.
      subst (λ xs. Gathers c.args.files.items out c.args.classes.now xs left) c.in_ok-rounds.ensures.places g;
  of = c.in_ok-rounds.ensures.files;
}

pub loop-rounds-smaller : goal.loop-rounds-smaller
loop-rounds-smaller c =
    one_fewer c.loop-rounds.classes (queue c.loop-rounds.rounds) (queue c.next.new.self) c.in-Some.file
    (subst (IsNext c.loop-rounds.classes c.loop-rounds.rounds c.next.new.self) c.in-Some.is c.in_ok-file.ensures)

pub loop-rounds-preserved : goal.loop-rounds-preserved
loop-rounds-preserved c =
    let cs = c.loop-rounds.classes in
    let old = c.loop-rounds.rounds in
    let new = c.next.new.self in
    let files = c.args.files.items in
    let before = c.loop-rounds.invariant in
    let taken = subst (IsNext cs old new) c.in-Some.is c.in_ok-file.ensures in
    record {
      leads =
          one_defined cs (queue old) (queue new) c.in-Some.file taken files c.args.classes.now c.define_one.new.classes
          (reverse (range_with_len 0 (length files))) before.of c.in_ok-define_one.ensures before.leads;
      of = others_of cs (queue old) (queue new) c.in-Some.file taken files before.of;
    }

pub returns-clause-each : goal.returns-clause-each
returns-clause-each c =
    let files = c.args.files.items in
    let first = c.args.classes.now in
    let cs = c.loop-rounds.classes in
    let new = c.next.new.self in
    let none = subst (IsNext cs c.loop-rounds.rounds new) c.in_default.is c.in_ok-file.ensures in
    let leads = subst (λ xs. Leads files first (reverse (range_with_len 0 (length files))) cs (places xs)) (sym none.0) c.loop-rounds.invariant.leads in
    IfOk-weaker c.refusals.result _ _ (λ refused told. all_gathered files cs first new.waiting.items refused.items leads told) c.refusals.ensures.places

pub returns-clause-refused : goal.returns-clause-refused
returns-clause-refused c =
    let files = c.args.files.items in
    let none = subst (IsNext c.loop-rounds.classes c.loop-rounds.rounds c.next.new.self) c.in_default.is c.in_ok-file.ensures in
    IfOk-weaker c.refusals.result _ _ (λ refused told. told files (subst (AreOf files) (sym none.0) c.loop-rounds.invariant.of))
    c.refusals.ensures.refused
