use Rattle.std.proofs.Common.{◌-◌, length, sym, ◌∙◌, refl, List, subst, arith, rules}
use Rattle.std.proofs.lemmas.Result.{err_from_is_err_and}
use Rattle.std.proofs.lemmas.List.{append-nil}
use Rattle.jl_class.specs.declared.site.KeptSite.{KeptSite}
use Rattle.jl_code.proofs.CodeLaws.{Scanned-cut, Scanned-unknown, Scanned-switch, Scanned-operand, shorter}
use Rattle.jl_code.proofs.KeptLaws.{KeptSoFar, KeptSoFar-none, KeptSoFar-more}
use Rattle.jl_code.proofs.PlainLaws.{KeptSoFar-plain, no_longer}
use Rattle.jl_code.proofs.code.scan_onto.Goals.{in-Some+in_ok-push-in-Ok, in_default}
use Rattle.jl_code.proofs.code.scan_onto.Goals as goal

pub loop-rest-init : goal.loop-rest-init
loop-rest-init c =
    KeptSoFar-plain c.args.pool.now c.args.code.now c.args.code.now c.after_plain-rest.result.now c.args.sites.now.items c.args.sites.now.items
    (KeptSoFar-none c.args.pool.now c.args.code.now c.args.sites.now.items (search rules)) c.after_plain-rest.ensures

pub loop-rest-smaller : goal.loop-rest-smaller
loop-rest-smaller c =
    let read = shorter c.args.pool.now c.args.code.now c.loop-rest.rest.now c.in-Ok.after.now c.loop-rest.invariant.sites
    (length c.args.code.now - length c.loop-rest.rest.now) c.in-Ok.instruction c.loop-rest.invariant.scanned c.in-Ok.ensures in
    let skipped = no_longer c.in-Ok.after.now c.after_plain-rest-in-Ok.result.now c.after_plain-rest-in-Ok.ensures in
    omega (arith, read, skipped)

pub loop-rest-preserved : goal.loop-rest-preserved
loop-rest-preserved c =
    let more =
    KeptSoFar-more c.args.pool.now c.args.code.now c.loop-rest.rest.now c.in-Ok.after.now c.args.sites.now.items c.loop-rest.sites.items
    (length c.args.code.now - length c.loop-rest.rest.now) c.in-Ok.instruction _ refl c.loop-rest.invariant c.in-Ok.ensures c.in_ok-site-in-Ok.ensures.ok
    in
    KeptSoFar-plain c.args.pool.now c.args.code.now c.in-Ok.after.now c.after_plain-rest-in-Ok.result.now c.args.sites.now.items _
    (elim c.match-branch-2.branch [
      | in-Some+in_ok-push-in-Ok w ↦ rw (w.sites-is, w.in_ok-push-in-Ok.ensures.items) (rw w.in-Some.is at more)
      | in_default w ↦
          rw (w.sites-is)
          (subst (λ (l : List KeptSite). KeptSoFar c.args.pool.now c.args.code.now c.in-Ok.after.now c.args.sites.now.items l)
          (append-nil c.loop-rest.sites.items) (rw w.in_default.is at more))
    ])
    c.after_plain-rest-in-Ok.ensures

pub returns-in-Err-Cut-clause-fault : goal.returns-in-Err-Cut-clause-fault
returns-in-Err-Cut-clause-fault c =
    Scanned-cut c.args.pool.now c.args.code.now c.loop-rest.rest.now c.loop-rest.invariant.sites (length c.args.code.now - length c.loop-rest.rest.now) refl
    c.loop-rest.invariant.scanned (sym c.is_empty.ensures ∙ c.loop-rest-test.true) (rw c.in-Err-Cut.field-0-is at c.in-Err-Cut.ensures)

pub returns-in-Err-Opcode-clause-fault : goal.returns-in-Err-Opcode-clause-fault
returns-in-Err-Opcode-clause-fault c =
    Scanned-unknown c.args.pool.now c.args.code.now c.loop-rest.rest.now c.loop-rest.invariant.sites (length c.args.code.now - length c.loop-rest.rest.now) refl
    c.loop-rest.invariant.scanned (rw c.in-Err-Opcode.field-0-is at c.in-Err-Opcode.ensures)

pub returns-in-Err-Switch-clause-fault : goal.returns-in-Err-Switch-clause-fault
returns-in-Err-Switch-clause-fault c =
    Scanned-switch c.args.pool.now c.args.code.now c.loop-rest.rest.now c.loop-rest.invariant.sites (length c.args.code.now - length c.loop-rest.rest.now) refl
    c.loop-rest.invariant.scanned (rw c.in-Err-Switch.field-0-is at c.in-Err-Switch.ensures)

pub returns-in_err-site-in-Ok-clause-fault : goal.returns-in_err-site-in-Ok-clause-fault
returns-in_err-site-in-Ok-clause-fault c =
    let p = err_from_is_err_and c.from_residual.result c.from_residual.ensures.1 in
    rw (p.1, p.2)
    (Scanned-operand c.args.pool.now c.args.code.now c.loop-rest.rest.now c.in-Ok.after.now c.loop-rest.invariant.sites
    (length c.args.code.now - length c.loop-rest.rest.now) c.in-Ok.instruction c.in_err-site-in-Ok.field-0.0 refl c.loop-rest.invariant.scanned
    c.in-Ok.ensures c.in_err-site-in-Ok.ensures.fault)
