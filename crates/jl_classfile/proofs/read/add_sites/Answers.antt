use Rattle.jl_code.specs.Codes.{sites_from}
use Rattle.jl_classfile.proofs.ShownLaws.{has_info, sites_some, bad_layout, bad_code}
use Rattle.jl_classfile.proofs.read.add_sites.Goals as goal

pub returns-in_default-code_in-clause-fault : goal.returns-in_default-code_in-clause-fault
returns-in_default-code_in-clause-fault c =
    let h = has_info c.args.pool.now c.args.method.now c.in-Some.attribute _ c.as_bytes.result.now c.requires c.in-Some.ensures c.as_bytes.ensures in
    bad_layout c.args.pool.now c.args.method.now c.args.index c.as_bytes.result.now h c.in_default-code_in.ensures

pub returns-in-Ok-clause-ok : goal.returns-in-Ok-clause-ok
returns-in-Ok-clause-ok c =
    let h = has_info c.args.pool.now c.args.method.now c.in-Some.attribute _ c.as_bytes.result.now c.requires c.in-Some.ensures c.as_bytes.ensures in
    let scanned = c.in-Ok.ensures.ok in (
      sites_from c.args.pool.now 0 scanned.0,
      sites_some c.args.pool.now c.args.method.now c.as_bytes.result.now c.in-Some-code_in.code.now scanned.0 h
          c.in-Some-code_in.ensures scanned.1,
      scanned.2,
    )

pub returns-in-Err-clause-fault : goal.returns-in-Err-clause-fault
returns-in-Err-clause-fault c =
    let h = has_info c.args.pool.now c.args.method.now c.in-Some.attribute _ c.as_bytes.result.now c.requires c.in-Some.ensures c.as_bytes.ensures in
    rw c.code_fault.ensures (bad_code c.args.pool.now c.args.method.now c.args.index c.as_bytes.result.now c.in-Some-code_in.code.now c.in-Err.fault h
    c.in-Some-code_in.ensures c.in-Err.ensures.fault)
