use Rattle.std.proofs.Common.{◌≡◌, ◌++◌, List, ℕ, Result, Ok, Err, arith}
use Rattle.std.specs.Prelude.{IfOk}
use Rattle.std.specs.Borrow.{Bor}
use Rattle.jl_classfile.specs.declared.body.Body.{Body}
use Rattle.jl_classfile.specs.declared.body.Broken.{Broken}
use Rattle.jl_classfile.specs.Layouts.{body_text, BodySized}
use Rattle.jl_classfile.specs.ForProofs.Bodies.{Reads, body_at}
use Rattle.jl_pool.proofs.Fields.{IsBytes}
use Rattle.jl_classfile.proofs.BodyLaws.{body-takes}
use Rattle.jl_classfile.proofs.body.body_at.Goals as goal

spelled : (bytes : List ℕ) (r : Result (Body × Bor (List ℕ)) Broken) → IsBytes bytes → Reads (λ x. (x.0, x.1.now)) r (body_at bytes)
    → IfOk r (λ x. BodySized x.0 × (bytes ≡ body_text x.0 ++ x.1.now))
spelled bytes (Ok x) fits e = let t = body-takes bytes (x.0, x.1.now) fits e in (t.1, t.0.parts)
spelled bytes (Err e) fits read = tt

pub returns-clause-spelled : goal.returns-clause-spelled
returns-clause-spelled c = spelled c.args.bytes.now c.read_body.result (λ i. omega (arith, c.type_inv.bytes i)) c.read_body.ensures
