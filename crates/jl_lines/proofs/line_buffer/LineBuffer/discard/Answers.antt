use Rattle.std.proofs.Common.{◌≡◌, ◌≤◌, ◌-◌, ◌∙◌, ap, length, take, drop, min, sym, arith, length-take}
use Rattle.jl_lines.proofs.BufferLaws.{kept}
use Rattle.jl_lines.proofs.line_buffer.LineBuffer.discard.Goals as goal

pub returns : goal.returns
returns c =
    let filled = c.self.inside.filled in
    let bytes = c.self.inside.bytes.items in
    let held : filled ≤ length bytes = omega (arith, c.self.inside.bytes.ok.0, c.self.invariant.0) in
    let seen : length c.args.self.now ≡ min filled (length bytes) =
    ap length (sym c.self.view_is) ∙ length-take filled bytes in
    let within : c.args.count ≤ filled = omega (arith, seen, held, c.requires) in
    ap (take (filled - c.args.count)) c.copy_within.ensures.items
    ∙ (kept bytes filled c.args.count within held
    ∙ ap (drop c.args.count) c.self.view_is)
