use Rattle.std.proofs.Common.{◌≤◌, ◌++◌, ◌+◌, ◌∙◌, ap, sym, length, take, length-take-le}
use Rattle.std.proofs.Common.{length-take, length-drop, drop, arith}
use Rattle.jl_lines.proofs.BufferLaws.{filled_within}
use Rattle.jl_lines.proofs.line_buffer.LineBuffer.read_from.Goals as goal

pub returns-clause-more : goal.returns-clause-more
returns-clause-more g c =
    let filled = c.self.inside.filled in
    let bytes = c.deref_mut.result.now in
    let count = c.in_ok-count.count in
    let buffer = c.read_some.new.buffer in
    let held : filled ≤ length bytes = omega
    (arith, ap length c.deref_mut.ensures.value, c.self.inside.bytes.ok.0, c.self.invariant.0) in
    let room : filled + count ≤ c.self.inside.bytes.len = omega (
      arith,
      c.read_some.auto.buffer
          ∙ length-take _ (drop filled bytes),
      length-drop filled bytes,
      ap length c.deref_mut.ensures.value,
      c.self.inside.bytes.ok.0,
      c.in_ok-count.ensures.room.0,
      c.self.invariant.0,
    ) in (
      take count buffer,
      sym c.in_ok-count.ensures.room.1,
      filled_within (take filled bytes) buffer _ _ filled count c.self.inside.bytes.len
          (length-take-le filled bytes held) c.in_ok-count.ensures.room.0 room
          ∙ ap (λ l. l ++ take count buffer) (ap (take filled) c.deref_mut.ensures.value ∙ c.self.view_is),
      c.in_ok-count.ensures.bytes.0,
    )
