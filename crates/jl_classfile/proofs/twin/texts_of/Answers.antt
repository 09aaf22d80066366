use Rattle.std.proofs.Common.{◌≡◌, length, arith}
use Rattle.jl_classfile.proofs.TwinLaws.{filled}
use Rattle.jl_classfile.proofs.twin.texts_of.Goals as goal

pub returns-clause-ok : goal.returns-clause-ok
returns-clause-ok c =
    let as_long : length c.keep_texts.new.texts ≡ c.in_ok-texts.texts.len = omega (arith, c.keep_texts.ensures.length, c.deref_mut.ensures.len) in
    rw (filled c.in_ok-texts.texts.len c.in_ok-texts.texts.items c.keep_texts.new.texts as_long) c.keep_texts.ensures.kept
