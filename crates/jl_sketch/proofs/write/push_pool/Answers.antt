use Rattle.std.proofs.Common.{List, ℕ, ◌∙◌, ap, ◌++◌}
use Rattle.std.specs.Prelude.{map}
use Rattle.std.specs.List.{flat_map}
use Rattle.std.proofs.lemmas.List.{take_all}
use Rattle.jl_pool.specs.Constants.{constant_text}
use Rattle.jl_sketch.specs.declared.constants.NewConstant.{NewConstant}
use Rattle.jl_sketch.specs.ForProofs.Entries.{constant_of}
use Rattle.jl_sketch.proofs.Cases.{pool_is}
use Rattle.jl_sketch.proofs.write.push_pool.Goals as goal

pub returns : goal.returns
returns c =
    let entries = c.as_slice-entries.result.now in
    let all = take_all c.loop-entry.entry-index entries c.loop-entry-test.false in
    let done = c.loop-entry.invariant ∙ ap (λ (es : List NewConstant). c.push_u2.new.out.items ++ flat_map constant_text (map constant_of es)) all
    ∙ ap (λ (xs : List ℕ). xs ++ flat_map constant_text (map constant_of entries)) c.in_ok-push_u2.ensures in
    pool_is entries c.args.constants.now c.args.out.now.items c.loop-entry.out.items c.len.result c.as_slice-entries.ensures c.len.ensures done
