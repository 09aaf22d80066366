use Rattle.std.specs.Prelude.{◌≡◌, ◌<◌, slice_get, option_and_then, length, All}
use Rattle.std.proofs.Common.{sym, subst, ◌∙◌, rules}
use Rattle.jl_types.specs.Values.Members.{recorded}
use Rattle.jl_hierarchy.specs.ForProofs.Growing.{gaining}
use Rattle.jl_hierarchy.proofs.define.make_ready.Goals as goal

pub reserve_all-requires : goal.reserve_all-requires
reserve_all-requires c =
    let those : c.receiving.result.now ≡ gaining c.args.new_class.now = search rules in
    subst (All (λ k. k < length c.args.below.now.items)) (sym those) c.requires.there

pub record_in-requires-clause-fresh : goal.record_in-requires-clause-fresh
record_in-requires-clause-fresh c =
    let name : c.in_ok-name.name.items ≡ c.args.new_class.now.row.file.name = search rules in
    let loader : c.loader-loader.result ≡ c.args.new_class.now.row.loader = search rules in
    (λ i. option_and_then (recorded (name i)) (slice_get c.args.loaders.now.items (loader i))) ∙ c.requires.fresh
