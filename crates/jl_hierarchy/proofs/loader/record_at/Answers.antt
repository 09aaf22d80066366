use Rattle.std.specs.Prelude.{get_or, slice_get, slice_set, option_and_then, OnErr, Result, Ok, Err}
use Rattle.std.proofs.Common.{refl, ap, ◌∙◌, arith}
use Rattle.std.proofs.lemmas.List.{set-get_or}
use Rattle.jl_types.specs.Values.Members.{recorded}
use Rattle.jl_types.specs.Events.Definitions.{with_record}
use Rattle.jl_hierarchy.proofs.Records.{with_one_more, none_there}
use Rattle.jl_hierarchy.proofs.loader.record_at.Goals as goal

pub record-requires : goal.record-requires
record-requires c =
    let d = c.index-loaders-number.result in
    none_there c.args.loaders.now c.number.result (get_or c.args.loaders.now c.number.result d) d
    (let e = c.number.ensures in let lt = c.requires.there in omega arith) refl c.args.name.items
    (ap (λ n. option_and_then (recorded c.args.name.items) (slice_get c.args.loaders.now n)) c.number.ensures ∙ c.requires.fresh)

on_err : {A E P : Type 0} (r : Result A E) → P → OnErr r P
on_err (Ok x) p = tt
on_err (Err e) p = p

pub returns-in_err-record-clause-err : goal.returns-in_err-record-clause-err
returns-in_err-record-clause-err c =
    on_err c.from_residual.result
    (ap (slice_set c.args.loaders.now c.number.result) c.in_err-record.ensures.err
    ∙ set-get_or c.args.loaders.now c.number.result c.index-loaders-number.result)

pub returns-clause-ok : goal.returns-clause-ok
returns-clause-ok c =
    let d = c.index-loaders-number.result in
    ap (slice_set c.args.loaders.now c.number.result) c.in_ok-record.ensures.ok
    ∙ with_one_more c.args.loaders.now c.number.result (get_or c.args.loaders.now c.number.result d) d
    (let e = c.number.ensures in let lt = c.requires.there in omega arith) refl c.args.name.items c.args.class
    ∙ ap (λ n. with_record c.args.loaders.now n c.args.name.items c.args.class) c.number.ensures
