use Rattle.std.proofs.Common.{◌∙◌, sym, arith}
use Rattle.std.proofs.lemmas.Option.{slice_get_within}
use Rattle.jl_json.specs.ForProofs.NameReading.{name_text}
use Rattle.jl_json.specs.ClassAnswers.{method_data}
use Rattle.jl_json.proofs.WrittenLaws.{no_more, one_written, written_list}
use Rattle.jl_json.proofs.class_answer.write_methods.Goals as goal

pub loop-method-preserved : goal.loop-method-preserved
loop-method-preserved c = (
  one_written (method_data name_text) c.args.methods.now c.loop-method.place c.in-Some.method _ _ _ c.in-Some.ensures c.in_ok-write_method.ensures.written
      c.loop-method.invariant.0,
  c.in_ok-write_method.ensures.before ∙ c.loop-method.invariant.1,
)

pub loop-method-smaller : goal.loop-method-smaller
loop-method-smaller c = let lt = slice_get_within c.args.methods.now c.loop-method.place c.in-Some.method (sym c.in-Some.ensures) in omega (arith, lt)

pub returns-clause-written : goal.returns-clause-written
returns-clause-written c =
    written_list (method_data name_text) c.args.methods.now c.end_array.result c.loop-method.place _ _ _ _
    c.in_ok-begin_array.ensures.ok (no_more c.args.methods.now c.loop-method.place c.in_default.ensures) c.loop-method.invariant.0 c.end_array.ensures.ok
