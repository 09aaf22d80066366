use Rattle.std.proofs.Common.{◌∙◌, sym, arith}
use Rattle.std.proofs.lemmas.Option.{slice_get_within}
use Rattle.jl_json.specs.ForProofs.NameReading.{name_text}
use Rattle.jl_json.specs.ClassAnswers.{site_data}
use Rattle.jl_json.proofs.WrittenLaws.{no_more, one_written, written_list}
use Rattle.jl_json.proofs.class_answer.write_sites.Goals as goal

pub loop-site-preserved : goal.loop-site-preserved
loop-site-preserved c = (
  one_written (site_data name_text) c.args.sites.now c.loop-site.place c.in-Some.site _ _ _ c.in-Some.ensures c.in_ok-write_site.ensures.written
      c.loop-site.invariant.0,
  c.in_ok-write_site.ensures.before ∙ c.loop-site.invariant.1,
)

pub loop-site-smaller : goal.loop-site-smaller
loop-site-smaller c = let lt = slice_get_within c.args.sites.now c.loop-site.place c.in-Some.site (sym c.in-Some.ensures) in omega (arith, lt)

pub returns-clause-written : goal.returns-clause-written
returns-clause-written c =
    written_list (site_data name_text) c.args.sites.now c.end_array.result c.loop-site.place _ _ _ _
    c.in_ok-begin_array.ensures.ok (no_more c.args.sites.now c.loop-site.place c.in_default.ensures) c.loop-site.invariant.0 c.end_array.ensures.ok
