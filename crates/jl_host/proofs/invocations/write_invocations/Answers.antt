use Rattle.std.proofs.Common.{sym, ◌∙◌, ◌≡◌, slice_get, Some, arith}
use Rattle.std.proofs.lemmas.Option.{slice_get_within, get_or_from_slice_get}
use Rattle.jl_host.specs.Asking.{invocation_shown}
use Rattle.jl_host.proofs.ReadingLaws.{one_at_front, all_at_front}
use Rattle.jl_host.proofs.invocations.write_invocations.Goals as goal

pub loop-site-preserved : goal.loop-site-preserved
loop-site-preserved c =
    let rows = c.args.sites.now in
    let place = c.loop-site.place in
    let site = c.in-Some.site in
    let there : slice_get rows place ≡ Some site = sym c.at.ensures ∙ c.in-Some.is in
    let few = slice_get_within rows place site there in
    record {
      few = omega (arith, few);
      written =
          one_at_front invocation_shown rows c.args.out.now c.loop-site.out place site c.shown.result few c.requires
          (sym (get_or_from_slice_get rows place site site there)) c.shown.ensures c.loop-site.invariant.written;
    }

pub returns : goal.returns
returns c =
    all_at_front invocation_shown c.args.sites.now c.args.out.now c.loop-site.out c.loop-site.place c.loop-site.invariant.few
    (sym c.at.ensures ∙ c.in_default.is) c.loop-site.invariant.written
