use Rattle.std.proofs.Common.{sym, ◌∙◌}
use Rattle.jl_deps.proofs.AskedLaws.{still_asked}
use Rattle.jl_deps.proofs.index.Index.asked.Goals as goal

pub returns-clause-asked : goal.returns-clause-asked
returns-clause-asked c = record {
  touched = λ s h. c.in_ok-sites.ensures.touched s (sym (c.put_in_order.ensures.same s) ∙ h);
  all = λ s h.
      still_asked c.args.self.now _ c.put_in_order.new.sites.items (λ t there. c.put_in_order.ensures.same t ∙ there) s (c.in_ok-sites.ensures.all s h);
  rising = c.put_in_order.ensures.rising;
}
