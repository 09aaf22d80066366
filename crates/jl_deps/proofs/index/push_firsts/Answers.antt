use Rattle.std.specs.Prelude.{◌≡◌, ◌==◌, ◌&&◌, ◌||◌, ◌+◌, suc, ℕ, true, List, drop, take}
use Rattle.std.specs.List.{list_any}
use Rattle.std.proofs.Common.{ap, subst, sym, arith, ◌∙◌}
use Rattle.std.proofs.lemmas.Bool.{or_left}
use Rattle.std.proofs.lemmas.Option.{slice_get_within}
use Rattle.jl_deps.specs.declared.form.Form.{Form}
use Rattle.jl_deps.specs.Forms.{selects}
use Rattle.jl_deps.specs.Ways.{has}
use Rattle.jl_deps.proofs.AskedLaws.{one_group_more, split_at, one_taken, all_taken}
use Rattle.jl_deps.proofs.GroupLaws.{in_group}
use Rattle.jl_deps.proofs.ListLaws.{any_among}
use Rattle.jl_deps.proofs.index.push_firsts.Goals as goal

pub loop-form-init : goal.loop-form-init
loop-form-init c = record { within = omega arith; touched = λ s h. or_left (has s c.args.sites.now.items) _ h; kept = λ s h. h; all = λ f s h. cc }

pub loop-form-preserved : goal.loop-form-preserved
loop-form-preserved c =
    let entries = c.args.groups.now.entries in
    let place = c.loop-form.place in
    let group : Form × List ℕ = (c.in-Some.form.now, c.in-Some.listed.now) in
    let old = c.loop-form.sites.items in
    let new = c.push_first.new.sites.items in
    record {
      within = (let lt = slice_get_within entries place group (sym c.in-Some.ensures.entry) in omega arith);
      touched = λ s.
          any_among (λ group. has s group.1) entries place group (has s new) (has s old) (has s c.args.sites.now.items) c.in-Some.ensures.entry
          (λ h. subst (λ (ts : List ℕ). (has s old || has s ts) ≡ true) c.as_slice.ensures (c.in_ok-push_first.ensures.touched s h))
          (c.loop-form.invariant.touched s);
      kept = λ s h. c.in_ok-push_first.ensures.kept s (c.loop-form.invariant.kept s h);
      all = λ f s h.
          one_group_more entries (take place entries) (drop (suc place) entries) group (split_at entries place group (sym c.in-Some.ensures.entry)) old new
          c.in_ok-push_first.ensures.kept
          (λ s there.
          subst (λ (ts : List ℕ). list_any (λ t. (t == s) || (selects c.in-Some.form.now && has t ts)) new ≡ true) c.as_slice.ensures
          (c.in_ok-push_first.ensures.all s (ap (has s) c.as_slice.ensures ∙ there)))
          f s c.loop-form.invariant.all
          (ap (λ es. in_group es f s) (sym (one_taken entries place group (sym c.in-Some.ensures.entry))) ∙ h);
    }

pub returns-clause-all : goal.returns-clause-all
returns-clause-all c = λ f s h.
    c.loop-form.invariant.all f s
    (ap (λ es. in_group es f s) (all_taken c.args.groups.now.entries c.loop-form.place (sym c.in_default.ensures.entry)) ∙ h)
