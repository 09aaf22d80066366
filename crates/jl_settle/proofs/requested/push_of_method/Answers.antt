use Rattle.std.specs.Prelude.{◌||◌, ℕ, List}
use Rattle.std.proofs.Common.{sym, ap, ◌∙◌}
use Rattle.jl_class.specs.Site.{Site}
use Rattle.jl_types.specs.Events.Verdict.{same_place}
use Rattle.jl_hierarchy.proofs.Rising.{has}
use Rattle.jl_settle.specs.ForProofs.Requested.{is_in_method, requested_where}
use Rattle.jl_settle.proofs.RequestedLaws.{no_invocation, invocation_listed, all_invocations}
use Rattle.jl_settle.proofs.requested.push_of_method.Goals as goal

pub loop-at-init : goal.loop-at-init
loop-at-init c = λ s. no_invocation (has s c.args.sites.now.items) c.args.class c.args.number c.args.places.now s

pub loop-at-preserved : goal.loop-at-preserved
loop-at-preserved c = λ s.
    invocation_listed (has s c.args.sites.now.items) (has s c.loop-at.sites.items) (has s c.push_requested.new.sites.items)
    c.args.class c.args.number c.sites-invocations.result c.loop-at.at c.in-Some.invocation c.args.places.now s
    (sym c.at.ensures ∙ c.in-Some.is)
    (c.in_ok-push_requested.ensures s
    ∙ ap (λ (pc : ℕ). has s c.loop-at.sites.items
    || requested_where (same_place (record { class = c.args.class; method = c.args.number; pc = pc })) c.args.places.now s)
    (c.from.ensures ∙ c.pc.ensures))
    (c.loop-at.invariant s)

pub returns : goal.returns
returns c = λ s.
    all_invocations (has s c.args.sites.now.items) (has s c.loop-at.sites.items) c.args.class c.args.number c.sites-invocations.result c.loop-at.at
    c.args.places.now s (sym c.at.ensures ∙ c.in_default.is) (c.loop-at.invariant s)
    ∙ ap (λ (xs : List Site). has s c.args.sites.now.items || requested_where (is_in_method c.args.class c.args.number xs) c.args.places.now s)
    c.sites-invocations.ensures
