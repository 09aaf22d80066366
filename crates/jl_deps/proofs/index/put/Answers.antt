use Rattle.std.specs.Prelude.{◌≡◌, ◌<◌, ◌^◌, ◌==◌, ◌&&◌, ℕ, List, Some, if◌then◌else◌}
use Rattle.std.proofs.Common.{ap, sym, subst, rules, ◌∙◌}
use Rattle.jl_types.specs.declared.key.Key.{Key}
use Rattle.jl_types.specs.Events.Footprints.{has_key}
use Rattle.jl_deps.specs.Indexes.{rests_at, form_eq}
use Rattle.jl_deps.specs.ForProofs.Lists.{form_in, keys_in, listed}
use Rattle.jl_deps.proofs.KeyLists.{put_listed, was_listed}
use Rattle.jl_deps.proofs.ListLaws.{put_below}
use Rattle.jl_deps.proofs.index.put.Goals as goal

pub relist-requires : goal.relist-requires
relist-requires c = λ k f.
    let at : rests_at c.reserve.new.self.entries c.number-number.result ≡ rests_at c.args.sites.now.entries c.args.site =
    λ i. rests_at (c.reserve.ensures.entries i) (c.number-number.ensures i) in
    was_listed c.args.sites.now.entries c.args.lists.now c.args.site c.requires.listed k f
    ∙ sym (λ i. form_eq ((c.form_at-was.ensures ∙ ap form_in at) i) f && has_key ((c.keys_at.ensures ∙ ap keys_in at) i) k)

pub returns-clause-kept : goal.returns-clause-kept
returns-clause-kept c =
    let old = c.args.sites.now.entries in
    let new = c.put_reserved.new.self.entries in
    let site = c.args.site in
    let r = c.args.rests in
    let low : c.number-number.result < 2 ^ 32 = search rules in
    let puts : (s : ℕ) → rests_at new s ≡ (if site == s then Some r else rests_at old s) =
    λ s. c.put_reserved.ensures.entries s
    ∙ (λ i. if c.number-number.ensures i == s then Some (c.new.ensures i) else rests_at (c.reserve.ensures.entries i) s) in
    record {
      listed =
          put_listed old new c.args.lists.now c.relist.new.lists site r puts c.requires.listed
          (λ k f s.
          c.in_ok-relist.ensures.ok k f s
          ∙ ap (λ (ks : List Key). if site == s then form_eq r.form f && has_key ks k else listed c.args.lists.now k f s) c.as_slice.ensures);
      below = put_below old new site r (subst (λ (n : ℕ). n < 2 ^ 32) c.number-number.ensures low) puts c.requires.below;
    }

pub returns-clause-ok : goal.returns-clause-ok
returns-clause-ok c = λ s.
    c.put_reserved.ensures.entries s
    ∙ (λ i. if c.number-number.ensures i == s then Some (c.new.ensures i) else rests_at (c.reserve.ensures.entries i) s)
