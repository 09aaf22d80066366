use Rattle.std.specs.Prelude.{◌==◌, ◌<◌, ◌+◌, ◌^◌, ◌-◌, Some, if◌then◌else◌}
use Rattle.std.proofs.Common.{refl, ◌∙◌, arith}
use Rattle.std.proofs.lemmas.Bool.{ltb-false}
use Rattle.jl_types.proofs.BySite.{rises_of}
use Rattle.jl_deps.specs.Indexes.{rests_at}
use Rattle.jl_deps.proofs.ListLaws.{next_is, is_below, number_more, all_numbers}
use Rattle.jl_deps.proofs.index.add_all.Goals as goal

pub overflow_cast-number : goal.overflow_cast-number
overflow_cast-number c =
    let sites = c.args.sites.now.entries in
    let next =
    next_is sites c.loop-number.from c.in-Some.number c.in-Some.rests.now _ (rises_of sites c.len-len.ensures.rising) c.in-Some.ensures.entry in
    let below = is_below sites c.in-Some.number c.in-Some.rests.now c.requires.below next.value in
    omega (arith, below)

pub loop-number-smaller : goal.loop-number-smaller
loop-number-smaller c =
    let sites = c.args.sites.now.entries in
    let next =
    next_is sites c.loop-number.from c.in-Some.number c.in-Some.rests.now _ (rises_of sites c.len-len.ensures.rising) c.in-Some.ensures.entry in
    let below = is_below sites c.in-Some.number c.in-Some.rests.now c.requires.below next.value in
    let le = ltb-false c.in-Some.number c.loop-number.from next.from_on in
    let less : 2 ^ 32 - (c.in-Some.number + 1) < 2 ^ 32 - c.loop-number.from = omega (arith, below, le) in
    less

pub loop-number-preserved : goal.loop-number-preserved
loop-number-preserved c =
    let sites = c.args.sites.now.entries in
    let next =
    next_is sites c.loop-number.from c.in-Some.number c.in-Some.rests.now _ (rises_of sites c.len-len.ensures.rising) c.in-Some.ensures.entry in
    let below = is_below sites c.in-Some.number c.in-Some.rests.now c.requires.below next.value in
    record {
      within = omega (arith, below);
      added = λ s.
          number_more sites c.loop-number.from c.in-Some.number c.in-Some.rests.now (rests_at c.add.new.self s) (rests_at c.loop-number.copy s) s next
          (c.in_ok-add.ensures.ok s
          ∙ (λ i. if c.new.ensures i == s then Some (c.in_ok-again.ensures i) else rests_at c.loop-number.copy s))
          (c.loop-number.invariant.added s);
    }

pub returns : goal.returns
returns c = λ s.
    all_numbers c.args.sites.now.entries c.loop-number.from (rests_at c.loop-number.copy s) s (c.in_default.ensures.end refl)
    (c.loop-number.invariant.added s)
