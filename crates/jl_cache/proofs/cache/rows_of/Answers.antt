use Rattle.std.specs.Prelude.{◌≡◌, ◌<◌, ◌+◌, ◌^◌, ◌++◌, ◌∷◌, [], ℕ, suc, List, length}
use Rattle.std.proofs.Common.{sym, ap, ◌∙◌, arith, append_assoc}
use Rattle.jl_types.specs.declared.link.Link.{Link}
use Rattle.jl_types.proofs.BySite.{rises_of}
use Rattle.jl_numbered.specs.Numbers.{entries_from}
use Rattle.jl_cache.proofs.SiteLaws.{from_start, first_is, is_site}
use Rattle.jl_cache.proofs.cache.rows_of.Goals as goal

pub loop-place-init : goal.loop-place-init
loop-place-init c = record {
  rows = ap (λ (made : List (ℕ × Link)). made ++ entries_from 0 c.args.links.now.entries) c.in_ok-rows.ensures.items ∙ from_start c.args.links.now.entries;
  within = omega arith;
}

pub overflow_cast-place : goal.overflow_cast-place
overflow_cast-place c =
    let links = c.args.links.now.entries in
    let low =
    is_site links c.requires c.in-Some.place c.in-Some.kept.now
    (first_is c.loop-place.from links (rises_of links c.len.ensures.rising) c.in-Some.place c.in-Some.kept.now _ c.in-Some.ensures.entry) in
    omega (arith, low)

pub loop-place-smaller : goal.loop-place-smaller
loop-place-smaller c =
    let links = c.args.links.now.entries in
    let next : c.in-Some.place + 1 ≡ suc c.in-Some.place = omega arith in
    let one = ap length c.in-Some.ensures.entry ∙ (λ i. suc (length (entries_from (sym next i) links))) in
    let less : length (entries_from (c.in-Some.place + 1) links) < length (entries_from c.loop-place.from links) = omega (arith, one) in
    less

pub loop-place-preserved : goal.loop-place-preserved
loop-place-preserved c =
    let links = c.args.links.now.entries in
    let low : c.in-Some.place < 2 ^ 32 =
    is_site links c.requires c.in-Some.place c.in-Some.kept.now
    (first_is c.loop-place.from links (rises_of links c.len.ensures.rising) c.in-Some.place c.in-Some.kept.now _ c.in-Some.ensures.entry) in
    let next : c.in-Some.place + 1 ≡ suc c.in-Some.place = omega arith in
    record {
      rows =
          (λ i. c.push_row.new.rows.items ++ entries_from (next i) links)
          ∙ ap (λ (made : List (ℕ × Link)). made ++ entries_from (suc c.in-Some.place) links) c.in_ok-push_row.ensures
          ∙ (λ i. (c.loop-place.rows.items ++ (c.new.ensures i, c.get.ensures i) ∷ []) ++ entries_from (suc c.in-Some.place) links)
          ∙ append_assoc c.loop-place.rows.items ((c.in-Some.place, c.in-Some.kept.now) ∷ []) (entries_from (suc c.in-Some.place) links)
          ∙ ap (λ (rest : List (ℕ × Link)). c.loop-place.rows.items ++ rest) (sym c.in-Some.ensures.entry)
          ∙ c.loop-place.invariant.rows;
      within = omega (arith, low);
    }
