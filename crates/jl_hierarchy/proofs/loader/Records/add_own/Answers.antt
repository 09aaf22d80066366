use Rattle.std.specs.Prelude.{ℕ, ◌+◌, ◌++◌, ◌∷◌, [], List, drop, if◌then◌else◌}
use Rattle.std.proofs.Common.{ap, sym, ◌∙◌, arith}
use Rattle.std.proofs.lemmas.Option.{slice_get_within}
use Rattle.jl_hierarchy.specs.ForProofs.Kept.{named}
use Rattle.jl_hierarchy.specs.Retiring.{own_recorded}
use Rattle.jl_hierarchy.proofs.Turns.{own_next}
use Rattle.jl_hierarchy.proofs.loader.Records.add_own.Goals as goal

pub loop-class-preserved : goal.loop-class-preserved
loop-class-preserved c = record {
  within =
      (let lt = slice_get_within c.self.inside.records.entries c.loop-class.place (c.in-Some.field-0-0.now, c.in-Some.class.now)
      (sym c.in-Some.ensures.entry) in
      omega (arith, lt));
  all =
      ap (λ (xs : List ℕ). xs ++ own_recorded c.args.rows.now.items c.args.loader (named (drop (c.loop-class.place + 1) c.self.inside.records.entries)))
      (c.in_ok-push_if.ensures ∙ (λ i. c.loop-class.own.items ++ (if c.is_row_of-is_one.ensures i then c.in-Some.class.now ∷ [] else [])))
      ∙ own_next c.args.rows.now.items c.args.loader c.self.inside.records.entries c.loop-class.place c.in-Some.field-0-0.now
      c.in-Some.class.now c.loop-class.own.items c.in-Some.ensures.entry
      ∙ c.loop-class.invariant.all;
}
