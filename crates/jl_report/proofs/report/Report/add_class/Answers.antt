use Rattle.std.proofs.Common.{◌≡◌, ◌∙◌, sym, ap, subst, rules, ◌++◌, None}
use Rattle.jl_types.specs.Values.World.{Classes}
use Rattle.jl_types.specs.Events.Definitions.{define_fault}
use Rattle.jl_report.specs.Drops.{IsAdded, keys_of, left_among, dropped_among}
use Rattle.jl_report.specs.Gathering.{most_classes}
use Rattle.jl_report.proofs.GatherLaws.{not_some}
use Rattle.jl_report.proofs.report.Report.add_class.Goals as goal

pub define_one-requires : goal.define_one-requires
define_one-requires c = not_some (define_fault most_classes c.self.inside.classes 0 c.args.file) (sym c.is_barred.ensures ∙ c.if-is_barred.false)

pub returns : goal.returns
returns c =
    let old = c.self.inside.classes in
    let new = c.define_one.new.classes in
    let file = c.args.file in
    let rows = c.args.rows.now.items in
    let earlier = c.args.dropped.now.items in
    let keys : c.as_slice.result.now ≡ keys_of old file = search rules in
    subst (λ (cs : Classes). IsAdded cs new file rows c.drop_some.new.rows.items earlier c.drop_some.new.dropped.items None) c.self.view_is (
      not_some (define_fault most_classes old 0 file) (sym c.is_barred.ensures ∙ c.if-is_barred.false),
      c.in_ok-define_one.ensures,
      c.in_ok-drop_some.ensures.left ∙ ap (λ ks. left_among new ks rows) keys,
      c.in_ok-drop_some.ensures.dropped ∙ ap (λ ks. earlier ++ dropped_among new ks rows) keys,
    )
