use Rattle.std.specs.Prelude.{Bool, if◌then◌else◌}
use Rattle.std.proofs.Common.{refl, sym, ap, ◌∙◌}
use Rattle.jl_types.specs.declared.answer.Throwable.TheVariants.{NoSuchMethodError, IncompatibleClassChangeError}
use Rattle.jl_types.specs.Values.Members.{is_static}
use Rattle.jl_types.specs.Linkage.Resolution.{Resolved}
use Rattle.jl_types.specs.Linkage.Stages.{BySpecial, Fails, Selects, ResolvedCall, selecting}
use Rattle.jl_relink.proofs.stage.special_stage.Goals as goal

pub returns : goal.returns
returns c =
    let cs = c.args.classes.now in
    let r = c.args.resolved.now in
    let i : ResolvedCall = record { selector = BySpecial; caller = c.args.caller; named = r.named; ref = c.args.reference.now; method = r.method } in
    let instance = sym (ap (λ (r : Resolved). is_static cs r.method) c.resolved.view_is) ∙ sym c.is_static.ensures ∙ c.if-is_static.false in (
      i,
      ap (λ (b : Bool). if b then Fails NoSuchMethodError else selecting cs BySpecial c.args.caller c.args.reference.now r)
          (sym c.is_inherited_init.ensures ∙ c.if-is_inherited_init.false)
          ∙ ap (λ (b : Bool). if b then Fails IncompatibleClassChangeError else Selects i) instance,
      record { selector = refl; caller = refl; names = c.requires; reference = refl },
    )
