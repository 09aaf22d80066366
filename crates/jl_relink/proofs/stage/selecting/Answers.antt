use Rattle.std.specs.Prelude.{ℕ, ◌<◌, length, Bool, if◌then◌else◌}
use Rattle.std.proofs.Common.{refl, sym, ap, subst, ◌∙◌}
use Rattle.jl_types.specs.declared.answer.Throwable.TheVariants.{IncompatibleClassChangeError}
use Rattle.jl_types.specs.Values.Members.{is_static}
use Rattle.jl_types.specs.Linkage.Resolution.{Resolved}
use Rattle.jl_types.specs.Linkage.Stages.{Fails, Selects, ResolvedCall}
use Rattle.jl_relink.specs.Stages.{selector_of}
use Rattle.jl_relink.proofs.stage.selecting.Goals as goal

pub returns : goal.returns
returns c =
    let cs = c.args.classes.now in
    let r = c.args.resolved.now in
    let i : ResolvedCall = record { selector = selector_of c.args.kind; caller = c.args.caller; named = r.named; ref = c.args.reference.now; method = r.method }
    in
    let instance = sym (ap (λ (r : Resolved). is_static cs r.method) c.resolved.view_is) ∙ sym c.is_static.ensures ∙ c.if-is_static.false in (
      i,
      ap (λ (b : Bool). if b then Fails IncompatibleClassChangeError else Selects i) instance,
      record {
        selector = refl;
        named = sym (ap (λ (r : Resolved). r.named) c.resolved.view_is);
        method = sym (ap (λ (r : Resolved). r.method) c.resolved.view_is);
      },
      subst (λ (n : ℕ). n < length cs.rows) (sym (ap (λ (r : Resolved). r.named) c.resolved.view_is)) c.requires,
    )
