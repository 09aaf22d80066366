-- `none` makes a struct without bytes, with no items. Assumes `Logic`.
use Rattle.std.proofs.Common.{[], ◌∷◌, refl}
use Rattle.std.proofs.raw_atomic.Walks.{proved}
use mir.MapTy.{inst_fn}
use base.Fml.{ftrue}
use types.Kit.{‵, raw, ◌⊛◌, ◌$◌, ◌∵◌, !, qed, move, keep, split, suffices, done}
use types.Part.{agg}
use types.Run.{enter, returns, and_then, no_more}
use types.ByLocal.{alloc_all, pass_all, free_all, look_at, get, sets}
use denote.Steps.{nothing}
use denote.Triple.Entry.{alive}
use denote.Triple.Walked.{walk_of, ends_at, says}
use Rattle.jl_journal.proofs.Walks.{given, bare, past_made}
use Rattle.jl_journal.specs.contracts.past.Past.none as f
use Rattle.jl_journal.proofs.past.Past.none.Statement.{statement}
use Rattle.jl_journal.proofs.past.Past.none.Code as code

pub none_spec : {M : Type 1} → statement M
none_spec 𝓤 𝓛 𝓜 𝓡 wired A LA =
    let c = f.clauses A 𝓛 𝓜.mem 𝓡.returns in
    let function = inst_fn (given A) code.function in
    proved 𝓛 (f.ended A) tt c 𝓜 𝓡 tt
    (f.Key.name (given A)) function (code.unfolded 𝓤 𝓛.H 𝓜 𝓡 wired (A, tt)) (λ κs. tt) (λ κs. tt) (λ κs qs bounds a g are.
    let y : (walk_of 𝓛 (f.ended A) tt c).Ghost = ((κs, qs, bounds, a, tt), g) in
    qed 𝓛 ((raw (alive 𝓛 (f.signature A) κs qs) ⊛ ‵ ftrue) ∷ raw ((c κs a).requires g) ∷ []) ∵
    keep ! (0 ∷ []) $ split ! $ keep ! (0 ∷ []) $
    enter ! _ _ function [] _ $ alloc_all ! (λ l. pass_all ! refl tt $
    sets ! (agg ! (no_more !)) refl (tt, tt) $
    sets ! (agg ! (and_then ! (get ! refl) (no_more !))) refl (tt, (tt, tt)) $
    past_made ! A [] $
    returns ! (look_at ! 0 refl) $ free_all ! refl $
    suffices ! _ (ends_at 𝓛 (f.ended A) tt c y bare (record { of = record {}; items = [] }) tt tt) $ says ! refl $
    nothing ! $ move ! (2 ∷ 0 ∷ 1 ∷ []) $ done !))
