-- `and` makes a struct without bytes, with one item more. Assumes `Logic`.
use Rattle.std.proofs.Common.{[], ◌∷◌, ◌++◌, refl}
use Rattle.std.proofs.raw_atomic.Walks.{proved}
use mir.Syntax.{named}
use mir.MapTy.{inst_fn}
use types.Kit.{‵, raw, ◌⊛◌, ◌$◌, ◌∵◌, !, qed, move, keep, split, fjoin, suffices, done}
use types.Part.{agg}
use types.Run.{enter, returns, and_then, no_more}
use types.ByLocal.{alloc_all, pass_all, free_all, look_at, get, sets}
use denote.Builtin.{RefOf}
use denote.Exit.{yes}
use denote.Param.{param}
use denote.RattleType.{owns}
use denote.Ref.{shr_vals, shr_Tells}
use denote.Signature.{plain, types_at}
use denote.Steps.{nothing}
use denote.Triple.Entry.{alive}
use denote.Triple.Walked.{Stays, stay_dropped, Goes-dropped, walk_of, ends_at, says}
use Rattle.jl_journal.proofs.Walks.{given, bare, past_made}
use Rattle.jl_journal.specs.contracts.past.Past as Past
use Rattle.jl_journal.specs.contracts.past.Past.and as f
use Rattle.jl_journal.proofs.past.Past.and.Statement.{statement}
use Rattle.jl_journal.proofs.past.Past.and.Code as code

pub and_spec : {M : Type 1} → statement M
and_spec 𝓤 𝓛 𝓜 𝓡 wired A LA =
    let c = f.clauses A 𝓛 𝓜.mem 𝓡.returns in
    let function = inst_fn (given A) code.function in
    let self = RefOf (0 ∷ []) tt (plain (λ _. Past.the_row (param 0 A))) (λ _. tt) in
    let other = RefOf (1 ∷ []) tt (plain (λ _. param 0 A)) (λ _. tt) in
    let stayed : Stays (f.signature A).params (f.ended A).kept = (stay_dropped self yes, (stay_dropped other yes, tt)) in
    proved 𝓛 (f.ended A) stayed c 𝓜 𝓡 (Goes-dropped 𝓛 3 self yes (λ κs x k. refl), (Goes-dropped 𝓛 3 other yes (λ κs x k. refl), tt))
    (f.Key.name (given A)) function (code.unfolded 𝓤 𝓛.H 𝓜 𝓡 wired (A, tt))
    (λ κs. (shr_vals, (shr_vals, tt)))
    (λ κs. (shr_Tells (named 0) κs.0 (Past.the_row (param 0 A)), (shr_Tells (named 1) κs.1.0 (param 0 A), tt))) (λ κs qs bounds a g are.
    let y : (walk_of 𝓛 (f.ended A) stayed c).Ghost = ((κs, qs, bounds, a, (shr_vals a.0, (shr_vals a.1.0, tt))), g) in
    qed 𝓛 ((raw (alive 𝓛 (f.signature A) κs qs) ⊛ ‵ (owns (types_at (f.signature A).params κs) a y.0.4)) ∷ raw ((c κs a).requires g) ∷ []) ∵
    keep ! (0 ∷ []) $ split ! $ keep ! (0 ∷ []) $
    enter ! _ _ function _ _ $ alloc_all ! (λ l. pass_all ! refl ((tt, tt), ((tt, tt), tt)) $
    sets ! (agg ! (no_more !)) refl (tt, tt) $
    sets ! (agg ! (and_then ! (get ! refl) (no_more !))) refl (tt, (tt, tt)) $
    past_made ! A (a.0.now.items ++ a.1.0.now ∷ []) $
    returns ! (look_at ! 0 refl) $ free_all ! refl $
    suffices ! _ (ends_at 𝓛 (f.ended A) stayed c y bare (record { of = record {}; items = a.0.now.items ++ a.1.0.now ∷ [] }) (tt, (tt, tt)) (tt, (tt, tt))) $
    says ! refl $
    nothing ! $ nothing ! $ fjoin ! $ nothing ! $ fjoin ! $ move ! (2 ∷ 0 ∷ 1 ∷ []) $ done !))
