-- What lies at the handle is lent for the time of the call, and lies there again after it.
use Rattle.linkd_c.proofs.Steps.{◌≡◌, [], ◌∷◌, refl, ap, Option, None, proved, leaves, full_share, id⊢, flft, named, vptr, vunit, tables, ‵, raw, ◌⊛◌, prop}
use Rattle.linkd_c.proofs.Steps.{◌$◌, ◌∵◌, !, qed, done, move, keep, drop, use1, use2, split, join, fsplit, fjoin, feq_i, feq_l, regoal, suffices, enter}
use Rattle.linkd_c.proofs.Steps.{of_opd, addr, stop, no_more, and_then, returns, unit_lit, alloc_all, pass_all, free_all, look_at, get, through, sets}
use Rattle.linkd_c.proofs.Steps.{lands_as, WpFn, valss, Spells, Ptr, block_ptr, in_a_block, rawptr_vals, rawptr_Tells, types_at, nothing, only, calls_at}
use Rattle.linkd_c.proofs.Steps.{Lasts, lasts, alive, Args, owns, all_give, all_go, lends, answers, takes_back, packs, triple_of, framed, walk_of, Lfts}
use Rattle.jl_host.specs.Renewing.{Renewing}
use Rattle.linkd_c.specs.Handle.{renewal_at}
use Rattle.jl_host.specs.contracts.renewal.Renewal.{the_row as R}
use Rattle.linkd_c.specs.contracts.renewals.linkd_renewal_leave as f
use Rattle.linkd_c.proofs.renewals.linkd_renewal_leave.Statement.{statement}
use Rattle.linkd_c.proofs.renewals.linkd_renewal_leave.Code as code
use Rattle.jl_host.specs.contracts.renewal.Renewal.leave as g
use Rattle.jl_host.proofs.renewal.Renewal.leave.Met.{met}

pub linkd_renewal_leave_spec : {M : Type 1} → statement M
linkd_renewal_leave_spec 𝓤 𝓛 𝓜 𝓡 wired =
    let c = f.clauses 𝓛 𝓜.mem 𝓡.returns in let S = f.signature in let stayed = all_give S.params f.ended.kept in let W = walk_of 𝓛 f.ended stayed c in
    let 𝓣 = tables 𝓤 𝓛.H 𝓜 𝓡 𝓡.env in let G = triple_of 𝓛 g.signature (g.spec 𝓛 𝓜.mem 𝓡.returns) in
    let sp : (κs : Lfts S.lifetimes) → Spells (types_at S.params κs) = λ κs. (rawptr_vals, tt) in
    proved 𝓛 f.ended stayed c 𝓜 𝓡 (all_go 𝓛 S.params f.ended.kept) f.Key.name code.function (code.unfolded 𝓤 𝓛.H 𝓜 𝓡 wired)
    sp (λ κs. (rawptr_Tells, tt)) (λ κs qs bounds a x are.
    let y : Ptr → W.Ghost = λ p. let args : Args S κs = (p, a.1) in ((κs, qs, bounds, args, valss (types_at S.params κs) (sp κs) args), x) in
    qed 𝓛 ((raw (alive 𝓛 S κs qs) ⊛ ‵ (owns (types_at S.params κs) a (y a.0).0.4)) ∷ ‵ (renewal_at a.0 x) ∷ []) ∵
    split ! $ move ! (1 ∷ []) $ fsplit ! $ drop ! $ move ! (2 ∷ []) $
    in_a_block ! a.0 (λ p. renewal_at p x) (id⊢ 𝓤 _) (λ b o e.
    regoal ! (λ p. prop (WpFn 𝓤 𝓛.H 𝓣.C 𝓣.Λ code.function (W.args (y p)) (W.post (y p)))) e refl $
    enter ! _ _ _ _ _ $ alloc_all ! (λ l. pass_all ! refl ((tt, tt), tt) $
    sets ! (of_opd ! (get ! refl)) refl (tt, tt) $ lends ! tt R (named 0) x b o (λ α δ.
    sets ! (addr ! (through ! refl (stop !))) refl (tt, tt) $
    let z : G.Ghost = (((α ∷ [], κs), (full_share, qs), tt, (record { ref_ptr = (b, o); ghost_name = δ; now = x }, a.1), (vptr b o ∷ [], (y a.0).0.4.1)), tt) in
    move ! (0 ∷ 3 ∷ []) $ fjoin ! $ move ! (2 ∷ 3 ∷ []) $ join ! $ join ! $ nothing ! $ move ! (1 ∷ 0 ∷ []) $ use2 𝓛 (raw (G.pre z)) (id⊢ 𝓤 _) $
    calls_at ! (framed 𝓤 𝓛.H 𝓜 𝓣) G (met 𝓤 𝓛 𝓜 𝓡 (code.calls-jl_host::renewal::Renewal::leave 𝓡.env wired)) z (and_then ! (get ! refl) (no_more !)) (λ v.
    let P : Unit {0} → Lasts g.ended z.0.0 z.0.3 → Option Renewing → Type 0 = λ u ws new. new ≡ None in
    answers ! tt g.signature (g.spec 𝓛 𝓜.mem 𝓡.returns) z v (lasts g.ended z.0.0 z.0.3) (λ u ws. P u ws ws.0) (λ u. id⊢ 𝓤 _) (λ u ws told.
    use1 𝓛 (‵ (flft (α ∷ []) full_share) ⊛ raw (alive 𝓛 S κs qs)) (id⊢ 𝓤 _) $ split ! $
    move ! (2 ∷ []) $ feq_l ! (λ is. lands_as ! (ap only is) refl (tt, tt) $ feq_i ! _ (vunit ∷ []) _ refl $
    move ! (3 ∷ []) $ fsplit ! $
    move ! (0 ∷ 3 ∷ 5 ∷ []) $ takes_back ! tt R α δ ws.0 b o $
    packs ! (renewal_at (block_ptr b o)) (P u ws) ws.0 told $
    move ! (1 ∷ []) $ nothing ! $ fjoin ! $
    sets ! (of_opd ! (unit_lit !)) refl (tt, tt) $
    returns ! (look_at ! 0 refl) $ free_all ! refl $ keep ! (3 ∷ 0 ∷ 2 ∷ 1 ∷ []) $
    suffices ! _ (leaves 𝓛 f.ended stayed c (y (block_ptr b o)) vunit tt (tt, ws.1) (tt, tt)) $ done !)))))))
