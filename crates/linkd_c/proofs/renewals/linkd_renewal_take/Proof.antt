-- What lies at the handle is lent for the time of the call, and lies there again after it.
use Rattle.linkd_c.proofs.Steps.{ℕ, [], ◌∷◌, refl, Option, w32, w64, proved, leaves, full_share, id⊢, fsep, flft, named, vptr, tables, ‵, raw, ◌⊛◌, prop, ◌$◌}
use Rattle.linkd_c.proofs.Steps.{◌∵◌, !, qed, done, move, keep, drop, use1, use2, split, join, fsplit, fjoin, regoal, suffices, enter, of_opd, addr, stop}
use Rattle.linkd_c.proofs.Steps.{no_more, and_then, returns, alloc_all, pass_all, free_all, look_at, get, through, sets, lands_as, WpFn, u32, usize, shows}
use Rattle.linkd_c.proofs.Steps.{Is, valss, Spells, uint_Lawful, uint_vals, uint_Tells, Ptr, block_ptr, in_a_block, rawptr_vals, rawptr_Tells, mut_vals}
use Rattle.linkd_c.proofs.Steps.{mut_Tells, types_at, nothing, peeks, calls_at, Lasts, lasts, alive, Args, owns, all_give, all_go, lends, answers, takes_back}
use Rattle.linkd_c.proofs.Steps.{packs, triple_of, framed, walk_of, heap_val, heap_Tells, Lfts}
use Rattle.jl_host.specs.Linkers.{Opened}
use Rattle.jl_host.specs.Renewing.{Renewing, IsTake}
use Rattle.linkd_c.specs.Handle.{linker_at, renewal_at}
use Rattle.jl_host.specs.contracts.renewal.Renewal.{the_row as R}
use Rattle.jl_host.specs.contracts.linker.Linker.{the_row as R'}
use Rattle.linkd_c.specs.contracts.renewals.linkd_renewal_take as f
use Rattle.linkd_c.proofs.renewals.linkd_renewal_take.Statement.{statement}
use Rattle.linkd_c.proofs.renewals.linkd_renewal_take.Code as code
use Rattle.jl_host.specs.contracts.renewal.Renewal.take as g
use Rattle.jl_host.proofs.renewal.Renewal.take.Met.{met}

pub linkd_renewal_take_spec : {M : Type 1} → statement M
linkd_renewal_take_spec 𝓤 𝓛 𝓜 𝓡 wired =
    let c = f.clauses 𝓛 𝓜.mem 𝓡.returns in let S = f.signature in let stayed = all_give S.params f.ended.kept in let W = walk_of 𝓛 f.ended stayed c in
    let 𝓣 = tables 𝓤 𝓛.H 𝓜 𝓡 𝓡.env in let G = triple_of 𝓛 g.signature (g.spec 𝓛 𝓜.mem 𝓡.returns) in
    let sp : (κs : Lfts S.lifetimes) → Spells (types_at S.params κs) = λ κs.
    (λ _. heap_val ∷ [], (rawptr_vals, (rawptr_vals, (uint_vals w64, (mut_vals, tt))))) in
    proved 𝓛 f.ended stayed c 𝓜 𝓡 (all_go 𝓛 S.params f.ended.kept) f.Key.name code.function (code.unfolded 𝓤 𝓛.H 𝓜 𝓡 wired)
    sp (λ κs. (heap_Tells, (rawptr_Tells, (rawptr_Tells, (uint_Tells w64, (mut_Tells (named 0) κs.0 usize, tt)))))) (λ κs qs bounds a x are.
    let y : Ptr → Ptr → W.Ghost = λ p p'. let args : Args S κs = (a.0, (p, (p', a.1.1.1))) in
    ((κs, qs, bounds, args, valss (types_at S.params κs) (sp κs) args), x) in
    qed 𝓛 ((raw (alive 𝓛 S κs qs) ⊛ ‵ (owns (types_at S.params κs) a (y a.1.0 a.1.1.0).0.4)) ∷ (‵ (renewal_at a.1.0 x.0) ⊛ ‵ (linker_at a.1.1.0 x.1)) ∷ []) ∵
    split ! $ move ! (1 ∷ []) $ fsplit ! $ move ! (1 ∷ []) $ fsplit ! $ drop ! $ fsplit ! $ drop ! $ move ! (3 ∷ []) $ split ! $
    in_a_block ! a.1.0 (λ p. renewal_at p x.0) (id⊢ 𝓤 _) (λ b o e.
    regoal ! (λ p. prop (WpFn 𝓤 𝓛.H 𝓣.C 𝓣.Λ code.function (W.args (y p a.1.1.0)) (W.post (y p a.1.1.0)))) e refl $
    move ! (1 ∷ []) $ in_a_block ! a.1.1.0 (λ p. linker_at p x.1) (id⊢ 𝓤 _) (λ b' o' e.
    regoal ! (λ p. prop (WpFn 𝓤 𝓛.H 𝓣.C 𝓣.Λ code.function (W.args (y (block_ptr b o) p)) (W.post (y (block_ptr b o) p)))) e refl $
    enter ! _ _ _ _ _ $ alloc_all !
    (λ l. pass_all ! refl ((tt, ((tt, tt), tt)), ((tt, tt), ((tt, tt), ((tt, record { fits = are.1.1.1.0.1 }), ((tt, tt), tt))))) $
    sets ! (of_opd ! (get ! refl)) refl (tt, tt) $ move ! (1 ∷ []) $ lends ! tt R (named 0) x.0 b o (λ α δ.
    sets ! (addr ! (through ! refl (stop !))) refl (tt, tt) $
    sets ! (of_opd ! (get ! refl)) refl (tt, tt) $ move ! (3 ∷ []) $ lends ! tt R' (named 1) x.1 b' o' (λ α' δ'.
    sets ! (addr ! (through ! refl (stop !))) refl (tt, tt) $
    sets ! (addr ! (through ! refl (stop !))) refl (tt, tt) $
    let z : G.Ghost = (
      (
        (α ∷ [], (α' ∷ [], κs)),
        (full_share, (full_share, qs)),
        tt,
        (record { ref_ptr = (b, o); ghost_name = δ; now = x.0 }, (a.0, (record { ref_ptr = (b', o'); ghost_name = δ'; now = x.1 }, a.1.1.1))),
        (vptr b o ∷ [], (heap_val ∷ [], (vptr b' o' ∷ [], (y a.1.0 a.1.1.0).0.4.1.1.1))),
      ),
      tt,
    ) in
    move ! (0 ∷ 6 ∷ []) $ fjoin ! $ move ! (6 ∷ 0 ∷ []) $ fjoin ! $ move ! (3 ∷ 0 ∷ []) $ fjoin ! $ move ! (2 ∷ 5 ∷ []) $ join ! $ move ! (4 ∷ 0 ∷ []) $ join !
    $ join ! $ nothing ! $ move ! (1 ∷ 0 ∷ []) $ use2 𝓛 (raw (G.pre z)) (id⊢ 𝓤 _) $
    calls_at ! (framed 𝓤 𝓛.H 𝓜 𝓣) G (met 𝓤 𝓛 𝓜 𝓡 (code.calls-jl_host::renewal::Renewal::take 𝓡.env wired)) z
    (and_then ! (get ! refl) (and_then ! (get ! refl) (and_then ! (get ! refl) (and_then ! (get ! refl) (and_then ! (get ! refl) (no_more !)))))) (λ v.
    let P : ℕ → Lasts g.ended z.0.0 z.0.3 → (Option Renewing × Option Opened) → Type 0 = λ u ws new. IsTake a.1.1.1.0 x.0 x.1 a.1.1.1.1.0.now u ws.1.1.1.1.0
    new.0 new.1 in
    answers ! tt g.signature (g.spec 𝓛 𝓜.mem 𝓡.returns) z v (lasts g.ended z.0.0 z.0.3) (λ u ws. P u ws (ws.0, ws.1.1.0)) (λ u. id⊢ 𝓤 _) (λ u ws told.
    use1 𝓛 (‵ (flft (α ∷ []) full_share) ⊛ ‵ (flft (α' ∷ []) full_share) ⊛ raw (alive 𝓛 S κs qs)) (id⊢ 𝓤 _) $ split ! $ move ! (1 ∷ []) $ split ! $
    move ! (3 ∷ []) $ peeks ! u32 (Is u32) (shows 𝓛 u32) u (v ∷ []) (λ is. lands_as ! refl refl ((uint_Lawful 𝓛 w32).typed u _ is).0 $
    move ! (4 ∷ []) $ fsplit ! $ move ! (1 ∷ []) $ fsplit ! $ move ! (1 ∷ []) $ fsplit ! $
    move ! (3 ∷ 7 ∷ 9 ∷ []) $ takes_back ! tt R α δ ws.0 b o $
    move ! (1 ∷ 5 ∷ 7 ∷ []) $ takes_back ! tt R' α' δ' ws.1.1.0 b' o' $
    move ! (1 ∷ 0 ∷ []) $ fjoin ! $ packs ! (λ s. fsep (renewal_at (block_ptr b o) s.0) (linker_at (block_ptr b' o') s.1)) (P u ws) (ws.0, ws.1.1.0) told $
    move ! (1 ∷ []) $ nothing ! $ fjoin ! $ nothing ! $ fjoin ! $ move ! (2 ∷ 0 ∷ []) $ fjoin ! $
    returns ! (look_at ! 0 refl) $ free_all ! refl $ keep ! (3 ∷ 0 ∷ 2 ∷ 1 ∷ []) $
    suffices ! _ (leaves 𝓛 f.ended stayed c (y (block_ptr b o) (block_ptr b' o')) v u (ws.1.0, (tt, (tt, ws.1.1.1))) (tt, (tt, (tt, (tt, (tt, tt)))))) $ done
    !)))))))))
