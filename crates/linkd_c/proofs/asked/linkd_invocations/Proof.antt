-- What lies at the handle is lent for the time of the call, and lies there again after it.
use Rattle.linkd_c.proofs.Steps.{ℕ, [], ◌∷◌, refl, Option, w32, proved, leaves, full_share, id⊢, flft, named, vptr, tables, ‵, raw, ◌⊛◌, prop, ◌$◌, ◌∵◌, ! }
use Rattle.linkd_c.proofs.Steps.{qed, done, move, keep, drop, use1, use2, split, join, fsplit, fjoin, regoal, suffices, enter, of_opd, addr, stop, no_more}
use Rattle.linkd_c.proofs.Steps.{and_then, returns, from, fld, hop, alloc_all, pass_all, free_all, look_at, get, through, sets, lands_as, get_in, look_in_at}
use Rattle.linkd_c.proofs.Steps.{WpFn, u32, usize, shows, Is, valss, Spells, uint_Lawful, uint_vals, uint_Tells, Ptr, block_ptr, in_a_block, rawptr_vals}
use Rattle.linkd_c.proofs.Steps.{rawptr_Tells, mut_vals, mut_Tells, types_at, nothing, peeks, calls_at, Lasts, lasts, alive, Args, owns, all_give, all_go}
use Rattle.linkd_c.proofs.Steps.{lends, answers, takes_back, packs, triple_of, framed, walk_of, mut_slice_vals, mut_slice_Tells, agg, sub, whole, Lfts}
use Rattle.jl_host.specs.Linkers.{Opened}
use Rattle.jl_host.specs.Asking.{IsInvocations}
use Rattle.linkd_c.specs.Handle.{linker_at}
use Rattle.jl_host.specs.contracts.linker.Linker.{the_row as R}
use Rattle.jl_host.specs.contracts.invocations.Invocation.{the_row as Invocation}
use Rattle.linkd_c.specs.contracts.asked.linkd_invocations as f
use Rattle.linkd_c.proofs.asked.linkd_invocations.Statement.{statement}
use Rattle.linkd_c.proofs.asked.linkd_invocations.Code as code
use Rattle.jl_host.specs.contracts.linker.Linker.invocations as g
use Rattle.jl_host.proofs.linker.Linker.invocations.Met.{met}

pub linkd_invocations_spec : {M : Type 1} → statement M
linkd_invocations_spec 𝓤 𝓛 𝓜 𝓡 wired =
    let c = f.clauses 𝓛 𝓜.mem 𝓡.returns in let S = f.signature in let stayed = all_give S.params f.ended.kept in let W = walk_of 𝓛 f.ended stayed c in
    let 𝓣 = tables 𝓤 𝓛.H 𝓜 𝓡 𝓡.env in let G = triple_of 𝓛 g.signature (g.spec 𝓛 𝓜.mem 𝓡.returns) in
    let sp : (κs : Lfts S.lifetimes) → Spells (types_at S.params κs) = λ κs. (rawptr_vals, (uint_vals w32, (uint_vals w32, (mut_slice_vals, (mut_vals, tt)))))
    in
    proved 𝓛 f.ended stayed c 𝓜 𝓡 (all_go 𝓛 S.params f.ended.kept) f.Key.name code.function (code.unfolded 𝓤 𝓛.H 𝓜 𝓡 wired)
    sp (λ κs. (rawptr_Tells, (uint_Tells w32, (uint_Tells w32, (mut_slice_Tells (named 0) κs.0 Invocation, (mut_Tells (named 1) κs.1.0 usize, tt))))))
    (λ κs qs bounds a x are.
    let y : Ptr → W.Ghost = λ p. let args : Args S κs = (p, a.1) in ((κs, qs, bounds, args, valss (types_at S.params κs) (sp κs) args), x) in
    qed 𝓛 ((raw (alive 𝓛 S κs qs) ⊛ ‵ (owns (types_at S.params κs) a (y a.0).0.4)) ∷ ‵ (linker_at a.0 x) ∷ []) ∵
    split ! $ move ! (1 ∷ []) $ fsplit ! $ drop ! $ move ! (2 ∷ []) $
    in_a_block ! a.0 (λ p. linker_at p x) (id⊢ 𝓤 _) (λ b o e.
    regoal ! (λ p. prop (WpFn 𝓤 𝓛.H 𝓣.C 𝓣.Λ code.function (W.args (y p)) (W.post (y p)))) e refl $
    enter ! _ _ _ _ _ $ alloc_all !
    (λ l. pass_all ! refl (
      (tt, tt),
      (
        (tt, record { fits = are.1.0.1 }),
        ((tt, record { fits = are.1.1.0.1 }), ((tt, (tt, (record { fits = are.1.1.1.0.0.1.0 }, tt))), ((tt, tt), tt))),
      ),
    ) $
    sets ! (of_opd ! (get ! refl)) refl (tt, tt) $ lends ! tt R (named 0) x b o (λ α δ.
    sets ! (addr ! (through ! refl (stop !))) refl (tt, tt) $
    sets ! (addr ! (from ! (fld ! refl (hop ! (look_in_at ! 4 (sub ! 0 refl (whole !))) (stop !))))) refl (tt, tt) $
    sets ! (agg ! (and_then ! (get ! refl) (and_then ! (get_in ! (fld ! refl (stop !)) (sub ! 1 refl (whole !))) (no_more !)))) refl
    (tt, (tt, (record { fits = are.1.1.1.0.0.1.0 }, tt))) $
    sets ! (addr ! (through ! refl (stop !))) refl (tt, tt) $
    let z : G.Ghost = (((α ∷ [], κs), (full_share, qs), tt, (record { ref_ptr = (b, o); ghost_name = δ; now = x }, a.1), (vptr b o ∷ [], (y a.0).0.4.1)), tt) in
    move ! (0 ∷ 3 ∷ []) $ fjoin ! $ move ! (2 ∷ 3 ∷ []) $ join ! $ join ! $ nothing ! $ move ! (1 ∷ 0 ∷ []) $ use2 𝓛 (raw (G.pre z)) (id⊢ 𝓤 _) $
    calls_at ! (framed 𝓤 𝓛.H 𝓜 𝓣) G (met 𝓤 𝓛 𝓜 𝓡 (code.calls-jl_host::linker::Linker::invocations 𝓡.env wired)) z
    (and_then ! (get ! refl) (and_then ! (get ! refl) (and_then ! (get ! refl) (and_then ! (get ! refl) (and_then ! (get ! refl) (no_more !)))))) (λ v.
    let P : ℕ → Lasts g.ended z.0.0 z.0.3 → Option Opened → Type 0 = λ u ws new. IsInvocations a.1.0 a.1.1.0 x a.1.1.1.0.now a.1.1.1.1.0.now u ws.1.1.1.0
    ws.1.1.1.1.0 new in
    answers ! tt g.signature (g.spec 𝓛 𝓜.mem 𝓡.returns) z v (lasts g.ended z.0.0 z.0.3) (λ u ws. P u ws ws.0) (λ u. id⊢ 𝓤 _) (λ u ws told.
    use1 𝓛 (‵ (flft (α ∷ []) full_share) ⊛ raw (alive 𝓛 S κs qs)) (id⊢ 𝓤 _) $ split ! $
    move ! (2 ∷ []) $ peeks ! u32 (Is u32) (shows 𝓛 u32) u (v ∷ []) (λ is. lands_as ! refl refl ((uint_Lawful 𝓛 w32).typed u _ is).0 $
    move ! (3 ∷ []) $ fsplit ! $
    move ! (0 ∷ 3 ∷ 5 ∷ []) $ takes_back ! tt R α δ ws.0 b o $
    packs ! (linker_at (block_ptr b o)) (P u ws) ws.0 told $
    move ! (1 ∷ []) $ nothing ! $ fjoin ! $
    returns ! (look_at ! 0 refl) $ free_all ! refl $ keep ! (3 ∷ 0 ∷ 2 ∷ 1 ∷ []) $
    suffices ! _ (leaves 𝓛 f.ended stayed c (y (block_ptr b o)) v u (tt, ws.1) (tt, (tt, (tt, (tt, (tt, tt)))))) $ done !)))))))
